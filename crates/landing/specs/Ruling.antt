-- The rules that the rows below a header are held to, and the landed rows of those that pass.
-- This project's own.
use Rattle.std.specs.Prelude.{◌≡◌, ℕ, not, ◌+◌, ◌==◌, ◌≤◌, List, [], ◌∷◌, ◌++◌, Bool, Option, Some, None, length, option_map, nat_lt, if◌then◌else◌, ⊤}
use Rattle.csv.specs.Records.{Row, fields_of}
use Rattle.row_form.specs.declared.number_list.NumberPlace.{NumberPlace}
use Rattle.job_text.specs.declared.job.Job.{Job}
use Rattle.job_plan.specs.Columns.{Fields}
use Rattle.job_plan.specs.Plans.{IsPlanOf, places_in}
use Rattle.job_plan.specs.Rows.{landed_row, landed_rows}
use Rattle.landing.specs.Checks.{bad_place, first_of_two, is_too_long, number_heads}
use Rattle.landing.specs.declared.fault.LandFault.{LandFault}
use Rattle.landing.specs.declared.fault.LandFault.TheVariants as fault
use Rattle.landing.specs.declared.rules.Rules.{Rules}

-- why the row of this number is refused, by the places of the number columns, the header's fields and the most rows
abbrev pub refusal_by : List NumberPlace → ℕ → ℕ → ℕ → Fields → Option LandFault
refusal_by heads count max_rows n row =
    if nat_lt max_rows n then Some fault.TooManyRows
    else (if is_too_long row then Some (fault.RowTooLong n)
    else (if not (length row == count) then Some (fault.Ragged n)
    else option_map (fault.BadNumber n) (bad_place heads row)))

-- why the rules refuse the row of this number
abbrev pub refusal_in : Rules → ℕ → Fields → Option LandFault
refusal_in rules n row = refusal_by rules.heads.items rules.count rules.max_rows n row

-- why they refuse rows that are numbered from n on: for the first one that is
unfoldable pub first_refusal_in : Rules → ℕ → List Fields → Option LandFault
first_refusal_in rules n [] = None
first_refusal_in rules n (row ∷ rows) = first_of_two (refusal_in rules n row) (first_refusal_in rules (n + 1) rows)

-- the landed row of a record of this number
abbrev pub row_in : Rules → ℕ → Fields → Fields
row_in rules n row = landed_row (places_in rules.plan) n row

-- the landed rows of records that are numbered from n on
abbrev pub rows_in : Rules → ℕ → List Fields → List Fields
rows_in rules n rows = landed_rows (places_in rules.plan) n rows

-- the rules of a job over a header
pub record AreRules (job : Job) (header : Fields) (rules : Rules) : Type 0 where
  pub planned : IsPlanOf job header rules.plan
  pub heads : rules.heads.items ≡ number_heads job header
  pub count : rules.count ≡ length header
  pub few : length header ≤ 1024

-- the rules are those of some job over some header
pub record IsRuled (rules : Rules) : Type 0 where
  pub job : Job
  pub header : Fields
  pub are : AreRules job header rules

-- ---- records that are landed one by one

-- the record in hand in front of those that are left; none where the records have ended
abbrev pub ahead : Bool → Row → Option (List Fields) → Option (List Fields)
ahead more row left = if more then option_map (λ rows. fields_of row ∷ rows) left else Some []

-- records that are numbered from m on are some that passed, whose landed rows these are, and then the rest
pub record BeginsWith (rules : Rules) (m : ℕ) (landed all rest : List Fields) : Type 0 where
  pub seen : List Fields
  pub parts : all ≡ seen ++ rest
  pub pass : first_refusal_in rules m all ≡ first_refusal_in rules (m + length landed) rest
  pub are : landed ≡ rows_in rules m seen

-- the same of records where they are known
abbrev pub Follows : Rules → ℕ → List Fields → Option (List Fields) → Option (List Fields) → Type 0
Follows rules m landed None rest = ⊤
Follows rules m landed (Some all) None = ⊥
Follows rules m landed (Some all) (Some rest) = BeginsWith rules m landed all rest

-- all records that are numbered from m on pass, and these are their landed rows
pub record ArePassed (rules : Rules) (m : ℕ) (landed all : List Fields) : Type 0 where
  pub pass : first_refusal_in rules m all ≡ None
  pub are : landed ≡ rows_in rules m all
