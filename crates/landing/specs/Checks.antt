-- What a job makes of the records of its input: why they are refused, or the rows that are kept.
-- This project's own.
use Rattle.std.specs.Prelude.{ℕ, Bool, not, ◌+◌, ◌==◌, ◌||◌, List, [], ◌∷◌, Option, Some, None, length, map, option_map, slice_index_or, sum_by, if◌then◌else◌, nat_lt}
use Rattle.std.specs.List.{find}
use Rattle.row_form.specs.Numbers.{may_be}
use Rattle.row_form.specs.declared.number_list.NumberPlace.{NumberPlace}
use Rattle.job_text.specs.declared.job.Job.{Job}
use Rattle.job_plan.specs.Columns.{Fields, kept, missing, number_places}
use Rattle.landing.specs.declared.fault.LandFault.{LandFault}
use Rattle.landing.specs.declared.fault.LandFault.TheVariants as fault

-- whether a record has over 1,024 fields, or over 65,536 bytes in its fields together
abbrev pub is_too_long : Fields → Bool
is_too_long fields = nat_lt 1024 (length fields) || nat_lt 65536 (sum_by length fields)

-- a number column as it stands in the header, where the kept columns stand at these places
abbrev pub head_at : List ℕ → NumberPlace → NumberPlace
head_at places place = record place { column = slice_index_or places place.column 0 }

-- the number columns as they stand in the header, ascending
abbrev pub number_heads : Job → Fields → List NumberPlace
number_heads job header = map (head_at (kept job.names header)) (number_places job header)

-- the first of these places whose field may not stand there: it is no number, and not the empty field of a value column
abbrev pub bad_place : List NumberPlace → Fields → Option ℕ
bad_place heads row =
    option_map (λ head. head.column) (find (λ head. not (may_be head (slice_index_or row head.column []))) heads)

-- why the row of this number is refused: too many rows, too long, not as many fields as the header, or no number where one has to stand
abbrev pub refusal_of : Job → Fields → ℕ → ℕ → Fields → Option LandFault
refusal_of job header max_rows n row =
    if nat_lt max_rows n then Some fault.TooManyRows
    else (if is_too_long row then Some (fault.RowTooLong n)
    else (if not (length row == length header) then Some (fault.Ragged n)
    else option_map (fault.BadNumber n) (bad_place (number_heads job header) row)))

-- the earlier refusal where there is one, else the later
abbrev pub first_of_two : Option LandFault → Option LandFault → Option LandFault
first_of_two None later = later
first_of_two (Some why) later = Some why

-- why rows are refused that are numbered from n on: for the first one that is
unfoldable pub first_refusal : Job → Fields → ℕ → ℕ → List Fields → Option LandFault
first_refusal job header max_rows n [] = None
first_refusal job header max_rows n (row ∷ rows) =
    first_of_two (refusal_of job header max_rows n row) (first_refusal job header max_rows (n + 1) rows)

-- what a job makes of records: a refusal, or the header and the rows below it
pub data Checked : Type 0 where
  Refused : (why : LandFault) → Checked
  Rows : (header : Fields) (rows : List Fields) → Checked

-- the header and its rows, or the refusal of one of them, if there is one
abbrev pub checked_rows : Fields → List Fields → Option LandFault → Checked
checked_rows header rows None = Rows header rows
checked_rows header rows (Some why) = Refused why

-- what is made of a header and its rows: a column that it lacks is told before any row is looked at
abbrev pub checked_below : Job → Fields → ℕ → List Fields → Option (List ℕ) → Checked
checked_below job header max_rows rows None = checked_rows header rows (first_refusal job header max_rows 1 rows)
checked_below job header max_rows rows (Some name) = Refused (fault.NoColumn name)

-- the first record is the header; the checks stand in the order of the input
abbrev pub checked : Job → ℕ → List Fields → Checked
checked job max_rows [] = Refused fault.NoHeader
checked job max_rows (header ∷ rows) =
    if is_too_long header then Refused (fault.RowTooLong 0)
    else checked_below job header max_rows rows (missing job.names header)
