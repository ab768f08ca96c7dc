-- What a call of `plan` prints, and why it is refused.
use Rattle.std.proofs.Common.{◌≡◌, ◌∙◌, ◌++◌, ℕ, List, [], Option, Some, None, length, map, refl, sym, ap, subst, inl, inr}
use Rattle.std.specs.Prelude.{◌⊎◌, IfSome, slice_index_or}
use Rattle.std.specs.Io.KnownBytes.{Appends, Keeps}
use Rattle.std.specs.List.{flat_map, range_with_len}
use Rattle.byte_io.specs.Rows.{rows_of}
use Rattle.byte_io.specs.Sinks.{AppendsPrefix}
use Rattle.job_plan.specs.Columns.{Fields, kept}
use Rattle.job_plan.specs.Passes.{pass_datasets, queries_over}
use Rattle.job_plan.specs.PlanText.{columns_line, pass_line, plan_text, removal_line}
use Rattle.job_plan.specs.Plans.{IsPlanOf, dataset_names_in, datasets_of, passes_in, queries_in, removed_in}
use Rattle.job_plan.specs.declared.query_plan.Plan.{Plan}
use Rattle.job_text.specs.declared.job.Job.{Job}
use Rattle.landing.specs.Checks.{Checked, Refused}
use Rattle.landing.specs.Headers.{IsOfHeader, IsPlanOver, checked_header}
use Rattle.landing.specs.Landed.{IsOfInput}
use Rattle.landing.specs.declared.fault.LandFault.{LandFault}
use Rattle.landing.specs.declared.fault.LandFault.TheVariants as fault
use Rattle.job_ending.specs.Endings.{status_of}
use Rattle.csv_program.specs.PlanCalls.{IsOfPlan, IsOfPrint, IsUnread, MayPrint, PrintsPart, PrintsPlan, TellsRefusal, text_over}
use Rattle.job_ending.specs.declared.status.Status.{Status}
use Rattle.job_ending.specs.declared.status.Status.TheVariants as status

-- ---- the text

abbrev pass_by : List (List ℕ) → List ℕ → List (List ℕ) → List (List ℕ) → ℕ → List ℕ
pass_by names passes queries removed pass =
    pass_line names pass (slice_index_or passes pass 0) (slice_index_or queries pass []) ++ flat_map (removal_line names pass) (slice_index_or removed pass [])

abbrev text_by : List (List ℕ) → List (List ℕ) → List ℕ → List (List ℕ) → List (List ℕ) → List ℕ
text_by columns names passes queries removed = columns_line columns ++ flat_map (pass_by names passes queries removed) (range_with_len 0 (length passes))

text_is : (job : Job) (header : Fields) (plan : Plan) → IsPlanOf job header plan → plan_text plan ≡ text_over job header
text_is job header plan is =
    let columns : List (List ℕ) = map (λ p. slice_index_or header p []) (kept job.names header) in
    let names : List (List ℕ) = map (λ dataset. dataset.name) job.datasets in
    let passes : List ℕ = pass_datasets (datasets_of job) in
    let queries : List (List ℕ) = map (queries_over (datasets_of job)) passes in
    ap (λ (c : List (List ℕ)). text_by c (dataset_names_in plan) (passes_in plan) (queries_in plan) (removed_in plan)) is.columns
    ∙ ap (λ (n : List (List ℕ)). text_by columns n (passes_in plan) (queries_in plan) (removed_in plan)) is.names
    ∙ ap (λ (p : List ℕ). text_by columns names p (queries_in plan) (removed_in plan)) is.passes
    ∙ ap (λ (q : List (List ℕ)). text_by columns names passes q (removed_in plan)) is.queries
    ∙ ap (λ (r : List (List ℕ)). text_by columns names passes queries r) is.removed

pub prints_plan : (job : Job) (plan : Plan) (records : Option (List Fields)) (before after : Option (List ℕ)) → (header : Fields) × IsPlanOf job header plan → IfSome records (IsPlanOver job plan)
    → Appends before after (plan_text plan) → PrintsPlan job records before after
prints_plan job plan None before after some over printed = record {
  header = some.0;
  known = tt;
  printed = subst (Appends before after) (text_is job some.0 plan some.1) printed;
}
prints_plan job plan (Some records) before after some over printed = record {
  header = over.header;
  known = over.passed;
  printed = subst (Appends before after) (text_is job over.header plan over.planned) printed;
}

prints_part : (job : Job) (plan : Plan) (records : Option (List Fields)) (before after : Option (List ℕ)) → (header : Fields) × IsPlanOf job header plan → IfSome records (IsPlanOver job plan)
    → AppendsPrefix before after (plan_text plan) → PrintsPart job records before after
prints_part job plan None before after some over printed = record {
  header = some.0;
  known = tt;
  printed = subst (AppendsPrefix before after) (text_is job some.0 plan some.1) printed;
}
prints_part job plan (Some records) before after some over printed = record {
  header = over.header;
  known = over.passed;
  printed = subst (AppendsPrefix before after) (text_is job over.header plan over.planned) printed;
}

pub may_print : (job : Job) (plan : Plan) (records : Option (List Fields)) (before after : Option (List ℕ)) → (header : Fields) × IsPlanOf job header plan → IfSome records (IsPlanOver job plan)
    → Keeps before after ⊎ AppendsPrefix before after (plan_text plan) → MayPrint job records before after
may_print job plan records before after some over printed = elim printed [
  | inl keeps ↦ inl keeps
  | inr part ↦ inr (prints_part job plan records before after some over part)
]

-- ---- a refusal

same_refusal : (one other : LandFault) (header : Checked) → header ≡ Refused one → header ≡ Refused other → one ≡ other
same_refusal one other header first second = let both : Refused one ≡ Refused other = sym first ∙ second in let same : one ≡ other = cc in same

refusal_told : (found : LandFault) (ended : Status) (why : LandFault) (header : Checked) → ended ≡ status_of found → (IsOfInput found → header ≡ Refused found)
    → ((disk : ℕ) → found ≡ fault.DiskFault disk → ⊥) → header ≡ Refused why → TellsRefusal why ended
refusal_told fault.ReadFault ended why header tells calls never refused = inl (subst IsUnread (sym tells) tt)
refusal_told fault.NoMemory ended why header tells calls never refused = inl (subst IsUnread (sym tells) tt)
refusal_told (fault.DiskFault disk) ended why header tells calls never refused = absurd (never disk refl)
refusal_told fault.NoHeader ended why header tells calls never refused = inr (tells ∙ ap status_of (same_refusal fault.NoHeader why header (calls tt) refused))
refusal_told (fault.NoColumn column) ended why header tells calls never refused = inr (tells ∙ ap status_of (same_refusal (fault.NoColumn column) why header (calls tt) refused))
refusal_told (fault.Ragged row) ended why header tells calls never refused = inr (tells ∙ ap status_of (same_refusal (fault.Ragged row) why header (calls tt) refused))
refusal_told (fault.RowTooLong row) ended why header tells calls never refused = inr (tells ∙ ap status_of (same_refusal (fault.RowTooLong row) why header (calls tt) refused))
refusal_told (fault.BadNumber row column) ended why header tells calls never refused = inr (tells ∙ ap status_of (same_refusal (fault.BadNumber row column) why header (calls tt) refused))
refusal_told fault.TooManyRows ended why header tells calls never refused = inr (tells ∙ ap status_of (same_refusal fault.TooManyRows why header (calls tt) refused))

pub plan_refused : (job : Job) (left : Option (List ℕ)) (found : LandFault) (ended : Status) → ended ≡ status_of found
    → (IsOfInput found → IfSome left (λ bytes. checked_header job (rows_of bytes) ≡ Refused found)) → ((disk : ℕ) → found ≡ fault.DiskFault disk → ⊥)
    → IfSome left (λ bytes. (why : LandFault) → checked_header job (rows_of bytes) ≡ Refused why → TellsRefusal why ended)
plan_refused job None found ended tells calls never = tt
plan_refused job (Some bytes) found ended tells calls never = λ why refused. refusal_told found ended why (checked_header job (rows_of bytes)) tells calls never refused

-- ---- how the call of a job ends

-- with the writing of its plan
pub printing_ends : (ended : Status) → IsOfPrint ended → IsOfPlan ended
printing_ends status.Done is = tt
printing_ends status.WriteFault is = tt
printing_ends status.NoMemory is = tt
printing_ends status.BadWords is = is
printing_ends (status.BadJob place) is = is
printing_ends status.HeapTooSmall is = is
printing_ends status.NoHeader is = tt
printing_ends (status.NoColumn column) is = tt
printing_ends (status.Ragged row) is = is
printing_ends (status.RowTooLong row) is = absurd is
printing_ends (status.BadNumber row column) is = is
printing_ends status.TooManyRows is = is
printing_ends (status.SumTooWide query key) is = is
printing_ends (status.NoRoom asked held floor) is = is
printing_ends status.ReadFault is = tt
printing_ends status.JournalFault is = is
printing_ends (status.DiskFault post) is = is
printing_ends (status.Damaged post file kept found) is = is

-- with what is told of the header
told_header : (found : LandFault) → IsOfHeader found → IsOfPlan (status_of found)
told_header fault.NoHeader is = tt
told_header (fault.NoColumn column) is = tt
told_header (fault.Ragged row) is = is
told_header (fault.RowTooLong row) is = is
told_header (fault.BadNumber row column) is = is
told_header fault.TooManyRows is = is
told_header fault.ReadFault is = tt
told_header (fault.DiskFault disk) is = is
told_header fault.NoMemory is = tt

pub header_ends : (found : LandFault) (ended : Status) → ended ≡ status_of found → IsOfHeader found → IsOfPlan ended
header_ends found ended tells is = subst IsOfPlan (sym tells) (told_header found is)
