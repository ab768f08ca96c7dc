-- How a landed input ends, in words of its bytes.
use Rattle.std.proofs.Common.{◌≡◌, ◌+◌, ◌∷◌, ◌∙◌, [], ℕ, List, Option, Some, None, length, refl, sym, ap, subst, inl, inr, arith}
use Rattle.std.specs.Prelude.{◌⊎◌, IfSome}
use Rattle.byte_io.specs.Rows.{rows_of}
use Rattle.job_plan.specs.Columns.{Fields}
use Rattle.job_plan.specs.Plans.{places_in}
use Rattle.job_plan.specs.Rows.{landed_rows}
use Rattle.job_plan.specs.declared.query_plan.Plan.{Plan}
use Rattle.job_text.specs.declared.job.Job.{Job}
use Rattle.landing.specs.Checks.{Refused, checked}
use Rattle.landing.specs.Landed.{AreLanded, PassChecks, IsOfInput, partition_count}
use Rattle.spill_disk.specs.Files.{Files}
use Rattle.run_file.specs.declared.run.Run.{Run}
use Rattle.landing.specs.declared.fault.LandFault.{LandFault}
use Rattle.landing.specs.declared.fault.LandFault.TheVariants as fault
use Rattle.job_ending.specs.Endings.{TellsEarlier, EndsAs, Ending, HasTooWide, Prints, Refuses, ending_of, ending_of_checked, MayEndAs, partitions_of_checked, status_of}
use Rattle.job_ending.specs.Statuses.{IsDamaged, IsJudged, IsOfTasks, IsOutside, IsUnlanded, IsUnprinted}
use Rattle.job_ending.specs.declared.call.RunCall.{RunCall}
use Rattle.job_ending.specs.declared.status.Status.{Status}
use Rattle.job_ending.specs.declared.status.Status.TheVariants as status

pub length-landed : (places : List ℕ) (n : ℕ) (rows : List Fields) → length (landed_rows places n rows) ≡ length rows
length-landed places n [] = refl
length-landed places n (row ∷ rows) = omega (arith, length-landed places (n + 1) rows)

-- ---- refusals

-- why an input couldn't be landed is what its bytes call for, or a fault that comes before
pub refusal_ends : (why : LandFault) (asked : RunCall) (bytes : List ℕ) (ended : Status) → ended ≡ status_of why → (IsOfInput why → checked asked.job asked.max_rows (rows_of bytes) ≡ Refused why)
    → IsUnlanded ended ⊎ (IsOfInput why × (ending_of asked bytes ≡ Refuses why))
refusal_ends fault.ReadFault asked bytes ended tells calls = inl (subst IsUnlanded (sym tells) _)
refusal_ends (fault.DiskFault disk) asked bytes ended tells calls = inl (subst IsUnlanded (sym tells) _)
refusal_ends fault.NoMemory asked bytes ended tells calls = inl (subst IsUnlanded (sym tells) _)
refusal_ends fault.NoHeader asked bytes ended tells calls = inr (_, ap (ending_of_checked asked.job) (calls _))
refusal_ends (fault.NoColumn column) asked bytes ended tells calls = inr (_, ap (ending_of_checked asked.job) (calls _))
refusal_ends (fault.Ragged row) asked bytes ended tells calls = inr (_, ap (ending_of_checked asked.job) (calls _))
refusal_ends (fault.RowTooLong row) asked bytes ended tells calls = inr (_, ap (ending_of_checked asked.job) (calls _))
refusal_ends (fault.BadNumber row column) asked bytes ended tells calls = inr (_, ap (ending_of_checked asked.job) (calls _))
refusal_ends fault.TooManyRows asked bytes ended tells calls = inr (_, ap (ending_of_checked asked.job) (calls _))

unlanded_outside : (ended : Status) → IsUnlanded ended → IsOutside ended
unlanded_outside status.ReadFault is = _
unlanded_outside (status.DiskFault post) is = _
unlanded_outside status.NoMemory is = _
unlanded_outside _ is = absurd is

unlanded_unprinted : (ended : Status) → IsUnlanded ended → IsUnprinted ended
unlanded_unprinted status.ReadFault is = _
unlanded_unprinted (status.DiskFault post) is = _
unlanded_unprinted status.NoMemory is = _
unlanded_unprinted _ is = absurd is

-- it comes before each ending
pub comes_before : (ending : Ending) (ended : Status) → IsUnlanded ended → TellsEarlier ending ended
comes_before (Refuses why) ended is = is
comes_before (HasTooWide query key) ended is = unlanded_unprinted ended is
comes_before (Prints text) ended is = unlanded_outside ended is

pub refusal_may : (why : LandFault) (ending : Ending) (ended : Status) → ended ≡ status_of why → IsUnlanded ended ⊎ (IsOfInput why × (ending ≡ Refuses why)) → MayEndAs ending ended
refusal_may why ending ended tells (inl before) = inl (comes_before ending ended before)
refusal_may why ending ended tells (inr is) = inr (subst (λ (e : Ending). EndsAs e ended) (sym is.1) tells)

-- ---- which refusal a status tells

abbrev refusal_of : Status → Option LandFault
refusal_of status.NoHeader = Some fault.NoHeader
refusal_of (status.NoColumn column) = Some (fault.NoColumn column)
refusal_of (status.Ragged row) = Some (fault.Ragged row)
refusal_of (status.RowTooLong row) = Some (fault.RowTooLong row)
refusal_of (status.BadNumber row column) = Some (fault.BadNumber row column)
refusal_of status.TooManyRows = Some fault.TooManyRows
refusal_of _ = None

refusal_is_of : (why : LandFault) → IsOfInput why → refusal_of (status_of why) ≡ Some why
refusal_is_of fault.ReadFault is = absurd is
refusal_is_of (fault.DiskFault disk) is = absurd is
refusal_is_of fault.NoMemory is = absurd is
refusal_is_of fault.NoHeader is = refl
refusal_is_of (fault.NoColumn column) is = refl
refusal_is_of (fault.Ragged row) is = refl
refusal_is_of (fault.RowTooLong row) is = refl
refusal_is_of (fault.BadNumber row column) is = refl
refusal_is_of fault.TooManyRows is = refl

none_unlanded : (ended : Status) → IsUnlanded ended → refusal_of ended ≡ None
none_unlanded status.ReadFault is = refl
none_unlanded (status.DiskFault post) is = refl
none_unlanded status.NoMemory is = refl
none_unlanded _ is = absurd is

none_of_tasks : (ended : Status) → IsOfTasks ended → refusal_of ended ≡ None
none_of_tasks status.Done is = refl
none_of_tasks (status.SumTooWide query key) is = refl
none_of_tasks (status.NoRoom asked held floor) is = refl
none_of_tasks status.WriteFault is = refl
none_of_tasks status.JournalFault is = refl
none_of_tasks (status.DiskFault post) is = refl
none_of_tasks (status.Damaged post file kept found) is = refl
none_of_tasks status.NoMemory is = refl
none_of_tasks _ is = absurd is

-- a status that tells no refusal of an input is that of none
no_refusal : (why : LandFault) (ended : Status) → IsOfInput why → ended ≡ status_of why → refusal_of ended ≡ None → ⊥
no_refusal why ended is tells none = let both : Some why ≡ None = sym (refusal_is_of why is) ∙ ap refusal_of (sym tells) ∙ none in cc both

pub unlanded_refuses_nothing : (why : LandFault) (ended : Status) → IsUnlanded ended → IsOfInput why → ended ≡ status_of why → ⊥
unlanded_refuses_nothing why ended before is tells = no_refusal why ended is tells (none_unlanded ended before)

pub tasks_refuse_nothing : (why : LandFault) (ended : Status) → IsOfTasks ended → IsOfInput why → ended ≡ status_of why → ⊥
tasks_refuse_nothing why ended tasks is tells = no_refusal why ended is tells (none_of_tasks ended tasks)

-- a refusal that is told is called for
pub refusal_called : (why told : LandFault) (ending : Ending) (ended : Status) → IsOfInput why → ended ≡ status_of why → ended ≡ status_of told → IsUnlanded ended ⊎ (IsOfInput told × (ending ≡ Refuses told)) → ending ≡ Refuses why
refusal_called why told ending ended is tells tells' (inl before) = absurd (no_refusal why ended is tells (none_unlanded ended before))
refusal_called why told ending ended is tells tells' (inr calls) =
    let same : Some told ≡ Some why = sym (refusal_is_of told calls.0) ∙ ap refusal_of (sym tells' ∙ tells) ∙ refusal_is_of why is in
    let one : told ≡ why = cc same in
    calls.1 ∙ ap Refuses one

-- a refusal that the bytes call for is the one that is told
pub refusal_is : (why told : LandFault) (ending : Ending) (ended : Status) → ending ≡ Refuses why → ended ≡ status_of told → IsUnlanded ended ⊎ (IsOfInput told × (ending ≡ Refuses told)) → IsUnlanded ended ⊎ (ended ≡ status_of why)
refusal_is why told ending ended calls tells (inl before) = inl before
refusal_is why told ending ended calls tells (inr is) =
    let same : Refuses told ≡ Refuses why = sym is.1 ∙ calls in
    let one : told ≡ why = cc same in
    inr (tells ∙ ap status_of one)

-- tasks tell none of the statuses that only words, a job's text or a heap call for
pub tasks_judged : (ended : Status) → IsOfTasks ended → IsJudged ended
tasks_judged status.BadWords is = absurd is
tasks_judged (status.BadJob place) is = absurd is
tasks_judged status.HeapTooSmall is = absurd is
tasks_judged _ is = _

-- what is known of the bytes where they are
pub if_each : (left : Option (List ℕ)) (Q : List ℕ → Type 0) → ((bytes : List ℕ) → left ≡ Some bytes → Q bytes) → IfSome left Q
if_each None Q each = _
if_each (Some bytes) Q each = each bytes refl

pub known_is : (left : Option (List ℕ)) (bytes : List ℕ) (P : List ℕ → Type 0) → left ≡ Some bytes → IfSome left P → P bytes
known_is left bytes P is holds = subst (λ (o : Option (List ℕ)). IfSome o P) is holds

-- what was landed, by other words for the workers and the runs
pub landed_as : (files : ℕ → Option Files) (part_rows workers workers' : ℕ) (parts parts' : List Run) (rows : List Fields) → workers ≡ workers' → parts ≡ parts' → AreLanded files part_rows workers parts rows → AreLanded files part_rows workers' parts' rows
landed_as files part_rows workers workers' parts parts' rows same are landed =
    subst (λ (runs : List Run). AreLanded files part_rows workers' runs rows) are (subst (λ (w : ℕ). AreLanded files part_rows w parts rows) same landed)

-- how many partitions and rows there are
pub partitions_are : (job : Job) (max_rows part_rows : ℕ) (plan : Plan) (landed records : List Fields) → PassChecks job max_rows plan landed records → partition_count (length landed) part_rows ≡ partitions_of_checked part_rows (checked job max_rows records)
partitions_are job max_rows part_rows plan landed records are =
    ap (λ (n : ℕ). partition_count n part_rows) (ap (λ (list : List Fields). length list) are.landed_are ∙ length-landed (places_in plan) 1 are.rows) ∙ sym (ap (partitions_of_checked part_rows) are.passed)

pub some_always : {A P : Type 0} (o : Option A) → P → IfSome o (λ x. P)
some_always None p = _
some_always (Some x) p = p

refused_undamaged : (why : LandFault) (post file kept found : ℕ) → status.Damaged post file kept found ≡ status_of why → ⊥
refused_undamaged fault.NoHeader post file kept found is = cc is
refused_undamaged (fault.NoColumn column) post file kept found is = cc is
refused_undamaged (fault.Ragged row) post file kept found is = cc is
refused_undamaged (fault.RowTooLong row) post file kept found is = cc is
refused_undamaged (fault.BadNumber row column) post file kept found is = cc is
refused_undamaged fault.TooManyRows post file kept found is = cc is
refused_undamaged fault.ReadFault post file kept found is = cc is
refused_undamaged (fault.DiskFault disk) post file kept found is = cc is
refused_undamaged fault.NoMemory post file kept found is = cc is

never_damaged : (ending : Ending) (post file kept found : ℕ) → MayEndAs ending (status.Damaged post file kept found) → ⊥
never_damaged (Refuses why) post file kept found (inl before) = before
never_damaged (Refuses why) post file kept found (inr is) = refused_undamaged why post file kept found is
never_damaged (HasTooWide query key) post file kept found (inl before) = before
never_damaged (HasTooWide query key) post file kept found (inr is) = cc is
never_damaged (Prints text) post file kept found (inl before) = before
never_damaged (Prints text) post file kept found (inr is) = cc is

-- no ending is told as damage
pub ends_undamaged : (ending : Ending) (ended : Status) → MayEndAs ending ended → IsDamaged ended (λ kept found. ⊥)
ends_undamaged ending (status.Damaged post file kept found) may = never_damaged ending post file kept found may
ends_undamaged ending _ may = _
