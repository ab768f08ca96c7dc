-- How a run ends where nothing outside fails, and there is room and memory.
-- This project's own.
use Rattle.std.specs.Prelude.{◌≡◌, ◌⊎◌, ℕ, ◌<◌, All, List, [], ◌∷◌, Option, Some, None, length, map, option_map, slice_index_or}
use Rattle.std.specs.List.{range_with_len}
use Rattle.std.specs.Option.{option_or}
use Rattle.aggregate.specs.Totals.{Entry, total}
use Rattle.byte_io.specs.Rows.{rows_of}
use Rattle.job_answer.specs.Laws.{wide_total}
use Rattle.job_answer.specs.Output.{tables_text, output, too_wide}
use Rattle.row_filter.specs.Derived.{derived}
use Rattle.job_plan.specs.Columns.{Fields}
use Rattle.job_plan.specs.Entries.{entry_of}
use Rattle.job_plan.specs.Plans.{chain_in, datasets_in, kept_at, kept_in, kind_at}
use Rattle.job_plan.specs.Telling.{IsTold}
use Rattle.job_plan.specs.declared.query_plan.Plan.{Plan}
use Rattle.job_text.specs.declared.job.Job.{Job}
use Rattle.landing.specs.Checks.{Checked, Refused, Rows, checked}
use Rattle.landing.specs.Landed.{partition_count}
use Rattle.landing.specs.declared.fault.LandFault.{LandFault}
use Rattle.landing.specs.declared.fault.LandFault.TheVariants as fault
use Rattle.result_table.specs.Results.{table_of}
use Rattle.job_ending.specs.Statuses.{IsOutside, IsUnlanded, IsUnprinted}
use Rattle.job_ending.specs.declared.call.RunCall.{RunCall}
use Rattle.job_ending.specs.declared.status.Status.{Status}
use Rattle.job_ending.specs.declared.status.Status.TheVariants as status

-- the input is refused; a sum of a query is too wide, for this key; or tables are printed
pub data Ending : Type 0 where
  Refuses : (why : LandFault) → Ending
  HasTooWide : (query : ℕ) (key : List ℕ) → Ending
  Prints : (text : List ℕ) → Ending

-- a text is printed, or a sum is told that is too wide, by its query and its key
abbrev pub ending_with : List ℕ → Option (ℕ × List ℕ) → Ending
ending_with text None = Prints text
ending_with text (Some wide) = HasTooWide wide.0 wide.1

-- how a run of a job ends, by what the job makes of its input
abbrev pub ending_of_checked : Job → Checked → Ending
ending_of_checked job (Refused why) = Refuses why
ending_of_checked job (Rows header rows) = ending_with (output job header rows) (too_wide job header rows)

-- how a run over an input ends
abbrev pub ending_of : RunCall → List ℕ → Ending
ending_of asked bytes = ending_of_checked asked.job (checked asked.job asked.max_rows (rows_of bytes))

-- what is printed in an ending
abbrev pub printed_in : Ending → List ℕ
printed_in (Refuses why) = []
printed_in (HasTooWide query key) = []
printed_in (Prints text) = text

-- how many partitions of so many rows an input has: none where it is refused
abbrev pub partitions_of_checked : ℕ → Checked → ℕ
partitions_of_checked part_rows (Refused why) = 0
partitions_of_checked part_rows (Rows header rows) = partition_count (length rows) part_rows

-- how many it has for a run
abbrev pub partitions_of : RunCall → List ℕ → ℕ
partitions_of asked bytes = partitions_of_checked asked.part_rows (checked asked.job asked.max_rows (rows_of bytes))

-- what a run's job makes of an input
abbrev pub checked_for : RunCall → List ℕ → Checked
checked_for asked bytes = checked asked.job asked.max_rows (rows_of bytes)

-- ---- the same by what the entries of the queries come to

-- the dataset that a query is over
abbrev pub dataset_in : Plan → ℕ → ℕ
dataset_in plan query = slice_index_or (datasets_in plan) query 0

-- the entries that a query makes of landed rows: of those of its dataset, in their order
abbrev pub entries_over : Plan → ℕ → List Fields → List Entry
entries_over plan query rows = map (entry_of (kept_at plan query)) (derived (chain_in plan) (dataset_in plan query) rows)

-- what the entries of a query come to, over landed rows
abbrev pub totals_of : Plan → List Fields → ℕ → List Entry
totals_of plan rows query = total (kind_at plan query) (entries_over plan query rows)

-- the numbers of a plan's queries
abbrev pub queries_of : Plan → List ℕ
queries_of plan = range_with_len 0 (length (kept_in plan))

-- their tables, one behind the other
abbrev pub tables_of : Plan → (ℕ → List Entry) → List ℕ
tables_of plan totals = tables_text (map (λ query. table_of plan query (totals query)) (queries_of plan))

-- the first of these queries with a total that is too wide, and the total's key
abbrev pub wide_among : Plan → (ℕ → List Entry) → List ℕ → Option (ℕ × List ℕ)
wide_among plan totals [] = None
wide_among plan totals (query ∷ queries) =
    option_or (option_map (λ entry. (query, entry.key)) (wide_total (kept_at plan query) (totals query)))
    (wide_among plan totals queries)

-- the same among all queries of a plan
abbrev pub wide_of : Plan → (ℕ → List Entry) → Option (ℕ × List ℕ)
wide_of plan totals = wide_among plan totals (queries_of plan)

-- how a run of a plan ends, by what the entries of each of its queries come to
abbrev pub ending_of_totals : Plan → (ℕ → List Entry) → Ending
ending_of_totals plan totals = ending_with (tables_of plan totals) (wide_of plan totals)

-- where none is too wide, all totals can be told as rows of their tables
abbrev pub CanBeTold : Plan → (ℕ → List Entry) → Type 0
CanBeTold plan totals =
    wide_of plan totals ≡ None
    → (query : ℕ) → query < length (kept_in plan) → All (IsTold (kept_at plan query)) (totals query)

-- ---- statuses

-- the status that tells a refusal of the input, or why it couldn't be landed
abbrev pub status_of : LandFault → Status
status_of fault.NoHeader = status.NoHeader
status_of (fault.NoColumn column) = status.NoColumn column
status_of (fault.Ragged row) = status.Ragged row
status_of (fault.RowTooLong row) = status.RowTooLong row
status_of (fault.BadNumber row column) = status.BadNumber row column
status_of fault.TooManyRows = status.TooManyRows
status_of fault.ReadFault = status.ReadFault
status_of (fault.DiskFault disk) = status.DiskFault disk
status_of fault.NoMemory = status.NoMemory

-- the status tells this ending
abbrev pub EndsAs : Ending → Status → Type 0
EndsAs (Refuses why) s = s ≡ status_of why
EndsAs (HasTooWide query key) s = s ≡ status.SumTooWide query key
EndsAs (Prints text) s = s ≡ status.Done

-- the status tells what comes before the check that calls for this ending: a fault of reading, of a disk or of memory before an
-- input is refused; also want of room before a sum is looked at; and also a fault of the output before the tables are whole
abbrev pub TellsEarlier : Ending → Status → Type 0
TellsEarlier (Refuses why) s = IsUnlanded s
TellsEarlier (HasTooWide query key) s = IsUnprinted s
TellsEarlier (Prints text) s = IsOutside s

-- the status tells this ending, or what comes before it
abbrev pub MayEndAs : Ending → Status → Type 0
MayEndAs ending s = TellsEarlier ending s ⊎ EndsAs ending s
