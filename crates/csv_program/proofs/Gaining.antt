-- What the sink of the journal gains, by what was written to it.
use Rattle.std.proofs.Common.{[], ℕ, Bool, true, false, List, Option, Some, None, append-nil, refl, sym}
use Rattle.std.specs.Io.KnownBytes.{Appends, Keeps}
use Rattle.byte_io.specs.Sinks.{AppendsPrefix}
use Rattle.result_table.proofs.Blocks.{front-done, front-none}
use Rattle.job_ending.specs.Statuses.{IsJournalFault, IsOfSums, IsOfTables}
use Rattle.job_ending.specs.Written.{GainsIfAsked, GainsText, WritesFront, WritesText}
use Rattle.job_ending.specs.declared.status.Status.{Status}
use Rattle.job_ending.specs.declared.status.Status.TheVariants as status
use Rattle.csv_program.specs.Telling.{status_of_work}
use Rattle.task_runner.specs.declared.work_fault.WorkFault.{WorkFault}
use Rattle.task_runner.specs.declared.work_fault.WorkFault.TheVariants.{NoRoom, DiskFault, Damaged, NoMemory}

keeps_self : (bytes : Option (List ℕ)) → Keeps bytes bytes
keeps_self None = tt
keeps_self (Some bytes) = refl

-- a text that was written whole is a front of itself
whole_front : (text : List ℕ) (before after : Option (List ℕ)) → Appends before after text → AppendsPrefix before after text
whole_front text before after whole = front-done before after text [] text whole (sym (append-nil text))

sums_gain : (ended : Status) (text : List ℕ) (bytes : Option (List ℕ)) → IsOfSums ended → GainsText ended text bytes bytes
sums_gain (status.SumTooWide query key) text bytes is = keeps_self bytes
sums_gain (status.DiskFault post) text bytes is = front-none bytes text
sums_gain (status.Damaged post file kept found) text bytes is = front-none bytes text
sums_gain status.NoMemory text bytes is = front-none bytes text
sums_gain _ text bytes is = absurd is

-- a check of the sums that fails writes nothing
pub checked_gains : (asked : Bool) (ended : Status) (text : List ℕ) (bytes : Option (List ℕ)) → IsOfSums ended → GainsIfAsked asked ended text bytes bytes
checked_gains true ended text bytes is = sums_gain ended text bytes is
checked_gains false ended text bytes is = keeps_self bytes

journal_gains : (ended : Status) (text : List ℕ) (before after : Option (List ℕ)) → IsJournalFault ended → AppendsPrefix before after text → GainsText ended text before after
journal_gains status.JournalFault text before after is front = front
journal_gains status.NoMemory text before after is front = front
journal_gains _ text before after is front = absurd is

-- a journal that can't be written whole is written in part
pub recorded_gains : (asked : Bool) (ended : Status) (text : List ℕ) (before after : Option (List ℕ)) → IsJournalFault ended → WritesFront asked text before after → GainsIfAsked asked ended text before after
recorded_gains true ended text before after is front = journal_gains ended text before after is front
recorded_gains false ended text before after is kept = kept

tables_gain : (ended : Status) (text : List ℕ) (before after : Option (List ℕ)) → IsOfTables ended → Appends before after text → GainsText ended text before after
tables_gain status.WriteFault text before after is whole = whole_front text before after whole
tables_gain (status.DiskFault post) text before after is whole = whole_front text before after whole
tables_gain (status.Damaged post file kept found) text before after is whole = whole_front text before after whole
tables_gain status.NoMemory text before after is whole = whole_front text before after whole
tables_gain _ text before after is whole = absurd is

-- tables that can't be printed stand behind a whole journal
pub printed_gains : (asked : Bool) (ended : Status) (text : List ℕ) (before after : Option (List ℕ)) → IsOfTables ended → WritesText asked text before after → GainsIfAsked asked ended text before after
printed_gains true ended text before after is whole = tables_gain ended text before after is whole
printed_gains false ended text before after is kept = kept

-- and so do tables that are whole
pub done_gains : (asked : Bool) (text : List ℕ) (before after : Option (List ℕ)) → WritesText asked text before after → GainsIfAsked asked status.Done text before after
done_gains true text before after whole = whole
done_gains false text before after kept = kept

-- want of memory before all writes nothing
pub wanting_gains : (asked : Bool) (text : List ℕ) (bytes : Option (List ℕ)) → GainsIfAsked asked status.NoMemory text bytes bytes
wanting_gains true text bytes = front-none bytes text
wanting_gains false text bytes = keeps_self bytes

work_gains : (fault : WorkFault) (text : List ℕ) (bytes : Option (List ℕ)) → GainsText (status_of_work fault) text bytes bytes
work_gains (NoRoom asked held floor) text bytes = keeps_self bytes
work_gains (DiskFault post) text bytes = front-none bytes text
work_gains (Damaged damage) text bytes = front-none bytes text
work_gains NoMemory text bytes = front-none bytes text

-- tasks that fail write nothing
pub fault_gains : (asked : Bool) (fault : WorkFault) (text : List ℕ) (bytes : Option (List ℕ)) → GainsIfAsked asked (status_of_work fault) text bytes bytes
fault_gains true fault text bytes = work_gains fault text bytes
fault_gains false fault text bytes = keeps_self bytes
