-- The numbers of statuses, and what each kind of them says.
-- This project's own.
use Rattle.std.specs.Prelude.{◌≡◌, ℕ, Option, Some, None, ⊤}
use Rattle.aggregate.specs.Totals.{Entry}
use Rattle.job_ending.specs.declared.status.Status.{Status}
use Rattle.job_ending.specs.declared.status.Status.TheVariants as status

-- the number that a process ends with
abbrev pub number_of : Status → ℕ
number_of status.Done = 0
number_of status.BadWords = 2
number_of (status.BadJob place) = 3
number_of status.HeapTooSmall = 4
number_of status.NoHeader = 5
number_of (status.NoColumn column) = 6
number_of (status.Ragged row) = 7
number_of (status.RowTooLong row) = 8
number_of (status.BadNumber row column) = 9
number_of status.TooManyRows = 10
number_of (status.SumTooWide query key) = 11
number_of (status.NoRoom asked held floor) = 12
number_of status.ReadFault = 13
number_of status.WriteFault = 14
number_of status.JournalFault = 15
number_of (status.DiskFault post) = 16
number_of (status.Damaged post file kept found) = 17
number_of status.NoMemory = 18

-- a fault of the input, the output, the journal's sink or a post's disk, want of room in the pool, or want of memory
abbrev pub IsOutside : Status → Type 0
IsOutside (status.NoRoom asked held floor) = ⊤
IsOutside status.ReadFault = ⊤
IsOutside status.WriteFault = ⊤
IsOutside status.JournalFault = ⊤
IsOutside (status.DiskFault post) = ⊤
IsOutside status.NoMemory = ⊤
IsOutside _ = ⊥

-- a fault of the input or of a post's disk, or want of memory: what may come before an input is landed
abbrev pub IsUnlanded : Status → Type 0
IsUnlanded status.ReadFault = ⊤
IsUnlanded (status.DiskFault post) = ⊤
IsUnlanded status.NoMemory = ⊤
IsUnlanded _ = ⊥

-- one of these, or want of room in the pool: what may come before anything is printed
abbrev pub IsUnprinted : Status → Type 0
IsUnprinted (status.NoRoom asked held floor) = ⊤
IsUnprinted status.ReadFault = ⊤
IsUnprinted (status.DiskFault post) = ⊤
IsUnprinted status.NoMemory = ⊤
IsUnprinted _ = ⊥

-- the status may be that of tasks and tables, over an input that was landed
abbrev pub IsOfTasks : Status → Type 0
IsOfTasks status.Done = ⊤
IsOfTasks (status.SumTooWide query key) = ⊤
IsOfTasks (status.NoRoom asked held floor) = ⊤
IsOfTasks status.WriteFault = ⊤
IsOfTasks status.JournalFault = ⊤
IsOfTasks (status.DiskFault post) = ⊤
IsOfTasks (status.Damaged post file kept found) = ⊤
IsOfTasks status.NoMemory = ⊤
IsOfTasks _ = ⊥

-- the status may be that of a check of sums, before anything is printed
abbrev pub IsOfSums : Status → Type 0
IsOfSums (status.SumTooWide query key) = ⊤
IsOfSums (status.DiskFault post) = ⊤
IsOfSums (status.Damaged post file kept found) = ⊤
IsOfSums status.NoMemory = ⊤
IsOfSums _ = ⊥

-- the status may be that of tables that couldn't be printed whole
abbrev pub IsOfTables : Status → Type 0
IsOfTables status.WriteFault = ⊤
IsOfTables (status.DiskFault post) = ⊤
IsOfTables (status.Damaged post file kept found) = ⊤
IsOfTables status.NoMemory = ⊤
IsOfTables _ = ⊥

-- the status may be that of a journal that couldn't be written whole
abbrev pub IsJournalFault : Status → Type 0
IsJournalFault status.JournalFault = ⊤
IsJournalFault status.NoMemory = ⊤
IsJournalFault _ = ⊥

-- the status tells that this total of a query is too wide
abbrev pub TellsWide : ℕ → Option Entry → Status → Type 0
TellsWide query None s = ⊥
TellsWide query (Some entry) s = s ≡ status.SumTooWide query entry.key

-- the status is none of those that only words, a job's text or a heap call for
abbrev pub IsJudged : Status → Type 0
IsJudged status.BadWords = ⊥
IsJudged (status.BadJob place) = ⊥
IsJudged status.HeapTooSmall = ⊥
IsJudged _ = ⊤

-- after these nothing was written
abbrev pub WritesNothing : Status → Type 0
WritesNothing status.Done = ⊥
WritesNothing status.WriteFault = ⊥
WritesNothing (status.DiskFault post) = ⊥
WritesNothing (status.Damaged post file kept found) = ⊥
WritesNothing status.NoMemory = ⊥
WritesNothing _ = ⊤

-- after these a part of the output was written, from the front
abbrev pub IsCut : Status → Type 0
IsCut status.WriteFault = ⊤
IsCut (status.DiskFault post) = ⊤
IsCut status.NoMemory = ⊤
IsCut _ = ⊥

-- where the status tells of want of room, P of its three numbers
abbrev pub IsNoRoom : Status → (ℕ → ℕ → ℕ → Type 0) → Type 0
IsNoRoom (status.NoRoom asked held floor) P = P asked held floor
IsNoRoom _ P = ⊤

-- where it names the disk of a post, P of that post
abbrev pub IsDiskFault : Status → (ℕ → Type 0) → Type 0
IsDiskFault (status.DiskFault post) P = P post
IsDiskFault _ P = ⊤

-- where it tells damage, P of the entries that were kept, and of those that were found
abbrev pub IsDamaged : Status → (ℕ → ℕ → Type 0) → Type 0
IsDamaged (status.Damaged post file kept found) P = P kept found
IsDamaged _ P = ⊤

-- where it tells damage, P of the post on whose disk it was found
abbrev pub IsDamagedOn : Status → (ℕ → Type 0) → Type 0
IsDamagedOn (status.Damaged post file kept found) P = P post
IsDamagedOn _ P = ⊤

-- after these a pool was made
abbrev pub MakesPool : Status → Type 0
MakesPool status.Done = ⊤
MakesPool (status.SumTooWide query key) = ⊤
MakesPool (status.NoRoom asked held floor) = ⊤
MakesPool status.WriteFault = ⊤
MakesPool status.JournalFault = ⊤
MakesPool (status.Damaged post file kept found) = ⊤
MakesPool _ = ⊥
