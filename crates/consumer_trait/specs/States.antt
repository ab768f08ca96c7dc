-- A consumer as its callers see it.
-- After Spark: MemoryConsumer, whose `used` this is. Stages and the least are this project's own.
use Rattle.std.specs.Prelude.{ℕ, ◌-◌, ◌≤◌, Bool, false, List, [], Option, Some, None, length}
use Rattle.aggregate.specs.declared.kind.Kind.{Kind}
use Rattle.aggregate.specs.Totals.{Entry, costs, total}
use Rattle.aggregate.specs.Values.{IsValueOf}

-- how far a spill has come: whether it asked for bytes, wrote entries and gave bytes back, the room that there was when
-- it began, and what it has still to write, ascending by key
pub record Progress : Type 0 where
  pub asked : Bool
  pub wrote : Bool
  pub freed : Bool
  pub mark : ℕ
  pub left : List Entry

-- at rest, or amid a spill
pub data Stage : Type 0 where
  Rest : Stage
  Spill : Progress → Stage

-- the kind that it was begun with, its entries in memory, how many entries it was ever fed, its stage, the bytes that it was
-- granted and has not given back, the bytes that it has to have, and which kinds it can begin
pub record State : Type 0 where
  pub kind : Option Kind
  pub entries : List Entry
  pub fed : ℕ
  pub stage : Stage
  pub used : ℕ
  pub least : ℕ
  pub serves : Kind → Bool

-- the bytes that are granted and that no entry takes
abbrev pub room : State → ℕ
room state = state.used - costs state.entries

-- the total of entries under a kind, if there is one
abbrev pub total_by : Option Kind → List Entry → List Entry
total_by None entries = entries
total_by (Some kind) entries = total kind entries

-- an entry that a consumer of this kind may be fed
pub record IsEntryOf (kind : Kind) (entry : Entry) : Type 0 where
  pub key_fits : length entry.key ≤ 131152
  pub value_fits : length entry.value ≤ 65568
  pub width : IsValueOf kind entry.value

-- the same under a kind, if there is one
abbrev pub IsEntryBy : Option Kind → Entry → Type 0
IsEntryBy None entry = Unit {0}
IsEntryBy (Some kind) entry = IsEntryOf kind entry

-- how far the spill has come that the next turn belongs to: at rest it begins
abbrev pub progress_at : State → Stage → Progress
progress_at state Rest = record { asked = false; wrote = false; freed = false; mark = room state; left = [] }
progress_at state (Spill progress) = progress

-- how far the spill has come that the consumer is in, or would begin
abbrev pub current : State → Progress
current state = progress_at state state.stage

-- a consumer that forgot all but what never changes, and how often it was fed
abbrev pub as_reset : State → State
as_reset state = record state { kind = None; entries = []; stage = Rest; used = 0 }
