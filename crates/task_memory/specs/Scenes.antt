-- What each call makes of a task's memory.
-- This project's own.
use Rattle.std.specs.Prelude.{◌≡◌, ℕ, ◌+◌, ◌-◌, ◌≤◌, ◌<◌, ◌^◌, List, [], Result, All, length}
use Rattle.aggregate.specs.Totals.{Entry, cost}
use Rattle.run_file.specs.declared.run.Run.{Run}
use Rattle.consumer_trait.specs.States.{IsEntryBy}
use Rattle.consumer_trait.specs.Members.{state_at}
use Rattle.task_pool.specs.Asks.{FirstAsks}
use Rattle.task_memory.specs.declared.fault.TaskFault.{TaskFault}
use Rattle.task_memory.specs.RunLists.{IsTaskRun}
use Rattle.task_memory.specs.Stacks.{IsDry, IsPick}
use Rattle.task_memory.specs.Serving.{KeepsOne}
use Rattle.task_memory.specs.Asking.{AddsFewRuns, SpillsWhenShort}
use Rattle.task_memory.specs.Feeding.{FedTo, HasNoRoom, IfNoRoom, IsTooLittle, LacksRoom, Tells}
use Rattle.task_memory.specs.Draining.{AddsOnly, DrainsTotals, TakesNew}
pub use Rattle.task_memory.specs.Memories.{AsksNothing, DrawsAlone, Fails, FeedsOn, GoesOn, GoesOnBut, IsBetween, IsLive, IsResting, Lent, Scene, Stays, place_in}

-- Asks

-- at least so many bytes, and so many are welcome
pub record CanBeAsked (must wish : ℕ) : Type 0 where
  pub some : 1 ≤ must
  pub ordered : must ≤ wish
  pub most : wish ≤ 2 ^ 50

-- so many bytes were got for the consumer at a place, and it was told of them
pub record Acquires (old new : Scene) (place must wish got : ℕ) : Type 0 where
  pub enough : must ≤ got
  pub few : got ≤ wish
  pub told : Tells old.stack new.stack place got
  pub first : FirstAsks wish old.pool.worker new.pool.worker
  pub shorts : SpillsWhenShort old.stack new.stack
  pub few_runs : AddsFewRuns old.stack new.stack
  pub between : IsBetween new

-- there is no room: no consumer is left to spill, and with what the task holds the ask passes the floor
pub record LacksBytes (old new : Scene) (must wish asked : ℕ) : Type 0 where
  pub no_room : HasNoRoom old.stack new.stack must asked
  pub first : FirstAsks wish old.pool.worker new.pool.worker

-- there is no room for the bytes that an ask has to get
abbrev pub RefusesAsk : {T : Type 0} → Scene → Scene → ℕ → ℕ → Result T TaskFault → Type 0
RefusesAsk old new must wish result = IfNoRoom result new.stack.account (LacksBytes old new must wish)

-- Entries

-- the consumer at a place was fed an entry
pub record Feeds (old new : Scene) (place : ℕ) (entry : Entry) : Type 0 where
  pub fed : FedTo old.stack new.stack place entry
  pub charged : new.leasts + cost entry ≤ new.stack.account.held
  pub shorts : SpillsWhenShort old.stack new.stack
  pub few_runs : AddsFewRuns old.stack new.stack
  pub between : IsBetween new

-- the task once held an entry's cost beside its leasts
abbrev pub IsCharged : Scene → Entry → Type 0
IsCharged scene entry = scene.leasts + cost entry ≤ scene.pool.account.peak

-- the consumer at a place was fed an entry, and was charged for it
pub record FeedsCharged (old new : Scene) (place : ℕ) (entry : Entry) : Type 0 where
  pub fed : Feeds old new place entry
  pub charged : IsCharged new entry

-- there is no room for an entry
abbrev pub RefusesEntry : {T : Type 0} → Scene → Scene → Entry → Result T TaskFault → Type 0
RefusesEntry old new entry result = IfNoRoom result new.stack.account (LacksRoom old.stack new.stack entry)

-- the consumer at a place is one of the task's own, and may be fed the entry
pub record CanFeed (scene : Scene) (place : ℕ) (entry : Entry) : Type 0 where
  pub between : IsBetween scene
  pub pick : IsPick scene.stack.picks place
  pub formed : IsEntryBy (state_at scene.stack.states place).kind entry

-- Bytes beside the consumers

-- all consumers are drained, and the leasts are freed
pub record IsEmptied (scene : Scene) : Type 0 where
  pub dry : IsDry scene.stack.states
  pub freed : scene.leasts ≡ 0

-- so many bytes were got as room
pub record Rooms (old new : Scene) (must wish got : ℕ) : Type 0 where
  pub enough : must ≤ got
  pub few : got ≤ wish
  pub first : FirstAsks wish old.pool.worker new.pool.worker
  pub roomed : new.roomed ≡ old.roomed + got
  pub leasts : new.leasts ≡ old.leasts
  pub between : IsBetween new

-- there was too little, and no consumer is left to spill
pub record LacksRoomFor (old new : Scene) (must wish asked : ℕ) : Type 0 where
  pub too_little : IsTooLittle old.stack.account new.stack.account must asked
  pub dry : IsDry new.stack.states
  pub first : FirstAsks wish old.pool.worker new.pool.worker

-- there is no room for so many bytes beside the consumers
abbrev pub RefusesRoom : {T : Type 0} → Scene → Scene → ℕ → ℕ → Result T TaskFault → Type 0
RefusesRoom old new must wish result = IfNoRoom result new.stack.account (LacksRoomFor old new must wish)

-- so many bytes of the room were given back
pub record GivesBack (old new : Scene) (bytes : ℕ) : Type 0 where
  pub roomed : new.roomed ≡ old.roomed - bytes
  pub leasts : new.leasts ≡ old.leasts
  pub between : IsBetween new

-- the leasts were freed
pub record FreesLeasts (old new : Scene) : Type 0 where
  pub leasts : new.leasts ≡ 0
  pub roomed : new.roomed ≡ old.roomed
  pub between : IsBetween new

-- Runs

-- the consumer at a place was emptied, and these are its runs
pub record Drains (old new : Scene) (place : ℕ) (taken : List Run) : Type 0 where
  pub empty : (state_at new.stack.states place).entries ≡ []
  pub kept : (i : ℕ) → i < length old.stack.states → KeepsOne (state_at old.stack.states i) (state_at new.stack.states i)
  pub picks : new.stack.picks ≡ old.stack.picks
  pub bounded : All IsTaskRun taken
  pub totals : DrainsTotals old.stack new.stack place taken
  pub new_files : TakesNew old.stack place taken
  pub only : AddsOnly old.stack new.stack place taken
  pub between : IsBetween new
