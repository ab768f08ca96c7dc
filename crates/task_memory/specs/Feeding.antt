-- Bytes that a consumer was told of, and an entry that it was fed.
-- This project's own.
use Rattle.std.specs.Prelude.{◌≡◌, ◌≢◌, ℕ, ◌+◌, ◌-◌, ◌≤◌, ◌<◌, ◌^◌, min, List, [], ◌∷◌, ◌++◌, None, Result, Ok, Err, length, slice_set, ⊤}
use Rattle.aggregate.specs.Totals.{Entry, cost, costs}
use Rattle.consumer_trait.specs.States.{State, room, total_by}
use Rattle.consumer_trait.specs.Members.{state_at}
use Rattle.task_memory.specs.declared.fault.TaskFault.{TaskFault}
use Rattle.task_memory.specs.declared.fault.TaskFault.TheVariants.{NoRoom, DiskFault, NoMemory}
use Rattle.task_pool.specs.Accounts.{Held, WasShort}
use Rattle.task_pool.specs.Asks.{FirstAsks}
use Rattle.task_pool.specs.Pools.{PoolState}
use Rattle.task_memory.specs.Disks.{KeepsFiles}
use Rattle.task_memory.specs.RunLists.{HoldRuns, gathered, gathered_total, runs_at}
use Rattle.task_memory.specs.Writing.{AddedAreNew, OnlyAdds}
use Rattle.consumer_trait.specs.Calls.{SameConsumer}
use Rattle.task_memory.specs.Stacks.{Stack, used_by}
use Rattle.task_memory.specs.Serving.{KeepsOne, KeepsRuns, RunsGrow}
use Rattle.task_memory.specs.Asking.{IsOutOfRoom, IsReady, Keeps}

-- the entry of a key and a value
abbrev pub as_entry : List ℕ → List ℕ → Entry
as_entry key value = record { key = key; value = value }

-- a consumer without an entry in memory uses nothing
abbrev pub EmptyUseNothing : List State → Type 0
EmptyUseNothing states = (i : ℕ) → i < length states → (state_at states i).entries ≡ [] → (state_at states i).used ≡ 0

-- the same of all but one
abbrev pub OthersEmptyUseNothing : List State → ℕ → Type 0
OthersEmptyUseNothing states place = (i : ℕ) → i < length states → i ≢ place → (state_at states i).entries ≡ [] → (state_at states i).used ≡ 0

-- so many bytes were got for a consumer, which was told of them; all else is kept
pub record Tells (old new : Stack) (place got : ℕ) : Type 0 where
  pub before : List State
  pub keeps : Keeps old (record new { states = before }) got
  pub told : new.states ≡ slice_set before place (record (state_at before place) { used = (state_at before place).used + got })

-- a consumer for which at least so many bytes were got
pub record IsRaised (old new : State) (must : ℕ) : Type 0 where
  pub same : SameConsumer old new
  pub covered : costs old.entries ≤ old.used → costs new.entries ≤ new.used
  pub gained : costs old.entries ≤ old.used → new.entries ≢ [] → room old + must ≤ room new
  pub idle : old.entries ≡ [] → (new.entries ≡ []) × (old.used + must ≤ new.used)

-- what that does to all
pub record Raises (old new : Stack) (place must : ℕ) : Type 0 where
  pub consumers : length new.states ≡ length old.states
  pub picks : new.picks ≡ old.picks
  pub others : (j : ℕ) → j < length old.states → j ≢ place → KeepsOne (state_at old.states j) (state_at new.states j)
  pub raised : IsRaised (state_at old.states place) (state_at new.states place) must
  pub runs : KeepsRuns old.files new.files old.states new.states old.runs new.runs
  pub shorts : old.account.shorts ≤ new.account.shorts
  pub ready : IsReady new
  pub balance : new.account.held + used_by old.states ≡ old.account.held + used_by new.states

-- where the runs stood before, they stand, and the consumer's total is that of what it was fed before and this entry; that of
-- each other consumer is what it was
abbrev pub FeedsTotals : Stack → Stack → ℕ → Entry → Type 0
FeedsTotals old new place entry =
    (spilled : List (List Entry)) → HoldRuns old.files old.states old.runs spilled
    → (spilled' : List (List Entry)) × HoldRuns new.files new.states new.runs spilled'
    × ((i : ℕ) → i < length old.states → i ≢ place → gathered_total new.states spilled' i ≡ gathered_total old.states spilled i)
    × (gathered_total new.states spilled' place ≡ total_by (state_at old.states place).kind (gathered old.states spilled place ++ entry ∷ []))

-- a consumer that took an entry
pub record TakesIn (old new : State) (entry : Entry) : Type 0 where
  pub kind : new.kind ≡ old.kind
  pub least : new.least ≡ old.least
  pub serves : new.serves ≡ old.serves
  pub fed : new.fed ≡ min (old.fed + 1) (2 ^ 64 - 1)
  pub enough : cost entry ≤ new.used
  pub some : new.entries ≢ []

-- what that does to all
pub record FedTo (old new : Stack) (place : ℕ) (entry : Entry) : Type 0 where
  pub consumers : length new.states ≡ length old.states
  pub picks : new.picks ≡ old.picks
  pub others : (j : ℕ) → j < length old.states → j ≢ place → KeepsOne (state_at old.states j) (state_at new.states j)
  pub takes : TakesIn (state_at old.states place) (state_at new.states place) entry
  pub lengths : length new.runs ≡ length old.runs
  pub grow : RunsGrow old.runs new.runs
  pub totals : FeedsTotals old new place entry
  pub stay : KeepsFiles old.files new.files
  pub added : AddedAreNew old.files old.runs new.runs
  pub shorts : old.account.shorts ≤ new.account.shorts
  pub ready : IsReady new
  pub balance : new.account.held + used_by old.states ≡ old.account.held + used_by new.states
  pub only : OnlyAdds old.files new.files old.runs new.runs
  pub unbegun : (i : ℕ) → (state_at old.states i).kind ≡ None → runs_at new.runs i ≡ runs_at old.runs i

-- there is no room for what an acquire asked
pub record HasNoRoom (old new : Stack) (must asked : ℕ) : Type 0 where
  pub same : asked ≡ must
  pub out : IsOutOfRoom new must
  pub keeps : Keeps old new 0

-- there is no room for an entry, of which so many bytes were missing: where consumers without an entry used nothing, these and
-- what is used then are at most its cost
pub record LacksRoom (old new : Stack) (entry : Entry) (asked : ℕ) : Type 0 where
  pub out : IsOutOfRoom new asked
  pub few : EmptyUseNothing old.states → asked + used_by new.states ≤ cost entry
  pub balance : new.account.held + used_by old.states ≡ old.account.held + used_by new.states
  pub small : new.account.held ≤ 2 ^ 50

-- the numbers of a refusal: what the task then holds, and its floor
pub record NamesHeld (account : Held) (held floor : ℕ) : Type 0 where
  pub holds : held ≡ account.held
  pub floors : floor ≡ account.floor

-- what a refusal for want of room says, of a task with this account
abbrev pub IfNoRoom : {T : Type 0} → Result T TaskFault → Held → (ℕ → Type 0) → Type 0
IfNoRoom (Ok x) account says = ⊤
IfNoRoom (Err (NoRoom asked held floor)) account says = says asked × NamesHeld account held floor
IfNoRoom (Err DiskFault) account says = ⊤
IfNoRoom (Err NoMemory) account says = ⊤

-- an attempt was granted so much, at least what had to be got
pub record GetsAlone (old new : Held) (must wish got : ℕ) : Type 0 where
  pub enough : must ≤ got
  pub few : got ≤ wish
  pub asked : new.asked ≡ wish
  pub holds : new.held ≡ old.held + got
  pub small : new.held ≤ 2 ^ 50

-- it was granted too little, which was given back
pub record IsTooLittle (old new : Held) (must asked : ℕ) : Type 0 where
  pub same : asked ≡ must
  pub gave_back : new.held ≡ old.held
  pub short : WasShort new must
  pub floored : new.floor < must + new.held

-- nothing was got, and the attempt asked what was wished
pub record GetsNothing (old new : PoolState) (must wish asked : ℕ) : Type 0 where
  pub too_little : IsTooLittle old.account new.account must asked
  pub first : FirstAsks wish old.worker new.worker

-- no call refuses for want of room
abbrev pub NeverNoRoom : {T : Type 0} → Result T TaskFault → Type 0
NeverNoRoom (Ok x) = ⊤
NeverNoRoom (Err (NoRoom asked held floor)) = ⊥
NeverNoRoom (Err DiskFault) = ⊤
NeverNoRoom (Err NoMemory) = ⊤

-- of all consumers but one nothing changed that no spill changes; of that one no more than how often it was fed
pub record OthersSame (states states' : List State) (place : ℕ) : Type 0 where
  pub consumers : length states' ≡ length states
  pub each : (i : ℕ) → i < length states → i ≢ place → SameConsumer (state_at states i) (state_at states' i)
  pub kind : (state_at states' place).kind ≡ (state_at states place).kind
  pub least : (state_at states' place).least ≡ (state_at states place).least
  pub serves : (state_at states' place).serves ≡ (state_at states place).serves
