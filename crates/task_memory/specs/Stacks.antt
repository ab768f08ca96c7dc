-- The consumers of a task with the asks that are being served.
-- This project's own.
use Rattle.std.specs.Prelude.{◌≡◌, ◌≢◌, ℕ, ◌+◌, ◌≤◌, ◌<◌, ◌^◌, Bool, true, false, List, [], Option, Some, None, IsSome, length, map, slice_index, slice_index_or, sum_by}
use Rattle.spill_disk.specs.Files.{Files}
use Rattle.run_file.specs.declared.run.Run.{Run}
use Rattle.consumer_trait.specs.States.{State, Stage, Rest, Spill, current}
use Rattle.consumer_trait.specs.Members.{state_at}
use Rattle.task_memory.specs.declared.ask.Ask.{Ask}
use Rattle.task_memory.specs.declared.spills.Spills.{Spills}
use Rattle.task_pool.specs.Accounts.{Held, WasShort}
use Rattle.task_memory.specs.Asks.{ask_at, top_of, pending_of}
use Rattle.task_memory.specs.RunLists.{lists_of, AreTaskRuns}
use Rattle.task_memory.specs.Pauses.{IsUnwritten}

-- the states of the consumers, a disk's files where it shows them, what the task holds, the places of the task's own consumers among all,
-- each consumer's runs, which of them rest, the asks in progress, the outermost first, and the greatest number of spills that were
-- ever in progress at once, each with an ask of its own
pub record Stack : Type 0 where
  pub states : List State
  pub files : Option Files
  pub account : Held
  pub picks : List ℕ
  pub runs : List (List Run)
  pub resting : List Bool
  pub asks : List Ask
  pub deepest : ℕ

-- what is kept of the spills, with the consumers, the disk and what the task holds
abbrev pub stack_of : List State → Option Files → Held → Spills → Stack
stack_of states files account spills = record {
  states = states;
  files = files;
  account = account;
  picks = spills.picks.items;
  runs = lists_of spills.runs.items;
  resting = spills.resting.items;
  asks = spills.asks.items;
  deepest = spills.deepest;
}

-- Sums

-- the bytes that all consumers use
abbrev pub used_by : List State → ℕ
used_by states = sum_by (λ state. state.used) states

-- how many entries all consumers have in memory
abbrev pub entries_in : List State → ℕ
entries_in states = sum_by (λ state. length state.entries) states

-- whether it isn't amid a spill
abbrev pub is_rest : Stage → Bool
is_rest Rest = true
is_rest (Spill progress) = false

-- 1 amid a spill
abbrev pub spilling : Stage → ℕ
spilling Rest = 0
spilling (Spill progress) = 1

-- which consumers rest
abbrev pub resting_of : List State → List Bool
resting_of states = map (λ state. is_rest state.stage) states

-- how many spills are in progress
abbrev pub spills_of : List State → ℕ
spills_of states = sum_by (λ state. spilling state.stage) states

-- Choosing

-- whether the consumer at a place is marked; none is where there is no consumer
abbrev pub flag_at : List Bool → ℕ → Bool
flag_at flags i = slice_index_or flags i false

-- a consumer that isn't spilling and has an entry in memory
abbrev pub IsCandidate : List State → List Bool → ℕ → Type 0
IsCandidate states resting i = (flag_at resting i ≡ true) × ((state_at states i).entries ≢ [])

-- no consumer has an entry in memory
abbrev pub IsDry : List State → Type 0
IsDry states = (i : ℕ) → i < length states → (state_at states i).entries ≡ []

-- no consumer that rests has one
abbrev pub HasNoCandidate : List State → List Bool → Type 0
HasNoCandidate states resting = (i : ℕ) → i < length states → flag_at resting i ≡ true → (state_at states i).entries ≡ []

-- the next consumer to spill for an ask: none only where there is no candidate
abbrev pub IsNext : List State → List Bool → Option ℕ → Type 0
IsNext states resting (Some i) = (i < length states) × IsCandidate states resting i
IsNext states resting None = HasNoCandidate states resting

-- the same for the innermost ask: also none where it has what it needs
abbrev pub IsNextForTop : List State → List Bool → List Ask → Option ℕ → Type 0
IsNextForTop states resting asks (Some i) = (i < length states) × IsCandidate states resting i × ((top_of asks).got < (top_of asks).need)
IsNextForTop states resting asks None = (top_of asks).got < (top_of asks).need → HasNoCandidate states resting

-- the stack of asks

-- each spill in progress is counted: it has an ask of its own, beside the outermost
abbrev pub CountsSpills : Stack → Type 0
CountsSpills scene = length scene.asks ≤ scene.deepest + 1

-- the task's consumers are among all, and the others have no entry in memory
pub record ArePicks (picks : List ℕ) (states : List State) : Type 0 where
  pub within : (j : ℕ) → j < length picks → slice_index picks j < length states
  pub inert : (i : ℕ) → i < length states → ((j : ℕ) → j < length picks → slice_index picks j ≢ i) → (state_at states i).entries ≡ []

-- a consumer is one of the task's own
pub record IsPick (picks : List ℕ) (place : ℕ) : Type 0 where
  pub consumer : ℕ
  pub within : consumer < length picks
  pub there : slice_index picks consumer ≡ place

-- a consumer with an entry in memory was begun
abbrev pub AreBegun : List State → Type 0
AreBegun states = (i : ℕ) → i < length states → (state_at states i).entries ≢ [] → IsSome (state_at states i).kind

-- the consumer is amid a spill that asked for bytes, wrote nothing, and gave so many bytes back
pub record IsAmidSpill (state : State) (given : ℕ) : Type 0 where
  pub spills : is_rest state.stage ≡ false
  pub asked : (current state).asked ≡ true
  pub start : IsUnwritten state given
  pub entries : state.entries ≢ []

-- the asks stand on each other: each but the outermost is of a consumer that spills for the one below it. So there are no
-- more spills in progress than consumers, each consumer once
pub record IsStack (scene : Stack) : Type 0 where
  pub some : 1 ≤ length scene.asks
  pub lengths : length scene.runs ≡ length scene.states
  pub bounded : AreTaskRuns scene.runs
  pub picked : ArePicks scene.picks scene.states
  pub rests : scene.resting ≡ resting_of scene.states
  pub begun : AreBegun scene.states
  pub count : spills_of scene.states + 1 ≡ length scene.asks
  pub within : (k : ℕ) → 1 ≤ k → k < length scene.asks → (ask_at scene.asks k).place < length scene.states
  pub stands : (k : ℕ) → 1 ≤ k → k < length scene.asks → IsAmidSpill (state_at scene.states (ask_at scene.asks k).place) (ask_at scene.asks k).freed
  pub apart : (j k : ℕ) → 1 ≤ j → j < k → k < length scene.asks → (ask_at scene.asks j).place ≢ (ask_at scene.asks k).place
  pub needs : (k : ℕ) → k < length scene.asks → (ask_at scene.asks k).need ≤ 2 ^ 50
  pub covered : used_by scene.states + pending_of scene.asks ≤ scene.account.held
  pub small : scene.account.held ≤ 2 ^ 50
  pub counted : CountsSpills scene
  pub shallow : scene.deepest ≤ length scene.states

-- where the innermost ask lacks bytes, the last attempt was granted less than it asked, and less than that ask needs; what is
-- held is then at least the floor
abbrev pub IsTried : Stack → Type 0
IsTried scene = (top_of scene.asks).got < (top_of scene.asks).need
    → WasShort scene.account (top_of scene.asks).need × (scene.account.floor ≤ scene.account.held)
