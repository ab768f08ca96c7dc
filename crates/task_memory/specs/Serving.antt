-- What serving the asks does, step by step and as a whole.
-- This project's own.
use Rattle.std.specs.Prelude.{◌≡◌, ◌≢◌, ℕ, ◌+◌, ◌-◌, ◌*◌, ◌≤◌, ◌<◌, max, true, false, Bool, List, [], Option, None, length}
use mathlib.Core.List.{IsPrefix}
use Rattle.aggregate.specs.Totals.{costs}
use Rattle.spill_disk.specs.Files.{Files}
use Rattle.run_file.specs.declared.run.Run.{Run}
use Rattle.consumer_trait.specs.States.{State, current}
use Rattle.consumer_trait.specs.Members.{state_at, OnlyAt}
use Rattle.task_memory.specs.declared.spill.Pause.{Pause}
use Rattle.task_memory.specs.declared.spill.Pause.TheVariants.{Asks, Ended}
use Rattle.task_memory.specs.Asks.{ask_at, lacking, pending_of, top_of}
use Rattle.task_memory.specs.Disks.{KeepsFiles}
use Rattle.task_memory.specs.RunLists.{runs_at, runs_in, AreTaskRuns, KeepTotals}
use Rattle.task_memory.specs.Writing.{AddedAreNew, OnlyAdds}
use Rattle.task_memory.specs.Pauses.{AsksFor, EndsInOneRun}
use Rattle.consumer_trait.specs.Calls.{SameConsumer}
use Rattle.task_memory.specs.Stacks.{Stack, IsStack, IsTried, IsDry, used_by, entries_in}

-- each consumer has the runs that it had, and maybe more
abbrev pub RunsGrow : List (List Run) → List (List Run) → Type 0
RunsGrow runs runs' = (i : ℕ) → IsPrefix (runs_at runs i) (runs_at runs' i)

-- what a spill of one consumer does to the runs: where they stood, they stand, and those that it adds are in files that weren't
-- there; a consumer that wasn't begun, or has no entry in memory, gets no run
pub record KeepsRuns (files files' : Option Files) (states states' : List State) (runs runs' : List (List Run)) : Type 0 where
  pub lengths : length runs' ≡ length runs
  pub bounded : AreTaskRuns runs → AreTaskRuns runs'
  pub grow : RunsGrow runs runs'
  pub totals : KeepTotals files files' states states' runs runs'
  pub stay : KeepsFiles files files'
  pub added : AddedAreNew files runs runs'
  pub only : OnlyAdds files files' runs runs'
  pub unbegun : (i : ℕ) → (state_at states i).kind ≡ None → runs_at runs' i ≡ runs_at runs i
  pub idle : (i : ℕ) → (state_at states i).entries ≡ [] → runs_at runs' i ≡ runs_at runs i

-- a spill of the consumer at a place asks for bytes: it has no run
pub record AsksAt (files files' : Option Files) (states states' : List State) (runs runs' : List (List Run)) (i before bytes given : ℕ) : Type 0 where
  pub asks : AsksFor (state_at states i) (state_at states' i) before bytes given
  pub others : OnlyAt states states' i
  pub same_files : files' ≡ files
  pub same_runs : runs' ≡ runs

-- a spill of the consumer at a place ended
pub record EndsAt (files files' : Option Files) (states states' : List State) (runs runs' : List (List Run)) (i before given : ℕ) (run : Option Run) : Type 0 where
  pub ends : EndsInOneRun (state_at states i) (state_at states' i) files files' run before given
  pub others : OnlyAt states states' i
  pub kept : KeepsRuns files files' states states' runs runs'
  pub one : runs_in runs' ≤ runs_in runs + 1

-- where it stands then
abbrev pub SpillsAt : Option Files → Option Files → List State → List State → List (List Run) → List (List Run) → ℕ → ℕ → Pause → Type 0
SpillsAt files files' states states' runs runs' i before (Asks bytes given) = AsksAt files files' states states' runs runs' i before bytes given
SpillsAt files files' states states' runs runs' i before (Ended given run) = EndsAt files files' states states' runs runs' i before given run

-- what one consumer keeps through spills
pub record KeepsOne (old new : State) : Type 0 where
  pub same : SameConsumer old new
  pub shorter : length new.entries ≤ length old.entries
  pub gained : new.entries ≢ [] → (current old).mark ≤ (current new).mark
  pub empty : (old.entries ≡ [] → old.used ≡ 0) → new.entries ≡ [] → new.used ≡ 0
  pub idle : old.entries ≡ [] → new.used ≡ old.used
  pub covered : costs old.entries ≤ old.used → costs new.entries ≤ new.used

-- what steps keep: the consumers, what was fed to them, the bytes that are held beside theirs, and the outermost ask
pub record KeepsInSteps (old new : Stack) : Type 0 where
  pub consumers : length new.states ≡ length old.states
  pub picks : new.picks ≡ old.picks
  pub kept : (i : ℕ) → i < length old.states → KeepsOne (state_at old.states i) (state_at new.states i)
  pub runs : KeepsRuns old.files new.files old.states new.states old.runs new.runs
  pub shorts : old.account.shorts ≤ new.account.shorts
  pub balance : new.account.held + (used_by old.states + pending_of old.asks) ≡ old.account.held + (used_by new.states + pending_of new.asks)
  pub need : (ask_at new.asks 0).need ≡ (ask_at old.asks 0).need
  pub freed : (ask_at new.asks 0).freed ≡ (ask_at old.asks 0).freed
  pub deeper : old.deepest ≤ new.deepest
  pub still : (ask_at old.asks 0).need ≡ 0 → (ask_at new.asks 0).got ≡ (ask_at old.asks 0).got

-- for the outermost ask no more was got than it had got before or needs
abbrev pub GetsFew : Stack → Stack → Type 0
GetsFew old new = (ask_at new.asks 0).got ≤ max (ask_at old.asks 0).got (ask_at old.asks 0).need

-- each run that was added, each spill that is in progress and one more that the innermost ask may begin has an attempt of its own
-- that was granted less than it asked, but for so many
abbrev pub AddsRunsWithin : ℕ → Stack → Stack → Type 0
AddsRunsWithin free old new =
    runs_in new.runs + length new.asks + lacking (top_of new.asks) + old.account.shorts ≤ runs_in old.runs + length old.asks + free + new.account.shorts

-- what is left to do: it falls with each entry that is written, and with each ask that a spill makes
abbrev pub remaining : Stack → ℕ
remaining scene = 2 * entries_in scene.states + (length scene.states + 1 - length scene.asks)

-- a step: a spill began or went on
pub record Steps (old new : Stack) : Type 0 where
  pub stack : IsStack new
  pub tried : IsTried new
  pub moves : KeepsInSteps old new
  pub few : GetsFew old new
  pub falls : remaining new < remaining old

-- nothing is left to do: one ask stands, and is met or can't be
pub record IsServed (scene : Stack) : Type 0 where
  pub single : length scene.asks ≡ 1
  pub dry : (ask_at scene.asks 0).got < (ask_at scene.asks 0).need → IsDry scene.states

-- a step was made, or none was left
abbrev pub StepGives : Stack → Stack → Bool → Type 0
StepGives old new true = Steps old new
StepGives old new false = (new ≡ old) × IsServed old

-- the asks were served until one is left, which is met or can't be
pub record Serves (old new : Stack) : Type 0 where
  pub stack : IsStack new
  pub tried : IsTried new
  pub moves : KeepsInSteps old new
  pub few : GetsFew old new
  pub served : IsServed new
  pub falls : remaining new ≤ remaining old
