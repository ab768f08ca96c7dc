-- A task's memory within a call, while asks are served.
-- This project's own.
use Rattle.std.specs.Prelude.{◌≡◌, ℕ, ◌<◌, Bool, [], length}
use Rattle.row_page.specs.Pages.{empty_page}
use Rattle.consumer_trait.specs.Members.{state_at}
use Rattle.task_pool.specs.Asks.{FirstAsks}
use Rattle.task_pool.specs.Pools.{IsAtWork}
use Rattle.task_memory.specs.declared.obtained.Obtained.{Obtained}
use Rattle.task_memory.specs.Stacks.{IsCandidate, IsStack, entries_in}
use Rattle.task_memory.specs.Serving.{Serves, StepGives, Steps}
use Rattle.task_memory.specs.Asking.{AddsFewRuns, GotAtMost, Keeps, Obtains, SpillsWhenShort}
use Rattle.task_memory.specs.Memories.{Scene}

-- the stack of asks stands
pub record IsStanding (scene : Scene) : Type 0 where
  pub stack : IsStack scene.stack
  pub page : scene.page ≡ empty_page
  pub at_work : IsAtWork scene.pool

-- the consumer at this place can be spilled
pub record CanSpill (scene : Scene) (place : ℕ) : Type 0 where
  pub within : place < length scene.stack.states
  pub candidate : IsCandidate scene.stack.states scene.stack.resting place

-- a spill began or went on, and the page is empty
pub record StepsOn (old new : Scene) : Type 0 where
  pub steps : Steps old.stack new.stack
  pub page : new.page ≡ empty_page

-- a step was made, or none was left, and the page is empty
pub record StepsIf (old new : Scene) (more : Bool) : Type 0 where
  pub steps : StepGives old.stack new.stack more
  pub page : new.page ≡ empty_page

-- the asks were served until one is left, which is met or can't be, and the page is empty
pub record ServesOn (old new : Scene) : Type 0 where
  pub serves : Serves old.stack new.stack
  pub page : new.page ≡ empty_page

-- what came of an ask
pub record ObtainsFor (old new : Scene) (must wish : ℕ) (obtained : Obtained) : Type 0 where
  pub obtains : Obtains old.stack new.stack must obtained
  pub few : GotAtMost wish obtained
  pub first : FirstAsks wish old.pool.worker new.pool.worker
  pub shorts : SpillsWhenShort old.stack new.stack
  pub few_runs : AddsFewRuns old.stack new.stack
  pub page : new.page ≡ empty_page

-- a consumer was spilled once, or until it is empty
pub record SpillsOne (old new : Scene) : Type 0 where
  pub keeps : Keeps old.stack new.stack 0
  pub falls : entries_in new.stack.states < entries_in old.stack.states
  pub page : new.page ≡ empty_page

-- the consumer at a place was spilled until it has no entry in memory
pub record Empties (old new : Scene) (place : ℕ) : Type 0 where
  pub keeps : Keeps old.stack new.stack 0
  pub empty : (state_at new.stack.states place).entries ≡ []
  pub page : new.page ≡ empty_page
