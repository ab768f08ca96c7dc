-- What a task holds from its start on, beside its consumers' use.
-- This project's own.
use Rattle.std.specs.Prelude.{◌≡◌, ℕ, ◌+◌, ◌≤◌, ◌<◌, ◌^◌, List, sum_by}
use Rattle.consumer_trait.specs.States.{State}
use Rattle.consumer_trait.specs.Members.{state_at}
use Rattle.task_pool.specs.Accounts.{Held, WasShort}
use Rattle.task_memory.specs.Stacks.{IsDry}

-- the leasts of the consumers at these places, added up
abbrev pub leasts_of : List ℕ → List State → ℕ
leasts_of picks states = sum_by (λ i. (state_at states i).least) picks

-- so many bytes were got for leasts, and nothing else is held
pub record TakesLeasts (new : Held) (leasts sum : ℕ) : Type 0 where
  pub all : sum ≡ leasts
  pub holds : new.held ≡ sum
  pub small : new.held ≤ 2 ^ 50

-- a least was lacking: with what the task holds it is at most the sum of the leasts
pub record IsLeastLacking (new : Held) (leasts asked : ℕ) : Type 0 where
  pub few : asked + new.held ≤ leasts
  pub short : WasShort new asked
  pub floored : new.floor < asked + new.held

-- a least was lacking, and no consumer is there to spill
pub record CannotStart (new : Held) (leasts : ℕ) (states : List State) (asked : ℕ) : Type 0 where
  pub lacks : IsLeastLacking new leasts asked
  pub dry : IsDry states
