-- Bytes for one consumer.
-- This project's own.
use Rattle.std.specs.Prelude.{◌≡◌, ℕ, ◌+◌, ◌≤◌, ◌<◌, ◌^◌, ◌⊎◌, true, [], ◌∷◌, length, replicate, ⊤}
use Rattle.consumer_trait.specs.States.{Rest}
use Rattle.consumer_trait.specs.Members.{state_at}
use Rattle.task_memory.specs.declared.ask.Ask.{Ask}
use Rattle.task_memory.specs.declared.spills.Spills.{Spills}
use Rattle.task_memory.specs.declared.obtained.Obtained.{Obtained}
use Rattle.task_memory.specs.declared.obtained.Obtained.TheVariants.{Got, NoRoom}
use Rattle.task_pool.specs.Accounts.{WasShort}
use Rattle.task_memory.specs.RunLists.{AreTaskRuns, runs_in}
use Rattle.task_memory.specs.Stacks.{Stack, ArePicks, AreBegun, CountsSpills, IsDry, used_by}
use Rattle.task_memory.specs.Serving.{KeepsOne, KeepsRuns}

-- all consumers rest, those with an entry were begun, and what they use is held; and the most spills that were in progress at once
-- are counted, and were never more than consumers
pub record IsReady (scene : Stack) : Type 0 where
  pub lengths : length scene.runs ≡ length scene.states
  pub bounded : AreTaskRuns scene.runs
  pub picked : ArePicks scene.picks scene.states
  pub begun : AreBegun scene.states
  pub rests : (i : ℕ) → i < length scene.states → (state_at scene.states i).stage ≡ Rest
  pub covered : used_by scene.states ≤ scene.account.held
  pub small : scene.account.held ≤ 2 ^ 50
  pub counted : CountsSpills scene
  pub shallow : scene.deepest ≤ length scene.states

-- the stack of one ask over so many resting consumers
pub record Opens (count : ℕ) (ask : Ask) (old new : Spills) : Type 0 where
  pub picks : new.picks ≡ old.picks
  pub runs : new.runs ≡ old.runs
  pub flags : new.resting.items ≡ replicate count true
  pub asks : new.asks.items ≡ ask ∷ []
  pub deepest : new.deepest ≡ old.deepest

-- the consumers keep what they were fed, and the bytes that are held beside theirs are `extra` more
pub record Keeps (old new : Stack) (extra : ℕ) : Type 0 where
  pub consumers : length new.states ≡ length old.states
  pub picks : new.picks ≡ old.picks
  pub kept : (i : ℕ) → i < length old.states → KeepsOne (state_at old.states i) (state_at new.states i)
  pub runs : KeepsRuns old.files new.files old.states new.states old.runs new.runs
  pub shorts : old.account.shorts ≤ new.account.shorts
  pub ready : IsReady new
  pub balance : new.account.held + used_by old.states ≡ old.account.held + used_by new.states + extra

-- a run was added only where some attempt was granted less than it asked
abbrev pub SpillsWhenShort : Stack → Stack → Type 0
SpillsWhenShort old new = (new.runs ≡ old.runs) ⊎ (old.account.shorts < new.account.shorts)

-- as many runs were added at most as attempts were granted less than they asked
abbrev pub AddsFewRuns : Stack → Stack → Type 0
AddsFewRuns old new = runs_in new.runs + old.account.shorts ≤ runs_in old.runs + new.account.shorts

-- there is no room for an ask: no consumer has an entry left, and the last attempt was granted less than it asked, and less
-- than the ask; with what is held the ask passes the floor
pub record IsOutOfRoom (scene : Stack) (must : ℕ) : Type 0 where
  pub dry : IsDry scene.states
  pub short : WasShort scene.account must
  pub floored : scene.account.floor < must + scene.account.held

-- at least so many bytes were got, or there is no room for them and nothing is kept of what was got
abbrev pub Obtains : Stack → Stack → ℕ → Obtained → Type 0
Obtains old new must (Got got) = (must ≤ got) × Keeps old new got
Obtains old new must NoRoom = IsOutOfRoom new must × Keeps old new 0

-- at most so many bytes were got
abbrev pub GotAtMost : ℕ → Obtained → Type 0
GotAtMost most (Got got) = got ≤ most
GotAtMost most NoRoom = ⊤
