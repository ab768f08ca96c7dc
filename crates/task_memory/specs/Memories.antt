-- A task's memory as its callers see it, and what each call keeps of it, also one that gives up.
-- This project's own.
use Rattle.std.specs.Prelude.{◌≡◌, ℕ, ◌+◌, ◌≤◌, ◌<◌, Bool, true, IsSome, Result, is_ok, OnErr, length, slice_index}
use Rattle.aggregate.specs.Totals.{Entry}
use Rattle.row_page.specs.Pages.{PageView, empty_page}
use Rattle.fault_count.specs.Faults.{HasCauseAt}
use Rattle.consumer_trait.specs.States.{room}
use Rattle.consumer_trait.specs.Calls.{charge}
use Rattle.consumer_trait.specs.Members.{state_at}
use Rattle.task_pool.specs.Pools.{Goes, IsAtWork, PoolState}
use Rattle.task_pool.specs.Workers.{own_entries}
use Rattle.task_memory.specs.declared.fault.TaskFault.{TaskFault}
use Rattle.task_memory.specs.declared.fault.TaskFault.TheVariants.{DiskFault}
use Rattle.task_memory.specs.Disks.{LeavesDisk}
use Rattle.task_memory.specs.Pauses.{AllSame}
use Rattle.task_memory.specs.Stacks.{CountsSpills, Stack, used_by}
use Rattle.task_memory.specs.Asking.{IsReady}
use Rattle.task_memory.specs.Feeding.{OthersSame}

-- what is lent to the memory, by name: who lent it finds it again by this
pub record Lent : Type 0 where
  pub pool : ℕ
  pub consumers : ℕ
  pub disk : ℕ

-- the consumers with their runs, files and account; the page that spills are written by; how often the disk failed; the pool
-- with the task and its worker; the leasts that are held; what was got as room; whether no call gave up; and what is lent
pub record Scene : Type 0 where
  pub stack : Stack
  pub page : PageView
  pub faults : ℕ
  pub pool : PoolState
  pub leasts : ℕ
  pub roomed : ℕ
  pub live : Bool
  pub lent : Lent

-- the consumer's place among all
abbrev pub place_in : Scene → ℕ → ℕ
place_in scene consumer = slice_index scene.stack.picks consumer

-- Between two calls

-- all rest, and the page is empty
pub record IsResting (scene : Scene) : Type 0 where
  pub ready : IsReady scene.stack
  pub page : scene.page ≡ empty_page
  pub at_work : IsAtWork scene.pool

-- the memory is ready for a call, and each of the task's consumers was begun. What the task holds is the leasts that aren't
-- freed, what its consumers use, and what was got as room and not given back
pub record IsBetween (scene : Scene) : Type 0 where
  pub rests : IsResting scene
  pub begun : (j : ℕ) → j < length scene.stack.picks → IsSome (state_at scene.stack.states (slice_index scene.stack.picks j)).kind
  pub holds : scene.stack.account.held ≡ scene.leasts + used_by scene.stack.states + scene.roomed

-- the memory is ready, and no call gave up
pub record IsLive (scene : Scene) : Type 0 where
  pub between : IsBetween scene
  pub live : scene.live ≡ true

-- What each call keeps, also one that gives up

-- what is lent, and what is held beside the consumers' bytes
pub record Stays (old new : Scene) : Type 0 where
  pub lent : new.lent ≡ old.lent
  pub leasts : new.leasts ≡ old.leasts
  pub roomed : new.roomed ≡ old.roomed

-- the count of the most spills that were ever in progress at once doesn't fall, and it has counted those whose asks stand then, also
-- where a call gave up amid them
pub record Deepens (old new : Stack) : Type 0 where
  pub grows : old.deepest ≤ new.deepest
  pub counts : CountsSpills old → CountsSpills new

-- what a call keeps that feeds no consumer: of the consumers, of the disk, of the pool, and what is lent
pub record GoesOn (old new : Scene) : Type 0 where
  pub same : AllSame old.stack.states new.stack.states
  pub disk : LeavesDisk old.stack.files new.stack.files old.faults new.faults
  pub pool : Goes old.pool new.pool
  pub stays : Stays old new
  pub deeper : Deepens old.stack new.stack

-- the same of a call that may feed the consumer at a place
pub record GoesOnBut (old new : Scene) (place : ℕ) : Type 0 where
  pub others : OthersSame old.stack.states new.stack.states place
  pub disk : LeavesDisk old.stack.files new.stack.files old.faults new.faults
  pub pool : Goes old.pool new.pool
  pub stays : Stays old new
  pub deeper : Deepens old.stack new.stack

-- where the consumer has room for an entry, the pool isn't asked
abbrev pub AsksNothing : Scene → Scene → ℕ → Entry → Type 0
AsksNothing old new place entry =
    let state = state_at old.stack.states place in
    charge state.kind state.entries entry ≤ room state → own_entries new.pool.worker ≡ own_entries old.pool.worker

-- what a call keeps that may feed an entry; where the consumer has room for it, the pool isn't asked
pub record FeedsOn (old new : Scene) (place : ℕ) (entry : Entry) : Type 0 where
  pub goes : GoesOnBut old new place
  pub still : AsksNothing old new place entry

-- whether a call gave up, and why: the disk's count rose; no consumer was fed then
pub record Fails {T : Type 0} (old new : Scene) (result : Result T TaskFault) : Type 0 where
  pub cause : HasCauseAt DiskFault old.faults new.faults result
  pub live_is : new.live ≡ is_ok result
  pub unfed : OnErr result (AllSame old.stack.states new.stack.states)

-- only the pool was asked, or given back to
pub record DrawsAlone (old new : Scene) : Type 0 where
  pub stack : new.stack ≡ record old.stack { account = new.stack.account }
  pub page : new.page ≡ old.page
  pub faults : new.faults ≡ old.faults
  pub pool : Goes old.pool new.pool
  pub lent : new.lent ≡ old.lent
