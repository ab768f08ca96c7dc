-- What every legal journal keeps, in bytes, for its reader: after each of its entries, and at each of its attempts.
-- After Spark: UnifiedMemoryManager and ExecutionMemoryPool. That tasks begin and end is this project's own.
use Rattle.std.specs.Prelude.{ℕ, ◌≡◌, ◌+◌, ◌≤◌, ◌<◌, Some, List, slice_get}
use Rattle.pool_ledger.specs.declared.entry.Entry.{Entry}
use Rattle.pool_ledger.specs.declared.entry.Event.TheVariants.{Attempt}
use Rattle.pool_ledger.specs.Sizes.{Sizes}
use Rattle.pool_ledger.specs.History.{held, begins, ends}
use Rattle.pool_ledger.specs.Journal.{history_of, after}
use Rattle.pool_ledger.specs.Answers.{Moment, moment, greatest_share, least_share}
use Rattle.pool_ledger.specs.Legal.{settled}
use Rattle.pool_laws.specs.Laws.{NeverPasses}

-- a grant: the place of its entry in the journal, from 0, the task, what it asked, and what it was granted
pub record Grant : Type 0 where
  pub place : ℕ
  pub task : ℕ
  pub asked : ℕ
  pub granted : ℕ

-- the journal has this grant: at its place is an attempt of the task, of whatever worker, that wasn't told to wait
pub record IsGrantOf (journal : List Entry) (grant : Grant) : Type 0 where
  pub worker : ℕ
  pub moved : ℕ
  pub evictions : ℕ
  pub there : slice_get journal grant.place ≡ Some (record { worker = worker; event = Attempt grant.task grant.asked moved evictions (Some grant.granted) })

-- the numbers at that event: what was there before it and its evictions, after its growth, with the task active
abbrev pub moment_of : Sizes → List Entry → Grant → Moment
moment_of setup journal grant = moment setup (settled (after grant.place journal)) grant.task grant.asked

-- what the task holds after the grant
abbrev pub held_after : List Entry → Grant → ℕ
held_after journal grant = held (after (grant.place + 1) journal) grant.task

-- what a legal journal keeps
pub record IsSafeJournal (setup : Sizes) (journal : List Entry) : Type 0 where
  -- after every entry, tasks hold no more than the execution pool, blocks take no more than the storage pool, and the
  -- pools add up to what there is
  pub never_passes : (n : ℕ) → NeverPasses setup (after n journal)
  -- a grant above 0 leaves the task with at most the limit divided by the active tasks
  pub no_grant_passes : (grant : Grant) → IsGrantOf journal grant → 0 < grant.granted
      → held_after journal grant ≤ greatest_share (moment_of setup journal grant)
  -- a grant below what was asked leaves the task with at least half an equal part of the execution pool
  pub short_grants : (grant : Grant) → IsGrantOf journal grant → grant.granted < grant.asked
      → least_share (moment_of setup journal grant) ≤ held_after journal grant
  -- once a task is ended it holds nothing, from then on
  pub ended_hold_nothing : (n task : ℕ) → 0 < ends (after n journal) task → held (after n journal) task ≡ 0
  -- no task is begun twice
  pub begun_once : (task : ℕ) → begins (history_of journal) task ≤ 1
  -- no task is ended twice, nor before it was begun
  pub ended_once : (task : ℕ) → ends (history_of journal) task ≤ 1
  pub ended_after_begun : (n task : ℕ) → ends (after n journal) task ≤ begins (after n journal) task
