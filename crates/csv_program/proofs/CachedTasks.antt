-- What the journal tells of cached blocks, pass by pass.
use Rattle.std.proofs.Common.{◌≡◌, ℕ, ◌+◌, ◌*◌, ◌<◌, ◌≤◌, ◌%◌, ◌/◌, ◌++◌, List, Option, Some, None, length, get_or, sym, subst, inl, inr, arith}
use Rattle.std.specs.Prelude.{IfSome, slice_index_or}
use Rattle.std.proofs.Math.Nat.{mod-lt}
use Rattle.std.proofs.lemmas.Bool.{cases_lt}
use Rattle.pool_ledger.specs.declared.entry.Entry.{Entry}
use Rattle.turn_lock.specs.Passes.{LockId, WorkerView}
use Rattle.memory_lock.specs.Crew.{AreWorkers, HasAll}
use Rattle.job_plan.specs.Plans.{chain_in, passes_in}
use Rattle.job_plan.specs.declared.query_plan.Plan.{Plan}
use Rattle.lineage.specs.LineageViews.{name_for}
use Rattle.lineage.specs.Telling.{nearest}
use Rattle.task_runner.specs.Blocks.{TellsBlock, TellsTask}
use Rattle.task_runner.specs.PassViews.{PassView, parts_of, task_for}
use Rattle.task_runner.specs.Workers.{part_at}
use Rattle.task_runner.proofs.OfPartitions.{part_is}
use Rattle.task_runner.proofs.ToldBlocks.{block_later, task_later}
use Rattle.csv_program.specs.Cached.{EachTells, TellsAt, TellsPasses}
use Rattle.csv_program.specs.Doing.{EachSees}

-- ---- one pass

-- what each worker tells of its tasks is told of each partition
pub by_part : (pass : PassView) (count : ℕ) (workers : List WorkerView) → 1 ≤ count
    → ((worker k : ℕ) (any : WorkerView) → worker < count → part_at count worker k < parts_of pass → TellsTask pass (part_at count worker k) (get_or workers worker any))
    → (part : ℕ) (any : WorkerView) → part < parts_of pass → TellsTask pass part (get_or workers (part % count) any)
by_part pass count workers some told part any within =
    let is = part_is count part in
    subst (λ (p : ℕ). TellsTask pass p (get_or workers (part % count) any)) is
    (told (part % count) (part / count) any (mod-lt part some) (subst (λ (p : ℕ). p < parts_of pass) (sym is) within))

-- and stays so
pub parts_later : (pass : PassView) (count : ℕ) (mids news : List WorkerView) → 1 ≤ count → EachSees count mids news
    → ((part : ℕ) (any : WorkerView) → part < parts_of pass → TellsTask pass part (get_or mids (part % count) any))
    → (part : ℕ) (any : WorkerView) → part < parts_of pass → TellsTask pass part (get_or news (part % count) any)
parts_later pass count mids news some sees told part any within =
    task_later pass part (get_or mids (part % count) any) (get_or news (part % count) any) (sees (part % count) any (mod-lt part some)) (told part any within)

-- ---- all passes

at_later : (plan : Plan) (count partitions pass part : ℕ) (seen more : List Entry) → TellsAt plan count partitions pass part seen → TellsAt plan count partitions pass part (seen ++ more)
at_later plan count partitions pass part seen more told = by (nearest (chain_in plan) (slice_index_or (passes_in plan) pass 0)) told
  where
    by : (kept : Option ℕ) → IfSome kept (λ kept. TellsBlock (part % count) (part + pass * (partitions + 1)) (name_for (chain_in plan) kept) part seen)
        → IfSome kept (λ kept. TellsBlock (part % count) (part + pass * (partitions + 1)) (name_for (chain_in plan) kept) part (seen ++ more))
    by None told = tt
    by (Some kept) told = block_later (part % count) (part + pass * (partitions + 1)) (name_for (chain_in plan) kept) part seen more told

-- the task of a partition, by the number of its pass
at_pass : (plan : Plan) (pass : PassView) (count k part : ℕ) (worker : WorkerView) → pass.plan ≡ plan → pass.dataset ≡ slice_index_or (passes_in plan) k 0 → pass.first ≡ k * (parts_of pass + 1) → worker.number ≡ part % count
    → TellsTask pass part worker → TellsAt plan count (parts_of pass) k part worker.seen
at_pass plan pass count k part worker same is first number told =
    subst (λ (p : Plan). IfSome (nearest (chain_in p) (slice_index_or (passes_in plan) k 0)) (λ kept. TellsBlock (part % count) (part + k * (parts_of pass + 1)) (name_for (chain_in p) kept) part worker.seen)) same
    (subst (λ (d : ℕ). IfSome (nearest (chain_in pass.plan) d) (λ kept. TellsBlock (part % count) (part + k * (parts_of pass + 1)) (name_for (chain_in pass.plan) kept) part worker.seen)) is
    (subst (λ (t : ℕ). IfSome (nearest (chain_in pass.plan) pass.dataset) (λ kept. TellsBlock (part % count) (part + t) (name_for (chain_in pass.plan) kept) part worker.seen)) first
    (subst (λ (n : ℕ). IfSome (nearest (chain_in pass.plan) pass.dataset) (λ kept. TellsBlock n (task_for pass part) (name_for (chain_in pass.plan) kept) part worker.seen)) number told)))

pub each_later : (plan : Plan) (count partitions passes : ℕ) (mids news : List WorkerView) → 1 ≤ count → EachSees count mids news → EachTells plan count partitions passes mids → EachTells plan count partitions passes news
each_later plan count partitions passes mids news some sees told pass part any below within =
    let more = sees (part % count) any (mod-lt part some) in
    subst (TellsAt plan count partitions pass part) more.begins.1 (at_later plan count partitions pass part (get_or mids (part % count) any).seen more.begins.0 (told pass part any below within))

-- one pass more
pub each_more : (plan : Plan) (pass : PassView) (lock : LockId) (count k : ℕ) (mids news : List WorkerView) → 1 ≤ count → pass.plan ≡ plan → pass.dataset ≡ slice_index_or (passes_in plan) k 0 → pass.first ≡ k * (parts_of pass + 1)
    → AreWorkers lock count news → EachSees count mids news → ((part : ℕ) (any : WorkerView) → part < parts_of pass → TellsTask pass part (get_or news (part % count) any))
    → EachTells plan count (parts_of pass) k mids → EachTells plan count (parts_of pass) (k + 1) news
each_more plan pass lock count k mids news some same is first are sees told sofar p part any below within = elim (cases_lt p k) [
  | inl low ↦ each_later plan count (parts_of pass) k mids news some sees sofar p part any low within
  | inr high ↦
      let here : k ≡ p = omega (arith, high, below) in
      subst (λ (n : ℕ). TellsAt plan count (parts_of pass) n part (get_or news (part % count) any).seen) here
      (at_pass plan pass count k part (get_or news (part % count) any) same is first (are.1 (part % count) any (mod-lt part some)).number_is (told part any within))
]

-- and the journal begins with all that each worker has seen
pub journal_tells : (plan : Plan) (count partitions passes : ℕ) (lock : LockId) (workers : List WorkerView) (any : WorkerView) (journal : List Entry) → 1 ≤ count → AreWorkers lock count workers → HasAll workers journal
    → EachTells plan count partitions passes workers → TellsPasses plan count partitions passes journal
journal_tells plan count partitions passes lock workers any journal some are all told pass part below within =
    let size = are.0 in
    let inside : part % count < length workers = let low = mod-lt part some in omega (arith, low, size) in
    let begins = (all (part % count) any inside).begins in
    subst (TellsAt plan count partitions pass part) begins.1 (at_later plan count partitions pass part (get_or workers (part % count) any).seen begins.0 (told pass part any below within))
