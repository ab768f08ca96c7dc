-- The two workers of a manager, as they are taken off its list and as they come back.
use Rattle.std.proofs.Common.{◌≡◌, ◌∙◌, ℕ, zero, suc, ◌<◌, List, [], ◌∷◌, get_or, None, sym, subst, arith}
use Rattle.turn_lock.specs.Passes.{LockId, WorkerView}
use Rattle.memory_lock.specs.Crew.{AreNew, AreWorkers, IsWorker}
use Rattle.memory_lock.specs.Workers.{SeesMore}

-- a new worker of this number
abbrev IsNew : LockId → ℕ → ℕ → WorkerView → Type 0
IsNew lock count number worker = IsWorker lock count number worker × (worker.seen ≡ [])

-- they are new workers 0 and 1
pub one_is : (lock : LockId) (count : ℕ) (ws : List WorkerView) (one other : WorkerView) → count ≡ 2 → AreWorkers lock count ws → AreNew ws → ws ≡ one ∷ other ∷ [] → IsNew lock count 0 one
one_is lock count ws one other two all new is =
    let long = all.0 in
    subst (λ (l : List WorkerView). IsNew lock count 0 (get_or l 0 one)) is (all.1 0 one (omega (arith, two)), new 0 one (omega (arith, two, long)))

pub other_is : (lock : LockId) (count : ℕ) (ws : List WorkerView) (one other : WorkerView) → count ≡ 2 → AreWorkers lock count ws → AreNew ws → ws ≡ one ∷ other ∷ [] → IsNew lock count 1 other
other_is lock count ws one other two all new is =
    let long = all.0 in
    subst (λ (l : List WorkerView). IsNew lock count 1 (get_or l 1 other)) is (all.1 1 other (omega (arith, two)), new 1 other (omega (arith, two, long)))

-- both are all workers
pub both_back : (lock : LockId) (count : ℕ) (one other : WorkerView) → count ≡ 2 → IsWorker lock count 0 one → IsWorker lock count 1 other → AreWorkers lock count (one ∷ other ∷ [])
both_back lock count one other two first second = (sym two, each)
  where
    each : (number : ℕ) (any : WorkerView) → number < count → IsWorker lock count number (get_or (one ∷ other ∷ []) number any)
    each zero any less = first
    each (suc zero) any less = second
    each (suc (suc n)) any less = absurd (omega (arith, two))

-- a worker that has seen more is the worker of its number
pub worker_on : (lock : LockId) (count number : ℕ) (before after : WorkerView) → IsWorker lock count number before → SeesMore before after → after.base ≡ None → IsWorker lock count number after
worker_on lock count number before after was sees free = record {
  lock_is = sees.lock_is ∙ was.lock_is;
  number_is = sees.number_is ∙ was.number_is;
  speaks_is = sees.speaks_is ∙ was.speaks_is;
  last = λ is. sees.spare_is ∙ was.last is;
  others = λ is. sees.spare_is ∙ was.others is;
  free = free;
}
