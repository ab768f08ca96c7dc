-- The last worker that is taken off a list of all workers.
use Rattle.std.proofs.Common.{◌≡◌, ℕ, ◌+◌, List, [], ◌∷◌, ◌++◌, length, get_or, ap, sym, ◌∙◌, subst, arith}
use Rattle.std.proofs.Math.Seq.{get_or-append_seam}
use Rattle.turn_lock.specs.Passes.{LockId, WorkerView}
use Rattle.memory_lock.specs.Crew.{IsWorker, AreWorkers}
use Rattle.memory_lock.proofs.Crews.{length_push}

-- it is the worker of its number
pub last_is : (lock : LockId) (count : ℕ) (ws xs : List WorkerView) (a : WorkerView) → AreWorkers lock count ws → ws ≡ xs ++ a ∷ [] → IsWorker lock count a.number a
last_is lock count ws xs a all is =
    let long : length ws ≡ length xs + 1 = ap length is ∙ length_push xs a in
    let there : count ≡ length xs + 1 = sym all.0 ∙ long in
    let its : IsWorker lock count (length xs) a = subst (IsWorker lock count (length xs)) (ap (λ (l : List WorkerView). get_or l (length xs) a) is ∙ get_or-append_seam xs a [] a) (all.1 (length xs) a (omega arith)) in
    subst (λ (n : ℕ). IsWorker lock count n a) (sym its.number_is) its
