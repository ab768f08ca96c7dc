-- A manager's workers, before and after each of them played in a thread of its own.
use Rattle.std.proofs.Common.{◌≡◌, ◌∙◌, ◌<◌, ℕ, [], List, length, sym, subst}
use Rattle.std.specs.Prelude.{slice_index_or}
use Rattle.turn_lock.specs.Passes.{LockId, WorkerView}
use Rattle.memory_lock.specs.Crew.{AreNew, AreWorkers, IsWorker}

same_number : (lock : LockId) (count number : ℕ) (worker : WorkerView) → IsWorker lock count number worker → IsWorker lock count worker.number worker
same_number lock count number worker is = subst (λ (n : ℕ). IsWorker lock count n worker) (sym is.number_is) is

at_place : (lock : LockId) (count : ℕ) (ws : List WorkerView) → AreWorkers lock count ws → (i : ℕ) (x : WorkerView) → i < length ws → x ≡ slice_index_or ws i x → IsWorker lock count i x
at_place lock count ws all i x within is = subst (IsWorker lock count i) (sym is) (all.1 i x (subst (λ (n : ℕ). i < n) all.0 within))

pub starts : (lock : LockId) (count : ℕ) (ws : List WorkerView) → AreWorkers lock count ws → (i : ℕ) (x : WorkerView) → i < length ws → x ≡ slice_index_or ws i x → IsWorker lock count x.number x
starts lock count ws all i x within is = same_number lock count i x (at_place lock count ws all i x within is)

pub is_new : (ws : List WorkerView) → AreNew ws → (i : ℕ) (x : WorkerView) → i < length ws → x ≡ slice_index_or ws i x → x.seen ≡ []
is_new ws new i x within is = subst (λ (w : WorkerView). w.seen ≡ []) (sym is) (new i x within)

-- what a thread left of the worker at a place
pub record Plays (lock : LockId) (count : ℕ) (ws : List WorkerView) (i : ℕ) (after : WorkerView) : Type 0 where
  pub before : WorkerView
  pub stood : before ≡ slice_index_or ws i before
  pub its : IsWorker lock count before.number after

pub all_back : (lock : LockId) (count : ℕ) (ws rs : List WorkerView) → AreWorkers lock count ws → length rs ≡ length ws
    → ((i : ℕ) (d : WorkerView) → i < length ws → Plays lock count ws i (slice_index_or rs i d)) → AreWorkers lock count rs
all_back lock count ws rs all long each = (
  long ∙ all.0,
  λ i d below.
      let within : i < length ws = subst (λ (n : ℕ). i < n) (sym all.0) below in
      let at = each i d within in
      subst (λ (n : ℕ). IsWorker lock count n (slice_index_or rs i d)) (at_place lock count ws all i at.before within at.stood).number_is at.its,
)
