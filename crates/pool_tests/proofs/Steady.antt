-- A worker is as steady after a call as before it.
use Rattle.std.proofs.Common.{◌≡◌, ◌∙◌, ◌+◌, ◌∷◌, [], ℕ, List, false, refl, sym, ap, subst, arith}
use Rattle.std.specs.Prelude.{◌==◌, IfOk, OnOk, OnErr, None, Result, Ok, Err}
use Rattle.std.specs.List.{list_any}
use Rattle.std.proofs.lemmas.Bool.{ne_eqb}
use Rattle.pool_ledger.specs.declared.entry.Entry.{Entry}
use Rattle.pool_ledger.specs.declared.entry.Event.TheVariants.{Begin, Grow, Release}
use Rattle.pool_ledger.specs.History.{begun, grown_by, open_task, total, was_begun}
use Rattle.pool_ledger.specs.Blocks.{worker_pin}
use Rattle.pool_ledger.specs.Workers.{entries_of}
use Rattle.pool_ledger.specs.Journal.{history_of}
use Rattle.pool_laws.specs.Growing.{entry_by}
use Rattle.block_store.specs.declared.block.Block.{Block}
use Rattle.memory_core.specs.declared.admission.Admission.{Admission as Answer}
use Rattle.turn_lock.specs.Passes.{LockId, WorkerView}
use Rattle.memory_lock.specs.Crew.{IsWorker}
use Rattle.memory_lock.specs.Workers.{Adds, AddsAdmission, AddsGrant, AddsRemovals, AddsWaits, HasNoPin, IsOpen, KeepsPin, SeesMore, own_entries, own_of}
use Rattle.pool_tests.specs.Seats.{IsIdle, IsPlaying, IsSteady, at_rest}
use Rattle.pool_tests.proofs.Beginning.{begun_admit, begun_begins, begun_grant, begun_one, begun_removals, begun_same, begun_waits, LeavesBegun}

pub worker_on : (lock : LockId) (count number : ℕ) (before after : WorkerView) → IsWorker lock count number (at_rest before) → SeesMore before after → IsWorker lock count number (at_rest after)
worker_on lock count number before after was sees = record {
  lock_is = sees.lock_is ∙ was.lock_is;
  number_is = sees.number_is ∙ was.number_is;
  speaks_is = sees.speaks_is ∙ was.speaks_is;
  last = λ end. sees.spare_is ∙ was.last end;
  others = λ more. sees.spare_is ∙ was.others more;
  free = refl;
}

module _ (lock : LockId) (count number next : ℕ) (before after : WorkerView) (was : IsSteady lock count number next before) (sees : SeesMore before after) where
  -- what a call leaves, where it begins no task
  steady_on : HasNoPin after → begun (own_of after) ≡ begun (own_of before) → IsSteady lock count number next after
  steady_on no_pin same = record {
    its = worker_on lock count number before after was.its sees;
    no_pin = no_pin;
    fresh = λ task above. subst (λ (tasks : List ℕ). list_any (λ t. t == task) tasks ≡ false) (sym same) (was.fresh task above);
  }

  pub asked_on : {E : Type 0} (result : Result ℕ E) (task asked : ℕ) → KeepsPin before after
      → IfOk result (λ got. AddsGrant before.number task asked got (own_entries before) (own_entries after))
      → OnErr result (AddsWaits before.number task asked (own_entries before) (own_entries after)) → IsSteady lock count number next after
  asked_on (Ok got) task asked pin ok err = steady_on (pin ∙ was.no_pin) (begun_grant before.number task asked got (own_entries before) (own_entries after) ok)
  asked_on (Err fault) task asked pin ok err = steady_on (pin ∙ was.no_pin) (begun_waits before.number task asked (own_entries before) (own_entries after) err)

  pub released_on : {E : Type 0} (result : Result ℕ E) (task : ℕ) → KeepsPin before after
      → IfOk result (λ freed. Adds before after (entry_by before.number (Release task freed) ∷ []))
      → OnErr result (own_entries after ≡ own_entries before) → IsSteady lock count number next after
  released_on (Ok freed) task pin ok err = steady_on (pin ∙ was.no_pin) (begun_one before after (entry_by before.number (Release task freed)) (λ tasks. refl) ok)
  released_on (Err fault) task pin ok err = steady_on (pin ∙ was.no_pin) (begun_same before after err)

  pub admitted_on : {E : Type 0} (result : Result Answer E) (block : Block) (size : ℕ) → KeepsPin before after
      → IfOk result (λ answer. AddsAdmission answer block size before after)
      → OnErr result (own_entries after ≡ own_entries before) → IsSteady lock count number next after
  admitted_on (Ok answer) block size pin ok err = steady_on (pin ∙ was.no_pin) (begun_admit answer block size before after ok)
  admitted_on (Err fault) block size pin ok err = steady_on (pin ∙ was.no_pin) (begun_same before after err)

  pub removed_on : {T E : Type 0} (result : Result T E) (dataset : ℕ) → KeepsPin before after
      → OnOk result (AddsRemovals dataset before after)
      → OnErr result (own_entries after ≡ own_entries before) → IsSteady lock count number next after
  removed_on (Ok done) dataset pin ok err = steady_on (pin ∙ was.no_pin) (begun_removals before after dataset ok)
  removed_on (Err fault) dataset pin ok err = steady_on (pin ∙ was.no_pin) (begun_same before after err)

  pub grown_on : {T E : Type 0} (result : Result T E) (bytes : ℕ) → KeepsPin before after
      → OnOk result (Adds before after (entry_by before.number (Grow bytes) ∷ []))
      → OnErr result (own_entries after ≡ own_entries before) → IsSteady lock count number next after
  grown_on (Ok done) bytes pin ok err = steady_on (pin ∙ was.no_pin) (begun_one before after (entry_by before.number (Grow bytes)) (λ tasks. refl) ok)
  grown_on (Err fault) bytes pin ok err = steady_on (pin ∙ was.no_pin) (begun_same before after err)

  pub same_on : own_entries after ≡ own_entries before → HasNoPin after → IsSteady lock count number next after
  same_on same no_pin = steady_on no_pin (begun_same before after same)

  pub one_on : (entry : Entry) → LeavesBegun entry → Adds before after (entry ∷ []) → HasNoPin after → IsSteady lock count number next after
  one_on entry leaves adds no_pin = steady_on no_pin (begun_one before after entry leaves adds)

  pub still_on : own_entries after ≡ own_entries before → IsSteady lock count number next after
  still_on same =
      same_on same (ap (λ (es : List Entry). worker_pin (history_of es) after.number) same ∙ ap (λ (n : ℕ). worker_pin (own_of before) n) sees.number_is ∙ was.no_pin)

  -- a begin of the next task
  pub begun_on : KeepsPin before after → Adds before after (entry_by before.number (Begin next) ∷ []) → IsSteady lock count number (next + 1) after
  begun_on pin adds = record {
    its = worker_on lock count number before after was.its sees;
    no_pin = pin ∙ was.no_pin;
    fresh = λ task above. subst (λ (tasks : List ℕ). list_any (λ t. t == task) tasks ≡ false) (sym (begun_begins before after before.number next adds))
        (rw (ne_eqb next task (λ same. absurd (omega (arith, same, above)))) (was.fresh task (omega (arith, above))));
  }

  pub begins_on : {E : Type 0} (result : Result ℕ E) → KeepsPin before after → IfOk result (λ begun. begun ≡ next)
      → IfOk result (λ _. Adds before after (entry_by before.number (Begin next) ∷ [])) → IfOk result (λ _. IsOpen after next)
      → IfOk result (λ task. IsPlaying lock count number (next + 1) task after)
  begins_on (Ok task) pin is adds opened = subst (λ (t : ℕ). IsPlaying lock count number (next + 1) t after) (sym is) record { steady = begun_on pin adds; its_task = opened }
  begins_on (Err fault) pin is adds opened = tt

-- a pin that is given back
pub given_back : (lock : LockId) (count number next : ℕ) (before amid after : WorkerView) (pinned unpinned : Entry) → IsSteady lock count number next before → SeesMore before amid → LeavesBegun pinned → Adds before amid (pinned ∷ [])
    → SeesMore amid after → LeavesBegun unpinned → Adds amid after (unpinned ∷ []) → HasNoPin after → IsSteady lock count number next after
given_back lock count number next before amid after pinned unpinned was sees leaves adds more leaves_more adds_more no_pin = record {
  its = worker_on lock count number amid after (worker_on lock count number before amid was.its sees) more;
  no_pin = no_pin;
  fresh = λ task above. subst (λ (tasks : List ℕ). list_any (λ t. t == task) tasks ≡ false) (sym (begun_one amid after unpinned leaves_more adds_more ∙ begun_one before amid pinned leaves adds)) (was.fresh task above);
}

-- a worker that rests
resting : (lock : LockId) (count number : ℕ) (worker : WorkerView) → IsWorker lock count number worker → IsWorker lock count number (at_rest worker)
resting lock count number worker its = record {
  lock_is = its.lock_is;
  number_is = its.number_is;
  speaks_is = its.speaks_is;
  last = its.last;
  others = its.others;
  free = refl;
}

pub rested : (lock : LockId) (count number : ℕ) (worker : WorkerView) → worker.base ≡ None → IsWorker lock count number (at_rest worker) → IsWorker lock count number worker
rested lock count number worker rests its = record {
  lock_is = its.lock_is;
  number_is = its.number_is;
  speaks_is = its.speaks_is;
  last = its.last;
  others = its.others;
  free = rests;
}

-- a worker that is new
pub new_is_idle : (lock : LockId) (count number : ℕ) (worker : WorkerView) → IsWorker lock count number worker → worker.seen ≡ [] → IsIdle lock count number number worker
new_is_idle lock count number worker its new =
    let none : own_entries worker ≡ [] = ap (λ (es : List Entry). entries_of worker.number es) new in
    record {
      steady = record {
        its = resting lock count number worker its;
        no_pin = ap (λ (es : List Entry). worker_pin (history_of es) worker.number) none;
        fresh = λ task above. ap (λ (es : List Entry). was_begun (history_of es) task) none;
      };
      no_task = ap (λ (es : List Entry). open_task (history_of es) worker.number) none;
    }

pub new_has_grown_none : (worker : WorkerView) → worker.seen ≡ [] → total grown_by (own_of worker) ≡ 0
new_has_grown_none worker new = ap (λ (es : List Entry). total grown_by (history_of (entries_of worker.number es))) new
