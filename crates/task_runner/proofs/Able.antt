-- Each worker may do its tasks at its post.
use Rattle.std.proofs.Common.{◌≡◌, ◌∙◌, ℕ, zero, suc, ◌<◌, ◌≤◌, ◌^◌, ◌%◌, false, List, [], ◌∷◌, Option, Some, length, map, get_or, refl, ap, subst, arith}
use Rattle.std.specs.Prelude.{All, slice_get}
use Rattle.spill_disk.specs.Files.{Files}
use Rattle.consumer_trait.specs.States.{State}
use Rattle.memory_core.specs.Caches.{RowsByName}
use Rattle.turn_lock.specs.Passes.{LockId, WorkerView}
use Rattle.pool_ledger.specs.History.{was_begun}
use Rattle.memory_lock.specs.Workers.{own_of}
use Rattle.task_runner.specs.AllWorkers.{files_of}
use Rattle.task_runner.specs.AtOnce.{AllMayRun, MayDoAll}
use Rattle.task_runner.specs.Consumers.{HasConsumers}
use Rattle.task_runner.specs.PartAnswers.{SaysAll, SaysOwn}
use Rattle.task_runner.specs.PassViews.{PassView, task_for}
use Rattle.task_runner.specs.Queries.{IsPass}
use Rattle.task_runner.specs.Workers.{part_at}
use Rattle.task_runner.specs.declared.post.Post.{Post}
use Rattle.task_runner.proofs.OfPartitions.{worker_of}
use Rattle.task_runner.proofs.Reaching.{says_of}

place_is : {X : Type 0} (xs : List X) (place : ℕ) (any : X) → place < length xs → slice_get xs place ≡ Some (get_or xs place any)
place_is [] place any within = absurd (omega (arith, within))
place_is (x ∷ xs) zero any within = refl
place_is (x ∷ xs) (suc place) any within = place_is xs place any (omega (arith, within))

pub all_may : {D C : Type 0} (state : C → State) (files : D → Option Files) (faults : D → ℕ) (lock : LockId) (owner : ℕ → Option ℕ) (count : ℕ) (given : RowsByName) (pass : PassView) (workers : List WorkerView) (posts : List (Post D C))
    → length workers ≡ count → count ≤ length posts → length posts < 2 ^ 32 → IsPass pass → MayDoAll lock owner pass workers → SaysAll (λ place. files_of files (slice_get posts place)) given pass count
    → All (λ post. HasConsumers (map state post.consumers.items)) posts → AllMayRun state files faults lock owner count given pass workers posts
all_may {D = D} {C = C} state files faults lock owner count given pass workers posts size most few_posts is may says consumers place worker post within =
    let below : place < count = omega (arith, within, size) in
    -- the worker of a partition of this place is the one that stands there
    let its : (k : ℕ) → part_at count place k % length workers ≡ place = λ k. ap (λ (n : ℕ). part_at count place k % n) size ∙ worker_of count place k below in
    record {
      lock_is = may.locks place worker within;
      known = below;
      narrow = omega (arith, below, most, few_posts);
      free = may.free place worker within;
      unpinned = may.unpinned place worker within;
      owns = λ k inside. may.owns (part_at count place k) worker inside ∙ ap (λ (at : ℕ). Some (get_or workers at worker).number) (its k);
      fresh = λ k inside. subst (λ (at : ℕ). was_begun (own_of (get_or workers at worker)) (task_for pass (part_at count place k)) ≡ false) (its k)
          (may.fresh (part_at count place k) worker inside);
      says = subst (λ (o : Option (Post D C)). SaysOwn (files_of files o) given pass count place) (place_is posts place post (omega (arith, below, most))) (says_of files given pass count place posts below says);
      consumers = consumers place post (omega (arith, below, most));
      pass_is = is;
    }
