-- A worker that removes blocks, dataset by dataset.
use Rattle.std.proofs.Common.{◌≡◌, ◌∙◌, ℕ, ◌<◌, ◌+◌, List, [], ◌∷◌, ◌++◌, get_or, length, sym, ap, refl, subst, inl, inr, arith, append-nil, append_assoc}
use Rattle.std.specs.Prelude.{Contains}
use Rattle.std.specs.List.{AllByRecursion}
use Rattle.std.proofs.lemmas.Bool.{cases_lt}
use Rattle.std.proofs.lemmas.List.{get_or_default}
use Rattle.std.proofs.lemmas.List.Elements.{Contains-get_or}
use Rattle.pool_ledger.specs.declared.entry.Entry.{Entry}
use Rattle.turn_lock.specs.Passes.{WorkerView}
use Rattle.task_pool.specs.Workers.{KeepsPin, KeepsTask, SeesMore, own_entries}
use Rattle.task_pool.proofs.GoingOn.{all_append, sees_itself, sees_more}
use Rattle.memory_lock.specs.Workers.{AddsRemovals, AreRemovals}
use Rattle.csv_program.specs.Doing.{Clears, IsRemovalOf, SawGone}

pub cleared_none : (datasets : List ℕ) (worker : WorkerView) → Clears datasets worker worker
cleared_none datasets worker = record {
  task = refl;
  pin = refl;
  sees = sees_itself worker;
  removed = [];
  adds = sym (append-nil (own_entries worker));
  all = tt;
}

-- nothing more was removed
pub cleared_same : (datasets : List ℕ) (first before after : WorkerView) → Clears datasets first before → KeepsTask before after → KeepsPin before after → SeesMore before after → own_entries after ≡ own_entries before → Clears datasets first after
cleared_same datasets first before after cleared task pin sees same = record {
  task = task ∙ cleared.task;
  pin = pin ∙ cleared.pin;
  sees = sees_more first before after cleared.sees sees;
  removed = cleared.removed;
  adds = same ∙ cleared.adds;
  all = cleared.all;
}

removals_of : (worker dataset from : ℕ) (datasets : List ℕ) (entries : List Entry) → Contains datasets dataset → AreRemovals worker dataset from entries → AllByRecursion (IsRemovalOf worker datasets) entries
removals_of worker dataset from datasets [] among are = tt
removals_of worker dataset from datasets (entry ∷ more) among are = ((dataset, are.0, are.1, among, are.2), removals_of worker dataset (are.0 + 1) datasets more among are.4)

-- and then blocks of one dataset
pub cleared_more : (datasets : List ℕ) (first before after : WorkerView) (i : ℕ) → i < length datasets → Clears datasets first before → KeepsTask before after → KeepsPin before after → SeesMore before after
    → AddsRemovals (get_or datasets i 0) before after → Clears datasets first after
cleared_more datasets first before after i below cleared task pin sees adds =
    let gone = removals_of before.number (get_or datasets i 0) 0 datasets adds.0 (Contains-get_or datasets i 0 below) adds.1 in
    record {
      task = task ∙ cleared.task;
      pin = pin ∙ cleared.pin;
      sees = sees_more first before after cleared.sees sees;
      removed = cleared.removed ++ adds.0;
      adds = adds.2 ∙ ap (λ (es : List Entry). es ++ adds.0) cleared.adds ∙ append_assoc (own_entries first) cleared.removed adds.0;
      all = all_append (IsRemovalOf first.number datasets) cleared.removed adds.0 cleared.all
          (subst (λ (n : ℕ). AllByRecursion (IsRemovalOf n datasets) adds.0) cleared.sees.number_is gone);
    }

-- ---- which datasets' blocks it saw gone

-- those of the first places, and then of one more
pub gone_more : (datasets : List ℕ) (first before after : WorkerView) (i : ℕ) → i < length datasets → SeesMore first before → SeesMore before after → AddsRemovals (get_or datasets i 0) before after
    → ((k any : ℕ) → k < i → SawGone (get_or datasets k any) first before) → (k any : ℕ) → k < i + 1 → SawGone (get_or datasets k any) first after
gone_more datasets first before after i below seen sees adds sofar k any low = elim (cases_lt k i) [
  | inl old ↦
      let was = sofar k any old in
      record { moment = was.moment; since = was.since; until = sees_more was.moment before after was.until sees; gone = was.gone }
  | inr here ↦
      let same : i ≡ k = omega (arith, here, low) in
      subst (λ (n : ℕ). SawGone (get_or datasets n any) first after) same
      (subst (λ (dataset : ℕ). SawGone dataset first after) (get_or_default datasets i 0 any below)
      (record { moment = after; since = sees_more first before after seen sees; until = sees_itself after; gone = adds.3 }))
]

-- those of all places are all
pub gone_all : (datasets : List ℕ) (first after : WorkerView) (count : ℕ) → count ≡ length datasets → ((k any : ℕ) → k < count → SawGone (get_or datasets k any) first after)
    → (dataset : ℕ) → Contains datasets dataset → SawGone dataset first after
gone_all datasets first after count all saw dataset within =
    subst (λ (d : ℕ). SawGone d first after) within.2 (saw within.0 dataset (omega (arith, within.1, all)))
