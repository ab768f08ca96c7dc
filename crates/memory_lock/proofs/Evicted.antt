-- What evictions and removals add to a worker's own entries, and that no begin is among them.
use Rattle.std.proofs.Common.{◌≡◌, ◌∙◌, ◌∷◌, ◌++◌, [], ℕ, suc, ◌+◌, List, Option, refl, sym, ap, subst, append_assoc, append-nil}
use Rattle.std.specs.Prelude.{length}
use Rattle.pool_ledger.specs.declared.entry.Entry.{Entry}
use Rattle.pool_ledger.specs.declared.entry.Event.TheVariants.{Remove}
use Rattle.pool_ledger.specs.History.{History}
use Rattle.pool_ledger.specs.Blocks.{Resident}
use Rattle.pool_ledger.specs.Journal.{journal_of}
use Rattle.pool_ledger.specs.Workers.{entries_of}
use Rattle.pool_laws.specs.Growing.{entry_by}
use Rattle.pool_laws.specs.Evicting.{eviction_by}
use Rattle.pool_laws.specs.Owners.{AreOwned}
use Rattle.block_store.specs.Stores.{HeldBlock, without}
use Rattle.memory_core.specs.Caches.{Cache}
use Rattle.memory_core.specs.Changes.{EvictsInTurn, RemovesInTurn}
use Rattle.memory_lock.specs.Workers.{AreEvictions, AreRemovals}
use Rattle.memory_lock.proofs.Pushed.{pushed}

-- ---- evictions

-- the entries of evictions, as many as the blocks
pub record HasEvicted (worker : ℕ) (blocks : List Resident) (before after : History) : Type 0 where
  pub evicted : List Entry
  pub are : AreEvictions worker evicted
  pub as_many : length evicted ≡ length blocks
  pub adds : entries_of worker (journal_of after) ≡ entries_of worker (journal_of before) ++ evicted

pub evicted_of : (worker : ℕ) (blocks : List Resident) (before after : History) (had has : Cache) → EvictsInTurn worker blocks before had after has → HasEvicted worker blocks before after
evicted_of worker [] before after had has gone = record {
  evicted = [];
  are = tt;
  as_many = refl;
  adds = ap (λ (h : History). entries_of worker (journal_of h)) gone.0 ∙ sym (append-nil (entries_of worker (journal_of before)));
}
evicted_of worker (block ∷ blocks) before after had has gone =
    let entry = eviction_by worker block gone.0 in
    let more = evicted_of worker blocks (entry ∷ before) after gone.1 has gone.3 in
    record {
      evicted = entry ∷ more.evicted;
      are = ((block.dataset, block.part, block.size, gone.0, refl), more.are);
      as_many = ap suc more.as_many;
      adds = more.adds ∙ ap (λ (es : List Entry). es ++ more.evicted) (pushed worker entry before refl) ∙ append_assoc (entries_of worker (journal_of before)) (entry ∷ []) more.evicted;
    }

-- the evictions, and an entry that says how many they were
pub evicted_then : (worker : ℕ) (blocks : List Resident) (before amid : History) (entry : ℕ → Entry) → ((n : ℕ) → (entry n).worker ≡ worker) → (gone : HasEvicted worker blocks before amid)
    → entries_of worker (journal_of (entry (length blocks) ∷ amid)) ≡ entries_of worker (journal_of before) ++ (gone.evicted ++ entry (length gone.evicted) ∷ [])
evicted_then worker blocks before amid entry own gone =
    let had = entries_of worker (journal_of before) in
    pushed worker (entry (length blocks)) amid (own (length blocks)) ∙ ap (λ (es : List Entry). es ++ entry (length blocks) ∷ []) gone.adds
    ∙ append_assoc had gone.evicted (entry (length blocks) ∷ []) ∙ ap (λ (n : ℕ). had ++ (gone.evicted ++ entry n ∷ [])) (sym gone.as_many)

pub evicts_owned : (owner : ℕ → Option ℕ) (worker : ℕ) (blocks : List Resident) (before after : History) (had has : Cache) → EvictsInTurn worker blocks before had after has
    → AreOwned owner before → AreOwned owner after
evicts_owned owner worker [] before after had has gone owned = subst (AreOwned owner) (sym gone.0) owned
evicts_owned owner worker (block ∷ blocks) before after had has gone owned =
    evicts_owned owner worker blocks (eviction_by worker block gone.0 ∷ before) after gone.1 has gone.3 (owned, tt)

-- ---- removals

-- the entries of removals
pub record HasRemoved (worker dataset from : ℕ) (before after : History) : Type 0 where
  pub gone : List Entry
  pub are : AreRemovals worker dataset from gone
  pub adds : entries_of worker (journal_of after) ≡ entries_of worker (journal_of before) ++ gone

pub removed_of : (worker dataset from end : ℕ) (blocks : List Resident) (before after : History) (had has : List HeldBlock) → RemovesInTurn worker dataset from end blocks before had after has
    → HasRemoved worker dataset from before after
removed_of worker dataset from end [] before after had has gone = record {
  gone = [];
  are = tt;
  adds = ap (λ (h : History). entries_of worker (journal_of h)) gone.1 ∙ sym (append-nil (entries_of worker (journal_of before)));
}
removed_of worker dataset from end (block ∷ blocks) before after had has gone =
    let entry = entry_by worker (Remove dataset block.part block.size) in
    let more = removed_of worker dataset (block.part + 1) end blocks (entry ∷ before) after (without dataset block.part had) has gone.2 in
    record {
      gone = entry ∷ more.gone;
      are = (block.part, block.size, refl, gone.1, more.are);
      adds = more.adds ∙ ap (λ (es : List Entry). es ++ more.gone) (pushed worker entry before refl) ∙ append_assoc (entries_of worker (journal_of before)) (entry ∷ []) more.gone;
    }

pub removes_owned : (owner : ℕ → Option ℕ) (worker dataset from end : ℕ) (blocks : List Resident) (before after : History) (had has : List HeldBlock) → RemovesInTurn worker dataset from end blocks before had after has
    → AreOwned owner before → AreOwned owner after
removes_owned owner worker dataset from end [] before after had has gone owned = subst (AreOwned owner) (sym gone.1) owned
removes_owned owner worker dataset from end (block ∷ blocks) before after had has gone owned =
    removes_owned owner worker dataset (block.part + 1) end blocks (entry_by worker (Remove dataset block.part block.size) ∷ before) after (without dataset block.part had) has gone.2 (owned, tt)
