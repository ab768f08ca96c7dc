-- Calls other than a begin leave which tasks a worker has begun.
use Rattle.std.proofs.Common.{◌≡◌, ◌∙◌, ◌+◌, ◌∷◌, ◌++◌, [], ℕ, List, refl, sym, ap, subst, inl, inr, append_assoc, append-nil}
use Rattle.std.specs.List.{AllByRecursion}
use Rattle.std.proofs.lemmas.List.{reverse-append}
use Rattle.pool_ledger.specs.declared.entry.Entry.{Entry}
use Rattle.pool_ledger.specs.declared.entry.Event.{Event}
use Rattle.pool_ledger.specs.declared.entry.Event.TheVariants.{Begin}
use Rattle.pool_ledger.specs.History.{begun, begun_after}
use Rattle.pool_ledger.specs.Journal.{history_of}
use Rattle.pool_laws.specs.Growing.{entry_by}
use Rattle.block_store.specs.declared.block.Block.{Block}
use Rattle.memory_core.specs.declared.admission.Admission.{Admission as Answer}
use Rattle.memory_core.specs.declared.admission.Admission.TheVariants.{Admitted, Refused, Resident as AlreadyResident}
use Rattle.turn_lock.specs.Passes.{WorkerView}
use Rattle.memory_lock.specs.Workers.{Adds, AddsAdmission, AddsGrant, AddsRemovals, AddsWaits, AreEvictions, AreRemovals, IsEviction, own_entries, own_of}
use Rattle.memory_lock.proofs.Adding.{IsWaiting}
use Rattle.memory_lock.proofs.Staying.{all_imply, all_then}

-- whatever tasks were begun, they are after
abbrev pub LeavesBegun : Entry → Type 0
LeavesBegun entry = (tasks : List ℕ) → begun_after entry.event tasks ≡ tasks

begun_all : (before added : List Entry) → AllByRecursion LeavesBegun added → begun (history_of (before ++ added)) ≡ begun (history_of before)
begun_all before [] all = ap (λ (es : List Entry). begun (history_of es)) (append-nil before)
begun_all before (entry ∷ more) all =
    ap (λ (es : List Entry). begun (history_of es)) (sym (append_assoc before (entry ∷ []) more))
    ∙ begun_all (before ++ entry ∷ []) more all.1 ∙ ap begun (reverse-append before (entry ∷ [])) ∙ all.0 (begun (history_of before))

evictions_leave : (worker : ℕ) (entry : Entry) → IsEviction worker entry → LeavesBegun entry
evictions_leave worker entry is = subst LeavesBegun (sym is.4) (λ tasks. refl)

waits_leave : (worker task asked : ℕ) (entry : Entry) → IsWaiting worker task asked entry → LeavesBegun entry
waits_leave worker task asked entry is = elim is [
  | inl wait ↦ subst LeavesBegun (sym wait.2) (λ tasks. refl)
  | inr eviction ↦ evictions_leave worker entry eviction
]

begun_behind : (worker : ℕ) (event : Event) (before after evicted : List Entry) → ((tasks : List ℕ) → begun_after event tasks ≡ tasks) → AreEvictions worker evicted → after ≡ before ++ (evicted ++ entry_by worker event ∷ [])
    → begun (history_of after) ≡ begun (history_of before)
begun_behind worker event before after evicted leaves are is =
    ap (λ (es : List Entry). begun (history_of es)) is
    ∙ begun_all before (evicted ++ entry_by worker event ∷ []) (all_then LeavesBegun worker evicted (entry_by worker event) (evictions_leave worker) are leaves)

-- ---- calls

pub begun_waits : (worker task asked : ℕ) (before after : List Entry) → AddsWaits worker task asked before after → begun (history_of after) ≡ begun (history_of before)
begun_waits worker task asked before after waits =
    ap (λ (es : List Entry). begun (history_of es)) waits.1
    ∙ begun_all before waits.0 (all_imply (IsWaiting worker task asked) LeavesBegun (waits_leave worker task asked) waits.0 waits.2)

pub begun_grant : (worker task asked got : ℕ) (before after : List Entry) → AddsGrant worker task asked got before after → begun (history_of after) ≡ begun (history_of before)
begun_grant worker task asked got before after grant =
    begun_behind worker _ grant.0 after grant.2.0 (λ tasks. refl) grant.2.2 grant.2.3 ∙ begun_waits worker task asked before grant.0 grant.1

pub begun_admit : (answer : Answer) (block : Block) (size : ℕ) (before after : WorkerView) → AddsAdmission answer block size before after → begun (own_of after) ≡ begun (own_of before)
begun_admit Admitted block size before after adds = begun_behind before.number _ _ _ adds.0 (λ tasks. refl) adds.2 adds.3
begun_admit Refused block size before after adds = begun_behind before.number _ _ _ adds.0 (λ tasks. refl) adds.2 adds.3
begun_admit AlreadyResident block size before after adds = ap (λ (es : List Entry). begun (history_of es)) adds.0

pub begun_same : (before after : WorkerView) → own_entries after ≡ own_entries before → begun (own_of after) ≡ begun (own_of before)
begun_same before after same = ap (λ (es : List Entry). begun (history_of es)) same

begun_added : (before after : WorkerView) (added : List Entry) → AllByRecursion LeavesBegun added → Adds before after added → begun (own_of after) ≡ begun (own_of before)
begun_added before after added all adds = ap (λ (es : List Entry). begun (history_of es)) adds ∙ begun_all (own_entries before) added all

pub begun_one : (before after : WorkerView) (entry : Entry) → LeavesBegun entry → Adds before after (entry ∷ []) → begun (own_of after) ≡ begun (own_of before)
begun_one before after entry leaves adds = begun_added before after (entry ∷ []) (leaves, tt) adds

pub begun_begins : (before after : WorkerView) (worker task : ℕ) → Adds before after (entry_by worker (Begin task) ∷ []) → begun (own_of after) ≡ task ∷ begun (own_of before)
begun_begins before after worker task adds =
    ap (λ (es : List Entry). begun (history_of es)) adds ∙ ap begun (reverse-append (own_entries before) (entry_by worker (Begin task) ∷ []))

removals_leave : (worker dataset from : ℕ) (gone : List Entry) → AreRemovals worker dataset from gone → AllByRecursion LeavesBegun gone
removals_leave worker dataset from [] are = tt
removals_leave worker dataset from (entry ∷ more) are = (subst LeavesBegun (sym are.2) (λ tasks. refl), removals_leave worker dataset (are.0 + 1) more are.4)

pub begun_removals : (before after : WorkerView) (dataset : ℕ) → AddsRemovals dataset before after → begun (own_of after) ≡ begun (own_of before)
begun_removals before after dataset adds = begun_added before after adds.0 (removals_leave before.number dataset 0 adds.0 adds.1) adds.2
