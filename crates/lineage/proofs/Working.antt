-- How a worker goes on by what it adds: pins, unpins and admissions.
use Rattle.std.proofs.Common.{◌≡◌, ◌∙◌, ℕ, true, false, List, [], ◌∷◌, ◌++◌, length, refl, sym, ap, subst, append_assoc, append-nil, inl, inr}
use Rattle.std.specs.Arc.{arc_value}
use Rattle.std.specs.List.{AllByRecursion}
use Rattle.pool_ledger.specs.declared.entry.Entry.{Entry}
use Rattle.pool_ledger.specs.declared.entry.Event.TheVariants.{Admit, Pin, Refused as RefusedEvent, Unpin}
use Rattle.pool_laws.specs.Growing.{entry_by}
use Rattle.block_store.specs.declared.block.Block.{Block}
use Rattle.memory_core.specs.declared.admission.Admission.{Admission as Answer}
use Rattle.memory_core.specs.declared.admission.Admission.TheVariants.{Admitted, Refused, Resident as AlreadyResident}
use Rattle.memory_core.specs.declared.pinned.Pinned.{Pinned as Found}
use Rattle.memory_core.specs.declared.pinned.Pinned.TheVariants.{Hit, OnDisk as ReadBack, Miss}
use Rattle.turn_lock.specs.Passes.{WorkerView}
use Rattle.task_pool.proofs.GoingOn.{all_append, sees_more}
use Rattle.memory_lock.specs.Workers.{Adds, AddsAdmission, AddsPin, IsEviction, KeepsTask, SeesMore, own_entries}
use Rattle.lineage.specs.declared.rows.Rows.{Rows}
use Rattle.lineage.specs.declared.rows.Rows.TheVariants.{Own, Pinned}
use Rattle.lineage.specs.Entries.{AddsRowsWork, AddsUnpin, IsRowsWork, WorksOn}

-- ---- entries

pub adds_none : (worker : ℕ) (before after : List Entry) → after ≡ before → AddsRowsWork worker before after
adds_none worker before after same = ([], same ∙ sym (append-nil before), tt)

pub adds_then : (worker : ℕ) (before amid after : List Entry) → AddsRowsWork worker before amid → AddsRowsWork worker amid after → AddsRowsWork worker before after
adds_then worker before amid after first last = (
  first.0 ++ last.0,
  last.1 ∙ ap (λ (es : List Entry). es ++ last.0) first.1 ∙ append_assoc before first.0 last.0,
  all_append (IsRowsWork worker) first.0 last.0 first.2 last.2,
)

evictions : (worker : ℕ) (entries : List Entry) → AllByRecursion (IsEviction worker) entries → AllByRecursion (IsRowsWork worker) entries
evictions worker [] all = tt
evictions worker (entry ∷ more) all = (inr (inr all.0), evictions worker more all.1)

pub pin_adds : (pinned : Found) (dataset part : ℕ) (before after : WorkerView) → AddsPin pinned dataset part before after → AddsRowsWork before.number (own_entries before) (own_entries after)
pin_adds (Hit block) dataset part before after adds = (entry_by before.number (Pin dataset part false) ∷ [], adds.0, (inl (inl (dataset, part, false, refl)), tt))
pin_adds (ReadBack block) dataset part before after adds = (entry_by before.number (Pin dataset part true) ∷ [], adds.0, (inl (inl (dataset, part, true, refl)), tt))
pin_adds Miss dataset part before after adds = adds_none before.number (own_entries before) (own_entries after) adds.0.0

pub unpin_adds : (dataset part : ℕ) (before after : WorkerView) → Adds before after (entry_by before.number (Unpin dataset part) ∷ []) → AddsRowsWork before.number (own_entries before) (own_entries after)
unpin_adds dataset part before after adds = (entry_by before.number (Unpin dataset part) ∷ [], adds, (inl (inr (dataset, part, refl)), tt))

pub admission_adds : (answer : Answer) (block : Block) (size : ℕ) (before after : WorkerView) → AddsAdmission answer block size before after → AddsRowsWork before.number (own_entries before) (own_entries after)
admission_adds Admitted block size before after adds =
    let last = entry_by before.number (Admit block.dataset block.part size block.level adds.1 (length adds.0)) in (
      adds.0 ++ last ∷ [],
      adds.3,
      all_append (IsRowsWork before.number) adds.0 (last ∷ []) (evictions before.number adds.0 adds.2)
          (inr (inl (inl (block.dataset, block.part, size, block.level, adds.1, length adds.0, refl))), tt),
    )
admission_adds Refused block size before after adds =
    let last = entry_by before.number (RefusedEvent block.dataset block.part size adds.1 (length adds.0)) in (
      adds.0 ++ last ∷ [],
      adds.3,
      all_append (IsRowsWork before.number) adds.0 (last ∷ []) (evictions before.number adds.0 adds.2)
          (inr (inl (inr (block.dataset, block.part, size, adds.1, length adds.0, refl))), tt),
    )
admission_adds AlreadyResident block size before after adds = adds_none before.number (own_entries before) (own_entries after) adds.0

-- ---- workers

pub works_then : (before amid after : WorkerView) → WorksOn before amid → WorksOn amid after → WorksOn before after
works_then before amid after first last = record {
  task = last.task ∙ first.task;
  sees = sees_more before amid after first.sees last.sees;
  adds = adds_then before.number (own_entries before) (own_entries amid) (own_entries after) first.adds
      (subst (λ (n : ℕ). AddsRowsWork n (own_entries amid) (own_entries after)) first.sees.number_is last.adds);
}

-- what was added, where the parent's rows were handed out in between
pub adds_through : (first looked handed last : WorkerView) → WorksOn first looked → KeepsTask looked handed → SeesMore looked handed
    → AddsRowsWork looked.number (own_entries looked) (own_entries handed) → WorksOn handed last → AddsRowsWork first.number (own_entries first) (own_entries last)
adds_through first looked handed last one task sees adds three =
    let two : WorksOn looked handed = record { task = task; sees = sees; adds = adds } in
    let all : WorksOn first last = works_then first looked last one (works_then looked handed last two three) in
    all.adds

-- rows are given back
pub done_works : (rows : Rows) (before after : WorkerView) → KeepsTask before after → SeesMore before after → AddsUnpin before after rows → WorksOn before after
done_works rows before after task sees adds = record { task = task; sees = sees; adds = by rows adds }
  where
    by : (given : Rows) → AddsUnpin before after given → AddsRowsWork before.number (own_entries before) (own_entries after)
    by (Pinned block) adds = unpin_adds (arc_value block).dataset (arc_value block).part before after adds
    by (Own block) same = adds_none before.number (own_entries before) (own_entries after) (ap own_entries same)

-- a pin, and what was done behind it
pub pin_then : (pinned : Found) (dataset part : ℕ) (before read after : WorkerView) → KeepsTask before read → SeesMore before read → AddsPin pinned dataset part before read
    → WorksOn read after → WorksOn before after
pin_then pinned dataset part before read after task sees adds works =
    works_then before read after (record { task = task; sees = sees; adds = pin_adds pinned dataset part before read adds }) works
