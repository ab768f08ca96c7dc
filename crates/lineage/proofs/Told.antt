-- What the entries that a worker has seen tell of a block, through further calls.
use Rattle.std.proofs.Common.{◌≡◌, ◌∙◌, ℕ, Bool, true, false, List, [], ◌∷◌, ◌++◌, ◌⊎◌, length, refl, sym, ap, subst, append_assoc, inl, inr}
use Rattle.std.specs.declared.alloc.Global.{Global}
use Rattle.std.specs.declared.sync.Arc.{Arc}
use Rattle.std.specs.List.{filter}
use Rattle.std.proofs.lemmas.Bool.{cases_Bool}
use Rattle.std.proofs.lemmas.List.{append_cancel_left}
use Rattle.pool_ledger.specs.declared.entry.Entry.{Entry}
use Rattle.pool_ledger.specs.declared.entry.Event.{Event}
use Rattle.pool_ledger.specs.declared.entry.Event.TheVariants.{Admit, Pin, Refused as RefusedEvent}
use Rattle.pool_ledger.specs.Blocks.{is_resident}
use Rattle.pool_ledger.specs.Journal.{history_of}
use Rattle.pool_ledger.specs.Workers.{entries_of}
use Rattle.pool_laws.specs.Growing.{entry_by}
use Rattle.turn_lock.proofs.Entries.{entries_of-append}
use Rattle.turn_lock.specs.Passes.{WorkerView}
use Rattle.task_pool.specs.Workers.{SeesMore, own_entries}
use Rattle.block_store.specs.declared.block.Block.{Block}
use Rattle.memory_core.specs.declared.admission.Admission.{Admission as Answer}
use Rattle.memory_core.specs.declared.admission.Admission.TheVariants.{Admitted, Refused, Resident as AlreadyResident}
use Rattle.memory_core.specs.declared.pinned.Pinned.{Pinned as Found}
use Rattle.memory_core.specs.declared.pinned.Pinned.TheVariants.{Hit, OnDisk as ReadBack}
use Rattle.memory_lock.specs.Workers.{Adds, AddsAdmission, AddsPin}
use Rattle.lineage.specs.Telling.{Gains, IsAbsent, IsKeepOf, IsPinOf, IsThere, KeptOf, TellsKeep, ToldOf}
use Rattle.lineage.proofs.Gains.{admitted_amid}

-- an element that a test keeps stands in the list
record StandsIn (xs : List Entry) (x : Entry) : Type 0 where
  amid : List Entry
  behind : List Entry
  are : xs ≡ amid ++ x ∷ behind

one_more : (y : Entry) (xs : List Entry) (x : Entry) → StandsIn xs x → StandsIn (y ∷ xs) x
one_more y xs x in_them = record { amid = y ∷ in_them.amid; behind = in_them.behind; are = ap (λ (es : List Entry). y ∷ es) in_them.are }

module _ (p : Entry → Bool) (x : Entry) (back : List Entry) where
  first_kept : (y : Entry) (xs front : List Entry) → ((rest : List Entry) → filter p xs ≡ rest ++ x ∷ back → StandsIn xs x) → y ∷ filter p xs ≡ front ++ x ∷ back → StandsIn (y ∷ xs) x
  first_kept y xs [] again is = let head : y ≡ x = cc is in record { amid = []; behind = xs; are = ap (λ (e : Entry). e ∷ xs) head }
  first_kept y xs (z ∷ front) again is = let rest : filter p xs ≡ front ++ x ∷ back = cc is in one_more y xs x (again front rest)

  stands_in : (xs front : List Entry) → filter p xs ≡ front ++ x ∷ back → StandsIn xs x
  stands_in [] [] same = absurd (cc same)
  stands_in [] (y ∷ front) same = absurd (cc same)
  stands_in (y ∷ xs) front same = elim (cases_Bool (p y)) [
    | inl kept ↦ first_kept y xs front (λ rest is. stands_in xs rest is) (rw kept at same)
    | inr lost ↦ let rest : filter p xs ≡ front ++ x ∷ back = rw lost at same in one_more y xs x (stands_in xs front rest)
  ]

-- an entry that was added to the worker's own stands behind what it had seen
gains_own : (P : Entry → Type 0) (before after : WorkerView) (front back : List Entry) (entry : Entry) → SeesMore before after
    → own_entries after ≡ own_entries before ++ (front ++ entry ∷ back) → P entry → Gains P before after
gains_own P before after front back entry sees adds holds =
    let more = sees.begins.0 in
    let whole : own_entries after ≡ own_entries before ++ entries_of before.number more =
    ap (λ (n : ℕ). entries_of n after.seen) sees.number_is ∙ ap (entries_of before.number) (sym sees.begins.1) ∙ entries_of-append before.number before.seen more in
    let added : entries_of before.number more ≡ front ++ entry ∷ back =
    append_cancel_left (own_entries before) (entries_of before.number more) (front ++ entry ∷ back) (sym whole ∙ adds) in
    let in_them = stands_in _ entry back more front added in
    record {
      amid = in_them.amid;
      entry = entry;
      behind = in_them.behind;
      gained = sym sees.begins.1 ∙ ap (λ (es : List Entry). before.seen ++ es) in_them.are;
      holds = holds;
    }

-- ---- further calls

gains_earlier : (P : Entry → Type 0) (first before after : WorkerView) → SeesMore first before → Gains P before after → Gains P first after
gains_earlier P first before after sees told = record {
  amid = sees.begins.0 ++ told.amid;
  entry = told.entry;
  behind = told.behind;
  gained =
      told.gained ∙ ap (λ (es : List Entry). es ++ (told.amid ++ told.entry ∷ told.behind)) (sym sees.begins.1)
      ∙ append_assoc first.seen sees.begins.0 (told.amid ++ told.entry ∷ told.behind)
      ∙ ap (λ (es : List Entry). first.seen ++ es) (sym (append_assoc sees.begins.0 told.amid (told.entry ∷ told.behind)));
  holds = told.holds;
}

gains_later : (P : Entry → Type 0) (before after last : WorkerView) → Gains P before after → SeesMore after last → Gains P before last
gains_later P before after last told sees = record {
  amid = told.amid;
  entry = told.entry;
  behind = told.behind ++ sees.begins.0;
  gained =
      sym sees.begins.1 ∙ ap (λ (es : List Entry). es ++ sees.begins.0) told.gained
      ∙ append_assoc before.seen (told.amid ++ told.entry ∷ told.behind) sees.begins.0
      ∙ ap (λ (es : List Entry). before.seen ++ es) (append_assoc told.amid (told.entry ∷ told.behind) sees.begins.0);
  holds = told.holds;
}

module _ (dataset part : ℕ) where
  pub told_later : (before after last : WorkerView) → ToldOf dataset part before after → SeesMore after last → ToldOf dataset part before last
  told_later before after last told sees = gains_later _ before after last told sees

  pub told_earlier : (first before after : WorkerView) → SeesMore first before → ToldOf dataset part before after → ToldOf dataset part first after
  told_earlier first before after sees told =
      gains_earlier _ first before after sees
      (subst (λ (n : ℕ). Gains (λ entry. IsPinOf n dataset part entry ⊎ IsKeepOf n dataset part entry) before after) sees.number_is told)

  -- what keeps a block tells of it
  pub told_kept : (before after : WorkerView) → KeptOf dataset part before after → ToldOf dataset part before after
  told_kept before after kept = record { amid = kept.amid; entry = kept.entry; behind = kept.behind; gained = kept.gained; holds = inr kept.holds }

  -- a block that comes to be in memory by what the worker sees was admitted
  pub told_between : (before after : WorkerView) → IsAbsent dataset part before → IsThere dataset part after → SeesMore before after → ToldOf dataset part before after
  told_between before after absent there sees =
      let has = admitted_amid dataset part before.seen sees.begins.0 absent
      (subst (λ (es : List Entry). is_resident (history_of es) dataset part ≡ true) (sym sees.begins.1) there) in
      let admits = has.admits in
      record {
        amid = has.amid;
        entry = has.entry;
        behind = has.behind;
        gained = sym sees.begins.1 ∙ ap (λ (es : List Entry). before.seen ++ es) has.are;
        holds = inr (inl (has.entry.worker, admits.0, admits.1, admits.2, admits.3, ap (λ (event : Event). entry_by has.entry.worker event) admits.4));
      }

  -- what keeping a block shows, where more had been seen before
  pub keep_earlier : (first before after : WorkerView) → SeesMore first before → TellsKeep dataset part before after → TellsKeep dataset part first after
  keep_earlier first before after sees tells = elim tells [
    | inl kept ↦ inl (gains_earlier _ first before after sees (subst (λ (n : ℕ). Gains (IsKeepOf n dataset part) before after) sees.number_is kept))
    | inr there ↦ inr there
  ]

-- ---- pins and admissions

-- what a pin that was answered tells
pin_told : (dataset part : ℕ) (copy : Bool) (before after : WorkerView) → SeesMore before after → Adds before after (entry_by before.number (Pin dataset part copy) ∷ []) → ToldOf dataset part before after
pin_told dataset part copy before after sees adds = gains_own _ before after [] [] (entry_by before.number (Pin dataset part copy)) sees adds (inl (copy, refl))

-- what an admission tells
keep_told : (answer : Answer) (block : Block) (size : ℕ) (before after : WorkerView) → SeesMore before after → AddsAdmission answer block size before after
    → TellsKeep block.dataset block.part before after
keep_told Admitted block size before after sees adds =
    inl (gains_own _ before after adds.0 [] (entry_by before.number (Admit block.dataset block.part size block.level adds.1 (length adds.0))) sees adds.3
    (inl (before.number, size, block.level, adds.1, length adds.0, refl)))
keep_told Refused block size before after sees adds =
    inl (gains_own _ before after adds.0 [] (entry_by before.number (RefusedEvent block.dataset block.part size adds.1 (length adds.0))) sees adds.3
    (inr (size, adds.1, length adds.0, refl)))
keep_told AlreadyResident block size before after sees adds = inr adds.1

-- the same of a block that is another owner's of one
pub kept_told : (answer : Answer) (block shared : Block) (size : ℕ) (before after : WorkerView) → shared ≡ block → SeesMore before after → AddsAdmission answer shared size before after
    → TellsKeep block.dataset block.part before after
kept_told answer block shared size before after same sees adds =
    subst (λ (b : Block). TellsKeep b.dataset b.part before after) same (keep_told answer shared size before after sees adds)

-- what a pin that found the block tells, or one that read its copy back
pub hit_told : (pinned : Found) (block : Arc Block Global) (asked dataset part : ℕ) (before after : WorkerView) → pinned ≡ Hit block → asked ≡ dataset → SeesMore before after
    → AddsPin pinned asked part before after → ToldOf dataset part before after
hit_told pinned block asked dataset part before after is same sees adds =
    let hit : AddsPin (Hit block) dataset part before after = subst (λ (d : ℕ). AddsPin (Hit block) d part before after) same (subst (λ (p : Found). AddsPin p asked part before after) is adds) in
    pin_told dataset part false before after sees hit.0

pub copy_told : (pinned : Found) (block : Arc Block Global) (asked dataset part : ℕ) (before after : WorkerView) → pinned ≡ ReadBack block → asked ≡ dataset → SeesMore before after
    → AddsPin pinned asked part before after → ToldOf dataset part before after
copy_told pinned block asked dataset part before after is same sees adds =
    let read : AddsPin (ReadBack block) dataset part before after = subst (λ (d : ℕ). AddsPin (ReadBack block) d part before after) same (subst (λ (p : Found). AddsPin p asked part before after) is adds) in
    pin_told dataset part true before after sees read.0
