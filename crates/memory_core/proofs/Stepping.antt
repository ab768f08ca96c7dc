-- What is kept of blocks stays in step with the history at an admission, at each entry that changes no block, and as copies are forgotten.
use Rattle.std.proofs.Common.{◌≡◌, ℕ, ◌+◌, ◌<◌, true, false, ◌||◌, cond, List, [], ◌∷◌, ◌++◌, map, Option, Some, None, refl, sym, ap, subst, ◌∙◌, inl, inr, arith}
use Rattle.std.specs.List.{find, list_any}
use Rattle.std.specs.Prelude.{IfNone, IfSome, IsSome, is_some, nat_eq}
use Rattle.std.specs.Option.{option_map}
use Rattle.std.proofs.lemmas.Bool.{cases_Bool, cases_eq, cond-true, cond-false, ltb-true, both_ways, ne_eqb}
use Rattle.std.proofs.lemmas.List.{map-append}
use Rattle.std.proofs.lemmas.Option.{none-some, same_Some}
use Rattle.row_page.specs.Spelling.{page_cost}
use Rattle.pool_ledger.specs.declared.entry.Entry.{Entry}
use Rattle.pool_ledger.specs.declared.entry.Event.{Event}
use Rattle.pool_ledger.specs.declared.entry.Event.TheVariants.{Begin, Attempt, Release, End, Evict, Admit, Refused, Pin, Unpin, Remove, Grow}
use Rattle.pool_ledger.specs.Sizes.{Sizes}
use Rattle.pool_ledger.specs.History.{History, total}
use Rattle.pool_ledger.specs.Blocks.{Resident, is_block, is_pinned, is_resident, leaves_copy, pin_of, residents, unpin_of, worker_pin}
use Rattle.pool_ledger.specs.Legal.{MayFollow, pending}
use Rattle.pool_laws.specs.Growing.{entry_by}
use Rattle.pool_laws.proofs.NextEntries.{whole}
use Rattle.pool_laws.proofs.Passing.{holds}
use Rattle.block_store.specs.declared.block.Block.{Block}
use Rattle.block_store.specs.Stores.{HeldBlock, held_at, is_held, pins_at}
use Rattle.block_store.specs.Copies.{has_copy}
use Rattle.memory_core.specs.Caches.{Cache, resident_of}
use Rattle.memory_core.specs.Steady.{IsAmid, IsInStep, is_quiet}
use Rattle.memory_core.proofs.Gone.{pins_found}

-- ---- what is found

-- what the history says of the block that is found
pub find_mapped : (d p : ℕ) (blocks : List HeldBlock) → find (is_block d p) (map resident_of blocks) ≡ option_map resident_of (held_at blocks d p)
find_mapped d p [] = refl
find_mapped d p (b ∷ bs) = elim (cases_Bool (is_held d p b)) [
  | inl holds ↦ cond-true (is_held d p b) (Some (resident_of b)) (find (is_block d p) (map resident_of bs)) holds ∙ sym (ap (λ t. option_map resident_of (cond t (Some b) (held_at bs d p))) holds)
  | inr fails ↦ cond-false (is_held d p b) (Some (resident_of b)) (find (is_block d p) (map resident_of bs)) fails ∙ find_mapped d p bs ∙ sym (ap (λ t. option_map resident_of (cond t (Some b) (held_at bs d p))) fails)
]

-- the block is in memory where it is found
pub any_mapped : (d p : ℕ) (blocks : List HeldBlock) → list_any (is_block d p) (map resident_of blocks) ≡ is_some (held_at blocks d p)
any_mapped d p [] = refl
any_mapped d p (b ∷ bs) = elim (cases_Bool (is_held d p b)) [
  | inl holds ↦ ap (λ t. t || list_any (is_block d p) (map resident_of bs)) holds ∙ sym (ap (λ t. is_some (cond t (Some b) (held_at bs d p))) holds)
  | inr fails ↦ ap (λ t. t || list_any (is_block d p) (map resident_of bs)) fails ∙ any_mapped d p bs ∙ sym (ap (λ t. is_some (cond t (Some b) (held_at bs d p))) fails)
]

pub resident_is : (h : History) (cache : Cache) (d p : ℕ) → IsInStep h cache → is_resident h d p ≡ is_some (held_at cache.blocks d p)
resident_is h cache d p step = ap (list_any (is_block d p)) (sym step.blocks) ∙ any_mapped d p cache.blocks

-- what is found has the name
pub found_name : (d p : ℕ) (blocks : List HeldBlock) (held : HeldBlock) → held_at blocks d p ≡ Some held → is_held d p held ≡ true
found_name d p [] held e = absurd (none-some held e)
found_name d p (b ∷ bs) held e = elim (cases_Bool (is_held d p b)) [
  | inl holds ↦ ap (is_held d p) (sym (same_Some b held (sym (ap (λ t. cond t (Some b) (held_at bs d p)) holds) ∙ e))) ∙ holds
  | inr fails ↦ found_name d p bs held (sym (ap (λ t. cond t (Some b) (held_at bs d p)) fails) ∙ e)
]

-- one without pins that is put behind the others changes no pins
pins_behind : (blocks : List HeldBlock) (held : HeldBlock) (e q : ℕ) → held.pins ≡ 0 → pins_at (blocks ++ held ∷ []) e q ≡ pins_at blocks e q
pins_behind [] held e q none = elim (cases_Bool (is_held e q held)) [
  | inl holds ↦ ap (λ t. pins_found (cond t (Some held) None)) holds ∙ none
  | inr fails ↦ ap (λ t. pins_found (cond t (Some held) None)) fails
]
pins_behind (b ∷ bs) held e q none = elim (cases_Bool (is_held e q b)) [
  | inl holds ↦ ap (λ t. pins_found (cond t (Some b) (held_at (bs ++ held ∷ []) e q))) holds ∙ sym (ap (λ t. pins_found (cond t (Some b) (held_at bs e q))) holds)
  | inr fails ↦ ap (λ t. pins_found (cond t (Some b) (held_at (bs ++ held ∷ []) e q))) fails ∙ pins_behind bs held e q none ∙ sym (ap (λ t. pins_found (cond t (Some b) (held_at bs e q))) fails)
]

-- one of another name behind the others isn't found
pub found_before : (blocks : List HeldBlock) (held : HeldBlock) (e q : ℕ) → is_held e q held ≡ false → held_at (blocks ++ held ∷ []) e q ≡ held_at blocks e q
found_before [] held e q other = ap (λ t. cond t (Some held) None) other
found_before (b ∷ bs) held e q other = ap (λ found. cond (is_held e q b) (Some b) found) (found_before bs held e q other)

-- one of the name behind others that haven't it is found
pub found_last : (blocks : List HeldBlock) (held : HeldBlock) (e q : ℕ) → is_held e q held ≡ true → held_at blocks e q ≡ None → held_at (blocks ++ held ∷ []) e q ≡ Some held
found_last [] held e q holds none = ap (λ t. cond t (Some held) None) holds
found_last (b ∷ bs) held e q holds none = elim (cases_Bool (is_held e q b)) [
  | inl here ↦ absurd (none-some b (sym none ∙ ap (λ t. cond t (Some b) (held_at bs e q)) here))
  | inr fails ↦
      ap (λ t. cond t (Some b) (held_at (bs ++ held ∷ []) e q)) fails
      ∙ found_last bs held e q holds (sym (ap (λ t. cond t (Some b) (held_at bs e q)) fails) ∙ none)
]

-- ---- an entry that changes nothing that is kept of blocks

-- the blocks are as before, and each copy was there
pub in_step_moved : (h : History) (had has : Cache) → IsInStep h had → has.blocks ≡ had.blocks → ((e q : ℕ) → has_copy has.copies e q ≡ true → has_copy had.copies e q ≡ true) → IsInStep h has
in_step_moved h had has step blocks copies = record {
  blocks = ap (map resident_of) blocks ∙ step.blocks;
  pins = λ e q. ap (λ bs. pins_at bs e q + total (unpin_of e q) h) blocks ∙ step.pins e q;
  copies = λ e q there. step.copies e q (copies e q there);
}

in_step_same : (h : History) (entry : Entry) (cache : Cache) → IsInStep h cache → residents (entry ∷ h) ≡ residents h
    → ((e q : ℕ) → pin_of e q entry.event ≡ 0) → ((e q : ℕ) → unpin_of e q entry.event ≡ 0) → IsInStep (entry ∷ h) cache
in_step_same h entry cache step left pins unpins = record {
  blocks = step.blocks ∙ sym left;
  pins = λ e q. omega (arith, step.pins e q, pins e q, unpins e q);
  copies = λ e q there. omega (arith, step.copies e q there);
}

-- an event that leaves blocks, pins and copies as they were
pub in_step_quiet : (h : History) (worker : ℕ) (event : Event) (cache : Cache) → is_quiet event ≡ true → IsInStep h cache → IsInStep (entry_by worker event ∷ h) cache
in_step_quiet h worker (Begin task) cache quiet step = in_step_same h (entry_by worker (Begin task)) cache step refl (λ e q. refl) (λ e q. refl)
in_step_quiet h worker (Attempt task asked moved evictions got) cache quiet step = in_step_same h (entry_by worker (Attempt task asked moved evictions got)) cache step refl (λ e q. refl) (λ e q. refl)
in_step_quiet h worker (Release task freed) cache quiet step = in_step_same h (entry_by worker (Release task freed)) cache step refl (λ e q. refl) (λ e q. refl)
in_step_quiet h worker (End task freed) cache quiet step = in_step_same h (entry_by worker (End task freed)) cache step refl (λ e q. refl) (λ e q. refl)
in_step_quiet h worker (Refused d p size borrowed evictions) cache quiet step = in_step_same h (entry_by worker (Refused d p size borrowed evictions)) cache step refl (λ e q. refl) (λ e q. refl)
in_step_quiet h worker (Pin d p true) cache quiet step = in_step_same h (entry_by worker (Pin d p true)) cache step refl (λ e q. refl) (λ e q. refl)
in_step_quiet h worker (Pin d p false) cache quiet step = absurd (cc quiet)
in_step_quiet h worker (Grow bytes) cache quiet step = in_step_same h (entry_by worker (Grow bytes)) cache step refl (λ e q. refl) (λ e q. refl)
in_step_quiet h worker (Unpin d p) cache quiet step = absurd (cc quiet)
in_step_quiet h worker (Evict d p size fate) cache quiet step = absurd (cc quiet)
in_step_quiet h worker (Admit d p size level borrowed evictions) cache quiet step = absurd (cc quiet)
in_step_quiet h worker (Remove d p size) cache quiet step = absurd (cc quiet)

-- ---- an admission

-- a block without pins is put behind the others
pub in_step_admitted : (h : History) (worker borrowed evictions : ℕ) (block : HeldBlock) (had has : Cache) → IsInStep h had → block.pins ≡ 0
    → has.blocks ≡ had.blocks ++ block ∷ [] → has.copies ≡ had.copies
    → IsInStep (entry_by worker (Admit block.dataset block.part block.size block.level borrowed evictions) ∷ h) has
in_step_admitted h worker borrowed evictions block had has step none blocks copies = record {
  blocks = ap (map resident_of) blocks ∙ map-append resident_of had.blocks (block ∷ []) ∙ ap (λ (rs : List Resident). rs ++ resident_of block ∷ []) step.blocks;
  pins = λ e q. omega (arith, ap (λ bs. pins_at bs e q) blocks, pins_behind had.blocks block e q none, step.pins e q);
  copies = λ e q there. omega (arith, step.copies e q (sym (ap (λ cs. has_copy cs e q) copies) ∙ there));
}

-- the event of an admission, whose parts were read one by one
pub same_admission : (block named placed costly levelled : Block) (size borrowed evictions : ℕ) → named ≡ block → placed ≡ block → costly ≡ block → levelled ≡ block → size ≡ page_cost costly.page.rows
    → Admit named.dataset placed.part size levelled.level borrowed evictions ≡ Admit block.dataset block.part (page_cost block.page.rows) block.level borrowed evictions
same_admission block named placed costly levelled size borrowed evictions name place cost level size_is =
    ap (λ (b : Block). Admit b.dataset placed.part size levelled.level borrowed evictions) name
    ∙ ap (λ (b : Block). Admit block.dataset b.part size levelled.level borrowed evictions) place
    ∙ ap (λ n. Admit block.dataset block.part n levelled.level borrowed evictions) (size_is ∙ ap (λ (b : Block). page_cost b.page.rows) cost)
    ∙ ap (λ (b : Block). Admit block.dataset block.part (page_cost block.page.rows) b.level borrowed evictions) level

-- ---- copies are forgotten

-- no copy of the dataset is left, and the other datasets have theirs
pub in_step_forgotten : (h : History) (dataset : ℕ) (had has : Cache) → IsInStep h had → has.blocks ≡ had.blocks
    → ((part : ℕ) → has_copy has.copies dataset part ≡ false)
    → ((d p : ℕ) → nat_eq d dataset ≡ false → has_copy has.copies d p ≡ has_copy had.copies d p)
    → IsInStep h has
in_step_forgotten h dataset had has step blocks gone others = in_step_moved h had has step blocks there
  where
    there : (e q : ℕ) → has_copy has.copies e q ≡ true → has_copy had.copies e q ≡ true
    there e q kept = elim (cases_eq e dataset) [
      | inl same ↦ absurd (both_ways (has_copy has.copies e q) (ap (λ n. has_copy has.copies n q) same ∙ gone q) kept)
      | inr apart ↦ sym (others e q (ne_eqb e dataset apart)) ∙ kept
    ]

-- ---- the whole

-- the same, where setup, history and cache are known by equations
pub amid_at : (setup given : Sizes) (h now : History) (cache : Cache) → given ≡ setup → now ≡ h → IsAmid setup h cache → IsAmid given now cache
amid_at setup given h now cache setup_is now_is amid =
    subst (λ (s : Sizes). IsAmid s now cache) (sym setup_is) (subst (λ (n : History). IsAmid setup n cache) (sym now_is) amid)

-- an entry more
pub amid_more : (setup : Sizes) (h : History) (had has : Cache) (entry : Entry) → IsAmid setup h had → MayFollow setup h entry → IsInStep (entry ∷ h) has → IsAmid setup (entry ∷ h) has
amid_more setup h had has entry amid may step = record { range = amid.range; permitted = (amid.permitted, may); in_step = step }

-- what isn't in memory isn't found
pub none_found : (h : History) (cache : Cache) (d p : ℕ) → IsInStep h cache → is_resident h d p ≡ false → held_at cache.blocks d p ≡ None
none_found h cache d p step absent = none_of (held_at cache.blocks d p) (sym (resident_is h cache d p step) ∙ absent)
  where
    none_of : (found : Option HeldBlock) → is_some found ≡ false → found ≡ None
    none_of None fails = refl
    none_of (Some held) fails = absurd (cc fails)

-- a call that tells the pins of a block tells whether it is in memory
pub told_resident : (found : Option HeldBlock) (pins : Option ℕ) → IfSome pins (λ _. IsSome found) → IfNone pins (found ≡ None) → is_some pins ≡ is_some found
told_resident None None some none = refl
told_resident None (Some n) some none = absurd (cc some)
told_resident (Some held) None some none = absurd (cc none)
told_resident (Some held) (Some n) some none = refl

-- ---- which entries may follow

-- a pin of a block in memory, by a worker without a pin
pub may_pin : (setup : Sizes) (h : History) (worker d p : ℕ) → worker < setup.workers → pending h ≡ [] → is_resident h d p ≡ true → worker_pin h worker ≡ None → MayFollow setup h (entry_by worker (Pin d p false))
may_pin setup h worker d p known none resident free = record { worker_known = known; own_turn = (whole h none).any_turn worker; event = (none, resident, free) }

-- a read-back of a block that isn't in memory, by a worker without a pin
pub may_read : (setup : Sizes) (h : History) (worker d p : ℕ) → worker < setup.workers → pending h ≡ [] → is_resident h d p ≡ false → worker_pin h worker ≡ None
    → 0 < total (leaves_copy d p) h → MayFollow setup h (entry_by worker (Pin d p true))
may_read setup h worker d p known none absent free left = record { worker_known = known; own_turn = (whole h none).any_turn worker; event = (none, absent, free, left) }

-- an unpin of the worker's pin
pub may_unpin : (setup : Sizes) (h : History) (worker d p : ℕ) → worker < setup.workers → pending h ≡ [] → worker_pin h worker ≡ Some (record { dataset = d; part = p }) → MayFollow setup h (entry_by worker (Unpin d p))
may_unpin setup h worker d p known none its = record { worker_known = known; own_turn = (whole h none).any_turn worker; event = (none, its) }

-- a pinned block has a pin
pub pins_left : (h : History) (cache : Cache) (d p : ℕ) → IsInStep h cache → is_pinned h d p ≡ true → 0 < pins_at cache.blocks d p
pins_left h cache d p step pinned = omega (arith, step.pins d p, ltb-true (total (unpin_of d p) h) (total (pin_of d p) h) pinned)

-- the same, where only what isn't kept in step changed
pub amid_moved : (setup : Sizes) (h : History) (had has : Cache) → IsAmid setup h had → has.blocks ≡ had.blocks → has.copies ≡ had.copies → IsAmid setup h has
amid_moved setup h had has amid blocks copies = record {
  range = amid.range;
  permitted = amid.permitted;
  in_step = in_step_moved h had has amid.in_step blocks (λ e q there. sym (ap (λ cs. has_copy cs e q) copies) ∙ there);
}
