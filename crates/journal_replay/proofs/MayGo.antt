-- The bytes of the blocks that may go: what one pin more keeps, and those without pins.
use Rattle.std.proofs.Common.{◌≡◌, ℕ, ◌+◌, ◌<◌, Bool, true, false, not, cond, ◌&&◌, ◌||◌, List, [], ◌∷◌, ◌++◌, sum_by, length, get_or, take, Option, Some, None, refl, sym, ap, ◌∙◌, arith}
use Rattle.std.specs.Prelude.{nat_eq}
use Rattle.std.specs.List.{filter, list_any}
use Rattle.std.proofs.lemmas.Bool.{and_parts, and_right, eqb-true}
use Rattle.std.proofs.lemmas.List.{take_more}
use Rattle.std.proofs.lemmas.List.Folds.{list_any-append}
use Rattle.std.proofs.lemmas.List.Sums.{sum_by-cons}
use Rattle.eviction.specs.declared.candidate.Candidate.{Candidate}
use Rattle.eviction.specs.Victims.{is_evictable}
use Rattle.pool_ledger.specs.Blocks.{Resident, is_block, is_excepted, only, sizes}
use Rattle.journal_replay.specs.declared.block_name.BlockName.{BlockName}
use Rattle.journal_replay.specs.declared.placed.Placed.{Placed}
use Rattle.journal_replay.specs.Tables.{bytes_of, candidate_in, is_pin}
use Rattle.journal_replay.specs.UseOrder.{candidates_of, evictable_bytes, resident_in, residents_in}
use Rattle.journal_replay.proofs.Noted.{turned}

-- Sums

-- the bytes of those that pass, with one more in front
passing : {X : Type 0} (size : X → ℕ) (test : X → Bool) (x : X) (xs : List X) → sum_by size (filter test (x ∷ xs)) ≡ cond (test x) (size x) 0 + sum_by size (filter test xs)
passing {X} size test x xs = by (test x)
  where
    by : (t : Bool) → sum_by size (cond t (x ∷ filter test xs) (filter test xs)) ≡ cond t (size x) 0 + sum_by size (filter test xs)
    by true = omega (arith, sum_by-cons size x (filter test xs))
    by false = omega arith

-- One pin more

-- a block may go with it where it may go without, and it isn't the block's
apart : (kept out own : Bool) → (not (kept || (own || false)) && not out) ≡ ((not kept && not out) && not own)
apart true out own = refl
apart false true true = refl
apart false false true = refl
apart false true false = refl
apart false false false = refl

no_more : (goes own : Bool) (size : ℕ) → (own ≡ true → goes ≡ false) → cond goes size 0 ≡ cond (goes && not own) size 0
no_more true true size kept = absurd (cc (kept refl))
no_more true false size kept = refl
no_more false own size kept = refl

some_more : (goes own : Bool) (size : ℕ) → (own ≡ true → goes ≡ true) → cond goes size 0 ≡ cond (goes && not own) size 0 + cond own size 0
some_more true true size free = omega arith
some_more true false size free = omega arith
some_more false true size free = absurd (cc (free refl))
some_more false false size free = refl

module _ (except : Option ℕ) (pins : List (Option BlockName)) (pin : Option BlockName) where
  -- whether the block of an entry may go
  abbrev goes : List (Option BlockName) → ℕ × Placed → Bool
  goes some e = is_evictable except (candidate_in some (resident_in e.1))

  -- whether it is the pin's
  abbrev pub own : ℕ × Placed → Bool
  own e = is_pin e.1.name.dataset e.1.name.part pin

  one_more : (e : ℕ × Placed) → goes (pins ++ pin ∷ []) e ≡ (goes pins e && not (own e))
  one_more e =
      let d = e.1.name.dataset in
      let p = e.1.name.part in
      ap (λ t. not t && not (is_excepted except d)) (list_any-append (is_pin d p) pins (pin ∷ []))
      ∙ apart (list_any (is_pin d p) pins) (is_excepted except d) (own e)

  bytes-cons : (some : List (Option BlockName)) (e : ℕ × Placed) (es : List (ℕ × Placed))
      → evictable_bytes except some (e ∷ es) ≡ cond (goes some e) e.1.kept.size 0 + evictable_bytes except some es
  bytes-cons some e es =
      passing (λ (c : Candidate). c.size) (is_evictable except) (candidate_in some (resident_in e.1)) (candidates_of some es)

  -- it keeps no more where its block couldn't go before
  pub keeps_no_more : ((e : ℕ × Placed) → own e ≡ true → goes pins e ≡ false) → (es : List (ℕ × Placed))
      → evictable_bytes except pins es ≡ evictable_bytes except (pins ++ pin ∷ []) es
  keeps_no_more kept [] = refl
  keeps_no_more kept (e ∷ es) =
      omega (
        arith,
        bytes-cons pins e es,
        bytes-cons (pins ++ pin ∷ []) e es,
        no_more (goes pins e) (own e) e.1.kept.size (kept e),
        ap (λ t. cond {A = ℕ} t e.1.kept.size 0) (one_more e),
        keeps_no_more kept es,
      )

  -- and its block where that could
  pub keeps_own : ((e : ℕ × Placed) → own e ≡ true → goes pins e ≡ true) → (es : List (ℕ × Placed))
      → evictable_bytes except pins es ≡ evictable_bytes except (pins ++ pin ∷ []) es + sizes (filter (λ b. is_pin b.dataset b.part pin) (residents_in es))
  keeps_own free [] = refl
  keeps_own free (e ∷ es) =
      omega (
        arith,
        bytes-cons pins e es,
        bytes-cons (pins ++ pin ∷ []) e es,
        some_more (goes pins e) (own e) e.1.kept.size (free e),
        ap (λ t. cond {A = ℕ} t e.1.kept.size 0) (one_more e),
        passing (λ (b : Resident). b.size) (λ b. is_pin b.dataset b.part pin) (resident_in e.1) (residents_in es),
        keeps_own free es,
      )

-- the pin's block is the entry's
its_own : (name : BlockName) (d p : ℕ) → is_pin d p (Some name) ≡ true → (d ≡ name.dataset) × (p ≡ name.part)
its_own name d p holds =
    let parts = and_parts (nat_eq name.dataset d) (nat_eq name.part p) holds in
    (sym (eqb-true name.dataset d parts.0), sym (eqb-true name.part p parts.1))

only_is : (name : BlockName) (blocks : List Resident) → filter (λ b. is_pin b.dataset b.part (Some name)) blocks ≡ only name.dataset name.part blocks
only_is name [] = refl
only_is name (b ∷ blocks) =
    let others = filter (λ (x : Resident). is_pin x.dataset x.part (Some name)) blocks in
    ap (λ t. cond t (b ∷ others) others) (turned name.dataset name.part b.dataset b.part)
    ∙ ap (λ (l : List Resident). cond (is_block name.dataset name.part b) (b ∷ l) l) (only_is name blocks)

module _ (except : Option ℕ) (pins : List (Option BlockName)) (name : BlockName) (es : List (ℕ × Placed)) where
  -- whether the block is pinned already, of an entry whose block it is
  pinned_alike : (e : ℕ × Placed) → is_pin e.1.name.dataset e.1.name.part (Some name) ≡ true
      → list_any (is_pin e.1.name.dataset e.1.name.part) pins ≡ list_any (is_pin name.dataset name.part) pins
  pinned_alike e is =
      let same = its_own name e.1.name.dataset e.1.name.part is in
      ap (λ (d : ℕ). list_any (is_pin d e.1.name.part) pins) same.0 ∙ ap (λ (p : ℕ). list_any (is_pin name.dataset p) pins) same.1

  -- whether it stays anyway, of an entry whose block it is
  out_alike : (e : ℕ × Placed) → is_pin e.1.name.dataset e.1.name.part (Some name) ≡ true → is_excepted except e.1.name.dataset ≡ is_excepted except name.dataset
  out_alike e is = ap (is_excepted except) (its_own name e.1.name.dataset e.1.name.part is).0

  pub stays_anyway : is_excepted except name.dataset ≡ true → evictable_bytes except pins es ≡ evictable_bytes except (pins ++ Some name ∷ []) es
  stays_anyway out =
      keeps_no_more except pins (Some name)
      (λ e is. and_right (not (list_any (is_pin e.1.name.dataset e.1.name.part) pins)) (not (is_excepted except e.1.name.dataset)) (ap not (out_alike e is ∙ out))) es

  pub pinned_before : list_any (is_pin name.dataset name.part) pins ≡ true → evictable_bytes except pins es ≡ evictable_bytes except (pins ++ Some name ∷ []) es
  pinned_before already =
      keeps_no_more except pins (Some name) (λ e is. ap (λ t. not t && not (is_excepted except e.1.name.dataset)) (pinned_alike e is ∙ already)) es

  pub pinned_now : is_excepted except name.dataset ≡ false → list_any (is_pin name.dataset name.part) pins ≡ false
      → evictable_bytes except pins es ≡ evictable_bytes except (pins ++ Some name ∷ []) es + sizes (only name.dataset name.part (residents_in es))
  pinned_now goes first =
      keeps_own except pins (Some name)
      (λ e is.
      ap (λ t. not t && not (is_excepted except e.1.name.dataset)) (pinned_alike e is ∙ first) ∙ ap not (out_alike e is ∙ goes)) es
      ∙ ap (λ (bs : List Resident). evictable_bytes except (pins ++ Some name ∷ []) es + sizes bs) (only_is name (residents_in es))

-- the pins of so many workers and of one more
pub pins_more : (pins : List (Option BlockName)) (worker : ℕ) (pin : Option BlockName) → worker < length pins → get_or pins worker None ≡ pin → take (worker + 1) pins ≡ take worker pins ++ pin ∷ []
pins_more pins worker pin known is = take_more pins worker None known ∙ ap (λ (o : Option BlockName). take worker pins ++ o ∷ []) is

-- Without pins

all_or_own : (own : Bool) (size : ℕ) → cond (not own) size 0 + cond own size 0 ≡ size
all_or_own true size = omega arith
all_or_own false size = omega arith

pub all_evictable : (es : List (ℕ × Placed)) → evictable_bytes None [] es ≡ sizes (residents_in es)
all_evictable [] = refl
all_evictable (e ∷ es) =
    omega (arith, bytes-cons None [] None [] e es, sum_by-cons (λ (b : Resident). b.size) (resident_in e.1) (residents_in es), all_evictable es)

pub beside_evictable : (dataset : ℕ) (es : List (ℕ × Placed)) → evictable_bytes (Some dataset) [] es + bytes_of dataset (residents_in es) ≡ sizes (residents_in es)
beside_evictable dataset [] = refl
beside_evictable dataset (e ∷ es) =
    omega (
      arith,
      bytes-cons (Some dataset) [] None [] e es,
      all_or_own (nat_eq e.1.name.dataset dataset) e.1.kept.size,
      sum_by-cons (λ (b : Resident). cond {A = ℕ} (nat_eq b.dataset dataset) b.size 0) (resident_in e.1) (residents_in es),
      sum_by-cons (λ (b : Resident). b.size) (resident_in e.1) (residents_in es),
      beside_evictable dataset es,
    )
