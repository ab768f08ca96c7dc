-- Lists with a test: where the first element that passes stands, and the list without those that pass.
use Rattle.std.proofs.Common.{◌≡◌, ℕ, zero, suc, ◌+◌, Bool, true, false, not, cond, ◌||◌, List, [], ◌∷◌, length, get_or, Some, None, refl, sym, ap, subst, ◌∙◌, inl, inr, arith}
use Rattle.std.specs.List.{find, filter, list_any, position, position_from, slice_get}
use Rattle.std.proofs.lemmas.Iterator.Adapters.{position_from-zero}
use Rattle.std.proofs.lemmas.Bool.{cases_Bool, true≢false}
use Rattle.std.proofs.lemmas.Option.{none-some, same_Some, slice_get_read, slice_get_within}

-- an element of the list that passes
pub record PassesAt {X : Type 0} (test : X → Bool) (xs : List X) (i : ℕ) : Type 0 where
  pub item : X
  pub here : slice_get xs i ≡ Some item
  pub passes : test item ≡ true

-- a position that was found, counted from n, is that of an element that passes
place_some : {X : Type 0} (test : X → Bool) (n : ℕ) (xs : List X) (i : ℕ) → position_from test n xs ≡ Some i → (k : ℕ) × (i ≡ n + k) × PassesAt test xs k
place_some test n [] i e = absurd (none-some i e)
place_some test n (x ∷ xs) i e =
    elim (cases_Bool (test x)) [
      | inl holds ↦ (0, sym (same_Some n i (sym (ap (λ b. cond b (Some n) (position_from test (n + 1) xs)) holds) ∙ e)) ∙ sym (add_zero n), record { item = x; here = refl; passes = holds })
      | inr fails ↦
          let later = place_some test (n + 1) xs i (sym (ap (λ b. cond b (Some n) (position_from test (n + 1) xs)) fails) ∙ e) in
          let next : i ≡ n + suc later.0 = omega (arith, later.1) in
          (suc later.0, next, record { item = later.2.item; here = later.2.here; passes = later.2.passes })
    ]
  where
    add_zero : (m : ℕ) → m + 0 ≡ m
    add_zero m = omega arith

-- what a walk found passes
pub position_passes : {X : Type 0} (test : X → Bool) (xs : List X) (i : ℕ) → position test xs ≡ Some i → PassesAt test xs i
position_passes test xs i e =
    let walk = place_some test 0 xs i (sym (position_from-zero test xs) ∙ e) in
    let same : walk.0 ≡ i = omega (arith, walk.1) in
    subst (PassesAt test xs) same walk.2

-- where none was found none passes
place_none : {X : Type 0} (test : X → Bool) (n : ℕ) (xs : List X) → position_from test n xs ≡ None → list_any test xs ≡ false
place_none test n [] e = refl
place_none test n (x ∷ xs) e =
    elim (cases_Bool (test x)) [
      | inl holds ↦ absurd (none-some n (sym e ∙ ap (λ b. cond b (Some n) (position_from test (n + 1) xs)) holds))
      | inr fails ↦ ap (λ b. b || list_any test xs) fails ∙ place_none test (n + 1) xs (sym (ap (λ b. cond b (Some n) (position_from test (n + 1) xs)) fails) ∙ e)
    ]

pub position_none : {X : Type 0} (test : X → Bool) (xs : List X) → position test xs ≡ None → list_any test xs ≡ false
position_none test xs e = place_none test 0 xs (sym (position_from-zero test xs) ∙ e)

pub any_at : {X : Type 0} (test : X → Bool) (xs : List X) (i : ℕ) (x : X) → slice_get xs i ≡ Some x → test x ≡ true → list_any test xs ≡ true
any_at test [] i x here holds = absurd (none-some x here)
any_at test (y ∷ ys) zero x here holds = ap (λ b. b || list_any test ys) (ap test (same_Some y x here) ∙ holds)
any_at test (y ∷ ys) (suc i) x here holds =
    ap (λ b. test y || b) (any_at test ys i x here holds) ∙ or_true (test y)
  where
    or_true : (b : Bool) → (b || true) ≡ true
    or_true true = refl
    or_true false = refl

or_false : (a b : Bool) → (a || b) ≡ false → (a ≡ false) × (b ≡ false)
or_false true b e = absurd (true≢false e)
or_false false b e = (refl, e)

-- neither the first nor one of the others passes
pub any_parts : {X : Type 0} (test : X → Bool) (x : X) (xs : List X) → list_any test (x ∷ xs) ≡ false → (test x ≡ false) × (list_any test xs ≡ false)
any_parts test x xs none = or_false (test x) (list_any test xs) none

-- where none passes all are kept
pub kept_all : {X : Type 0} (test : X → Bool) (xs : List X) → list_any test xs ≡ false → filter (λ x. not (test x)) xs ≡ xs
kept_all test [] none = refl
kept_all test (x ∷ xs) none =
    let parts = any_parts test x xs none in
    ap (λ b. cond (not b) (x ∷ filter (λ y. not (test y)) xs) (filter (λ y. not (test y)) xs)) parts.0 ∙ ap (λ (ys : List _). x ∷ ys) (kept_all test xs parts.1)

-- the first that passes, where none does
pub find_none : {X : Type 0} (test : X → Bool) (xs : List X) → list_any test xs ≡ false → find test xs ≡ None
find_none test [] none = refl
find_none test (x ∷ xs) none =
    let parts = any_parts test x xs none in
    ap (λ b. cond b (Some x) (find test xs)) parts.0 ∙ find_none test xs parts.1

pub none_find : {X : Type 0} (test : X → Bool) (xs : List X) → find test xs ≡ None → list_any test xs ≡ false
none_find test [] none = refl
none_find test (x ∷ xs) none =
    elim (cases_Bool (test x)) [
      | inl holds ↦ absurd (none-some x (sym none ∙ ap (λ b. cond b (Some x) (find test xs)) holds))
      | inr fails ↦ ap (λ b. b || list_any test xs) fails ∙ none_find test xs (sym (ap (λ b. cond b (Some x) (find test xs)) fails) ∙ none)
    ]

-- of what was filtered out none is left
pub none_kept : {X : Type 0} (test : X → Bool) (xs : List X) → list_any test (filter (λ x. not (test x)) xs) ≡ false
none_kept test [] = refl
none_kept test (x ∷ xs) =
    elim (cases_Bool (test x)) [
      | inl holds ↦ ap (λ b. list_any test (cond (not b) (x ∷ filter (λ y. not (test y)) xs) (filter (λ y. not (test y)) xs))) holds ∙ none_kept test xs
      | inr fails ↦ ap (λ b. list_any test (cond (not b) (x ∷ filter (λ y. not (test y)) xs) (filter (λ y. not (test y)) xs))) fails ∙ ap (λ b. b || list_any test (filter (λ y. not (test y)) xs)) fails ∙ none_kept test xs
    ]

-- a test that fails at all fails at those that are kept
pub none_filtered : {X : Type 0} (test keeps : X → Bool) (xs : List X) → list_any test xs ≡ false → list_any test (filter keeps xs) ≡ false
none_filtered test keeps [] none = refl
none_filtered test keeps (x ∷ xs) none =
    let parts = any_parts test x xs none in
    let rest = none_filtered test keeps xs parts.1 in
    elim (cases_Bool (keeps x)) [
      | inl holds ↦ ap (λ b. list_any test (cond b (x ∷ filter keeps xs) (filter keeps xs))) holds ∙ ap (λ b. b || list_any test (filter keeps xs)) parts.0 ∙ rest
      | inr fails ↦ ap (λ b. list_any test (cond b (x ∷ filter keeps xs) (filter keeps xs))) fails ∙ rest
    ]

-- what is read at a place that passes
pub read_at : {X : Type 0} (test : X → Bool) (xs : List X) (i : ℕ) (x : X) → PassesAt test xs i → x ≡ get_or xs i x → slice_get xs i ≡ Some x
read_at test xs i x found read = slice_get_read xs (length xs) i x refl (slice_get_within xs i found.item found.here) read
