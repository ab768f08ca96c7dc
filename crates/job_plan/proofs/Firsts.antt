-- First places in lists, and lists of which some are kept.
use Rattle.std.proofs.Common.{◌≡◌, ◌<◌, ◌+◌, ◌∙◌, ℕ, zero, suc, List, [], ◌∷◌, Some, Bool, true, false, length, map, get_or, refl, ap, inl, inr, arith}
use Rattle.std.specs.Prelude.{◌||◌}
use Rattle.std.specs.List.{filter, list_any, position_from}
use Rattle.std.proofs.lemmas.Bool.{cases_Bool}
use Rattle.std.proofs.lemmas.List.Quantifiers.{position-Some}
use Rattle.std.proofs.lemmas.Iterator.Adapters.{position_from-zero}

-- what stands at the first place that passes
pub first_at : {X : Type 0} (t : X → Bool) (xs : List X) (k : ℕ) (d : X) → position_from t 0 xs ≡ Some k → (k < length xs) × (t (get_or xs k d) ≡ true)
first_at t xs k d h = let r = position-Some t xs k d (position_from-zero t xs ∙ h) in (r.0, r.1)

-- where one passes there is a first
pub first_of_any : {X : Type 0} (t : X → Bool) (i : ℕ) (xs : List X) → list_any t xs ≡ true → (k : ℕ) × (position_from t i xs ≡ Some k)
first_of_any t i [] h = cc h
first_of_any t i (x ∷ xs) h = elim (cases_Bool (t x)) [
  | inl here ↦ (i, rw here refl)
  | inr past ↦ let r = first_of_any t (i + 1) xs (rw past at h) in (r.0, rw past r.1)
]

or-right : (b c : Bool) → c ≡ true → (b || c) ≡ true
or-right true c e = refl
or-right false c e = e

or-left : (b c : Bool) → b ≡ true → (b || c) ≡ true
or-left b c e = rw e refl

-- what is kept is among the others
pub any_of_kept : {X : Type 0} (t p : X → Bool) (xs : List X) (j : ℕ) (d : X) → j < length xs → p (get_or xs j d) ≡ true → t (get_or xs j d) ≡ true
    → list_any t (filter p xs) ≡ true
any_of_kept t p [] j d lt e f = absurd (omega arith)
any_of_kept t p (x ∷ xs) zero d lt e f = rw e (or-left (t x) (list_any t (filter p xs)) f)
any_of_kept t p (x ∷ xs) (suc j) d lt e f = elim (cases_Bool (p x)) [
  | inl here ↦ rw here (or-right (t x) (list_any t (filter p xs)) (any_of_kept t p xs j d (omega arith) e f))
  | inr past ↦ rw past (any_of_kept t p xs j d (omega arith) e f)
]

pub filter_same : {X : Type 0} (p q : X → Bool) (xs : List X) → ((x : X) → p x ≡ q x) → filter p xs ≡ filter q xs
filter_same p q [] h = refl
filter_same p q (x ∷ xs) h = rw (h x, filter_same p q xs h) refl

pub any_of_map : {X Y : Type 0} (p : Y → Bool) (f : X → Y) (xs : List X) → list_any p (map f xs) ≡ list_any (λ x. p (f x)) xs
any_of_map p f [] = refl
any_of_map p f (x ∷ xs) = ap (λ (b : Bool). p (f x) || b) (any_of_map p f xs)
