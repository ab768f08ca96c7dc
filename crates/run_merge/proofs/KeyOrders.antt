-- Keys in their order.
use Rattle.std.proofs.Common.{◌≡◌, ℕ, true, false, List, refl, ap, ◌∙◌, sym, inl, inr, arith}
use Rattle.std.specs.Ordering.{nat_cmp, ordering_reverse, is_eq, is_gt, is_lt}
use Rattle.std.specs.Prelude.{nat_lt}
use Rattle.std.specs.Cmp.{nat_cmp_is}
use Rattle.std.specs.declared.cmp.Ordering.{Ordering}
use Rattle.std.specs.declared.cmp.Ordering.TheVariants.{Less, Equal, Greater}
use Rattle.std.proofs.lemmas.Cmp.{nat_list_cmp_total, tied_itself}
use Rattle.std.proofs.lemmas.Bool.{cases_eq, cases_lt, le-ltb, lt-ltb}
use Rattle.std.specs.FinMap.{slice_cmp-IsAntisymmetric, nat_cmp-IsAntisymmetric}
use Rattle.aggregate.specs.Totals.{key_cmp}

pub same_key : (a b : List ℕ) → key_cmp a b ≡ Equal → a ≡ b
same_key a b e = slice_cmp-IsAntisymmetric nat_cmp-IsAntisymmetric a b e

pub turn : (a b : List ℕ) (o : Ordering) → key_cmp a b ≡ o → key_cmp b a ≡ ordering_reverse o
turn a b o e = nat_list_cmp_total.antisymm b a ∙ ap ordering_reverse e

pub less_not_gt : (o : Ordering) → o ≡ Less → is_gt o ≡ false
less_not_gt o e = ap is_gt e

pub lt_less : (o : Ordering) → is_lt o ≡ true → o ≡ Less
lt_less Less e = refl
lt_less Equal e = absurd cc
lt_less Greater e = absurd cc

pub eq_equal : (o : Ordering) → is_eq o ≡ true → o ≡ Equal
eq_equal Less e = absurd cc
eq_equal Equal e = refl
eq_equal Greater e = absurd cc

-- whether a number is below another, as they compare
pub lt_numbers : (m n : ℕ) → nat_lt m n ≡ is_lt (nat_cmp m n)
lt_numbers m n =
    elim (cases_lt m n) [
      | inl below ↦ lt-ltb m n below ∙ ap is_lt (nat_cmp_is m n Less below)
      | inr from ↦
          elim (cases_eq m n) [
            | inl same ↦ le-ltb m n from ∙ ap is_lt (nat_cmp_is m n Equal same)
            | inr apart ↦ le-ltb m n from ∙ ap is_lt (nat_cmp_is m n Greater (omega (arith, apart)))
          ]
    ]

-- at most a key that is at most
pub upto_itself : (a : List ℕ) → is_gt (key_cmp a a) ≡ false
upto_itself a = ap is_gt (tied_itself nat_list_cmp_total a)

pub less_upto : (a b c : List ℕ) → key_cmp a b ≡ Less → is_gt (key_cmp b c) ≡ false → key_cmp a c ≡ Less
less_upto a b c less upto = by_cmp (key_cmp b c) refl upto
  where
    by_cmp : (o : Ordering) → key_cmp b c ≡ o → is_gt o ≡ false → key_cmp a c ≡ Less
    by_cmp Less e h = nat_list_cmp_total.trans a b c less e
    by_cmp Equal e h = ap (key_cmp a) (sym (same_key b c e)) ∙ less
    by_cmp Greater e h = absurd cc

pub upto_less : (a b c : List ℕ) → is_gt (key_cmp a b) ≡ false → key_cmp b c ≡ Less → key_cmp a c ≡ Less
upto_less a b c upto less = by_cmp (key_cmp a b) refl upto
  where
    by_cmp : (o : Ordering) → key_cmp a b ≡ o → is_gt o ≡ false → key_cmp a c ≡ Less
    by_cmp Less e h = nat_list_cmp_total.trans a b c e less
    by_cmp Equal e h = ap (λ (k : List ℕ). key_cmp k c) (same_key a b e) ∙ less
    by_cmp Greater e h = absurd cc

pub upto_upto : (a b c : List ℕ) → is_gt (key_cmp a b) ≡ false → is_gt (key_cmp b c) ≡ false → is_gt (key_cmp a c) ≡ false
upto_upto a b c upto next = by_cmp (key_cmp a b) refl upto
  where
    by_cmp : (o : Ordering) → key_cmp a b ≡ o → is_gt o ≡ false → is_gt (key_cmp a c) ≡ false
    by_cmp Less e h = less_not_gt (key_cmp a c) (less_upto a b c e next)
    by_cmp Equal e h = ap (λ (k : List ℕ). is_gt (key_cmp k c)) (same_key a b e) ∙ next
    by_cmp Greater e h = absurd cc

-- no key is below itself
pub not_below_itself : (a : List ℕ) → key_cmp a a ≡ Less → ⊥
not_below_itself a less = by_cmp (key_cmp a a) less (tied_itself nat_list_cmp_total a)
  where
    by_cmp : (o : Ordering) → o ≡ Less → o ≡ Equal → ⊥
    by_cmp Less e h = absurd cc
    by_cmp Equal e h = absurd cc
    by_cmp Greater e h = absurd cc

-- a key that isn't below another is not above it the other way round
pub not_lt_back : (a b : List ℕ) → is_lt (key_cmp a b) ≡ false → is_gt (key_cmp b a) ≡ false
not_lt_back a b h = by_cmp (key_cmp a b) refl h
  where
    by_cmp : (o : Ordering) → key_cmp a b ≡ o → is_lt o ≡ false → is_gt (key_cmp b a) ≡ false
    by_cmp Less e h = absurd cc
    by_cmp Equal e h = ap is_gt (turn a b Equal e)
    by_cmp Greater e h = ap is_gt (turn a b Greater e)

-- at most another key and not that key is below it
pub apart_less : (a b : List ℕ) → is_gt (key_cmp a b) ≡ false → (a ≡ b → ⊥) → key_cmp a b ≡ Less
apart_less a b upto apart = by_cmp (key_cmp a b) refl upto
  where
    by_cmp : (o : Ordering) → key_cmp a b ≡ o → is_gt o ≡ false → key_cmp a b ≡ Less
    by_cmp Less e h = e
    by_cmp Equal e h = absurd (apart (same_key a b e))
    by_cmp Greater e h = absurd cc
