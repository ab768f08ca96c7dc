-- Keys stand in the order of their fields.
use Rattle.std.proofs.Common.{◌≡◌, ◌∷◌, ◌++◌, ◌∙◌, [], ℕ, zero, suc, List, refl, sym, ap, arith}
use Rattle.std.specs.Ordering.{nat_cmp, ordering_then}
use Rattle.std.specs.Cmp.Lexicographic.{slice_cmp}
use Rattle.std.specs.Cmp.{nat_cmp_is}
use Rattle.std.specs.declared.cmp.Ordering.{Ordering}
use Rattle.std.specs.declared.cmp.Ordering.TheVariants.{Less, Equal, Greater}
use Rattle.aggregate.specs.Spelling.{spelled}
use Rattle.aggregate.proofs.Spellings.{not-zero}

pub then-then : (o p q : Ordering) → ordering_then o (ordering_then p q) ≡ ordering_then (ordering_then o p) q
then-then Less p q = refl
then-then Equal p q = refl
then-then Greater p q = refl

below : (b : ℕ) → nat_cmp 0 (suc b) ≡ Less
below b = sym (nat_cmp_is 0 (suc b) Less (omega arith))

above : (b : ℕ) → nat_cmp (suc b) 0 ≡ Greater
above b = sym (nat_cmp_is (suc b) 0 Greater (omega arith))

pub order : (a b x y : List ℕ) → slice_cmp nat_cmp (spelled a ++ x) (spelled b ++ y) ≡ ordering_then (slice_cmp nat_cmp a b) (slice_cmp nat_cmp x y)
order [] [] x y = refl
order [] (zero ∷ bs) x y = refl
order [] (suc b ∷ bs) x y = rw (not-zero b, below b) refl
order (zero ∷ as_) [] x y = refl
order (suc a ∷ as_) [] x y = rw (not-zero a, above a) refl
order (zero ∷ as_) (zero ∷ bs) x y = order as_ bs x y
order (zero ∷ as_) (suc b ∷ bs) x y = rw (not-zero b, below b) refl
order (suc a ∷ as_) (zero ∷ bs) x y = rw (above a, not-zero a, above a) refl
order (suc a ∷ as_) (suc b ∷ bs) x y = rw (not-zero a, not-zero b) (ap (ordering_then (nat_cmp (suc a) (suc b))) (order as_ bs x y) ∙ then-then (nat_cmp (suc a) (suc b)) (slice_cmp nat_cmp as_ bs) (slice_cmp nat_cmp x y))
