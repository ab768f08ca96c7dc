-- The slot that is out with a holder, and the value in it.
use Rattle.std.proofs.Common.{◌≡◌, ℕ, List, [], ◌∷◌, Option, Some, None, ap}

abbrev pub in_hand : {T : Type 0} → T → List (ℕ × Option T)
in_hand x = (0, Some x) ∷ []

abbrev pub some_or : {T : Type 0} → T → Option T → T
some_or d None = d
some_or d (Some x) = x

abbrev pub hand_or : {T : Type 0} → T → List (ℕ × Option T) → T
hand_or d [] = d
hand_or d (x ∷ xs) = some_or d x.1

pub same_in_hand : {T : Type 0} (a b : T) → in_hand a ≡ in_hand b → a ≡ b
same_in_hand a b e = ap (hand_or a) e
