-- The field at a place of a record.
use Rattle.std.proofs.Common.{◌≡◌, ◌<◌, ◌∷◌, [], ℕ, zero, suc, List, None, Some, length, get_or, refl, arith}
use Rattle.csv.specs.Records.{field_at}

pub field-is : (fs : List (List ℕ)) (i : ℕ) → i < length fs → field_at fs i ≡ Some (get_or fs i [])
unfolding field_at
field-is [] i h = absurd (omega arith)
field-is (f ∷ fs) zero h = refl
field-is (f ∷ fs) (suc i) h = field-is fs i (omega arith)

pub field-some : (fs : List (List ℕ)) (i : ℕ) (field : List ℕ) → Some field ≡ field_at fs i → field ≡ get_or fs i []
unfolding field_at
field-some [] i field e = cc e
field-some (f ∷ fs) zero field e = cc e
field-some (f ∷ fs) (suc i) field e = field-some fs i field e

pub field-none : (fs : List (List ℕ)) (i : ℕ) → None ≡ field_at fs i → [] ≡ get_or fs i []
unfolding field_at
field-none [] zero e = refl
field-none [] (suc i) e = refl
field-none (f ∷ fs) zero e = cc e
field-none (f ∷ fs) (suc i) e = field-none fs i e
