-- Where a name's column stands in a header.
use Rattle.std.proofs.Common.{◌≡◌, ◌<◌, ◌+◌, ◌∙◌, ◌∷◌, [], ℕ, zero, suc, List, Some, true, false, length, drop, refl, sym, arith, cond, get_or, add-one, drop-cons}
use Rattle.std.specs.List.{position_from}
use Rattle.std.specs.Str.{bytes_eq}
use Rattle.csv.specs.Records.{field_at}
use Rattle.job_plan.specs.Columns.{Fields}
use Rattle.job_plan.specs.Within.{is_named}

-- the place of a name, one field further
place-from : (name : List ℕ) (fs : Fields) (i : ℕ) (d : List ℕ) → i < length fs
    → position_from (λ f. bytes_eq f name) i (drop i fs) ≡ cond (bytes_eq (get_or fs i d) name) (Some i) (position_from (λ f. bytes_eq f name) (i + 1) (drop (i + 1) fs))
place-from name fs i d h = rw (drop-cons fs i d, add-one) refl

named-at : (name : List ℕ) (fs : Fields) (i : ℕ) → i < length fs → is_named name (field_at fs i) ≡ bytes_eq (get_or fs i []) name
unfolding field_at
named-at name [] i h = absurd (omega arith)
named-at name (f ∷ fs) zero h = refl
named-at name (f ∷ fs) (suc i) h = named-at name fs i (omega arith)

pub place-more : (name : List ℕ) (fs : Fields) (i : ℕ) → i < length fs → is_named name (field_at fs i) ≡ false
    → position_from (λ f. bytes_eq f name) i (drop i fs) ≡ position_from (λ f. bytes_eq f name) (i + 1) (drop (i + 1) fs)
place-more name fs i h e = place-from name fs i [] h ∙ rw (sym (named-at name fs i h) ∙ e) refl

pub place-here : (name : List ℕ) (fs : Fields) (i : ℕ) → i < length fs → is_named name (field_at fs i) ≡ true
    → Some i ≡ position_from (λ f. bytes_eq f name) i (drop i fs)
place-here name fs i h e = sym (place-from name fs i [] h ∙ rw (sym (named-at name fs i h) ∙ e) refl)
