-- The test of a value and what it says.
use Rattle.std.proofs.Common.{◌≡◌, ◌∷◌, ◌*◌, ◌∙◌, [], ℕ, List, Bool, true, false, Option, Some, None, length, take, drop, refl, sym, ap, ℤ}
use Rattle.std.specs.Prelude.{◌&&◌}
use Rattle.std.specs.Str.{bytes_eq}
use Rattle.std.proofs.lemmas.Slice.Eq.{bytes_eq-Decides}
use Rattle.aggregate.specs.declared.agg_list.Agg.{Agg}
use Rattle.aggregate.specs.declared.agg_list.Agg.TheVariants.{Count, Sum, Min, Max}
use Rattle.aggregate.specs.Partial.{combined, partial_in, partial_of, slot_bytes}
use Rattle.aggregate.specs.Values.{ArePartials, IsPartial, Suits, are_partials, is_partial, may_have}
use Rattle.aggregate.proofs.Combining.{length_partials}
use Rattle.aggregate.proofs.Forming.{stays_formed}
use Rattle.aggregate.proofs.Numbers.{partial-alone, partial-fits}

may_suit : (agg : Agg) (o : Option ℤ) → may_have agg o ≡ true → Suits agg o
may_suit Count None may = absurd (cc may)
may_suit Count (Some n) may = tt
may_suit Sum o may = tt
may_suit Min o may = tt
may_suit Max o may = tt

suits_may : (agg : Agg) (o : Option ℤ) → Suits agg o → may_have agg o ≡ true
suits_may Count None suits = absurd suits
suits_may Count (Some n) suits = refl
suits_may Sum o suits = refl
suits_may Min o suits = refl
suits_may Max o suits = refl

both : (a b : Bool) → (a && b) ≡ true → (a ≡ true) × (b ≡ true)
both true b is = (refl, is)
both false b is = absurd (cc is)

and : (a b : Bool) → a ≡ true → b ≡ true → (a && b) ≡ true
and a b one two = rw (one, two) refl

one_tested : (agg : Agg) (bytes : List ℕ) → is_partial agg bytes ≡ true → IsPartial agg bytes
one_tested agg bytes is =
    let two = both (bytes_eq bytes (partial_of (partial_in bytes))) (may_have agg (partial_in bytes)) is in
    (partial_in bytes, partial-fits bytes, (bytes_eq-Decides bytes (partial_of (partial_in bytes))).0 two.0, may_suit agg (partial_in bytes) two.1)

one_passes : (agg : Agg) (bytes : List ℕ) → IsPartial agg bytes → is_partial agg bytes ≡ true
one_passes agg bytes (o, fits, is, suits) =
    let read : partial_in bytes ≡ o = ap partial_in is ∙ partial-alone o fits in
    and (bytes_eq bytes (partial_of (partial_in bytes))) (may_have agg (partial_in bytes))
    ((bytes_eq-Decides bytes (partial_of (partial_in bytes))).1 (is ∙ ap partial_of (sym read)))
    (ap (may_have agg) read ∙ suits_may agg o suits)

pub tested : (aggs : List Agg) (value : List ℕ) → are_partials aggs value ≡ true → ArePartials aggs value
unfolding are_partials
tested [] [] is = refl
tested [] (b ∷ bytes) is = absurd (cc is)
tested (agg ∷ aggs) value is =
    let two = both (is_partial agg (take slot_bytes value)) (are_partials aggs (drop slot_bytes value)) is in
    (one_tested agg (take slot_bytes value) two.0, tested aggs (drop slot_bytes value) two.1)

pub passes : (aggs : List Agg) (value : List ℕ) → ArePartials aggs value → are_partials aggs value ≡ true
unfolding are_partials
passes [] [] is = refl
passes [] (b ∷ bytes) is = absurd (cc is)
passes (agg ∷ aggs) value is =
    and (is_partial agg (take slot_bytes value)) (are_partials aggs (drop slot_bytes value)) (one_passes agg (take slot_bytes value) is.0) (passes aggs (drop slot_bytes value) is.1)

pub fails : (aggs : List Agg) (value : List ℕ) → (ArePartials aggs value → ⊥) → are_partials aggs value ≡ false
fails aggs value none = by (are_partials aggs value) refl
  where
    by : (b : Bool) → are_partials aggs value ≡ b → are_partials aggs value ≡ false
    by true is = absurd (none (tested aggs value is))
    by false is = is

-- a value has the length of its aggregates
pub length_value : (aggs : List Agg) (value : List ℕ) → are_partials aggs value ≡ true → length value ≡ slot_bytes * length aggs
length_value aggs value is = length_partials aggs value (tested aggs value is)

-- and what a value becomes by combining is one
pub stays_value : (aggs : List Agg) (a b : List ℕ) → are_partials aggs a ≡ true → are_partials aggs (combined aggs a b) ≡ true
stays_value aggs a b is = passes aggs (combined aggs a b) (stays_formed aggs a b (tested aggs a is))
