-- What partial values come to, however they are combined.
-- This project's own.
use Rattle.std.specs.Prelude.{◌≡◌, ℕ, ◌*◌, ◌<◌, true, List, ◌++◌, Option, Some, length, slice_index_or, ℤ, ◌+ℤ◌}
use Rattle.std.specs.Int.{w128}
use Rattle.std.specs.Int.RustNames.{FitsSigned}
use Rattle.aggregate.specs.declared.agg_list.Agg.{Agg}
use Rattle.aggregate.specs.declared.agg_list.Agg.TheVariants.{Count}
pub use Rattle.aggregate.specs.Partial.{adds}
use Rattle.aggregate.specs.Partial.{combined, joined, partial_at, partial_of, slot_bytes}
use Rattle.aggregate.specs.Values.{FitsPartial}

-- values may be combined in any grouping
abbrev pub IsAssociative : Type 0
IsAssociative =
    (aggs : List Agg) (a b c : List ℕ) → combined aggs (combined aggs a b) c ≡ combined aggs a (combined aggs b c)

-- each partial value of the joint value is that of the two at its place
abbrev pub PartialsAreJoined : Type 0
PartialsAreJoined =
    (aggs : List Agg) (place : ℕ) (a b : List ℕ) → place < length aggs
    → partial_at place (combined aggs a b) ≡ joined (slice_index_or aggs place Count) (partial_at place a) (partial_at place b)

-- where the exact sum of two numbers has a place in 128 bits, it is what combining gives for an aggregate that adds
abbrev pub SumsAreExact : Type 0
SumsAreExact =
    (aggs : List Agg) (place : ℕ) (a b : List ℕ) (x y : ℤ) → place < length aggs
    → adds (slice_index_or aggs place Count) ≡ true → partial_at place a ≡ Some x → partial_at place b ≡ Some y
    → FitsSigned w128 (x +ℤ y) → partial_at place (combined aggs a b) ≡ Some (x +ℤ y)

-- each takes so many bytes
abbrev pub PartialsAreLong : Type 0
PartialsAreLong = (o : Option ℤ) → length (partial_of o) ≡ slot_bytes

-- one that was put at a place is read there
abbrev pub PartialsComeBack : Type 0
PartialsComeBack =
    (o : Option ℤ) (place : ℕ) (before rest : List ℕ) → FitsPartial o → length before ≡ slot_bytes * place
    → partial_at place (before ++ (partial_of o ++ rest)) ≡ o
