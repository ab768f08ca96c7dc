-- Which values the entries of a query have, and how many bytes.
-- This project's own.
use Rattle.std.specs.Prelude.{◌≡◌, ℕ, ◌*◌, ◌&&◌, Bool, true, false, List, [], ◌∷◌, Option, Some, None, length, take, drop, ℤ}
use Rattle.aggregate.specs.declared.agg_list.Agg.{Agg}
use Rattle.aggregate.specs.declared.agg_list.Agg.TheVariants.{Count}
use Rattle.aggregate.specs.declared.kind.Kind.{Kind}
use Rattle.aggregate.specs.declared.kind.Kind.TheVariants.{Group, Order}
use Rattle.std.specs.Int.{w128}
use Rattle.std.specs.Int.RustNames.{FitsSigned}
use Rattle.std.specs.Str.{bytes_eq}
use Rattle.aggregate.specs.Partial.{combined, partial_in, partial_of, slot_bytes}

-- the bytes of a group's value
abbrev pub width : List Agg → ℕ
width aggs = slot_bytes * length aggs

-- a count is never missing
abbrev pub Suits : Agg → Option ℤ → Type 0
Suits Count None = ⊥
Suits agg o = Unit {0}

-- the number, if there is one, has a place in 128 bits
abbrev pub FitsPartial : Option ℤ → Type 0
FitsPartial o = (n : ℤ) → o ≡ Some n → FitsSigned w128 n

-- the bytes are those of a partial value of the aggregate
abbrev pub IsPartial : Agg → List ℕ → Type 0
IsPartial agg bytes = (o : Option ℤ) × FitsPartial o × (bytes ≡ partial_of o) × Suits agg o

-- the bytes are those of partial values, one for each aggregate
abbrev pub ArePartials : List Agg → List ℕ → Type 0
ArePartials [] value = value ≡ []
ArePartials (agg ∷ aggs) value = IsPartial agg (take slot_bytes value) × ArePartials aggs (drop slot_bytes value)

-- whether an aggregate may have this partial value: a count is never missing
abbrev pub may_have : Agg → Option ℤ → Bool
may_have Count None = false
may_have agg o = true

-- the same as a test: the bytes are those of the partial value that is read from them, and the aggregate may have it
abbrev pub is_partial : Agg → List ℕ → Bool
is_partial agg bytes = bytes_eq bytes (partial_of (partial_in bytes)) && may_have agg (partial_in bytes)

-- whether the bytes are those of partial values, one for each aggregate
unfoldable pub are_partials : List Agg → List ℕ → Bool
are_partials [] [] = true
are_partials [] (byte ∷ bytes) = false
are_partials (agg ∷ aggs) value = is_partial agg (take slot_bytes value) && are_partials aggs (drop slot_bytes value)

-- a group's value has a partial value for each aggregate; an order's may be any bytes
abbrev pub IsValueOf : Kind → List ℕ → Type 0
IsValueOf (Group aggs) value = are_partials aggs value ≡ true
IsValueOf Order value = Unit {0}

-- a value of a group stays one when another is combined into it
abbrev pub ValuesStayFormed : Type 0
ValuesStayFormed = (aggs : List Agg) (a b : List ℕ) → IsValueOf (Group aggs) a → IsValueOf (Group aggs) (combined aggs a b)
