-- Keys, and the value of each at its place in one list of bytes, as entries.
-- This project's own.
use Rattle.std.specs.Prelude.{◌≡◌, ℕ, ◌+◌, List, [], ◌∷◌, ◌++◌, Bool, Option, Some, None, All, take, drop}
use Rattle.std.specs.List.{IsDistinct}
use Rattle.std.specs.Ordering.{is_eq}
use Rattle.aggregate.specs.declared.agg_list.Agg.{Agg}
use Rattle.aggregate.specs.declared.kind.Kind.TheVariants.{Group}
use Rattle.aggregate.specs.Totals.{Entry, costs, key_cmp, total}
use Rattle.aggregate.specs.Values.{width}
use Rattle.consumer_trait.specs.States.{IsEntryOf}
use Rattle.group_map.specs.declared.groups.Groups.{Groups}

-- the entries: the value of the key at place i has `width` bytes from width * i on
abbrev pub entries_by : ℕ → List (List ℕ) → List ℕ → List Entry
entries_by width [] values = []
entries_by width (key ∷ keys) values = record { key = key; value = take width values } ∷ entries_by width keys (drop width values)

-- the entries of groups, in the order in which their keys came
abbrev pub entries_of_groups : Groups → List Entry
entries_of_groups groups = entries_by groups.width groups.keys.keys groups.values.items

-- whether two entries have one key
abbrev pub same_key : Entry → Entry → Bool
same_key a b = is_eq (key_cmp a.key b.key)

-- no two entries have one key
abbrev pub AreApart : List Entry → Type 0
AreApart entries = IsDistinct same_key entries

-- each entry is one that a map may be fed that was begun with these aggregates
abbrev pub AreFormed : Option (List Agg) → List Entry → Type 0
AreFormed aggs entries = (begun : List Agg) → aggs ≡ Some begun → All (IsEntryOf (Group begun)) entries

-- the bytes of a value, once the aggregates are known
abbrev pub width_of : Option (List Agg) → ℕ
width_of None = 0
width_of (Some aggs) = width aggs

-- a list of entries has one more taken in, which is charged so many bytes
pub record TakesIn (aggs : List Agg) (old new : List Entry) (entry : Entry) (bytes : ℕ) : Type 0 where
  pub total : total (Group aggs) new ≡ total (Group aggs) (old ++ entry ∷ [])
  pub charged : costs new ≡ costs old + bytes
  pub apart : AreApart new
  pub formed : All (IsEntryOf (Group aggs)) old → All (IsEntryOf (Group aggs)) new
