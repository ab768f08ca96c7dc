-- What a total says of one key.
-- This project's own.
use Rattle.std.specs.Prelude.{◌≡◌, ℕ, Bool, List, [], ◌∷◌, map}
use Rattle.std.specs.List.{filter, fold}
use Rattle.std.specs.Ordering.{is_eq}
use Rattle.aggregate.specs.declared.agg_list.Agg.{Agg}
use Rattle.aggregate.specs.declared.kind.Kind.TheVariants.{Group}
use Rattle.aggregate.specs.Partial.{combined}
use Rattle.aggregate.specs.Totals.{Entry, key_cmp, total}

-- whether the entry has this key
abbrev pub is_of_key : List ℕ → Entry → Bool
is_of_key key entry = is_eq (key_cmp key entry.key)

-- the values that a key has, in the order of the entries
abbrev pub values_of : List ℕ → List Entry → List (List ℕ)
values_of key entries = map (λ entry. entry.value) (filter (is_of_key key) entries)

-- values of one key as one, combined from the first to the last; none where there are none
abbrev pub folded : List Agg → List (List ℕ) → List (List ℕ)
folded aggs [] = []
folded aggs (value ∷ values) = fold (combined aggs) value values ∷ []

-- of each key a total has no value where the entries have none, and else the one that theirs are combined to, in their order
abbrev pub TotalsTellKeys : Type 0
TotalsTellKeys =
    (aggs : List Agg) (entries : List Entry) (key : List ℕ)
    → values_of key (total (Group aggs) entries) ≡ folded aggs (values_of key entries)
