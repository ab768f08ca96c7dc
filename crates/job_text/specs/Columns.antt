-- Columns as places among a job's names, and what stands in a list already.
-- This project's own.
use Rattle.std.specs.Prelude.{ℕ, ◌+◌, List, [], ◌∷◌, length, map, Bool, true, false, ◌&&◌, ◌==◌, nat_le, nat_lt, if◌then◌else◌, Option, Some, None}
use Rattle.std.specs.Str.{bytes_eq}
use Rattle.std.specs.List.{list_any}
use Rattle.aggregate.specs.declared.agg_list.Agg.{Agg}
use Rattle.aggregate.specs.declared.agg_list.Agg.TheVariants as aggs
use Rattle.job_text.specs.declared.job.Dataset.{Dataset}
use Rattle.job_text.specs.declared.job.Part.{Part}
use Rattle.job_text.specs.declared.job.KeyItem.{KeyItem}
use Rattle.job_text.specs.declared.state.Read.{Read}

-- where a name stands, or the length of the list
abbrev pub place_of : List (List ℕ) → List ℕ → ℕ
place_of [] name = 0
place_of (first ∷ names) name = if bytes_eq first name then 0 else place_of names name + 1

-- the name is one of these
abbrev pub is_among : List (List ℕ) → List ℕ → Bool
is_among names name = nat_lt (place_of names name) (length names)

-- the names of datasets
abbrev pub dataset_names : List Dataset → List (List ℕ)
dataset_names datasets = map (λ dataset. dataset.name) datasets

-- the number of a dataset, from 1 on, where there is one of this name
abbrev pub number_of : List Dataset → List ℕ → Option ℕ
number_of datasets name =
    if is_among (dataset_names datasets) name then Some (place_of (dataset_names datasets) name + 1) else None

-- the names with this one, at the end where it is new
abbrev pub with_name : List (List ℕ) → List ℕ → List (List ℕ)
with_name [] name = name ∷ []
with_name (first ∷ names) name = if bytes_eq first name then first ∷ names else first ∷ with_name names name

-- these names and then others, each where it stands first
abbrev pub with_names : List (List ℕ) → List (List ℕ) → List (List ℕ)
with_names names [] = names
with_names names (name ∷ more) = with_names (with_name names name) more

-- a column has at most 1,024 bytes
abbrev pub is_short : List ℕ → Bool
is_short name = nat_le (length name) 1024

-- the column is one of these
abbrev pub has_column : List ℕ → ℕ → Bool
has_column columns column = list_any (λ c. c == column) columns

-- the column is that of one of these keys
abbrev pub has_key : List KeyItem → ℕ → Bool
has_key keys column = list_any (λ k. k.column == column) keys

-- both are one aggregate
abbrev pub same_agg : Agg → Agg → Bool
same_agg aggs.Count aggs.Count = true
same_agg aggs.Sum aggs.Sum = true
same_agg aggs.Min aggs.Min = true
same_agg aggs.Max aggs.Max = true
same_agg _ _ = false

-- both are one column, or none
abbrev pub same_column : Option ℕ → Option ℕ → Bool
same_column None None = true
same_column (Some a) (Some b) = a == b
same_column _ _ = false

-- the aggregate of this column is one of these
abbrev pub has_part : List Part → Part → Bool
has_part parts part = list_any (λ p. same_agg p.agg part.agg && same_column p.column part.column) parts

-- what was read with a name, and the name's place; None where it is too long
abbrev pub named_in : Read → List ℕ → Option (Read × ℕ)
named_in r name =
    if is_short name then Some (record r { names = with_name r.names name }, place_of r.names name) else None
