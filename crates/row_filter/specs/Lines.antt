-- The datasets that a dataset is made of, up to the input.
-- This project's own; after the lineage of Spark's resilient distributed datasets.
use Rattle.std.specs.Prelude.{◌≡◌, ℕ, zero, suc, ◌≤◌, ◌==◌, Bool, List, [], ◌∷◌, Some, slice_get}
use Rattle.std.specs.List.{list_any}
use Rattle.std.specs.Option.{option_map_or}
use Rattle.row_filter.specs.declared.chain.Link.{Link}

-- each dataset is made from the input or from one before it
abbrev pub AreOrdered : List Link → Type 0
AreOrdered links = (place : ℕ) (link : Link) → slice_get links place ≡ Some link → link.parent ≤ place

-- the dataset that the one after this one is made from; the input where there is none
abbrev pub parent_behind : List Link → ℕ → ℕ
parent_behind links before = option_map_or (λ link. link.parent) (slice_get links before) 0

-- a dataset, the one that it is made from, and so on up to the input, which ends them; in at most so many steps
abbrev pub line_within : List Link → ℕ → ℕ → List ℕ
line_within links zero dataset = dataset ∷ []
line_within links (suc steps) zero = 0 ∷ []
line_within links (suc steps) (suc before) = suc before ∷ line_within links steps (parent_behind links before)

-- so many steps as its number suffice where the datasets are ordered
abbrev pub line : List Link → ℕ → List ℕ
line links dataset = line_within links dataset dataset

-- whether a dataset is another one or derives from it
abbrev pub derives : List Link → ℕ → ℕ → Bool
derives links dataset from = list_any (λ d. d == from) (line links dataset)
