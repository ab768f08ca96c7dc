-- The rows of a dataset.
-- This project's own; after the lineage of Spark's resilient distributed datasets.
use Rattle.std.specs.Prelude.{ℕ, Bool, true, List}
use Rattle.std.specs.List.{filter, list_all}
use Rattle.std.specs.Option.{option_map_or}
use Rattle.row_filter.specs.declared.chain.Chain.{Chain}
use Rattle.row_filter.specs.Chains.{filter_at, links_of}
use Rattle.row_filter.specs.Lines.{line}
use Rattle.row_filter.specs.Rows.{keeps_row}

-- whether a dataset's own filter keeps a landed row; where it has none, all are kept
abbrev pub passes_own : Chain → List (List ℕ) → ℕ → Bool
passes_own chain row dataset = option_map_or (λ kept. keeps_row kept row) (filter_at chain dataset) true

-- of the input's landed rows those that each filter from the dataset up to the input keeps, in their order
abbrev pub derived : Chain → ℕ → List (List (List ℕ)) → List (List (List ℕ))
derived chain dataset = filter (λ row. list_all (passes_own chain row) (line (links_of chain) dataset))
