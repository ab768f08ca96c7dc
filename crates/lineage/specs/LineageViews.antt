-- The datasets of a plan over the landed partitions of its input.
-- This project's own; after the lineage of Spark's resilient distributed datasets.
use Rattle.std.specs.Prelude.{◌≡◌, ℕ, ◌+◌, ◌<◌, ◌^◌, All, true, IfSome, List, length}
use Rattle.std.specs.List.{filter}
use Rattle.row_form.specs.declared.form.Form.{Form}
use Rattle.row_form.specs.Forms.{columns_of, is_landed}
use Rattle.run_file.specs.declared.run.Run.{Run}
use Rattle.run_file.specs.Several.{run_at}
use Rattle.row_filter.specs.declared.chain.Chain.{Chain}
use Rattle.row_filter.specs.Chains.{base_of, form_of, links_of}
use Rattle.row_filter.specs.Derived.{passes_own}
use Rattle.row_filter.specs.Lines.{AreOrdered}
use Rattle.row_filter.specs.Rows.{HasTestedColumns}

-- the datasets, the landed run of each partition, and how many rows a partition has, but for the last
pub record LineageView : Type 0 where
  pub chain : Chain
  pub landed : List Run
  pub part_rows : ℕ

-- the landed run of a partition
abbrev pub run_for : LineageView → ℕ → Run
run_for lineage part = run_at lineage.landed part

-- the form of its rows
abbrev pub form_for : LineageView → Form
form_for lineage = form_of lineage.chain

-- the number by which a dataset's blocks name it
abbrev pub name_for : Chain → ℕ → ℕ
name_for chain dataset = base_of chain + dataset

-- landed rows; each dataset is made from an earlier one by a filter over their columns, and its blocks have a name
pub record IsLineage (lineage : LineageView) : Type 0 where
  pub landed : is_landed (form_for lineage) ≡ true
  pub ordered : AreOrdered (links_of lineage.chain)
  pub covered : All (λ link. IfSome link.filter (HasTestedColumns (columns_of (form_for lineage) + 1))) (links_of lineage.chain)
  pub named : name_for lineage.chain (length (links_of lineage.chain)) < 2 ^ 32

-- what a dataset's own filter keeps of its parent's rows
abbrev pub own_rows : Chain → ℕ → List (List (List ℕ)) → List (List (List ℕ))
own_rows chain dataset = filter (λ row. passes_own chain row dataset)
