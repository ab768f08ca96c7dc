-- With which rows a partition stands, and what a basis says of its datasets.
-- This project's own.
use Rattle.std.specs.Prelude.{◌≡◌, ℕ, ◌≤◌, ◌<◌, List, length, Option, Some, IsSome}
use Rattle.std.specs.List.{AllByRecursion}
use Rattle.spill_disk.specs.Files.{Files}
use Rattle.row_form.specs.Forms.{HasForm}
use Rattle.run_file.specs.Runs.{Stands}
use Rattle.row_form.specs.declared.form.Form.{Form}
use Rattle.run_file.specs.declared.run.Run.{Run}
use Rattle.row_filter.specs.declared.chain.Chain.{Chain}
use Rattle.row_filter.specs.Chains.{level_at, links_of}
use Rattle.row_filter.specs.Derived.{derived}
use Rattle.memory_core.specs.Caches.{RowsByName}
use Rattle.lineage.specs.LineageViews.{LineageView, form_for, name_for, run_for}

-- the landed run stands on the disk with these rows, all of the form
pub record HoldsRows (files : Option Files) (form : Form) (run : Run) (rows : List (List (List ℕ))) : Type 0 where
  pub stands : Stands files run rows
  pub formed : AllByRecursion (HasForm form) rows

-- the partition stands with these input rows
abbrev pub HoldsInput : Option Files → LineageView → ℕ → List (List (List ℕ)) → Type 0
HoldsInput files lineage part input = HoldsRows files (form_for lineage) (run_for lineage part) input

-- the basis says the rows of each kept dataset in this partition
abbrev pub SaysKept : RowsByName → Chain → ℕ → Type 0
SaysKept given chain part = (dataset : ℕ) → dataset ≤ length (links_of chain) → IsSome (level_at chain dataset) → IsSome (given (name_for chain dataset) part)

-- the rows are those of the dataset, made of the rows with which the partition stands; and those of each kept dataset are said
pub record IsSaid (given : RowsByName) (files : Option Files) (lineage : LineageView) (part dataset : ℕ) (rows : List (List (List ℕ))) : Type 0 where
  pub input : List (List (List ℕ))
  pub holds : HoldsInput files lineage part input
  pub rows_are : rows ≡ derived lineage.chain dataset input
  pub kept : SaysKept given lineage.chain part

-- what the basis says of the datasets in this partition, if it says anything, is so
abbrev pub SaysDerived : RowsByName → Option Files → LineageView → ℕ → Type 0
SaysDerived given files lineage part =
    (dataset : ℕ) (rows : List (List (List ℕ))) → 0 < dataset → dataset ≤ length (links_of lineage.chain)
    → given (name_for lineage.chain dataset) part ≡ Some rows → IsSaid given files lineage part dataset rows
