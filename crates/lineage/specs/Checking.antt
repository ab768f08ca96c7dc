-- Which rows of a block are used: those that may be rows of the partition.
-- This project's own.
use Rattle.std.specs.Prelude.{ℕ, ◌+◌, ◌*◌, ◌≤◌, List, [], ◌∷◌, length, slice_index_or, ⊤}
use Rattle.std.specs.Int.{w64, from_be_bytes}
use Rattle.row_form.specs.declared.form.Form.{Form}
use Rattle.row_form.specs.Forms.{IsWellFormed}
use Rattle.lineage.specs.LineageViews.{LineageView, form_for, run_for}

-- a landed row's number: its first field, the greatest byte first
abbrev pub number_of : List (List ℕ) → ℕ
number_of row = from_be_bytes w64 (slice_index_or row 0 [])

-- the row is well formed, and its number is between these two
pub record IsRightRow (form : Form) (greatest least most : ℕ) (row : List (List ℕ)) : Type 0 where
  pub formed : IsWellFormed form greatest row
  pub above : least ≤ number_of row
  pub below : number_of row ≤ most

-- the rows are well formed, and their numbers ascend, from the first of these two on up to the other
abbrev pub AreRight : Form → ℕ → ℕ → ℕ → List (List (List ℕ)) → Type 0
AreRight form greatest least most [] = ⊤
AreRight form greatest least most (row ∷ rows) = IsRightRow form greatest least most row × AreRight form greatest (number_of row + 1) most rows

-- they may be rows of the partition: no more than it has, with numbers of it
pub record AreRightFor (lineage : LineageView) (part : ℕ) (rows : List (List (List ℕ))) : Type 0 where
  pub few : length rows ≤ (run_for lineage part).count
  pub right : AreRight (form_for lineage) (run_for lineage part).greatest (part * lineage.part_rows + 1) (part * lineage.part_rows + lineage.part_rows) rows
