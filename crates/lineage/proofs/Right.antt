-- The rows of a block are checked one after another.
use Rattle.std.proofs.Common.{ℕ, ◌+◌, List, [], ◌∷◌}
use Rattle.std.specs.List.{AllByRecursion}
use Rattle.row_form.specs.Forms.{IsWellFormed}
use Rattle.row_form.specs.declared.form.Form.{Form}
use Rattle.lineage.specs.Checking.{AreRight, AreRightFor, number_of}
use Rattle.lineage.specs.Handed.{AreFormed}
use Rattle.lineage.specs.LineageViews.{LineageView, form_for, run_for}

-- rows that are right are well formed
are_formed : (form : Form) (greatest least most : ℕ) (rows : List (List (List ℕ))) → AreRight form greatest least most rows → AllByRecursion (IsWellFormed form greatest) rows
are_formed form greatest least most [] all = tt
are_formed form greatest least most (row ∷ rows) all = (all.0.formed, are_formed form greatest (number_of row + 1) most rows all.1)

pub right_formed : (lineage : LineageView) (part : ℕ) (rows : List (List (List ℕ))) → AreRightFor lineage part rows → AreFormed lineage part rows
right_formed lineage part rows right = record {
  formed = are_formed (form_for lineage) (run_for lineage part).greatest _ _ rows right.right;
  few = right.few;
}
