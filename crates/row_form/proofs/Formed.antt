-- Bytes of a well-formed row: their length, their one row, and what no front of theirs tells otherwise.
use Rattle.std.proofs.Common.{◌≡◌, ℕ, ◌+◌, ◌<◌, ◌≤◌, ◌^◌, List, length, ap, subst, ◌∙◌, arith}
use Rattle.row_page.proofs.Lengths.{length-row_bytes}
use Rattle.row_page.proofs.Parts.{pieces_spell}
use Rattle.row_page.proofs.Rows.{one_row}
use Rattle.row_page.specs.Grammar.{IsRow}
use Rattle.row_page.specs.Spelling.{row_length}
use Rattle.row_form.specs.declared.form.Form.{Form}
use Rattle.row_form.specs.Forms.{IsFormed, IsOfForm, IsWellFormed}

-- the bytes of a row are as many as its fields and their lengths take
pub row_long : (piece : List ℕ) (row : List (List ℕ)) → IsRow piece row → length piece ≡ row_length row
row_long piece row h = ap length (pieces_spell piece row h.pieces) ∙ length-row_bytes row

pub is_formed : (form : Form) (greatest : ℕ) (bytes : List ℕ) → length bytes < 2 ^ 32 → length bytes + 24 ≤ greatest → IsOfForm form bytes → IsFormed form greatest bytes
is_formed form greatest bytes short cheap (row, are, has) =
    let is : IsRow bytes row = record { pieces = are; short = short } in
    (row, is, record { has_form = has; cost = omega (arith, cheap, row_long bytes row is) })

pub of_form : (form : Form) (greatest : ℕ) (bytes : List ℕ) → IsFormed form greatest bytes → IsOfForm form bytes
of_form form greatest bytes (row, is, formed) = (row, is.pieces, formed.has_form)

pub formed_short : (form : Form) (greatest : ℕ) (bytes : List ℕ) → IsFormed form greatest bytes → (length bytes < 2 ^ 32) × (length bytes + 24 ≤ greatest)
formed_short form greatest bytes (row, is, formed) = (is.short, omega (arith, formed.cost, row_long bytes row is))

pub row_formed : (form : Form) (greatest : ℕ) (bytes : List ℕ) (row : List (List ℕ)) → IsRow bytes row → IsFormed form greatest bytes → IsWellFormed form greatest row
row_formed form greatest bytes row here (other, is, formed) = subst (IsWellFormed form greatest) (one_row bytes other row is here) formed
