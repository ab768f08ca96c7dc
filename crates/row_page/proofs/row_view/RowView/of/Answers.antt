use Rattle.std.proofs.Common.{ℕ, ◌^◌, ◌<◌, List, length, sym, subst, arith, rules}
use Rattle.row_page.specs.Grammar.{HasPieces, ArePieces, IsRow}
use Rattle.row_page.specs.Reading.{fields_of}
use Rattle.row_page.proofs.Shown.{fields_shown}
use Rattle.row_page.proofs.row_view.RowView.of.Goals as goal

-- short bytes that have pieces are the row that they show
shown_row : (bytes : List ℕ) → length bytes < 2 ^ 32 → HasPieces bytes → IsRow bytes (fields_of bytes)
shown_row bytes short h =
    record { pieces = subst (ArePieces bytes) (sym (fields_shown bytes h.0 h.1)) h.1; short = short }

pub invariant_of-result : goal.invariant_of-result
invariant_of-result c =
    record { formed = ∣ shown_row c.args.bytes.now (omega (arith, c.if-bytes.false)) (c.are_pieces.ensures.0 (search rules)) ∣₁ }

pub returns-clause-found : goal.returns-clause-found
returns-clause-found c =
    shown_row c.args.bytes.now (omega (arith, c.if-bytes.false)) (c.are_pieces.ensures.0 (search rules))
