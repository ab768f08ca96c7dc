use Rattle.std.proofs.Common.{◌≡◌, ◌+◌, ◌++◌, ◌∷◌, [], length, take, List, ℕ, ap, sym, ◌∙◌, arith}
use Rattle.std.proofs.lemmas.List.{append_assoc, append-nil}
use Rattle.row_page.specs.Spelling.{length_bytes, row_bytes, row_length, with_length}
use Rattle.row_page.proofs.Lengths.{length-row_bytes}
use Rattle.row_page.proofs.byte_buf.put_pair.Goals as goal

-- a length and two pieces, put one behind the other
three_put : (before first second middle : List ℕ) (size : ℕ) → size ≡ length (row_bytes (first ∷ second ∷ [])) → middle ≡ (before ++ length_bytes size) ++ with_length first → middle ++ with_length second ≡ before ++ with_length (row_bytes (first ∷ second ∷ []))
three_put before first second middle size e is =
    ap (λ (t : List ℕ). t ++ with_length second) is ∙ append_assoc (before ++ length_bytes size) (with_length first) (with_length second)
    ∙ append_assoc before (length_bytes size) (with_length first ++ with_length second)
    ∙ ap (λ (n : ℕ). before ++ (length_bytes n ++ (with_length first ++ with_length second))) e
    ∙ ap (λ (t : List ℕ). before ++ (length_bytes (length (row_bytes (first ∷ second ∷ []))) ++ (with_length first ++ t))) (sym (append-nil (with_length second)))

pub returns-clause-put : goal.returns-clause-put
returns-clause-put c =
    let first = c.args.first.now in
    let second = c.args.second.now in
    let size : 4 + length first + (4 + length second) ≡ length (row_bytes (first ∷ second ∷ [])) = omega (arith, length-row_bytes (first ∷ second ∷ [])) in
    let end : c.args.at + (4 + row_length (first ∷ second ∷ [])) ≡ c.args.at + 4 + (4 + length first) + (4 + length second) = omega arith in
    rw end (c.put_piece-2.ensures.put ∙ three_put (take c.args.at c.args.bytes.now) first second _ _ size (c.put_piece.ensures.put ∙ ap (λ (t : List ℕ). t ++ with_length first) c.put_length.ensures.put))
