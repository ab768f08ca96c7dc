-- How long rows and pages are, by their fields.
use Rattle.std.proofs.Common.{◌≡◌, ℕ, ◌+◌, List, [], ◌∷◌, length, refl, arith}
use Rattle.std.proofs.lemmas.List.{length-append}
use Rattle.std.proofs.lemmas.List.Sums.{sum_by-cons}
use Rattle.row_page.specs.Spelling.{length_bytes, with_length, row_bytes, page_bytes, row_length, page_length}

pub length-with_length : (piece : List ℕ) → length (with_length piece) ≡ 4 + length piece
unfolding length_bytes
length-with_length piece = omega arith

pub length-row_bytes : (fields : List (List ℕ)) → length (row_bytes fields) ≡ row_length fields
length-row_bytes [] = refl
length-row_bytes (f ∷ fields) =
    omega (arith, length-append (with_length f) (row_bytes fields), length-with_length f, length-row_bytes fields, sum_by-cons (λ (field : List ℕ). 4 + length field) f fields)

pub length-page_bytes : (rows : List (List (List ℕ))) → length (page_bytes rows) ≡ page_length rows
length-page_bytes [] = refl
length-page_bytes (r ∷ rows) =
    omega (arith, length-append (with_length (row_bytes r)) (page_bytes rows), length-with_length (row_bytes r), length-row_bytes r, length-page_bytes rows, sum_by-cons (λ (row : List (List ℕ)). 4 + row_length row) r rows)
