-- What bytes show as is what they are in the grammar: the fields of a row, the rows of a page.
use Rattle.std.proofs.Common.{◌≡◌, ℕ, zero, suc, ◌≤◌, false, ltb, List, [], ◌∷◌, length, take, drop, map, Some, refl, ap, ◌∙◌, arith}
use Rattle.std.specs.Int.{w32, from_be_bytes}
use Rattle.std.proofs.lemmas.Bool.{le-ltb}
use Rattle.std.proofs.lemmas.List.{take_at, drop_at, length-append}
use Rattle.row_page.specs.Grammar.{IsPieceThen, ArePieces, IsPage}
use Rattle.row_page.specs.Reading.{length_at, piece_at, pieces_within, fields_of, rows_of}
use Rattle.row_page.proofs.Fronts.{front_length}

-- the piece at the front of the bytes is what they show there
piece_shown : (bytes piece behind : List ℕ) → IsPieceThen bytes piece behind → piece_at bytes ≡ Some (piece, behind)
unfolding piece_at length_at
piece_shown [] piece behind h = absurd h
piece_shown (a ∷ []) piece behind h = absurd h
piece_shown (a ∷ b ∷ []) piece behind h = absurd h
piece_shown (a ∷ b ∷ c ∷ []) piece behind h = absurd h
piece_shown (a ∷ b ∷ c ∷ d ∷ bytes) piece behind h =
    let n-is : from_be_bytes w32 (a ∷ b ∷ c ∷ d ∷ []) ≡ length piece = omega (arith, h.0.value) in
    let long : ltb (length bytes) (length piece) ≡ false = le-ltb _ _ (omega (arith, ap length h.1, length-append piece behind)) in
    let one : take (length piece) bytes ≡ piece = ap (take (length piece)) h.1 ∙ take_at piece behind (length piece) refl in
    let two : drop (length piece) bytes ≡ behind = ap (drop (length piece)) h.1 ∙ drop_at piece behind (length piece) refl in
    let enough : ltb (length (a ∷ b ∷ c ∷ d ∷ bytes)) 4 ≡ false = le-ltb _ _ (omega arith) in
    rw (enough, n-is, long, one, two) refl

-- the pieces of the bytes are what they show, where enough steps are taken
pieces_shown : (n : ℕ) (bytes : List ℕ) (pieces : List (List ℕ)) → length bytes ≤ n → ArePieces bytes pieces → pieces_within n bytes ≡ pieces
unfolding pieces_within
pieces_shown zero [] [] le h = refl
pieces_shown (suc n) [] [] le h = refl
pieces_shown zero (b ∷ bs) pieces le h = absurd (omega arith)
pieces_shown (suc n) (b ∷ bs) [] le h = absurd cc
pieces_shown zero [] (p ∷ pieces) le h = absurd h.1
pieces_shown (suc n) [] (p ∷ pieces) le h = absurd h.1
pieces_shown (suc n) (b ∷ bs) (p ∷ pieces) le h =
    let shorter = front_length (b ∷ bs) p h.0 h.1 in
    let others : pieces_within n h.0 ≡ pieces = pieces_shown n h.0 pieces (omega arith) h.2 in
    rw (piece_shown (b ∷ bs) p h.0 h.1, others) refl

pub fields_shown : (bytes : List ℕ) (fields : List (List ℕ)) → ArePieces bytes fields → fields_of bytes ≡ fields
unfolding fields_of
fields_shown bytes fields h = pieces_shown (length bytes) bytes fields (omega arith) h

-- the encodings of a page's rows
pub encodings : (bytes : List ℕ) (rows : List (List (List ℕ))) → IsPage bytes rows → (es : List (List ℕ)) × ArePieces bytes es × (map fields_of es ≡ rows)
encodings bytes [] h = ([], h, refl)
encodings bytes (row ∷ rows) h =
    let others = encodings h.1 rows h.4 in
    (h.0 ∷ others.0, (h.1, h.2, others.1), ap (λ (r : List (List ℕ)). r ∷ map fields_of others.0) (fields_shown h.0 row h.3.pieces) ∙ ap (λ (t : List (List (List ℕ))). row ∷ t) others.2)

pub rows_shown : (bytes : List ℕ) (rows : List (List (List ℕ))) → IsPage bytes rows → rows_of bytes ≡ rows
unfolding rows_of
rows_shown bytes rows h =
    let es = encodings bytes rows h in
    ap (map fields_of) (fields_shown bytes es.0 es.1) ∙ es.2
