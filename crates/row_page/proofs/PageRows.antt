-- Pages in the grammar: one list of rows, one more row at the end, and the rows behind the first.
use Rattle.std.proofs.Common.{◌≡◌, ◌↔◌, ℕ, ◌+◌, ◌*◌, ◌<◌, ◌≤◌, List, [], ◌∷◌, ◌++◌, length, drop, get_or, refl, sym, ap, subst, ◌∙◌, arith, lit≤}
use Rattle.std.proofs.lemmas.List.{append-nil, drop-drop, length-drop, get_or-drop}
use Rattle.std.proofs.lemmas.List.Sums.{sum_by-cons}
use Rattle.row_page.specs.Grammar.{IsPieceThen, HasPieces, IsRow, IsPage, HasRows}
use Rattle.row_page.specs.Reading.{rows_of}
use Rattle.row_page.specs.Spelling.{with_length, row_bytes, page_bytes, row_length, page_length, page_cost}
use Rattle.row_page.proofs.Fronts.{one_front, front_length, front-append, is_front, spelled_as}
use Rattle.row_page.proofs.Parts.{pieces_spell}
use Rattle.row_page.proofs.Shown.{encodings, rows_shown}
use Rattle.row_page.proofs.Lengths.{length-page_bytes}

-- a page is pieces
pub page_has_pieces : (bytes : List ℕ) (rows : List (List (List ℕ))) → IsPage bytes rows → HasPieces bytes
page_has_pieces bytes rows h = let es = encodings bytes rows h in (es.0, es.1)

-- the rows spell the page's bytes
pub rows_spell : (bytes : List ℕ) (rows : List (List (List ℕ))) → IsPage bytes rows → bytes ≡ page_bytes rows
rows_spell bytes [] h = h
rows_spell bytes (row ∷ rows) h =
    let front : bytes ≡ with_length h.0 ++ h.1 = (spelled_as bytes h.0 h.1 h.2).0 in
    front ∙ ap (λ (t : List ℕ). with_length t ++ h.1) (pieces_spell h.0 row h.3.pieces) ∙ ap (λ (t : List ℕ). with_length (row_bytes row) ++ t) (rows_spell h.1 rows h.4)

-- what a page's bytes show is the page
pub page_shown : (bytes : List ℕ) → HasRows bytes → IsPage bytes (rows_of bytes)
page_shown bytes h = subst (IsPage bytes) (sym (rows_shown bytes h.0 h.1)) h.1

-- one more row at the end
pub is_page_push : (bytes : List ℕ) (rows : List (List (List ℕ))) (encoding : List ℕ) (row : List (List ℕ)) → IsPage bytes rows → IsRow encoding row → IsPage (bytes ++ with_length encoding) (rows ++ row ∷ [])
is_page_push bytes [] encoding row h last =
    let whole : with_length encoding ++ [] ≡ bytes ++ with_length encoding = append-nil (with_length encoding) ∙ ap (λ (t : List ℕ). t ++ with_length encoding) (sym h) in
    (encoding, [], subst (λ (t : List ℕ). IsPieceThen t encoding []) whole (is_front encoding [] last.short), last, refl)
is_page_push bytes (r ∷ rows) encoding row h last =
    (h.0, h.1 ++ with_length encoding, front-append bytes h.0 h.1 (with_length encoding) h.2, h.3, is_page_push h.1 rows encoding row h.4 last)

-- the first row, and the rows behind it
pub record StartsWith (rows : List (List (List ℕ))) (piece behind : List ℕ) : Type 0 where
  pub some : 0 < length rows
  pub first : IsRow piece (get_or rows 0 [])
  pub others : IsPage behind (drop 1 rows)

pub first_row : (bytes : List ℕ) (rows : List (List (List ℕ))) (piece behind : List ℕ) → IsPage bytes rows → IsPieceThen bytes piece behind → StartsWith rows piece behind
first_row bytes [] piece behind h front = absurd (omega (arith, ap length h, front_length bytes piece behind front))
first_row bytes (row ∷ rows) piece behind h front =
    let same = one_front bytes h.0 piece h.1 behind h.2 front in
    record { some = omega arith; first = subst (λ (t : List ℕ). IsRow t row) same.0 h.3; others = subst (λ (t : List ℕ). IsPage t rows) same.1 h.4 }

-- behind a row stand the others
pub rest_has_rows : (bytes piece behind : List ℕ) → IsPieceThen bytes piece behind → HasPieces piece → (HasRows behind ↔ HasRows bytes)
rest_has_rows bytes piece behind front fields =
    (λ h. (fields.0 ∷ h.0, (piece, behind, front, record { pieces = fields.1; short = (spelled_as bytes piece behind front).1 }, h.1)), λ h. (drop 1 h.0, (first_row bytes h.0 piece behind h.1 front).others))

-- a page that isn't empty begins with a row
pub begins_with_row : (bytes : List ℕ) → HasRows bytes → 0 < length bytes → (piece behind : List ℕ) × IsPieceThen bytes piece behind × HasPieces piece
begins_with_row bytes h some = first bytes h.0 h.1 some
  where
    first : (bytes : List ℕ) (rows : List (List (List ℕ))) → IsPage bytes rows → 0 < length bytes → (piece behind : List ℕ) × IsPieceThen bytes piece behind × HasPieces piece
    first bytes [] h some = absurd (omega (arith, ap length h))
    first bytes (row ∷ rows) h some = (h.0, h.1, h.2, (row, h.3.pieces))

pub length_page : (bytes : List ℕ) (rows : List (List (List ℕ))) → IsPage bytes rows → length bytes ≡ page_length rows
length_page bytes rows h = ap length (rows_spell bytes rows h) ∙ length-page_bytes rows

-- the same by the rows that contracts see
pub bytes_by_rows : (bytes : List ℕ) (rows : List (List (List ℕ))) → IsPage bytes (rows_of bytes) → rows_of bytes ≡ rows → length bytes ≡ page_length rows
bytes_by_rows bytes rows h shown = length_page bytes rows (subst (IsPage bytes) shown h)

-- a page's rows are at most a quarter of its bytes
pub rows_bound : (rows : List (List (List ℕ))) → 4 * length rows ≤ page_length rows
rows_bound [] = lit≤ tt
rows_bound (r ∷ rows) = omega (arith, rows_bound rows, sum_by-cons (λ (row : List (List ℕ)). 4 + row_length row) r rows)

-- the cost by the bytes and the count
pub cost_is : (rows : List (List (List ℕ))) → 64 + page_length rows + 28 * length rows ≡ page_cost rows
cost_is [] = refl
cost_is (r ∷ rows) =
    omega (arith, cost_is rows, sum_by-cons (λ (row : List (List ℕ)). 4 + row_length row) r rows, sum_by-cons (λ (row : List (List ℕ)). 32 + row_length row) r rows)

-- bytes that are there have a row
pub page_has_bytes : (bytes : List ℕ) (rows : List (List (List ℕ))) → IsPage bytes rows → 0 < length rows → 0 < length bytes
page_has_bytes bytes [] h some = absurd (omega arith)
page_has_bytes bytes (r ∷ rows) h some = omega (arith, front_length bytes h.0 h.1 h.2)

-- a page without bytes has no row
pub page_is_empty : (bytes : List ℕ) (rows : List (List (List ℕ))) → IsPage bytes rows → length bytes ≡ 0 → length rows ≡ 0
page_is_empty bytes [] h none = refl
page_is_empty bytes (r ∷ rows) h none = absurd (omega (arith, front_length bytes h.0 h.1 h.2))

-- the rest of a page after i rows begins with row i
pub record IsRowAt (rows : List (List (List ℕ))) (i : ℕ) (piece behind : List ℕ) : Type 0 where
  pub within : i < length rows
  pub item : IsRow piece (get_or rows i [])
  pub others : IsPage behind (drop (i + 1) rows)

pub row_at_place : (bytes : List ℕ) (rows : List (List (List ℕ))) (i : ℕ) (piece behind : List ℕ) → IsPage bytes (drop i rows) → IsPieceThen bytes piece behind → IsRowAt rows i piece behind
row_at_place bytes rows i piece behind h front =
    let first = first_row bytes (drop i rows) piece behind h front in
    let place : get_or (drop i rows) 0 [] ≡ get_or rows i [] = get_or-drop i rows 0 [] ∙ ap (λ (k : ℕ). get_or rows k []) (omega arith) in
    record {
      within = omega (arith, first.some, length-drop i rows);
      item = subst (IsRow piece) place first.first;
      others = subst (λ (t : List (List (List ℕ))). IsPage behind t) (drop-drop 1 i rows) first.others;
    }
