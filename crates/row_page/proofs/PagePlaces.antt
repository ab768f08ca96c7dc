-- Where a page's rows begin: places stay right as rows are put behind, and lead to their rows.
use Rattle.std.proofs.Common.{◌≡◌, ℕ, ◌+◌, ◌^◌, ◌<◌, ◌≤◌, List, [], ◌∷◌, ◌++◌, length, drop, get_or, refl, sym, ap, subst, ◌∙◌, inl, inr, arith}
use Rattle.std.proofs.lemmas.Bool.{cases_lt}
use Rattle.std.proofs.lemmas.List.{length-append, length_push, drop_at, drop-append-le, get_or_append_left, get_or_push, get_or_read}
use Rattle.row_page.specs.Grammar.{IsPieceThen, IsRow, IsPage}
use Rattle.row_page.specs.Pages.{HasPlaces, IsSound}
use Rattle.row_page.specs.Reading.{rows_of}
use Rattle.row_page.specs.Spelling.{with_length}
use Rattle.row_page.proofs.Fronts.{spelled_as}
use Rattle.row_page.proofs.Lengths.{length-with_length}
use Rattle.row_page.proofs.Shown.{rows_shown}
use Rattle.row_page.proofs.PageRows.{is_page_push, row_at_place}

-- one more place, for the rest of the rows
pub places_more : (starts bytes : List ℕ) (rows : List (List (List ℕ))) (at : ℕ) → HasPlaces starts bytes rows → at ≤ length bytes → IsPage (drop at bytes) (drop (length starts) rows) → HasPlaces (starts ++ at ∷ []) bytes rows
places_more starts bytes rows at h le here =
    record {
      within = λ i lt. elim (cases_lt i (length starts)) [
        | inl below ↦ rw (get_or_append_left starts (at ∷ []) 0 i below) (h.within i below)
        | inr above ↦ rw (last i lt above) le
      ];
      each = λ i lt. elim (cases_lt i (length starts)) [
        | inl below ↦ rw (get_or_append_left starts (at ∷ []) 0 i below) (h.each i below)
        | inr above ↦ rw (last i lt above) (subst (λ (k : ℕ). IsPage (drop at bytes) (drop k rows)) (is_last i lt above) here)
      ];
    }
  where
    is_last : (i : ℕ) → i < length (starts ++ at ∷ []) → length starts ≤ i → length starts ≡ i
    is_last i lt above = omega (arith, length_push starts at)

    last : (i : ℕ) → i < length (starts ++ at ∷ []) → length starts ≤ i → get_or (starts ++ at ∷ []) i 0 ≡ at
    last i lt above = get_or_push starts at 0 i (omega (arith, length_push starts at))

-- the places of the rows before stay right where a row is put behind
places_append : (starts bytes : List ℕ) (rows : List (List (List ℕ))) (encoding : List ℕ) (row : List (List ℕ)) → length starts ≡ length rows → HasPlaces starts bytes rows → IsRow encoding row → HasPlaces starts (bytes ++ with_length encoding) (rows ++ row ∷ [])
places_append starts bytes rows encoding row count h last =
    record {
      within = λ i lt. omega (arith, h.within i lt, length-append bytes (with_length encoding));
      each = λ i lt.
          rw (drop-append-le (get_or starts i 0) bytes (with_length encoding) (h.within i lt), drop-append-le i rows (row ∷ []) (omega (arith, count, lt)))
          (is_page_push (drop (get_or starts i 0) bytes) (drop i rows) encoding row (h.each i lt) last);
    }

-- a page with one more row
pub sound_push : (starts bytes : List ℕ) (room : ℕ) (rows : List (List (List ℕ))) (encoding : List ℕ) (row : List (List ℕ)) → IsSound starts bytes room rows → IsRow encoding row → length bytes + 4 + length encoding ≤ room → IsSound (starts ++ length bytes ∷ []) (bytes ++ with_length encoding) room (rows ++ row ∷ [])
sound_push starts bytes room rows encoding row h last le =
    let grammar = is_page_push bytes rows encoding row h.grammar last in
    let before = places_append starts bytes rows encoding row h.count h.places last in
    let alone = is_page_push [] [] encoding row refl last in
    let bytes_behind : drop (length bytes) (bytes ++ with_length encoding) ≡ with_length encoding = drop_at bytes (with_length encoding) (length bytes) refl in
    let rows_behind : drop (length starts) (rows ++ row ∷ []) ≡ row ∷ [] = drop_at rows (row ∷ []) (length starts) (sym h.count) in
    let here : IsPage (drop (length bytes) (bytes ++ with_length encoding)) (drop (length starts) (rows ++ row ∷ [])) = rw (bytes_behind, rows_behind) alone in
    record {
      grammar = grammar;
      count = omega (arith, length_push starts (length bytes), length_push rows row, h.count);
      places = places_more starts (bytes ++ with_length encoding) (rows ++ row ∷ []) (length bytes) before (omega (arith, length-append bytes (with_length encoding))) here;
      fits = omega (arith, length-append bytes (with_length encoding), length-with_length encoding);
      small = h.small;
    }

-- a page without rows
pub sound_empty : (room : ℕ) → room ≤ 2 ^ 40 → IsSound [] [] room []
sound_empty room small =
    record { grammar = refl; count = refl; places = record { within = λ i lt. omega arith; each = λ i lt. absurd (omega arith) }; fits = omega arith; small = small }

-- bytes that are a page show that page
pub sound_shown : (starts bytes : List ℕ) (room : ℕ) (rows : List (List (List ℕ))) → IsSound starts bytes room rows → IsSound starts bytes room (rows_of bytes) × (rows_of bytes ≡ rows)
sound_shown starts bytes room rows h =
    let e = rows_shown bytes rows h.grammar in
    (subst (IsSound starts bytes room) (sym e) h, e)

-- behind the first piece
pub drop_front : (bytes piece behind : List ℕ) → IsPieceThen bytes piece behind → drop (4 + length piece) bytes ≡ behind
drop_front bytes piece behind h =
    ap (drop (4 + length piece)) (spelled_as bytes piece behind h).0 ∙ drop_at (with_length piece) behind (4 + length piece) (length-with_length piece)

-- no place is wrong where there is none
pub no_places : (bytes : List ℕ) (rows : List (List (List ℕ))) → HasPlaces [] bytes rows
no_places bytes rows = record { within = λ i lt. omega arith; each = λ i lt. absurd (omega arith) }

-- a page after a row was put behind it
pub page_grown : (starts bytes new_starts new_bytes : List ℕ) (room : ℕ) (rows : List (List (List ℕ))) (encoding : List ℕ) (row : List (List ℕ)) → IsSound starts bytes room (rows_of bytes) → rows_of bytes ≡ rows → IsRow encoding row → length bytes + 4 + length encoding ≤ room → new_starts ≡ starts ++ length bytes ∷ [] → new_bytes ≡ bytes ++ with_length encoding → IsSound new_starts new_bytes room (rows_of new_bytes) × (rows_of new_bytes ≡ rows ++ row ∷ [])
page_grown starts bytes new_starts new_bytes room rows encoding row h shown last le one two =
    let before : IsSound starts bytes room rows = subst (IsSound starts bytes room) shown h in
    let pushed = sound_push starts bytes room rows encoding row before last le in
    let moved : IsSound new_starts new_bytes room (rows ++ row ∷ []) = rw (one, two) pushed in
    sound_shown new_starts new_bytes room (rows ++ row ∷ []) moved

-- a place leads to its row
pub place_leads : (starts bytes : List ℕ) (rows : List (List (List ℕ))) (i start n : ℕ) → HasPlaces starts bytes rows → n ≡ length starts → i < n → start ≡ get_or starts i start → (start ≤ length bytes) × IsPage (drop start bytes) (drop i rows)
place_leads starts bytes rows i start n h count lt read =
    let is : start ≡ get_or starts i 0 = get_or_read starts i start (omega arith) read 0 in
    (rw is (h.within i (omega arith)), rw is (h.each i (omega arith)))

-- the places of the rows before a place, and the rows from there on
pub record Walked (starts : List ℕ) (at : ℕ) (bytes : List ℕ) (rows : List (List (List ℕ))) : Type 0 where
  pub rest : IsPage (drop at bytes) (drop (length starts) rows)
  pub count : length starts ≤ length rows
  pub places : HasPlaces starts bytes rows

-- one row further
pub walked_on : (starts : List ℕ) (at next : ℕ) (bytes piece behind : List ℕ) (rows : List (List (List ℕ))) → Walked starts at bytes rows → at ≤ length bytes → IsPieceThen (drop at bytes) piece behind → drop next bytes ≡ behind → Walked (starts ++ at ∷ []) next bytes rows
walked_on starts at next bytes piece behind rows h within front onward =
    let here = row_at_place (drop at bytes) rows (length starts) piece behind h.rest front in
    record { rest = rw (onward, length_push starts at) here.others; count = omega (arith, here.within, length_push starts at); places = places_more starts bytes rows at h.places within h.rest }
