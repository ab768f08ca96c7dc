-- Going from piece to piece: what the rest of the bytes is after some of the pieces.
use Rattle.std.proofs.Common.{◌≡◌, ℕ, ◌+◌, ◌<◌, List, [], ◌∷◌, length, get_or, drop, refl, sym, ap, subst, ◌∙◌, arith}
use Rattle.std.proofs.lemmas.List.{length-drop, drop-drop, get_or-drop}
use Rattle.row_page.specs.Grammar.{IsPieceThen, ArePieces}
use Rattle.row_page.proofs.Fronts.{one_front, front_length}

-- the piece at the front of the bytes is the first of their pieces
first_is : (bytes : List ℕ) (pieces : List (List ℕ)) (piece behind : List ℕ) → ArePieces bytes pieces → IsPieceThen bytes piece behind → (0 < length pieces) × (piece ≡ get_or pieces 0 []) × ArePieces behind (drop 1 pieces)
first_is bytes [] piece behind h front = absurd (omega (arith, ap length h, front_length bytes piece behind front))
first_is bytes (p ∷ pieces) piece behind h front =
    let same = one_front bytes piece p behind h.0 front h.1 in
    (omega arith, same.0, subst (λ (t : List ℕ). ArePieces t pieces) (sym same.1) h.2)

-- bytes that have a piece are not empty
pub has_bytes : (bytes : List ℕ) (pieces : List (List ℕ)) → ArePieces bytes pieces → 0 < length pieces → 0 < length bytes
has_bytes bytes [] h some = absurd (omega arith)
has_bytes bytes (p ∷ pieces) h some = omega (arith, front_length bytes p h.0 h.1)

-- empty bytes have no piece
pub no_pieces : (bytes : List ℕ) (pieces : List (List ℕ)) → ArePieces bytes pieces → length bytes ≡ 0 → length pieces ≡ 0
no_pieces bytes [] h none = refl
no_pieces bytes (p ∷ pieces) h none = absurd (omega (arith, front_length bytes p h.0 h.1))

-- the rest of the bytes after i pieces begins with the piece at i
pub record IsAt (pieces : List (List ℕ)) (i : ℕ) (bytes piece behind : List ℕ) : Type 0 where
  pub within : i < length pieces
  pub item : piece ≡ get_or pieces i []
  pub others : ArePieces behind (drop (i + 1) pieces)

pub piece_at_place : (bytes : List ℕ) (pieces : List (List ℕ)) (i : ℕ) (piece behind : List ℕ) → ArePieces bytes (drop i pieces) → IsPieceThen bytes piece behind → IsAt pieces i bytes piece behind
piece_at_place bytes pieces i piece behind h front =
    let first = first_is bytes (drop i pieces) piece behind h front in
    let place : i + 0 ≡ i = omega arith in
    record {
      within = omega (arith, first.0, length-drop i pieces);
      item = first.1 ∙ get_or-drop i pieces 0 [] ∙ ap (λ (k : ℕ). get_or pieces k []) place;
      others = subst (λ (t : List (List ℕ)). ArePieces behind t) (drop-drop 1 i pieces) first.2;
    }

-- the first of the pieces, and those behind it
pub first_and_others : (bytes : List ℕ) (pieces : List (List ℕ)) (piece behind : List ℕ) → ArePieces bytes pieces → IsPieceThen bytes piece behind → (others : List (List ℕ)) × (pieces ≡ piece ∷ others) × ArePieces behind others
first_and_others bytes [] piece behind h front = absurd (omega (arith, ap length h, front_length bytes piece behind front))
first_and_others bytes (p ∷ pieces) piece behind h front =
    let same = one_front bytes piece p behind h.0 front h.1 in
    (pieces, ap (λ (t : List ℕ). t ∷ pieces) (sym same.0), subst (λ (t : List ℕ). ArePieces t pieces) (sym same.1) h.2)

-- where nothing stands behind the first two pieces, they are all
pub two_pieces : (bytes : List ℕ) (pieces : List (List ℕ)) (first middle second end : List ℕ) → ArePieces bytes pieces → IsPieceThen bytes first middle → IsPieceThen middle second end → length end ≡ 0 → pieces ≡ first ∷ second ∷ []
two_pieces bytes pieces first middle second end h one two none =
    let behind = first_and_others bytes pieces first middle h one in
    let last = first_and_others middle behind.0 second end behind.2 two in
    let nil : last.0 ≡ [] = no_list last.0 (no_pieces end last.0 last.2 none) in
    behind.1 ∙ ap (λ (t : List (List ℕ)). first ∷ t) (last.1 ∙ ap (λ (t : List (List ℕ)). second ∷ t) nil)
  where
    no_list : (t : List (List ℕ)) → length t ≡ 0 → t ≡ []
    no_list [] e = refl
    no_list (x ∷ t) e = absurd (omega (arith, e))

-- where something does, there are more
pub third_piece : (bytes : List ℕ) (pieces : List (List ℕ)) (first middle second end : List ℕ) → ArePieces bytes pieces → IsPieceThen bytes first middle → IsPieceThen middle second end → 0 < length end → 2 < length pieces
third_piece bytes pieces first middle second end h one two some =
    let behind = first_and_others bytes pieces first middle h one in
    let last = first_and_others middle behind.0 second end behind.2 two in
    omega (arith, ap length behind.1, ap length last.1, more last.0 last.2)
  where
    more : (others : List (List ℕ)) → ArePieces end others → 0 < length others
    more [] e = absurd (omega (arith, ap length e, some))
    more (x ∷ others) e = omega arith
