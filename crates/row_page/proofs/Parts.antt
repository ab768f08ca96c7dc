-- Bytes that are pieces: there is one list of them, and one more piece at the end is one more in it.
use Rattle.std.proofs.Common.{◌≡◌, ◌↔◌, ℕ, ◌^◌, ◌<◌, List, [], ◌∷◌, ◌++◌, length, refl, sym, ap, subst, ◌∙◌, arith}
use Rattle.std.specs.List.{flat_map, AllByRecursion}
use Rattle.std.proofs.lemmas.List.{append-nil}
use Rattle.row_page.specs.Grammar.{IsPieceThen, ArePieces, HasPieces}
use Rattle.row_page.specs.Spelling.{with_length}
use Rattle.row_page.proofs.Fronts.{one_front, front_length, front-append, is_front, spelled_as}

-- behind the first piece stand the others
pub rest_has_pieces : (bytes piece behind : List ℕ) → IsPieceThen bytes piece behind → (HasPieces behind ↔ HasPieces bytes)
rest_has_pieces bytes piece behind front =
    (λ h. (piece ∷ h.0, (behind, front, h.1)), λ h. rest bytes piece behind front h.0 h.1)
  where
    rest : (bytes piece behind : List ℕ) → IsPieceThen bytes piece behind → (pieces : List (List ℕ)) → ArePieces bytes pieces → HasPieces behind
    rest [] piece behind front pieces h = absurd front
    rest (b ∷ bytes) piece behind front [] h = absurd cc
    rest (b ∷ bytes) piece behind front (p ∷ pieces) h =
        (pieces, subst (λ (t : List ℕ). ArePieces t pieces) (one_front (b ∷ bytes) p piece h.0 behind h.1 front).1 h.2)

-- bytes that are there have a first piece
pub has_front : (bytes : List ℕ) → HasPieces bytes → 0 < length bytes → (piece behind : List ℕ) × IsPieceThen bytes piece behind
has_front bytes h some = first bytes h.0 h.1 some
  where
    first : (bytes : List ℕ) (pieces : List (List ℕ)) → ArePieces bytes pieces → 0 < length bytes → (piece behind : List ℕ) × IsPieceThen bytes piece behind
    first bytes [] h some = absurd (omega (arith, ap length h))
    first bytes (p ∷ pieces) h some = (p, h.0, h.1)

-- the bytes have one list of pieces
pub one_list : (bytes : List ℕ) (f g : List (List ℕ)) → ArePieces bytes f → ArePieces bytes g → f ≡ g
one_list bytes [] [] p q = refl
one_list bytes [] (b ∷ g) p q = absurd (omega (arith, ap length p, front_length bytes b q.0 q.1))
one_list bytes (a ∷ f) [] p q = absurd (omega (arith, ap length q, front_length bytes a p.0 p.1))
one_list bytes (a ∷ f) (b ∷ g) p q =
    let same = one_front bytes a b p.0 q.0 p.1 q.1 in
    let others : f ≡ g = one_list q.0 f g (subst (λ (t : List ℕ). ArePieces t f) same.1 p.2) q.2 in
    ap (λ (t : List ℕ). t ∷ f) same.0 ∙ ap (λ (t : List (List ℕ)). b ∷ t) others

-- the pieces spell the bytes
pub pieces_spell : (bytes : List ℕ) (pieces : List (List ℕ)) → ArePieces bytes pieces → bytes ≡ flat_map with_length pieces
pieces_spell bytes [] h = h
pieces_spell bytes (p ∷ pieces) h =
    (spelled_as bytes p h.0 h.1).0 ∙ ap (λ (t : List ℕ). with_length p ++ t) (pieces_spell h.0 pieces h.2)

-- what the bytes of some pieces are
pub are_pieces-spelled : (pieces : List (List ℕ)) → AllByRecursion (λ p. length p < 2 ^ 32) pieces → ArePieces (flat_map with_length pieces) pieces
are_pieces-spelled [] h = refl
are_pieces-spelled (p ∷ pieces) h = (flat_map with_length pieces, is_front p (flat_map with_length pieces) h.0, are_pieces-spelled pieces h.1)

-- one more piece at the end
pub are_pieces_push : (bytes : List ℕ) (pieces : List (List ℕ)) (piece : List ℕ) → ArePieces bytes pieces → length piece < 2 ^ 32 → ArePieces (bytes ++ with_length piece) (pieces ++ piece ∷ [])
are_pieces_push bytes [] piece h lt =
    let whole : with_length piece ++ [] ≡ bytes ++ with_length piece = append-nil (with_length piece) ∙ ap (λ (t : List ℕ). t ++ with_length piece) (sym h) in
    ([], subst (λ (t : List ℕ). IsPieceThen t piece []) whole (is_front piece [] lt), refl)
are_pieces_push bytes (p ∷ pieces) piece h lt =
    (h.0 ++ with_length piece, front-append bytes p h.0 (with_length piece) h.1, are_pieces_push h.0 pieces piece h.2 lt)
