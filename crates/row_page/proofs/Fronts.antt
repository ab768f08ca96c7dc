-- A piece at the front of some bytes: it is there exactly where the bytes begin with it behind its length.
use Rattle.std.proofs.Common.{◌≡◌, ℕ, zero, suc, ◌+◌, ◌^◌, ◌<◌, List, [], ◌∷◌, ◌++◌, length, get_or, take, drop, refl, sym, ap, subst, ◌∙◌, append_assoc, arith}
use Rattle.std.specs.Int.{w32, from_be_bytes, to_be_bytes}
use Rattle.std.proofs.lemmas.List.{take_at, drop_at, length-append}
use Rattle.std.proofs.lemmas.Nat.{be_bytes_4, from_be_bytes-to_be_bytes_4}
use Rattle.row_page.specs.Grammar.{IsPieceThen}
use Rattle.row_page.specs.Spelling.{length_bytes, with_length}

-- the bytes of a length are that length
pub spells : (n : ℕ) (rest piece behind : List ℕ) → length piece ≡ n → n < 2 ^ 32 → rest ≡ piece ++ behind → IsPieceThen (length_bytes n ++ rest) piece behind
unfolding length_bytes
spells n rest piece behind len lt e =
    let back : from_be_bytes w32 (to_be_bytes w32 n) ≡ n = from_be_bytes-to_be_bytes_4 n lt in
    (record { first = omega arith; second = omega arith; third = omega arith; fourth = omega arith; value = omega arith }, e)

-- what a length of four bytes is spelled as
pub spelled_as : (bytes piece behind : List ℕ) → IsPieceThen bytes piece behind → (bytes ≡ with_length piece ++ behind) × (length piece < 2 ^ 32)
unfolding length_bytes
spelled_as [] piece behind h = absurd h
spelled_as (a ∷ []) piece behind h = absurd h
spelled_as (a ∷ b ∷ []) piece behind h = absurd h
spelled_as (a ∷ b ∷ c ∷ []) piece behind h = absurd h
spelled_as (a ∷ b ∷ c ∷ d ∷ bytes) piece behind h =
    let front : to_be_bytes w32 (length piece) ≡ a ∷ b ∷ c ∷ d ∷ [] =
    be_bytes_4 (a ∷ b ∷ c ∷ d ∷ []) (length piece) refl (four a b c d h.0.first h.0.second h.0.third h.0.fourth) (omega (arith, h.0.value)) in
    (ap (λ (t : List ℕ). a ∷ b ∷ c ∷ d ∷ t) h.1 ∙ ap (λ (t : List ℕ). t ++ (piece ++ behind)) (sym front) ∙ sym (append_assoc (to_be_bytes w32 (length piece)) piece behind), omega (arith, h.0.value, h.0.first, h.0.second, h.0.third, h.0.fourth))
  where
    four : (a b c d : ℕ) → a < 256 → b < 256 → c < 256 → d < 256 → (i : ℕ) → get_or (a ∷ b ∷ c ∷ d ∷ []) i 0 < 256
    four a b c d p q r s zero = p
    four a b c d p q r s (suc zero) = q
    four a b c d p q r s (suc (suc zero)) = r
    four a b c d p q r s (suc (suc (suc zero))) = s
    four a b c d p q r s (suc (suc (suc (suc i)))) = omega arith

-- at the front of some bytes stands one piece
pub one_front : (bytes a b x y : List ℕ) → IsPieceThen bytes a x → IsPieceThen bytes b y → (a ≡ b) × (x ≡ y)
one_front [] a b x y p q = absurd p
one_front (c ∷ []) a b x y p q = absurd p
one_front (c ∷ d ∷ []) a b x y p q = absurd p
one_front (c ∷ d ∷ e ∷ []) a b x y p q = absurd p
one_front (c ∷ d ∷ e ∷ f ∷ bytes) a b x y p q =
    let same_length : length a ≡ length b = omega (arith, p.0.value, q.0.value) in
    let one : a ≡ b = sym (take_at a x (length b) same_length) ∙ ap (take (length b)) (sym p.1 ∙ q.1) ∙ take_at b y (length b) refl in
    let behind : x ≡ y = sym (drop_at a x (length b) same_length) ∙ ap (drop (length b)) (sym p.1 ∙ q.1) ∙ drop_at b y (length b) refl in
    (one, behind)

-- what stands behind a piece is shorter by it and its length
pub front_length : (bytes piece behind : List ℕ) → IsPieceThen bytes piece behind → length bytes ≡ 4 + length piece + length behind
front_length [] piece behind h = absurd h
front_length (a ∷ []) piece behind h = absurd h
front_length (a ∷ b ∷ []) piece behind h = absurd h
front_length (a ∷ b ∷ c ∷ []) piece behind h = absurd h
front_length (a ∷ b ∷ c ∷ d ∷ bytes) piece behind h =
    omega (arith, ap length h.1, length-append piece behind)

-- more bytes behind change no piece
pub front-append : (bytes piece behind more : List ℕ) → IsPieceThen bytes piece behind → IsPieceThen (bytes ++ more) piece (behind ++ more)
front-append [] piece behind more h = absurd h
front-append (a ∷ []) piece behind more h = absurd h
front-append (a ∷ b ∷ []) piece behind more h = absurd h
front-append (a ∷ b ∷ c ∷ []) piece behind more h = absurd h
front-append (a ∷ b ∷ c ∷ d ∷ bytes) piece behind more h =
    (h.0, ap (λ (t : List ℕ). t ++ more) h.1 ∙ append_assoc piece behind more)

-- a piece behind its length is a piece
pub is_front : (piece behind : List ℕ) → length piece < 2 ^ 32 → IsPieceThen (with_length piece ++ behind) piece behind
is_front piece behind lt =
    subst (λ (t : List ℕ). IsPieceThen t piece behind) (sym (append_assoc (length_bytes (length piece)) piece behind)) (spells (length piece) (piece ++ behind) piece behind refl lt refl)
