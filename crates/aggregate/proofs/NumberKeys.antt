-- The bytes of a number in a key.
use Rattle.std.proofs.Common.{◌≡◌, ◌<◌, ◌+◌, ◌-◌, ◌∷◌, ◌++◌, ◌∙◌, [], ℕ, List, length, map, take, drop, get_or, set, refl, ap, arith, append_assoc, add-one, drop-cons}
use Rattle.std.proofs.lemmas.List.{get_or-append_right, length-map, length-take, map-append, set-append_right, take_more}

-- one more byte is turned round
pub turn-step : (f : ℕ → ℕ) (old now : List ℕ) (i : ℕ) → i < length old → now ≡ map f (take i old) ++ drop i old
    → set now i (f (get_or now i 0)) ≡ map f (take (i + 1) old) ++ drop (i + 1) old
turn-step f old now i lt inv =
    let byte = get_or old i 0 in
    let front = map f (take i old) in
    let back = drop (i + 1) old in
    let long : length front ≡ i = omega (arith, length-map (take i old) f, length-take i old) in
    let rest : drop i old ≡ byte ∷ back = rw (drop-cons old i 0, add-one) refl in
    let none : i - i ≡ 0 = omega arith in
    let split : now ≡ front ++ byte ∷ back = inv ∙ ap (λ (t : List ℕ). front ++ t) rest in
    let here : get_or now i 0 ≡ byte = rw (split, get_or-append_right front (byte ∷ back) i i 0 long (omega arith), none) refl in
    let written : set now i (f byte) ≡ front ++ f byte ∷ back = rw (split, set-append_right front (byte ∷ back) i i (f byte) long (omega arith), none) refl in
    rw (here, written, take_more old i 0 lt, map-append f (take i old) (byte ∷ []), append_assoc front (f byte ∷ []) back) refl
