-- What is kept of a file: its parts, and what a read puts behind them.
use Rattle.std.proofs.Common.{◌≡◌, ℕ, zero, suc, ◌+◌, ◌-◌, ◌≤◌, List, [], ◌∷◌, take, drop, refl, sym, ap, ◌∙◌, arith}
use Rattle.std.proofs.lemmas.List.{drop-take, drop-drop}

pub take_take : (k m : ℕ) (xs : List ℕ) → k ≤ m → take k (take m xs) ≡ take k xs
take_take zero m xs le = refl
take_take (suc k) zero xs le = absurd (omega (arith, le))
take_take (suc k) (suc m) [] le = refl
take_take (suc k) (suc m) (x ∷ xs) le = ap (λ (l : List ℕ). x ∷ l) (take_take k m xs (omega (arith, le)))

-- what stands behind a place, up to the end
pub rest_is : (next end : ℕ) (xs : List ℕ) → next ≤ end → take (end - next) (drop next xs) ≡ drop next (take end xs)
rest_is next end xs le =
    let on : end ≡ next + (end - next) = omega (arith, le) in
    sym (ap (λ (n : ℕ). drop next (take n xs)) on ∙ drop-take next (end - next) xs)

-- the parts of a rest that is taken
behind : (m k next : ℕ) (xs : List ℕ) → k ≤ m → drop k (take m (drop next xs)) ≡ take (m - k) (drop (next + k) xs)
behind m k next xs le =
    let on : m ≡ k + (m - k) = omega (arith, le) in
    ap (λ (n : ℕ). drop k (take n (drop next xs))) on ∙ drop-take k (m - k) (drop next xs) ∙ ap (take (m - k)) (drop-drop k next xs)

pub row_taken : (next end size : ℕ) (xs : List ℕ) → 4 + size ≤ end - next → take (next + 4 + size - (next + 4)) (drop (next + 4) xs) ≡ take size (drop 4 (take (end - next) (drop next xs)))
row_taken next end size xs le =
    let few : next + 4 + size - (next + 4) ≡ size = omega arith in
    ap (λ (n : ℕ). take n (drop (next + 4) xs)) few
    ∙ sym (ap (take size) (behind (end - next) 4 next xs (omega (arith, le))) ∙ take_take size (end - next - 4) (drop (next + 4) xs) (omega (arith, le)))

pub rest_taken : (next end size : ℕ) (xs : List ℕ) → 4 + size ≤ end - next → take (end - (next + 4 + size)) (drop (next + 4 + size) xs) ≡ drop (4 + size) (take (end - next) (drop next xs))
rest_taken next end size xs le =
    let few : end - (next + 4 + size) ≡ end - next - (4 + size) = omega arith in
    let on : next + 4 + size ≡ next + (4 + size) = omega arith in
    ap (λ (n : ℕ). take n (drop (next + 4 + size) xs)) few ∙ ap (λ (n : ℕ). take (end - next - (4 + size)) (drop n xs)) on
    ∙ sym (behind (end - next) (4 + size) next xs (omega (arith, le)))
