-- What stands at distinct places of a list adds up to no more than the list does.
use Rattle.std.proofs.Common.{◌≡◌, ◌≢◌, ◌<◌, ◌≤◌, ◌+◌, ◌*◌, ◌-◌, ◌∙◌, ℕ, suc, List, [], ◌∷◌, length, map, drop, get_or, refl, sym, ap, arith}
use Rattle.std.specs.Prelude.{All, sum_by}
use Rattle.std.proofs.lemmas.List.{length-set, length-map, length-drop, get_or-set_other, get_or-map, get_or-drop}
use Rattle.std.proofs.lemmas.List.Elements.{All-head, All-tail}
use Rattle.std.proofs.lemmas.List.Sums.{sum_by-cons, sum_by-set, sum-map}
use Rattle.std.proofs.Math.ListN.{set}
use Rattle.job_text.specs.Jobs.{IsDistinct}
use Rattle.job_plan.specs.Entries.{field, field_bytes}
use Rattle.job_plan.specs.Within.{HasColumn}

-- sums of equal terms are equal
pub sum_same : {X : Type 0} (f g : X → ℕ) (xs : List X) → All (λ x. f x ≡ g x) xs → sum_by f xs ≡ sum_by g xs
sum_same f g [] h = refl
sum_same f g (x ∷ xs) h =
    omega (arith, sum_by-cons f x xs, sum_by-cons g x xs, sum_same f g xs (All-tail (λ y. f y ≡ g y) x xs h), All-head (λ y. f y ≡ g y) x xs h)

-- terms that are at most twice others and 8 more
pub sum_doubled : {X : Type 0} (f g : X → ℕ) (xs : List X) → ((x : X) → f x ≤ 2 * g x + 8) → sum_by f xs ≤ 2 * sum_by g xs + 8 * length xs
sum_doubled f g [] h = omega arith
sum_doubled f g (x ∷ xs) h =
    omega (arith, sum_by-cons f x xs, sum_by-cons g x xs, sum_doubled f g xs h, h x)

-- terms that are 4 more than others
pub sum_raised : {X : Type 0} (f g : X → ℕ) (xs : List X) → ((x : X) → f x ≡ 4 + g x) → sum_by f xs ≡ sum_by g xs + 4 * length xs
sum_raised f g [] h = omega arith
sum_raised f g (x ∷ xs) h =
    omega (arith, sum_by-cons f x xs, sum_by-cons g x xs, sum_raised f g xs h, h x)

-- equal terms
pub sum_equal : {X : Type 0} (f : X → ℕ) (n : ℕ) (xs : List X) → ((x : X) → f x ≡ n) → sum_by f xs ≡ n * length xs
sum_equal f n [] h = omega arith
sum_equal f n (x ∷ xs) h = omega (arith, sum_by-cons f x xs, sum_equal f n xs h, h x)

distinct-tail : (k : ℕ) (ks : List ℕ) → IsDistinct (k ∷ ks) → IsDistinct ks
distinct-tail k ks d i j e lt within = d (suc i) (suc j) e (omega arith) (omega arith)

distinct-head : (k : ℕ) (ks : List ℕ) → IsDistinct (k ∷ ks) → (i e : ℕ) → i < length ks → get_or ks i e ≢ k
distinct-head k ks d i e lt same = d 0 (suc i) e (omega arith) (omega arith) (sym same)

pub picked : (ls ks : List ℕ) → IsDistinct ks → All (λ k. k < length ls) ks → sum_by (λ k. get_or ls k 0) ks ≤ sum_by (λ n. n) ls
picked ls [] d w = omega arith
picked ls (k ∷ ks) d w =
    let lt : k < length ls = All-head (λ j. j < length ls) k ks w in
    let long : length (set ls k 0) ≡ length ls = length-set ls k 0 in
    let within : All (λ j. j < length (set ls k 0)) ks = λ i e h. (let below : get_or ks i e < length ls = All-tail (λ j. j < length ls) k ks w i e h in omega arith) in
    let rest : sum_by (λ j. get_or (set ls k 0) j 0) ks ≤ sum_by (λ n. n) (set ls k 0) = picked (set ls k 0) ks (distinct-tail k ks d) within in
    let same : sum_by (λ j. get_or (set ls k 0) j 0) ks ≡ sum_by (λ j. get_or ls j 0) ks =
    sum_same (λ j. get_or (set ls k 0) j 0) (λ j. get_or ls j 0) ks (λ i e h. get_or-set_other ls k (get_or ks i e) 0 0 (distinct-head k ks d i e h)) in
    let cut : sum_by (λ n. n) (set ls k 0) + get_or ls k 0 ≡ sum_by (λ n. n) ls + 0 = sum_by-set (λ n. n) ls k 0 0 lt in
    omega (arith, sum_by-cons (λ j. get_or ls j 0) k ks)

-- the fields of distinct columns are no longer than the row's fields
pub fields_within : (row : List (List ℕ)) (ks : List ℕ) → IsDistinct ks → All (HasColumn row) ks → sum_by (λ k. length (field row k)) ks ≤ field_bytes row
fields_within row ks d w =
    let ls = map length (drop 1 row) in
    let long : length ls ≡ length row - 1 = length-map (drop 1 row) length ∙ length-drop 1 row in
    let within : All (λ k. k < length ls) ks = λ i e h. (let below : get_or ks i e + 1 < length row = w i e h in omega arith) in
    let all : sum_by (λ k. get_or ls k 0) ks ≤ sum_by (λ n. n) ls = picked ls ks d within in
    let same : sum_by (λ k. get_or ls k 0) ks ≡ sum_by (λ k. length (field row k)) ks = sum_same (λ k. get_or ls k 0) (λ k. length (field row k)) ks (λ i e h. at (get_or ks i e) (w i e h)) in
    let sums : sum_by (λ n. n) ls ≡ sum_by length (drop 1 row) = sum-map length (drop 1 row) in
    omega arith
  where
    at : (k : ℕ) → k + 1 < length row → get_or (map length (drop 1 row)) k 0 ≡ length (field row k)
    at k lt =
        let inside : k < length (drop 1 row) = omega (arith, length-drop 1 row) in
        get_or-map length (drop 1 row) k [] 0 inside ∙ ap length (get_or-drop 1 row k [] ∙ ap (λ i. get_or row i []) (omega arith))
