-- The text of a trial as it grows by a line.
use Rattle.std.proofs.Common.{◌≡◌, ℕ, ◌+◌, ◌∙◌, List, [], ◌∷◌, ◌++◌, codes, refl, sym, ap, arith, append_assoc, add-one}
use Rattle.std.specs.List.{flat_map}
use Rattle.std.proofs.lemmas.Grind.{flat_map-append}
use Rattle.std.proofs.lemmas.List.{append-nil}
use Rattle.std.proofs.lemmas.List.FromFn.{map-range_with_len_more}
use Rattle.trial_input.specs.Generator.{line_of, number_after, number_of_row, numbers_of}

pub number-begins : 1 ≡ number_of_row 0
unfolding number_of_row
number-begins = refl

pub number-next : (row : ℕ) → number_after (number_of_row row) ≡ number_of_row (row + 1)
unfolding number_of_row
number-next row = rw add-one refl

-- the lines so far
abbrev so_far : ℕ → List ℕ
so_far rows = codes "key,price\n" ++ flat_map line_of (numbers_of rows)

pub text-next : (text : List ℕ) (rows : ℕ) → text ≡ so_far rows → text ++ line_of (number_after (number_of_row rows)) ≡ so_far (rows + 1)
text-next text rows e =
    let number = number_of_row (rows + 1) in
    let numbers : numbers_of (rows + 1) ≡ numbers_of rows ++ (number ∷ []) = map-range_with_len_more number_of_row 1 rows (rows + 1) (omega arith) in
    let lines : flat_map line_of (numbers_of (rows + 1)) ≡ flat_map line_of (numbers_of rows) ++ line_of number =
    ap (flat_map line_of) numbers ∙ flat_map-append line_of (numbers_of rows) (number ∷ [])
    ∙ ap (λ (line : List ℕ). flat_map line_of (numbers_of rows) ++ line) (append-nil (line_of number)) in
    ap (λ (front : List ℕ). front ++ line_of (number_after (number_of_row rows))) e
    ∙ ap (λ (next : ℕ). so_far rows ++ line_of next) (number-next rows)
    ∙ append_assoc (codes "key,price\n") (flat_map line_of (numbers_of rows)) (line_of number)
    ∙ ap (λ (more : List ℕ). codes "key,price\n" ++ more) (sym lines)

pub text-begins : codes "key,price\n" ≡ so_far 0
text-begins = sym (append-nil (codes "key,price\n"))
