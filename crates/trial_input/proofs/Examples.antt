-- The first row of a trial, worked out.
use Rattle.std.proofs.Common.{◌≡◌, [], ◌∷◌, codes, refl}
use Rattle.std.specs.Fmt.{digits}
use Rattle.trial_input.specs.Generator.{number_of_row, trial_rows, trial_text}

first_number : number_of_row 1 ≡ 7806831264735756412
unfolding number_of_row
first_number = refl

first_row : trial_rows 1 ≡ (codes "k774" ∷ codes "-277" ∷ []) ∷ []
unfolding number_of_row digits
first_row = refl

first_text : trial_text 1 ≡ codes "key,price\nk774,-277\n"
unfolding number_of_row digits
first_text = refl
