use Rattle.std.proofs.Common.{ℕ, ◌<◌, get_or}
use Rattle.row_form.specs.declared.number_list.NumberPlace.{NumberPlace}
use Rattle.row_form.proofs.form.are_below.Given as goal

abbrev pub invariant-loop-place : goal.invariant-loop-place
invariant-loop-place l = (k : ℕ) (d : NumberPlace) → k < l.place-index → (get_or l.place-items k d).column < l.columns
