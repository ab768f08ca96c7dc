use Rattle.std.proofs.Common.{◌≡◌, ℕ, ◌<◌, get_or, IsTrue}
use Rattle.row_form.specs.declared.number_list.NumberPlace.{NumberPlace}
use Rattle.row_form.specs.Numbers.{may_be}
use Rattle.row_form.proofs.form.may_stand.Given as goal

abbrev pub invariant-loop-place : goal.invariant-loop-place
invariant-loop-place l = (k : ℕ) (d : NumberPlace) → k < l.place-index → (get_or l.place-items k d).column ≡ l.column → IsTrue (may_be (get_or l.place-items k d) l.field)
