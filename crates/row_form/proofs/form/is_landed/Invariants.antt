use Rattle.row_form.proofs.Walking.{Walked}
use Rattle.row_form.proofs.form.is_landed.Given as goal

abbrev pub invariant-loop-place : goal.invariant-loop-place
invariant-loop-place l = Walked l.bytes l.numbers l.rest l.place
