use Rattle.run_file.proofs.Wholes.{Checked}
use Rattle.run_file.proofs.whole.check_rows.Given as goal

abbrev pub invariant-loop-found : goal.invariant-loop-found
invariant-loop-found l = Checked l.form l.run l.bytes l.at l.found
