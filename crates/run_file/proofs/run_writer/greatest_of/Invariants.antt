use Rattle.std.proofs.Common.{◌≡◌, take}
use Rattle.run_file.specs.Runs.{greatest_cost}
use Rattle.run_file.proofs.run_writer.greatest_of.Given as goal

abbrev pub invariant-loop-i : goal.invariant-loop-i
invariant-loop-i l = l.greatest ≡ greatest_cost (take l.i l.page.rows)
