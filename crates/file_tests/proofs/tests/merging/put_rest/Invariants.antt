use Rattle.std.proofs.Common.{◌≡◌}
use Rattle.run_merge.specs.Merging.{left_of, runs_of}
use Rattle.file_tests.proofs.tests.merging.put_rest.Given as goal

abbrev pub invariant-loop-page : goal.invariant-loop-page
invariant-loop-page g l = runs_of l.merge ≡ runs_of l.fn.merge

abbrev pub decreases-loop-page : goal.decreases-loop-page
decreases-loop-page g l = left_of l.merge
