use Rattle.std.proofs.Common.{◌≤◌, length}
use Rattle.spill_tests.proofs.tests.sorted.spills.Given as goal

abbrev pub invariant-loop : goal.invariant-loop
invariant-loop l = length l.left ≤ length l.pairs
