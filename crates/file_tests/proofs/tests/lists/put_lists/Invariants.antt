use Rattle.std.proofs.Common.{◌-◌, ◌^◌}
use Rattle.run_file.specs.Several.{AreOn}
use Rattle.file_tests.proofs.tests.lists.put_lists.Given as goal

abbrev pub invariant-loop-list : goal.invariant-loop-list
invariant-loop-list g l = AreOn (2 ^ 32 - 1) l.runs.items
