use Rattle.std.proofs.Common.{◌≡◌}
use Rattle.run_file.specs.Readers.{run_of}
use Rattle.job_tests.proofs.tests.partitions.show_run.Given as goal

abbrev pub invariant-loop : goal.invariant-loop
invariant-loop l = run_of l.reader ≡ l.run
