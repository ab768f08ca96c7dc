use Rattle.byte_io.specs.Records.{IsReading}
use Rattle.job_tests.proofs.tests.records.show_rows.Given as goal

abbrev pub invariant-loop : goal.invariant-loop
invariant-loop g l = IsReading l.records
