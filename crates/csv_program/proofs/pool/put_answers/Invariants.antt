use Rattle.csv_program.specs.Passing.{ArePut}
use Rattle.csv_program.proofs.pool.put_answers.Given as goal

abbrev pub invariant-loop-i : goal.invariant-loop-i
invariant-loop-i l = ArePut l.queries l.found l.initial.answers.items l.answers.items l.i
