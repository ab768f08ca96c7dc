use Rattle.std.proofs.Common.{◌≡◌, None, length}
use Rattle.std.specs.Prelude.{All}
use Rattle.csv_program.proofs.pool.no_answers.Given as goal

abbrev pub invariant-loop : goal.invariant-loop
invariant-loop l = record { count : length l.answers.items ≡ l.counter; none : All (λ answer. answer ≡ None) l.answers.items }
