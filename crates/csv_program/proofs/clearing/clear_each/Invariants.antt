use Rattle.std.proofs.Common.{ℕ, ◌<◌}
use Rattle.std.specs.Prelude.{slice_index_or}
use Rattle.csv_program.specs.Doing.{Clears, SawGone}
use Rattle.csv_program.proofs.clearing.clear_each.Given as goal

abbrev pub invariant-loop-i : goal.invariant-loop-i
invariant-loop-i g l = record {
  clears : Clears l.datasets l.initial.worker l.worker;
  gone : (k any : ℕ) → k < l.i → SawGone (slice_index_or l.datasets k any) l.initial.worker l.worker;
}
