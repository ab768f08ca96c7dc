use Rattle.std.proofs.Common.{take}
use Rattle.std.specs.Prelude.{Some}
use Rattle.aggregate.specs.declared.kind.Kind.TheVariants.{Order}
use Rattle.aggregate.specs.Rows.{Ascends}
use Rattle.spill_tests.specs.Rows.{entries_of_rows}
use Rattle.spill_tests.proofs.front.front_of.Given as goal

abbrev pub invariant-loop-i : goal.invariant-loop-i
invariant-loop-i l = Ascends (Some Order) (take l.i (entries_of_rows l.rows))
