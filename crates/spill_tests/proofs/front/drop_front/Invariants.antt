use Rattle.std.proofs.Common.{◌≡◌, ◌+◌, ◌*◌, ◌≤◌, drop}
use Rattle.aggregate.specs.Totals.{costs as costs_of}
use Rattle.spill_tests.specs.Rows.{entries_of_rows}
use Rattle.spill_tests.proofs.front.drop_front.Given as goal

abbrev pub invariant-loop-i : goal.invariant-loop-i
invariant-loop-i l = record {
  rows : l.rows.items ≡ drop l._i l.fn.rows.items;
  charged : l.costs ≡ costs_of (entries_of_rows l.rows.items);
  less : l.costs + 32 * l._i ≤ l.fn.costs;
}
