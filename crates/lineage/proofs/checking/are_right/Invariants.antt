use Rattle.std.proofs.Common.{◌↔◌, drop}
use Rattle.lineage.specs.Checking.{AreRight}
use Rattle.lineage.proofs.checking.are_right.Given as goal

-- all rows are right exactly where those that are left are, from the least number on that may come next
abbrev pub invariant-loop-i : goal.invariant-loop-i
invariant-loop-i l = record {
  left : AreRight l.fn.form l.fn.greatest l.least l.fn.last (drop l.i l.fn.page.rows) ↔ AreRight l.fn.form l.fn.greatest l.fn.first l.fn.last l.fn.page.rows;
}
