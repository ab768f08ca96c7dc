use Rattle.std.proofs.Common.{◌≡◌, None}
use Rattle.pool_tests.proofs.tests.book.add_behind_other.Given as goal

abbrev pub invariant-loop : goal.invariant-loop
invariant-loop g l = record {
  lock : l.pass.lock ≡ l.fn.pass.lock;
  free : l.pass.base ≡ None;
  number : l.pass.number ≡ l.fn.pass.number;
  speaks : l.pass.speaks ≡ l.fn.pass.speaks;
  spare : l.pass.spare ≡ l.fn.pass.spare;
}
