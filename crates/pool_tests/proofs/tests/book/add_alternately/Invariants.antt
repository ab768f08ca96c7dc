use Rattle.std.proofs.Common.{◌≡◌, None}
use Rattle.pool_tests.proofs.tests.book.add_alternately.Given as goal

abbrev pub invariant-loop-task : goal.invariant-loop-task
invariant-loop-task g l = record {
  lock : l.pass.lock ≡ l.fn.pass.lock;
  free : l.pass.base ≡ None;
  number : l.pass.number ≡ l.fn.pass.number;
  speaks : l.pass.speaks ≡ l.fn.pass.speaks;
  spare : l.pass.spare ≡ l.fn.pass.spare;
}
