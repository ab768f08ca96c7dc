use Rattle.std.proofs.Common.{◌≡◌, ◌++◌, take, None}
use Rattle.pool_ledger.specs.Workers.{entries_of}
use Rattle.pool_tests.proofs.tests.book.add_all.Given as goal

abbrev pub invariant-loop-entry : goal.invariant-loop-entry
invariant-loop-entry g l = record {
  lock : l.pass.lock ≡ l.fn.pass.lock;
  number : l.pass.number ≡ l.fn.pass.number;
  free : l.pass.base ≡ None;
  speaks : l.pass.speaks ≡ l.fn.pass.speaks;
  spare : l.pass.spare ≡ l.fn.pass.spare;
  entries : entries_of l.fn.pass.number l.pass.seen ≡ entries_of l.fn.pass.number l.fn.pass.seen ++ take l.entry-index l.entries;
}
