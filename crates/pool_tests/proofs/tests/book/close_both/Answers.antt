use Rattle.std.proofs.Common.{◌++◌, min, ap, ◌∙◌}
use Rattle.turn_lock.specs.Passes.{WorkerView}
use Rattle.turn_lock.proofs.Covering.{covers_two}
use Rattle.pool_tests.proofs.tests.book.close_both.Goals as goal

pub close-requires-clause-all : goal.close-requires-clause-all
close-requires-clause-all c =
    let one = c.requires.one in
    let other = c.requires.other in
    let is = c.join.ensures.pass in
    covers_two c.join.new.pass.speaks c.join.new.pass.spare (ap (λ (p : WorkerView). p.speaks) is ∙ (λ i. one.0 i ++ other.0 i)) (ap (λ (p : WorkerView). p.spare) is ∙ (λ i. min (one.1 i) (other.1 i)))
