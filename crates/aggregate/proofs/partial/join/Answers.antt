use Rattle.std.proofs.Common.{inl, inr}
use Rattle.std.specs.Int.{w128}
use Rattle.std.proofs.lemmas.Int.{wrapping_add_is}
use Rattle.aggregate.proofs.partial.join.Goals as goal

pub returns-in-Count : goal.returns-in-Count
returns-in-Count c =
    let sum = wrapping_add_is w128 c.args.a c.args.b c.ranges.a c.ranges.b in
    elim c.in-Count.is [ inl counts ↦ rw counts sum | inr sums ↦ rw sums sum ]
