use Rattle.std.proofs.Common.{arith, sym, ◌∙◌}
use Rattle.journal_replay.proofs.Passed.{passed_end, passed_stretch}
use Rattle.journal_replay.proofs.fronts.next_other.Goals as goal

pub returns-in_default-next_start-clause-next : goal.returns-in_default-next_start-clause-next
returns-in_default-next_start-clause-next c = λ pins.
    let order = c.args.order.now in
    let first = c.in-Some.ensures in
    c.loop-place.invariant.1 pins
    ∙ passed_end c.args.except order.placed order.starts c.len-count.ensures.ordered c.requires.stretches c.loop-place.at c.in-Some.place c.in-Some.placed first.found.0 first.found.1 first.least
    (sym c.is_excepted.ensures ∙ c.if-not-is_excepted.false) pins c.in_default-next_start.ensures.none

pub loop-place-preserved : goal.loop-place-preserved
loop-place-preserved c =
    let order = c.args.order.now in
    let first = c.in-Some.ensures in
    let start = c.in-Some-next_start.start in (
      omega (arith, c.loop-place.invariant.0, first.found.0, c.in-Some-next_start.ensures.found),
      λ pins.
          c.loop-place.invariant.1 pins
          ∙ passed_stretch c.args.except order.placed order.starts c.len-count.ensures.ordered c.requires.stretches c.loop-place.at c.in-Some.place c.in-Some.placed first.found.0 first.found.1 first.least
          (sym c.is_excepted.ensures ∙ c.if-not-is_excepted.false) pins start c.in-Some-next_start.ensures.found c.in-Some-next_start.ensures.within,
    )
