use Rattle.std.proofs.Common.{◌<◌, ◌≤◌, ◌∙◌, length, sym, arith}
use Rattle.row_filter.specs.Chains.{links_of, parent_at}
use Rattle.row_filter.proofs.Lineage.{goes_down, reached, step_up}
use Rattle.row_filter.proofs.chain.Chain.derives.Goals as goal

pub loop-at-preserved : goal.loop-at-preserved
loop-at-preserved c =
    let chain = c.args.self.now in
    let less : parent_at chain c.loop-at.at < c.loop-at.at = goes_down chain c.requires.ordered c.loop-at.at c.args.from c.loop-at-test.true in
    let there : c.loop-at.at ≤ length (links_of chain) = c.loop-at.invariant.there in
    rw c.parent-at.ensures (record {
      there = omega arith;
      same = step_up chain c.requires.ordered c.loop-at.at c.args.from c.loop-at-test.true ∙ c.loop-at.invariant.same;
    })

pub returns : goal.returns
returns c = sym (sym c.loop-at.invariant.same ∙ reached c.args.self.now c.requires.ordered c.loop-at.at c.args.from c.loop-at-test.false)
