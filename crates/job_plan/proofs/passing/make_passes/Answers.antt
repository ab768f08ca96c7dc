use Rattle.std.proofs.Common.{◌≡◌, ◌<◌, ◌++◌, ◌∷◌, ◌∙◌, [], length, ap, rules, arith}
use Rattle.row_filter.specs.Chains.{links_of}
use Rattle.job_plan.specs.Passes.{pass_datasets}
use Rattle.job_plan.proofs.PassLists.{one_more_pass, passes_there}
use Rattle.job_plan.proofs.passing.make_passes.Goals as goal

pub make_pass-requires-clause-there : goal.make_pass-requires-clause-there
make_pass-requires-clause-there c =
    rw (c.deref.ensures.value, c.in_ok-over.ensures) (passes_there c.args.datasets.now (length (links_of c.args.chain.now)) c.requires.there)

pub loop-i-preserved : goal.loop-i-preserved
loop-i-preserved c =
    let links = links_of c.args.chain.now in
    let asked = c.args.datasets.now in
    let over : c.deref.result.now ≡ pass_datasets asked = c.deref.ensures.value ∙ c.in_ok-over.ensures in
    let lt : c.loop-i.i < length (pass_datasets asked) = omega (arith, c.loop-i-test.true, ap length c.in_ok-over.ensures) in
    let is = rw over at c.in_ok-make_pass.ensures in
    let pushed : c.push.new.self.items ≡ c.loop-i.passes.items ++ c.in_ok-make_pass.field-0 ∷ [] = search rules in
    rw pushed (one_more_pass links asked c.loop-i.i c.loop-i.passes.items c.in_ok-make_pass.field-0 lt c.loop-i.invariant is.dataset is.queries is.removed)
