use Rattle.std.proofs.Common.{◌<◌, ◌∙◌, [], length, arith}
use Rattle.std.proofs.lemmas.List.{length-map}
use Rattle.job_plan.specs.declared.passing.Pass.{Pass}
use Rattle.job_plan.proofs.Queries.{pass_field}
use Rattle.job_plan.proofs.query_plan.Plan.removed.Goals as goal

pub returns : goal.returns
returns c =
    let passes = c.args.self.now.passes.items in
    let within : c.args.pass < length passes = omega (arith, length-map passes (λ (p : Pass). p.dataset)) in
    c.deref.ensures.value ∙ pass_field (λ (p : Pass). p.removed.items) passes c.args.pass c.index.result.now [] within c.index.ensures
