use Rattle.std.proofs.Common.{◌<◌, length, arith}
use Rattle.std.proofs.Math.Logic.{∥∥₁_elim}
use Rattle.std.proofs.Props.{props}
use Rattle.std.proofs.lemmas.List.{length-map}
use Rattle.job_plan.specs.declared.passing.Pass.{Pass}
use Rattle.job_plan.proofs.Queries.{pass_field, pass_read}
use Rattle.job_plan.proofs.query_plan.Plan.dataset.Goals as goal

pub returns-clause-is : goal.returns-clause-is
returns-clause-is c =
    let passes = c.args.self.now.passes.items in
    let within : c.args.pass < length passes = omega (arith, length-map passes (λ (p : Pass). p.dataset)) in
    pass_field (λ (p : Pass). p.dataset) passes c.args.pass c.index.result.now 0 within c.index.ensures

pub returns-clause-there : goal.returns-clause-there
returns-clause-there c =
    let passes = c.args.self.now.passes.items in
    let within : c.args.pass < length passes = omega (arith, length-map passes (λ (p : Pass). p.dataset)) in
    ∥∥₁_elim c.args.self.now.planned (hlevel props) (λ h. (pass_read _ _ passes c.args.pass c.index.result.now within c.index.ensures h.passes).there)
