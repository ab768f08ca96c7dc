use Rattle.std.proofs.Common.{◌<◌, ◌∙◌, [], length, arith}
use Rattle.std.proofs.Math.Logic.{∥∥₁_elim}
use Rattle.std.proofs.lemmas.List.{length-map}
use Rattle.job_plan.specs.declared.passing.Pass.{Pass}
use Rattle.job_plan.specs.declared.planned.Planned.{Planned}
use Rattle.job_plan.proofs.Queries.{pass_field, pass_read, queries-prop}
use Rattle.job_plan.proofs.query_plan.Plan.queries.Goals as goal

pub returns-clause-are : goal.returns-clause-are
returns-clause-are c =
    let passes = c.args.self.now.passes.items in
    let within : c.args.pass < length passes = omega (arith, length-map passes (λ (p : Pass). p.dataset)) in
    c.deref.ensures.value ∙ pass_field (λ (p : Pass). p.queries.items) passes c.args.pass c.index.result.now [] within c.index.ensures

pub returns-clause-fit : goal.returns-clause-fit
returns-clause-fit c =
    let plan = c.args.self.now in
    let passes = plan.passes.items in
    let within : c.args.pass < length passes = omega (arith, length-map passes (λ (p : Pass). p.dataset)) in
    rw (c.deref.ensures.value, length-map plan.queries.items (λ (p : Planned). p.kept))
    (∥∥₁_elim plan.planned (queries-prop (length plan.queries.items) c.index.result.now.queries.items)
    (λ h. (pass_read _ _ passes c.args.pass c.index.result.now within c.index.ensures h.passes).queries))
