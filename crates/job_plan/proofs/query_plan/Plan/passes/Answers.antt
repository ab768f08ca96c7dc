use Rattle.std.proofs.Common.{◌≤◌, length, arith}
use Rattle.std.proofs.Math.Logic.{∥∥₁_elim}
use Rattle.std.proofs.Props.{props}
use Rattle.job_plan.proofs.query_plan.Plan.passes.Goals as goal

pub overflow_cast-result : goal.overflow_cast-result
overflow_cast-result c =
    let few : length c.args.self.now.passes.items ≤ 8 = ∥∥₁_elim c.args.self.now.planned (hlevel props) (λ h. h.several) in
    omega arith

pub returns-clause-some : goal.returns-clause-some
returns-clause-some c =
    let some : 1 ≤ length c.args.self.now.passes.items = ∥∥₁_elim c.args.self.now.planned (hlevel props) (λ h. h.some) in
    omega arith

pub returns-clause-few : goal.returns-clause-few
returns-clause-few c =
    let few : length c.args.self.now.passes.items ≤ 8 = ∥∥₁_elim c.args.self.now.planned (hlevel props) (λ h. h.several) in
    omega arith
