use Rattle.std.proofs.Common.{◌<◌, length, arith}
use Rattle.std.proofs.lemmas.List.{length-map}
use Rattle.std.proofs.Math.Logic.{∥∥₁_elim}
use Rattle.std.proofs.Props.{props}
use Rattle.job_plan.specs.declared.planned.Planned.{Planned}
use Rattle.row_form.specs.Forms.{columns_of}
use Rattle.job_plan.specs.Plans.{form_in}
use Rattle.job_plan.proofs.Queries.{kind_read}
use Rattle.job_plan.proofs.query_plan.Plan.kind.Goals as goal

pub returns : goal.returns
returns c =
    let within : c.args.query < length c.args.self.now.queries.items = omega (arith, length-map c.args.self.now.queries.items (λ (q : Planned). q.kept)) in
    ∥∥₁_elim c.args.self.now.planned (hlevel props) (λ h. kind_read (columns_of (form_in c.args.self.now)) c.args.self.now.queries.items c.args.query c.index.result.now within c.index.ensures h.each)
