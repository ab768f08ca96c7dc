use Rattle.std.proofs.Common.{sym, subst}
use Rattle.row_form.specs.declared.form.Form.{Form}
use Rattle.row_filter.specs.declared.chain.Link.{Link}
use Rattle.std.proofs.Common.{List}
use Rattle.row_filter.specs.Chains.{form_of, links_of}
use Rattle.job_plan.specs.Planning.{ArePlanned}
use Rattle.job_plan.proofs.query_plan.Plan.based.Goals as goal

pub invariant_of-result : goal.invariant_of-result
invariant_of-result c =
    let plan = c.args.self in
    record {
      planned = subst (λ (form : Form). ∥ ArePlanned form (links_of c.based.result) plan.queries.items plan.passes.items ∥₁) (sym c.based.ensures.form)
          (subst (λ (links : List Link). ∥ ArePlanned (form_of plan.chain) links plan.queries.items plan.passes.items ∥₁) (sym c.based.ensures.links) plan.planned);
      low = c.requires.task;
    }
