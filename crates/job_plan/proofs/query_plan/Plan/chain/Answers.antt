use Rattle.std.proofs.Math.Logic.{∥∥₁_elim}
use Rattle.row_filter.specs.Chains.{form_of, links_of}
use Rattle.job_plan.proofs.Queries.{chain-prop}
use Rattle.job_plan.proofs.query_plan.Plan.chain.Goals as goal

pub returns-clause-fits : goal.returns-clause-fits
returns-clause-fits c = ∥∥₁_elim c.args.self.now.planned (chain-prop (form_of c.args.self.now.chain) (links_of c.args.self.now.chain)) (λ h. h.chain)
