use Rattle.std.proofs.Common.{take}
use Rattle.job_plan.specs.Making.{ArePlannedOf}
use Rattle.job_plan.proofs.making.plan_queries.Given as goal

abbrev pub invariant-loop-query : goal.invariant-loop-query
invariant-loop-query l =
    ArePlannedOf l.names l.kept (take l.query-index l.queries) l.planned.items
