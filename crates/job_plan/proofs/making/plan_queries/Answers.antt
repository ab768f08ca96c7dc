use Rattle.std.proofs.Common.{◌≡◌, ◌++◌, ◌∷◌, [], rules}
use Rattle.job_plan.proofs.Whole.{planned_more}
use Rattle.job_plan.proofs.making.plan_queries.Goals as goal

pub loop-query-preserved : goal.loop-query-preserved
loop-query-preserved c =
    let more = planned_more c.args.names.now c.args.kept.now c.args.queries.now c.loop-query.planned.items c.loop-query.query-index c.query-item.result c.in_ok-plan_query.field-0
    c.loop-query-test.true c.query-item.is c.loop-query.invariant c.in_ok-plan_query.ensures in
    let pushed : c.push.new.self.items ≡ c.loop-query.planned.items ++ c.in_ok-plan_query.field-0 ∷ [] = search rules in
    rw pushed more
