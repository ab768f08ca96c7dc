use Rattle.std.proofs.Common.{◌<◌, length, arith}
use Rattle.std.specs.Prelude.{string_bytes}
use Rattle.job_plan.specs.PlanText.{columns_line}
use Rattle.job_plan.specs.Plans.{column_names_in}
use Rattle.job_plan.proofs.Texts.{passes_more}
use Rattle.job_plan.proofs.query_plan.Plan.print.Goals as goal

pub loop-i-preserved : goal.loop-i-preserved
loop-i-preserved c =
    let plan = c.args.self.now in
    let lt : c.loop-i.i < length plan.passes.items = omega (arith, c.loop-i-test.true, c.len-i-end.ensures) in
    let passed = rw c.deref-in-loop-i.ensures.value at c.in_ok-push_pass.ensures in
    let removed = rw (c.deref-in-loop-i-2.ensures.value, c.deref-in-loop-i-3.ensures.value) at c.in_ok-push_removed.ensures in
    passes_more plan c.loop-i.i c.index-pass.result.now (columns_line (column_names_in plan)) (string_bytes c.loop-i.out) (string_bytes c.push_pass.new.out) (string_bytes c.push_removed.new.out)
    lt c.index-pass.ensures c.loop-i.invariant passed removed
