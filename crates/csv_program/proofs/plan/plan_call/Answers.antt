use Rattle.std.proofs.Common.{subst}
use Rattle.std.specs.Prelude.{option_map}
use Rattle.landing.specs.Headers.{IsOfHeader}
use Rattle.byte_io.specs.Rows.{rows_of}
use Rattle.csv_program.proofs.Planned.{header_ends, may_print, plan_refused, printing_ends, prints_plan}
use Rattle.csv_program.proofs.plan.plan_call.Goals as goal

pub returns-in-Ok-plan_input-clause-call : goal.returns-in-Ok-plan_input-clause-call
returns-in-Ok-plan_input-clause-call g c = rw c.in-Ok.ensures.ok (printing_ends c.print_plan.result c.print_plan.ensures.ends)

pub returns-clause-call : goal.returns-clause-call
returns-clause-call g c = rw c.in-Ok.ensures.ok (header_ends c.in-Err-plan_input.fault c.land_status.result c.land_status.ensures c.in-Err-plan_input.ensures.of_header)

pub returns-in-Ok-plan_input-clause-done : goal.returns-in-Ok-plan_input-clause-done
returns-in-Ok-plan_input-clause-done g c = λ is.
    rw c.in-Ok.ensures.ok
    (prints_plan c.in-Ok.job c.in-Ok-plan_input.plan (option_map rows_of (g.S.Source.left c.args.input.now)) (g.W.Sink.written c.args.output.now) (g.W.Sink.written c.print_plan.new.output)
    c.in-Ok-plan_input.ensures.plan c.in-Ok-plan_input.ensures.over (c.print_plan.ensures.done is))

pub returns-in-Ok-plan_input-clause-part : goal.returns-in-Ok-plan_input-clause-part
returns-in-Ok-plan_input-clause-part g c = λ unless.
    rw c.in-Ok.ensures.ok
    (may_print c.in-Ok.job c.in-Ok-plan_input.plan (option_map rows_of (g.S.Source.left c.args.input.now)) (g.W.Sink.written c.args.output.now) (g.W.Sink.written c.print_plan.new.output)
    c.in-Ok-plan_input.ensures.plan c.in-Ok-plan_input.ensures.over (c.print_plan.ensures.part unless))

pub returns-clause-refused : goal.returns-clause-refused
returns-clause-refused g c =
    rw c.in-Ok.ensures.ok
    (plan_refused c.in-Ok.job (g.S.Source.left c.args.input.now) c.in-Err-plan_input.fault _ c.land_status.ensures
    (λ of_input. c.plan_input.ensures.refused c.in-Err-plan_input.fault of_input c.in-Err-plan_input.is) (λ disk is. subst IsOfHeader is c.in-Err-plan_input.ensures.of_header))
