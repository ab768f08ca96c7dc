use Rattle.std.proofs.Common.{◌≡◌, ◌∷◌, List}
use Rattle.std.specs.Prelude.{IfSome}
use Rattle.std.proofs.lemmas.Result.{err_from_is_err_and}
use Rattle.csv.specs.Records.{fields_of}
use Rattle.fault_count.specs.Faults.{Rose}
use Rattle.byte_io.specs.Records.{rows_left, source_under}
use Rattle.job_plan.specs.Columns.{Fields}
use Rattle.landing.specs.Checks.{Refused, checked}
use Rattle.landing.specs.Explaining.{Never}
use Rattle.landing.specs.Headers.{checked_header}
use Rattle.landing.proofs.Planned.{known_plan, refused_plan}
use Rattle.landing.proofs.Shelves.{explains_more}
use Rattle.landing.proofs.header.plan_over.Goals as goal

pub returns-in_err-rules-clause-err : goal.returns-in_err-rules-clause-err
returns-in_err-rules-clause-err g c =
    let job = c.args.job.now in
    let header = c.in-Ok-Some.header in
    let all = rows_left c.args.records.now in
    let rest = rows_left c.next.new.self in
    let given = rw c.in-Ok-Some.field-0-is at c.in-Ok-Some.ensures.rows in
    let p = err_from_is_err_and c.from_residual.result c.from_residual.ensures.1 in
    rw (p.1, p.2)
    (explains_more (λ why. (rows : List Fields) → checked job 0 (fields_of header ∷ rows) ≡ Refused why) (λ why. IfSome all (λ records. checked_header job records ≡ Refused why))
    ⊥ (Rose g.O.Origin.faults (g.T.Tap.faults (source_under c.next.new.self))) Never Never
    (λ why refused. refused_plan job all rest header why given refused)
    (λ never. absurd never) (λ disk never. absurd never)
    c.in_err-rules.field-0.0 c.in_err-rules.ensures.err)

pub returns-in_err-rules-clause-of_header : goal.returns-in_err-rules-clause-of_header
returns-in_err-rules-clause-of_header g c =
    let p = err_from_is_err_and c.from_residual.result c.from_residual.ensures.1 in
    rw (p.1, p.2) c.in_err-rules.ensures.of_header

pub returns-clause-over : goal.returns-clause-over
returns-clause-over g c =
    let given = rw c.in-Ok-Some.field-0-is at c.in-Ok-Some.ensures.rows in
    known_plan c.args.job.now c.in_ok-rules.rules (rows_left c.args.records.now) (rows_left c.next.new.self) c.in-Ok-Some.header given c.in_ok-rules.ensures.rules c.in_ok-rules.ensures.short
