use Rattle.std.proofs.Common.{◌≡◌, ◌∷◌, List, Some}
use Rattle.std.specs.Prelude.{IfSome}
use Rattle.std.proofs.lemmas.Result.{err_from_is_err_and}
use Rattle.csv.specs.Records.{fields_of}
use Rattle.fault_count.specs.Faults.{Rose}
use Rattle.byte_io.specs.Records.{rows_left, source_under}
use Rattle.run_file.specs.Shelved.{files_on, faults_on}
use Rattle.job_plan.specs.Columns.{Fields}
use Rattle.landing.specs.Checks.{Refused, checked}
use Rattle.landing.specs.Explaining.{FailsAmong, Never}
use Rattle.landing.specs.Ruling.{first_refusal_in}
use Rattle.landing.proofs.Checking.{lands_all, refused_below, refused_header}
use Rattle.landing.proofs.Shelves.{explains_more}
use Rattle.landing.proofs.landing.land_all.Goals as goal

pub returns-in_err-rules-clause-err : goal.returns-in_err-rules-clause-err
returns-in_err-rules-clause-err g c =
    let job = c.args.job.now in
    let max_rows = c.args.max_rows in
    let header = c.in-Ok-Some.header in
    let all = rows_left c.args.records.now in
    let rest = rows_left c.next.new.self in
    let faults = faults_on g.H.Shelf.disk_of g.D.Disk.faults in
    let given = rw c.in-Ok-Some.field-0-is at c.in-Ok-Some.ensures.rows in
    let p = err_from_is_err_and c.from_residual.result c.from_residual.ensures.1 in
    rw (p.1, p.2)
    (explains_more (λ why. (rows : List Fields) → checked job max_rows (fields_of header ∷ rows) ≡ Refused why) (λ why. IfSome all (λ records. checked job max_rows records ≡ Refused why))
    ⊥ (Rose g.O.Origin.faults (g.T.Tap.faults (source_under c.next.new.self))) Never (FailsAmong c.args.workers (faults c.args.shelf.now) (faults c.args.shelf.now))
    (λ why refused. refused_header job max_rows all rest header why given refused)
    (λ never. absurd never) (λ disk never. absurd never)
    c.in_err-rules.field-0.0 c.in_err-rules.ensures.err)

pub returns-in_err-parts-clause-err : goal.returns-in_err-parts-clause-err
returns-in_err-parts-clause-err g c =
    let job = c.args.job.now in
    let max_rows = c.args.max_rows in
    let header = c.in-Ok-Some.header in
    let rules = c.in_ok-rules.rules in
    let all = rows_left c.args.records.now in
    let rest = rows_left c.next.new.self in
    let faults = faults_on g.H.Shelf.disk_of g.D.Disk.faults in
    let given = rw c.in-Ok-Some.field-0-is at c.in-Ok-Some.ensures.rows in
    let fails = FailsAmong c.args.workers (faults c.args.shelf.now) (faults c.land_rows.new.shelf) in
    let read = Rose g.O.Origin.faults (g.T.Tap.faults (source_under c.land_rows.new.records)) in
    let p = err_from_is_err_and c.from_residual-in_err-parts.result c.from_residual-in_err-parts.ensures.1 in
    rw (p.1, p.2)
    (explains_more (λ why. IfSome rest (λ rows. first_refusal_in rules 1 rows ≡ Some why)) (λ why. IfSome all (λ records. checked job max_rows records ≡ Refused why))
    read read fails fails
    (λ why refused. refused_below job max_rows rules all rest header why given c.in_ok-rules.ensures.rules c.in_ok-rules.ensures.most c.in_ok-rules.ensures.short refused)
    (λ rose. rose) (λ disk h. h)
    c.in_err-parts.field-0.0 c.in_err-parts.ensures.err)

pub returns-clause-lands : goal.returns-clause-lands
returns-clause-lands g c =
    let files = files_on g.H.Shelf.disk_of g.D.Disk.files in
    let given = rw c.in-Ok-Some.field-0-is at c.in-Ok-Some.ensures.rows in
    lands_all (files c.land_rows.new.shelf) c.args.job.now c.args.max_rows c.args.part_rows c.args.workers c.in_ok-rules.rules _ _ (rows_left c.args.records.now) (rows_left c.next.new.self) c.in-Ok-Some.header given
    c.in_ok-rules.ensures.rules c.in_ok-rules.ensures.most c.in_ok-rules.ensures.short c.in_ok-parts.ensures.lands
