use Rattle.std.proofs.Common.{◌≡◌, ◌<◌, Option, length, sym, subst, arith}
use Rattle.std.specs.Option.{option_copied}
use Rattle.std.proofs.lemmas.Result.{err_from_is_err_and}
use Rattle.job_plan.specs.Plans.{kept_in, kind_at}
use Rattle.result_table.specs.Results.{HasResult}
use Rattle.run_file.specs.Shelved.{files_on}
use Rattle.run_file.specs.declared.run.Run.{Run}
use Rattle.task_runner.specs.Workers.{answer_at}
use Rattle.csv_program.proofs.Pieces.{none_among}
use Rattle.csv_program.proofs.Printed.{result_kept}
use Rattle.csv_program.proofs.WideSums.{wide_ends}
use Rattle.csv_program.proofs.sums.check_sums.Goals as goal

pub returns-in_err-check_query-clause-ending : goal.returns-in_err-check_query-clause-ending
returns-in_err-check_query-clause-ending g c totals has =
    let plan = c.args.plan.now in
    let query = c.loop-query.query in
    let files = files_on g.H.Shelf.disk_of g.D.Disk.files in
    let below : query < c.query_count-query-end.result = c.loop-query-test.true in
    let within : query < length (kept_in plan) = omega (arith, below, c.query_count-query-end.ensures) in
    let seen : option_copied c.as_ref.result ≡ answer_at c.args.answers.now query = c.as_ref.ensures.value in
    let here = result_kept (files c.args.shelf.now) (files c.loop-query.shelf) (kind_at plan query) (answer_at c.args.answers.now query) (totals query) c.loop-query.invariant.shelf.same (has query within) in
    let told = c.in_err-check_query.ensures.ending (totals query) (subst (λ (answer : Option Run). HasResult (files c.loop-query.shelf) (kind_at plan query) answer (totals query)) (sym seen) here) in
    let p = err_from_is_err_and c.from_residual.result c.from_residual.ensures.1 in
    rw (p.1, p.2) (wide_ends plan totals query c.in_err-check_query.field-0.0 within (c.loop-query.invariant.none totals has) told)

pub returns-clause-ok : goal.returns-clause-ok
returns-clause-ok g c totals has =
    none_among c.args.plan.now totals (length (kept_in c.args.plan.now)) (λ query below. c.loop-query.invariant.none totals has query (let past = c.loop-query-test.false in omega (arith, below, past, c.query_count-query-end.ensures)))
