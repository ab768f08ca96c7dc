use Rattle.std.proofs.Common.{◌≡◌, ◌∙◌, ◌+◌, ◌<◌, ℕ, suc, Option, length, sym, ap, subst, arith}
use Rattle.std.specs.Io.KnownBytes.{Appends}
use Rattle.std.specs.List.{range_with_len}
use Rattle.std.specs.Option.{option_copied}
use Rattle.std.proofs.KnownBytes.{Appends-trans}
use Rattle.std.proofs.lemmas.Result.{err_from_is_err_and}
use Rattle.job_plan.specs.Plans.{kept_in, kind_at}
use Rattle.result_table.proofs.Blocks.{appends_none, front-more}
use Rattle.result_table.proofs.Leaving.{leaves_self, leaves_trans}
use Rattle.result_table.specs.Results.{HasResult}
use Rattle.run_file.specs.Shelved.{files_on}
use Rattle.run_file.specs.declared.run.Run.{Run}
use Rattle.task_runner.specs.Workers.{answer_at}
use Rattle.job_ending.specs.Endings.{tables_of}
use Rattle.csv_program.specs.Tables.{piece_of}
use Rattle.csv_program.proofs.Pieces.{pieces_all, pieces_in, pieces_more, pieces_split}
use Rattle.csv_program.proofs.Printed.{result_kept}
use Rattle.csv_program.proofs.table.print_tables.Goals as goal

pub loop-query-init : goal.loop-query-init
loop-query-init g c = record {
  shelf = leaves_self g.H.Shelf.count_of g.H.Shelf.named g.H.Shelf.disk_of g.D.Disk.files g.D.Disk.faults c.args.shelf.now;
  later = omega arith;
  written = λ totals has. appends_none (g.W.Sink.written c.args.output.now);
}

pub returns-in_err-print_query-clause-err : goal.returns-in_err-print_query-clause-err
returns-in_err-print_query-clause-err g c =
    let plan = c.args.plan.now in
    let query = c.loop-query.query in
    let files = files_on g.H.Shelf.disk_of g.D.Disk.files in
    let below : query < c.query_count-query-end.result = c.loop-query-test.true in
    let within : query < length (kept_in plan) = omega (arith, below, c.query_count-query-end.ensures) in
    let seen : option_copied c.as_ref-answer.result ≡ answer_at c.args.answers.now query = c.as_ref-answer.ensures.value in
    let p = err_from_is_err_and c.from_residual.result c.from_residual.ensures.1 in
    rw p.1 (λ totals has.
    let here = result_kept (files c.args.shelf.now) (files c.loop-query.shelf) (kind_at plan query) (answer_at c.args.answers.now query) (totals query) c.loop-query.invariant.shelf.same (has query within) in
    let there = subst (λ (answer : Option Run). HasResult (files c.loop-query.shelf) (kind_at plan query) answer (totals query)) (sym seen) here in
    let split = pieces_split plan totals query (length (kept_in plan)) within in
    front-more (g.W.Sink.written c.args.output.now) (g.W.Sink.written c.loop-query.output) (g.W.Sink.written c.print_query.new.output) (pieces_in plan totals (range_with_len 0 query)) (piece_of plan query (totals query)) split.0
    (tables_of plan totals) (c.loop-query.invariant.written totals has) (c.in_err-print_query.ensures.err (totals query) there) (sym (pieces_all plan totals) ∙ split.1))

pub returns-in_err-print_query-clause-outside : goal.returns-in_err-print_query-clause-outside
returns-in_err-print_query-clause-outside g c totals has told =
    let plan = c.args.plan.now in
    let query = c.loop-query.query in
    let files = files_on g.H.Shelf.disk_of g.D.Disk.files in
    let below : query < c.query_count-query-end.result = c.loop-query-test.true in
    let within : query < length (kept_in plan) = omega (arith, below, c.query_count-query-end.ensures) in
    let seen : option_copied c.as_ref-answer.result ≡ answer_at c.args.answers.now query = c.as_ref-answer.ensures.value in
    let here = result_kept (files c.args.shelf.now) (files c.loop-query.shelf) (kind_at plan query) (answer_at c.args.answers.now query) (totals query) c.loop-query.invariant.shelf.same (has query within) in
    let there = subst (λ (answer : Option Run). HasResult (files c.loop-query.shelf) (kind_at plan query) answer (totals query)) (sym seen) here in
    let p = err_from_is_err_and c.from_residual.result c.from_residual.ensures.1 in
    rw (p.1, p.2) (c.in_err-print_query.ensures.outside (totals query) there (told query within))

pub loop-query-preserved : goal.loop-query-preserved
loop-query-preserved g c =
    let plan = c.args.plan.now in
    let query = c.loop-query.query in
    let files = files_on g.H.Shelf.disk_of g.D.Disk.files in
    let below : query < c.query_count-query-end.result = c.loop-query-test.true in
    let within : query < length (kept_in plan) = omega (arith, below, c.query_count-query-end.ensures) in
    let seen : option_copied c.as_ref-answer.result ≡ answer_at c.args.answers.now query = c.as_ref-answer.ensures.value in
    let more : suc query ≡ query + 1 = omega arith in
    record {
      shelf = leaves_trans g.H.Shelf.count_of g.H.Shelf.named g.H.Shelf.disk_of g.D.Disk.files g.D.Disk.faults c.args.shelf.now c.loop-query.shelf c.print_query.new.shelf c.loop-query.invariant.shelf c.print_query.ensures.shelf;
      later = omega (arith, c.loop-query.invariant.later, c.print_query.ensures.later);
      written = λ totals has.
          let here = result_kept (files c.args.shelf.now) (files c.loop-query.shelf) (kind_at plan query) (answer_at c.args.answers.now query) (totals query) c.loop-query.invariant.shelf.same (has query within) in
          let there = subst (λ (answer : Option Run). HasResult (files c.loop-query.shelf) (kind_at plan query) answer (totals query)) (sym seen) here in
          subst (Appends (g.W.Sink.written c.args.output.now) (g.W.Sink.written c.print_query.new.output)) (sym (pieces_more plan totals query) ∙ ap (λ (n : ℕ). pieces_in plan totals (range_with_len 0 n)) more)
          (Appends-trans (g.W.Sink.written c.args.output.now) (g.W.Sink.written c.loop-query.output) (g.W.Sink.written c.print_query.new.output) (pieces_in plan totals (range_with_len 0 query)) (piece_of plan query (totals query))
          (c.loop-query.invariant.written totals has) (c.in_ok-print_query.ensures.ok (totals query) there));
    }

pub returns-clause-ok : goal.returns-clause-ok
returns-clause-ok g c totals has =
    let plan = c.args.plan.now in
    let past = c.loop-query-test.false in
    let most = c.loop-query.auto.query-end in
    let all : c.loop-query.query ≡ length (kept_in plan) = omega (arith, past, most, c.query_count-query-end.ensures) in
    subst (Appends (g.W.Sink.written c.args.output.now) (g.W.Sink.written c.loop-query.output)) (ap (λ (n : ℕ). pieces_in plan totals (range_with_len 0 n)) all ∙ pieces_all plan totals) (c.loop-query.invariant.written totals has)
