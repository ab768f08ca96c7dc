use Rattle.std.proofs.Common.{sym, append-nil, []}
use Rattle.std.proofs.KnownBytes.{Appends-trans}
use Rattle.std.proofs.lemmas.Result.{err_from_is_err_and}
use Rattle.result_table.proofs.Blocks.{front-more, front-within}
use Rattle.result_table.specs.Results.{table_of}
use Rattle.csv_program.specs.Tables.{gap_before, piece_of}
use Rattle.csv_program.proofs.table.print_query.Goals as goal

pub returns-in_err-write_gap-clause-err : goal.returns-in_err-write_gap-clause-err
returns-in_err-write_gap-clause-err g c =
    let p = err_from_is_err_and c.from_residual.result c.from_residual.ensures.1 in
    rw p.1 (λ entries has.
    front-within (g.W.Sink.written c.args.output.now) (g.W.Sink.written c.write_gap.new.output) (gap_before c.args.query) (table_of c.args.plan.now c.args.query entries) c.in_err-write_gap.ensures.err)

pub returns-in-Ok-clause-ok : goal.returns-in-Ok-clause-ok
returns-in-Ok-clause-ok g c entries has =
    Appends-trans (g.W.Sink.written c.args.output.now) (g.W.Sink.written c.write_gap.new.output) (g.W.Sink.written c.print_table.new.output) (gap_before c.args.query) (table_of c.args.plan.now c.args.query entries)
    c.in_ok-write_gap.ensures.ok (c.in-Ok.ensures.ok entries has)

pub returns-in-Err-clause-err : goal.returns-in-Err-clause-err
returns-in-Err-clause-err g c entries has =
    front-more (g.W.Sink.written c.args.output.now) (g.W.Sink.written c.write_gap.new.output) (g.W.Sink.written c.print_table.new.output) (gap_before c.args.query) (table_of c.args.plan.now c.args.query entries) []
    (piece_of c.args.plan.now c.args.query entries) c.in_ok-write_gap.ensures.ok (c.in-Err.ensures.err entries has) (sym (append-nil (piece_of c.args.plan.now c.args.query entries)))
