use Rattle.std.proofs.Common.{◌≡◌, ℕ, List, Option, None, sym, subst, inl}
use Rattle.byte_io.specs.Sinks.{AppendsPrefix}
use Rattle.run_file.specs.Shelved.{files_on}
use Rattle.job_ending.specs.Endings.{MayEndAs, ending_with, printed_in, tables_of, wide_of}
use Rattle.csv_program.proofs.Gaining.{printed_gains}
use Rattle.csv_program.proofs.Printed.{results_kept}
use Rattle.csv_program.proofs.table.check_and_print.Goals as goal

pub returns-in-Err-print_tables-clause-ending : goal.returns-in-Err-print_tables-clause-ending
returns-in-Err-print_tables-clause-ending g c totals has told =
    let files = files_on g.H.Shelf.disk_of g.D.Disk.files in
    let plan = c.args.plan.now in
    let narrow : wide_of plan totals ≡ None = c.in-Ok.ensures.ok totals has in
    let kept = results_kept (files c.args.shelf.now) (files c.check_sums.new.shelf) plan c.args.answers.now totals c.check_sums.ensures.shelf.same has in
    subst (λ (wide : Option (ℕ × List ℕ)). MayEndAs (ending_with (tables_of plan totals) wide) c.in-Err-print_tables.ended) (sym narrow)
    (inl (c.in-Err-print_tables.ensures.outside totals kept (told narrow)))

pub returns-in-Err-print_tables-clause-prefix : goal.returns-in-Err-print_tables-clause-prefix
returns-in-Err-print_tables-clause-prefix g c totals has cut =
    let files = files_on g.H.Shelf.disk_of g.D.Disk.files in
    let plan = c.args.plan.now in
    let narrow : wide_of plan totals ≡ None = c.in-Ok.ensures.ok totals has in
    let kept = results_kept (files c.args.shelf.now) (files c.check_sums.new.shelf) plan c.args.answers.now totals c.check_sums.ensures.shelf.same has in
    subst (λ (wide : Option (ℕ × List ℕ)). AppendsPrefix (g.W.Sink.written c.args.output.now) (g.W.Sink.written c.print_tables.new.output) (printed_in (ending_with (tables_of plan totals) wide))) (sym narrow)
    (c.in-Err-print_tables.ensures.err totals kept)

pub returns-in-Err-print_tables-clause-gains : goal.returns-in-Err-print_tables-clause-gains
returns-in-Err-print_tables-clause-gains g c =
    printed_gains c.args.kept.now.asked c.in-Err-print_tables.ended _ (g.J.Sink.written c.args.journal.now) (g.J.Sink.written c.write_journal.new.sink) c.in-Err-print_tables.ensures.of_tables c.in-Ok-write_journal.ensures.ok
