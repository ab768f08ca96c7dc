use Rattle.job_text.specs.declared.mark.Mark.TheVariants as marks
use Rattle.job_text.specs.Grammar.{optional}
use Rattle.job_text.specs.Printing.{place_tokens}
use Rattle.job_text.proofs.Texts.{three_lists}
use Rattle.job_text.proofs.printing.print_key.Goals as goal

pub returns : goal.returns
returns c =
    rw (c.in_ok-print_word-2.ensures, c.in_ok-print_column.ensures, c.in_ok-print_word.ensures)
    (three_lists c.args.printer.now (optional c.args.key.number marks.Number) (place_tokens c.args.names.now c.args.key.column) (optional c.args.key.down marks.Down))
