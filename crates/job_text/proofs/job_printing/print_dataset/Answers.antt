use Rattle.job_text.specs.declared.mark.Mark.TheVariants as marks
use Rattle.job_text.specs.declared.token.Token.TheVariants.{Fixed, Word}
use Rattle.job_text.specs.Columns.{dataset_names}
use Rattle.job_text.specs.Grammar.{keep_written}
use Rattle.job_text.specs.JobPrinting.{source_token, where_tokens}
use Rattle.job_text.proofs.Texts.{dataset_written}
use Rattle.job_text.proofs.job_printing.print_dataset.Goals as goal

pub returns : goal.returns
returns c =
    let dataset = c.args.dataset.now in
    rw (c.in_ok-print_level.ensures, c.in_ok-print_where.ensures, c.in_ok-print_source.ensures, c.in_ok-mark-2.ensures, c.in_ok-word.ensures, c.in_ok-mark.ensures)
    (dataset_written c.args.printer.now (Fixed marks.Let) (Word dataset.name) (Fixed marks.Equal) (source_token (dataset_names c.args.datasets.now) dataset.parent) (where_tokens c.args.names.now dataset.filter) (keep_written dataset.level))
