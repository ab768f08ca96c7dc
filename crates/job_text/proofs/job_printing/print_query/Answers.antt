use Rattle.std.proofs.Common.{sym}
use Rattle.job_text.specs.Columns.{dataset_names}
use Rattle.job_text.specs.Printing.{shape_tokens}
use Rattle.job_text.specs.JobPrinting.{from_tokens}
use Rattle.job_text.proofs.Texts.{with_tokens-append}
use Rattle.job_text.proofs.job_printing.print_query.Goals as goal

pub returns : goal.returns
returns c =
    let query = c.args.query.now in
    rw (c.in_ok-print_from.ensures, c.in_ok-print_shape.ensures)
    (sym (with_tokens-append (shape_tokens c.args.names.now query.shape) (from_tokens (dataset_names c.args.datasets.now) query.dataset) c.args.printer.now))
