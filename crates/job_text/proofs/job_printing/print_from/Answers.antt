use Rattle.std.proofs.Common.{sym, ap}
use Rattle.job_text.specs.Columns.{dataset_names}
use Rattle.job_text.specs.Sheets.{with_tokens}
use Rattle.job_text.proofs.Texts.{from_is}
use Rattle.job_text.proofs.job_printing.print_from.Goals as goal

pub returns : goal.returns
unfolding with_tokens
returns c = rw (c.in_ok-print_source.ensures, c.in_ok-mark.ensures) (ap (with_tokens c.args.printer.now) (sym (from_is (dataset_names c.args.datasets.now) c.args.number c.if-number-eq0.false)))
