use Rattle.std.proofs.Common.{◌∙◌, sym, ap, take}
use Rattle.job_text.specs.declared.job.Query.{Query}
use Rattle.job_text.specs.Grammar.{separated}
use Rattle.job_text.specs.Printing.{sign_before}
use Rattle.job_text.specs.Sheets.{with_tokens}
use Rattle.job_text.specs.declared.mark.Mark.TheVariants as marks
use Rattle.job_text.specs.Columns.{dataset_names}
use Rattle.job_text.specs.JobPrinting.{query_tokens}
use Rattle.job_text.proofs.Texts.{item_written, with_tokens-nil}
use Rattle.job_text.proofs.job_printing.print_queries.Goals as goal

pub loop-i-init : goal.loop-i-init
loop-i-init c = record { written = sym (with_tokens-nil c.args.printer.now) }

pub loop-i-preserved : goal.loop-i-preserved
loop-i-preserved c = record {
  written = rw (c.in_ok-print_query.ensures, c.in_ok-print_sign.ensures, c.loop-i.invariant.written)
      (ap (λ (q : Query). with_tokens (with_tokens (with_tokens c.args.printer.now (separated marks.Semicolon (query_tokens c.args.names.now (dataset_names c.args.datasets.now)) (take c.loop-i.i c.args.queries.now))) (sign_before c.loop-i.i marks.Semicolon)) (query_tokens c.args.names.now (dataset_names c.args.datasets.now) q)) c.index-queries-i.is
      ∙ item_written marks.Semicolon (query_tokens c.args.names.now (dataset_names c.args.datasets.now)) c.args.printer.now c.args.queries.now c.loop-i.i c.index-queries-i.result c.loop-i-test.true);
}
