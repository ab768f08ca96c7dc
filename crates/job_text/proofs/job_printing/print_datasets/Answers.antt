use Rattle.std.proofs.Common.{◌∙◌, sym, ap, take}
use Rattle.job_text.specs.declared.job.Dataset.{Dataset}
use Rattle.job_text.specs.declared.token.Token.TheVariants.{Fixed}
use Rattle.job_text.specs.Grammar.{ended_by}
use Rattle.job_text.specs.Sheets.{with_token, with_tokens}
use Rattle.job_text.specs.declared.mark.Mark.TheVariants as marks
use Rattle.job_text.specs.Columns.{dataset_names}
use Rattle.job_text.specs.JobPrinting.{dataset_tokens}
use Rattle.job_text.proofs.Texts.{ended_item, with_tokens-nil}
use Rattle.job_text.proofs.job_printing.print_datasets.Goals as goal

pub loop-i-init : goal.loop-i-init
loop-i-init c = record { written = sym (with_tokens-nil c.args.printer.now) }

pub loop-i-preserved : goal.loop-i-preserved
loop-i-preserved c =
    let datasets = c.args.datasets.now in
    record {
      written = rw (c.in_ok-mark.ensures, c.in_ok-print_dataset.ensures, c.loop-i.invariant.written)
          (ap (λ (d : Dataset). with_token (with_tokens (with_tokens c.args.printer.now (ended_by marks.Semicolon (dataset_tokens c.args.names.now (dataset_names datasets)) (take c.loop-i.i datasets))) (dataset_tokens c.args.names.now (dataset_names datasets) d)) (Fixed marks.Semicolon)) c.index-datasets-i.is
          ∙ ended_item marks.Semicolon (dataset_tokens c.args.names.now (dataset_names datasets)) c.args.printer.now datasets c.loop-i.i c.index-datasets-i.result c.loop-i-test.true);
    }
