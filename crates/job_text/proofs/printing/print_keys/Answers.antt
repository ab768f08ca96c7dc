use Rattle.std.proofs.Common.{sym}
use Rattle.job_text.specs.declared.mark.Mark.TheVariants as marks
use Rattle.job_text.specs.Printing.{key_tokens}
use Rattle.job_text.proofs.Texts.{item_written, with_tokens-nil}
use Rattle.job_text.proofs.printing.print_keys.Goals as goal

pub loop-i-init : goal.loop-i-init
loop-i-init c = record { written = sym (with_tokens-nil c.args.printer.now) }

pub loop-i-preserved : goal.loop-i-preserved
loop-i-preserved c = record {
  written = rw (c.in_ok-print_key.ensures, c.in_ok-print_sign.ensures, c.loop-i.invariant.written) (item_written marks.Comma (key_tokens c.args.names.now) c.args.printer.now c.args.keys.now c.loop-i.i _ c.loop-i-test.true);
}
