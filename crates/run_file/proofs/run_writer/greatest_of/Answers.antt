use Rattle.std.proofs.Common.{◌∙◌, ◌+◌, max, ℕ, length, ap, arith}
use Rattle.row_page.specs.Views.{fields_in}
use Rattle.run_file.proofs.Writing.{greatest_more}
use Rattle.run_file.proofs.run_writer.greatest_of.Goals as goal

pub loop-i-preserved : goal.loop-i-preserved
loop-i-preserved c =
    c.max-greatest.ensures ∙ ap (λ (n : ℕ). max n (24 + length c.bytes.result.now)) c.loop-i.invariant
    ∙ greatest_more c.args.page.now.rows c.loop-i.i (length c.bytes.result.now) (fields_in c.row.result) (omega (arith, c.loop-i-test.true, c.rows-i-end.ensures)) c.row.ensures c.bytes.ensures.length
