use Rattle.std.proofs.Common.{◌≡◌, ◌∙◌, ℕ, List, IfOk, ap, subst, sym}
use Rattle.byte_io.specs.Rows.{rows_of}
use Rattle.trial_input.specs.Lines.{trial_output}
use Rattle.trial_input.specs.Tallies.{tally_of}
use Rattle.trial_input.proofs.Told.{IsTold, lines-told, told}
use Rattle.trial_input.proofs.lines.trial_lines.Goals as goal

pub returns : goal.returns
returns c = record {
  lines = λ same.
      let tally = c.in_ok-tally.tally in
      let known : tally ≡ tally_of (rows_of (trial_output c.args.rows)) = c.in_ok-tally.ensures ∙ ap (λ (text : List ℕ). tally_of (rows_of text)) same in
      let is : IsTold c.args.rows tally = subst (IsTold c.args.rows) (sym known) (told c.args.rows c.requires.few) in
      subst (λ (lines : List ℕ). IfOk c.lines_of.result (λ text. text.items ≡ lines)) (lines-told c.args.rows tally is) c.lines_of.ensures;
}
