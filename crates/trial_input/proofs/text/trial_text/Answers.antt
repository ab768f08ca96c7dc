use Rattle.std.proofs.Common.{◌∙◌, ◌++◌, ℕ, List, ap, codes}
use Rattle.trial_input.specs.Generator.{line_of, number_after}
use Rattle.trial_input.proofs.Growing.{number-begins, number-next, text-next}
use Rattle.trial_input.proofs.text.trial_text.Goals as goal

pub loop-row-init : goal.loop-row-init
loop-row-init c = record {
  number = number-begins;
  text = c.in_ok-extend_from_slice.ensures.items ∙ ap (λ (front : List ℕ). front ++ codes "key,price\n") c.in_ok-text.ensures.items;
}

pub loop-row-preserved : goal.loop-row-preserved
loop-row-preserved c = record {
  number = c.next-number.ensures ∙ ap number_after c.loop-row.invariant.number ∙ number-next c.loop-row._row;
  text = c.in_ok-push_line.ensures
      ∙ ap (λ (n : ℕ). c.loop-row.text.items ++ line_of n) (c.next-number.ensures ∙ ap number_after c.loop-row.invariant.number)
      ∙ text-next c.loop-row.text.items c.loop-row._row c.loop-row.invariant.text;
}
