use Rattle.spill_choice.specs.Choices.{IsChoiceBelow}
use Rattle.spill_choice.proofs.choice.choose.Given as goal

-- the best so far is the choice among those that were looked at
abbrev pub invariant-loop-number : goal.invariant-loop-number
invariant-loop-number l = IsChoiceBelow l.number l.uses l.candidates l.remainder l.best
