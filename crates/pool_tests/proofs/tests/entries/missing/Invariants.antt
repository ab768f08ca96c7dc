use denote.Text.{Utf8}
use denote.Shadow.{shadow}
use Rattle.pool_tests.proofs.tests.entries.missing.Given as goal

-- what is left of the wanted words is text
abbrev pub invariant-loop-word : goal.invariant-loop-word
invariant-loop-word l =
    (goal.iterator-loop-word).can_next l.word-iterator ×
    (goal.iterator-loop-word).is_finite l.word-iterator ×
    shadow (Utf8 l.rest)
