use Rattle.std.proofs.Common.{◌≡◌}
use Rattle.run_merge.specs.Merging.{runs_of}
use Rattle.file_tests.proofs.tests.merging.take_steps.Given as goal

-- the merge's runs stay
abbrev pub invariant-loop-word : goal.invariant-loop-word
invariant-loop-word g l =
    (goal.iterator-loop-word g).can_next l.word-iterator ×
    (goal.iterator-loop-word g).is_finite l.word-iterator ×
    (runs_of l.merge ≡ runs_of l.fn.merge)
