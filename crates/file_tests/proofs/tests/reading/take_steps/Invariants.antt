use Rattle.std.proofs.Common.{◌≡◌}
use Rattle.run_file.specs.Readers.{run_of}
use Rattle.file_tests.proofs.tests.reading.take_steps.Given as goal

-- the reader's run stays
abbrev pub invariant-loop-word : goal.invariant-loop-word
invariant-loop-word g l =
    (goal.iterator-loop-word g).can_next l.word-iterator ×
    (goal.iterator-loop-word g).is_finite l.word-iterator ×
    ((run_of l.reader).disk ≡ 0)
