use Rattle.std.specs.Prelude.{IfSome}
use Rattle.spill_disk.specs.Files.{IsThere}
use Rattle.file_tests.proofs.tests.calls.make_calls.Given as goal

-- the file that was made last is there
abbrev pub invariant-loop-word : goal.invariant-loop-word
invariant-loop-word g l =
    (goal.iterator-loop-word g).can_next l.word-iterator ×
    (goal.iterator-loop-word g).is_finite l.word-iterator ×
    IfSome l.made (IsThere (g.D.Disk.files l.disk))
