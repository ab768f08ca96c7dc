use Rattle.std.proofs.Common.{◌≡◌, ◌≤◌, length}
use Rattle.std.specs.Io.KnownBytes.{Consumes}
use Rattle.audit_program.proofs.input.read_all.Given as goal

abbrev pub decreases-loop-count : goal.decreases-loop-count
decreases-loop-count g l = g.S.Source.turns l.input

abbrev pub invariant-loop-count : goal.invariant-loop-count
invariant-loop-count g l =
    Consumes (g.S.Source.left l.initial.input) (g.S.Source.left l.input) l.bytes.items
    × (g.S.Source.faults l.initial.input ≤ g.S.Source.faults l.input)
    × (length l.buffer ≡ 16384)
