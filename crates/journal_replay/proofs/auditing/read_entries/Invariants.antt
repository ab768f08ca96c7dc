use Rattle.std.proofs.Common.{◌≡◌, ◌++◌, All, length}
use Rattle.journal_audit.specs.Text.{FitsIn, lines_text}
use Rattle.journal_replay.proofs.auditing.read_entries.Given as goal

abbrev pub decreases-loop-rest : goal.decreases-loop-rest
decreases-loop-rest l = length l.rest

abbrev pub invariant-loop-rest : goal.invariant-loop-rest
invariant-loop-rest l = All (FitsIn l.version) l.entries.items × (l.lines ≡ lines_text l.entries.items ++ l.rest)
