use Rattle.std.proofs.Common.{All, take}
use Rattle.journal_audit.specs.Text.{Fits}
use Rattle.journal_audit.proofs.widths.entries_fit.Given as goal

abbrev pub invariant-loop-entry : goal.invariant-loop-entry
invariant-loop-entry l = All Fits (take l.entry-index l.entries)
