use Rattle.std.proofs.Common.{◌≡◌, ◌++◌, take}
use Rattle.journal_audit.specs.Text.{lines_text}
use Rattle.journal_audit.proofs.text.put_lines.Given as goal

abbrev pub invariant-loop-entry : goal.invariant-loop-entry
invariant-loop-entry l = l.out.items ≡ l.fn.out.items ++ lines_text (take l.entry-index l.entries)
