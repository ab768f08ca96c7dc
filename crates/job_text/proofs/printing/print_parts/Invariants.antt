use Rattle.std.proofs.Common.{◌≡◌, take}
use Rattle.job_text.specs.declared.mark.Mark.TheVariants as marks
use Rattle.job_text.specs.Grammar.{separated}
use Rattle.job_text.specs.Printing.{part_tokens}
use Rattle.job_text.specs.Sheets.{with_tokens}
use Rattle.job_text.proofs.printing.print_parts.Given as goal

-- the first `i` are written
abbrev pub invariant-loop-i : goal.invariant-loop-i
invariant-loop-i l = record { written : l.printer ≡ with_tokens l.fn.printer (separated marks.Comma (part_tokens l.fn.names) (take l.i l.fn.parts)) }
