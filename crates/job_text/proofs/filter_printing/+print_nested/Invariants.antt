use Rattle.std.proofs.Common.{◌≡◌, take}
use Rattle.job_text.specs.FilterPrinting.{list_tokens}
use Rattle.job_text.specs.Sheets.{with_tokens}
use Rattle.job_text.proofs.filter_printing.+print_nested.Given as goal

-- the first `i` are written
abbrev pub invariant-print_items-loop-i : goal.invariant-print_items-loop-i
invariant-print_items-loop-i l = record { written : l.printer ≡ with_tokens l.fn.printer (list_tokens l.fn.names l.fn.sign l.fn.as_units (take l.i l.fn.items)) }
