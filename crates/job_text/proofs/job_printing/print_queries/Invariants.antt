use Rattle.std.proofs.Common.{◌≡◌, take}
use Rattle.job_text.specs.declared.mark.Mark.TheVariants as marks
use Rattle.job_text.specs.Columns.{dataset_names}
use Rattle.job_text.specs.Grammar.{separated}
use Rattle.job_text.specs.JobPrinting.{query_tokens}
use Rattle.job_text.specs.Sheets.{with_tokens}
use Rattle.job_text.proofs.job_printing.print_queries.Given as goal

-- the first `i` queries are written
abbrev pub invariant-loop-i : goal.invariant-loop-i
invariant-loop-i l = record { written : l.printer ≡ with_tokens l.fn.printer (separated marks.Semicolon (query_tokens l.fn.names (dataset_names l.fn.datasets)) (take l.i l.fn.queries)) }
