use Rattle.std.proofs.Common.{◌≡◌, ◌++◌, ◌∷◌, length, string_bytes}
use denote.Text.{Utf8}
use denote.Shadow.{shadow}
use Rattle.job_text.specs.Printing.{doubled}
use Rattle.job_text.proofs.printer.push_quoted.Given as goal

-- what is left doubles to what is missing
abbrev pub invariant-loop-before : goal.invariant-loop-before
invariant-loop-before l = shadow (Utf8 l.rest) × (string_bytes l.out ++ doubled l.fn.quote l.rest ≡ string_bytes l.fn.out ++ l.fn.quote ∷ doubled l.fn.quote l.fn.name)

abbrev pub decreases-loop-before : goal.decreases-loop-before
decreases-loop-before l = length l.rest
