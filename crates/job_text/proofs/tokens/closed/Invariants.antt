use Rattle.std.proofs.Common.{◌≡◌, ◌+◌, length, string_bytes}
use denote.Text.{Utf8}
use denote.Shadow.{shadow}
use Rattle.job_text.specs.Scan.{closed_at}
use Rattle.job_text.proofs.Quotes.{so_far, closed_by, IsKept}
use Rattle.job_text.proofs.tokens.closed.Given as goal

-- what was read, and what is found in the rest
abbrev pub invariant-loop-piece : goal.invariant-loop-piece
invariant-loop-piece l = record {
  utf8 : shadow (Utf8 l.rest);
  found : closed_at l.fn.quote l.fn.text ≡ so_far (string_bytes l.content) l.at (closed_by (string_bytes l.content) l.doubled) (closed_at l.fn.quote l.rest);
  place : l.at + length l.rest ≡ length l.fn.text;
  kept : IsKept l.fn.quote (string_bytes l.content) l.doubled;
}

abbrev pub decreases-loop-piece : goal.decreases-loop-piece
decreases-loop-piece l = length l.rest
