use Rattle.std.proofs.Common.{length, ◌-◌, ◌≡◌, ◌≤◌, drop}
use Rattle.std.specs.Str.{IsCharBoundary}
use Rattle.job_text.specs.Step.{start}
use Rattle.job_text.specs.Text.{outcome_of, scan}
use Rattle.job_text.proofs.reading.read_short.Given as goal

-- what is read from here gives what all gives
abbrev pub invariant-loop-at : goal.invariant-loop-at
invariant-loop-at l = record {
  gives : outcome_of (length l.text) start (scan 0 0 l.text) ≡ outcome_of (length l.text) l.state (scan 0 l.at (drop l.at l.text));
  within : l.at ≤ length l.text;
  cut : IsCharBoundary l.text l.at;
  names : length l.state.read.names ≤ l.at;
  datasets : length l.state.read.datasets ≤ l.at;
}

abbrev pub decreases-loop-at : goal.decreases-loop-at
decreases-loop-at l = length l.text - l.at
