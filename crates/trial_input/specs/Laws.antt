-- What holds of the input of each trial: its job takes it as it is, and can tell what it comes to.
-- This project's own.
use Rattle.std.specs.Prelude.{◌≡◌, ℕ, ◌≤◌, None}
use Rattle.byte_io.specs.Rows.{rows_of}
use Rattle.job_answer.specs.Output.{too_wide}
use Rattle.landing.specs.Checks.{Rows, checked}
use Rattle.trial_input.specs.FixedJob.{trial_job}
use Rattle.trial_input.specs.Generator.{heading, trial_rows, trial_text}

-- the text is read as the heading and the rows, and the job's checks refuse none of them
abbrev pub TrialsAreGood : Type 0
TrialsAreGood =
    (rows max_rows : ℕ) → 1 ≤ rows → rows ≤ 1000000 → rows ≤ max_rows
    → checked trial_job max_rows (rows_of (trial_text rows)) ≡ Rows heading (trial_rows rows)

-- no sum of the job is too wide to be told
abbrev pub TrialsFit : Type 0
TrialsFit = (rows : ℕ) → rows ≤ 1000000 → too_wide trial_job heading (trial_rows rows) ≡ None
