-- What the answers of the calls say, as readings.
-- This project's own.
use Rattle.words.specs.Options.{WorkReading}
use Rattle.words.specs.Programs.{RunReading, TrialReading}
use Rattle.words.specs.declared.work.WorkOptions.{WorkOptions}
use Rattle.words.specs.declared.run.RunWords.{RunWords}
use Rattle.words.specs.declared.trial.TrialWords.{TrialWords}

-- the options of the work
abbrev pub work_reading : WorkOptions → WorkReading
work_reading w = record {
  workers = w.workers;
  heap = w.heap;
  reserved = w.reserved;
  fraction = w.fraction;
  storage = w.storage;
  part_rows = w.part_rows;
}

-- the words of `run`
abbrev pub run_reading : RunWords → RunReading
run_reading r = record {
  options = work_reading r.options;
  max_rows = r.max_rows;
  journal = r.journal;
  job = r.job.now;
}

-- the words of `trial`
abbrev pub trial_reading : TrialWords → TrialReading
trial_reading t = record { options = work_reading t.options; rows = t.rows }
