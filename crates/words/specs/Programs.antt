-- What the words behind the first one say, for each program.
-- This project's own.
use Rattle.std.specs.Prelude.{ℕ, Bool, List, [], ◌∷◌, ◌++◌, Option, Some, None, is_some, map}
use Rattle.std.specs.Prelude.{if◌then◌else◌, codes, option_and_then}
use Rattle.std.specs.List.{list_all}
use Rattle.std.specs.Str.Parse.{digits_value}
use Rattle.words.specs.Reading.{Grammar, Text, Use, given, value_of}
use Rattle.words.specs.Numbers.{fits, is_number, number_of}
use Rattle.words.specs.Options.{WorkReading, max_rows_option, work_options, work_values}

-- the place of a job's text
abbrev pub job : Text
job = codes "JOB"

-- the flag of a run that writes its journal
abbrev pub journal_flag : Text
journal_flag = codes "journal"

-- `run`: the options of the work, `--max-rows`, `--journal`, and a job
abbrev pub run_grammar : Grammar
run_grammar = record {
  options = map (λ o. o.name) (work_options ++ max_rows_option ∷ []);
  flags = journal_flag ∷ [];
  places = job ∷ [];
}

-- what the words of `run` say
pub record RunReading : Type 0 where
  pub options : WorkReading
  pub max_rows : ℕ
  pub journal : Bool
  pub job : Text

-- what they say, by what is given and the job
abbrev pub run_values : (Text → Option Text) → Text → RunReading
run_values look text = record {
  options = work_values look;
  max_rows = number_of look max_rows_option;
  journal = is_some (look journal_flag);
  job = text;
}

-- the job has to be there, and each option that is given has to be a number of its range
abbrev pub run_from : (Text → Option Text) → Option RunReading
run_from look = option_and_then (λ text. if list_all (fits look) (work_options ++ max_rows_option ∷ [])
    then Some (run_values look text) else None) (look job)

-- what uses say
abbrev pub run_of : List Use → Option RunReading
run_of us = run_from (λ name. value_of name us)

-- what the words behind `run` say, if they are words of it
abbrev pub run_words : List Text → Option RunReading
run_words words = option_and_then run_of (given run_grammar words)

-- the place of a number of rows
abbrev pub row_count : Text
row_count = codes "N"

-- `trial`: the options of the work, and a number of rows
abbrev pub trial_grammar : Grammar
trial_grammar = record {
  options = map (λ o. o.name) work_options;
  flags = [];
  places = row_count ∷ [];
}

-- what the words of `trial` say
pub record TrialReading : Type 0 where
  pub options : WorkReading
  pub rows : ℕ

-- what they say, by what is given and the number of rows
abbrev pub trial_values : (Text → Option Text) → Text → TrialReading
trial_values look text = record { options = work_values look; rows = digits_value 10 text }

-- the rows have to be there, from 1 to 1,000,000, and each option that is given has to be a number of its range
abbrev pub trial_from : (Text → Option Text) → Option TrialReading
trial_from look = option_and_then (λ text. if is_number 1 1000000 text
    then (if list_all (fits look) work_options then Some (trial_values look text) else None)
    else None) (look row_count)

-- what uses say
abbrev pub trial_of : List Use → Option TrialReading
trial_of us = trial_from (λ name. value_of name us)

-- what the words behind `trial` say, if they are words of it
abbrev pub trial_words : List Text → Option TrialReading
trial_words words = option_and_then trial_of (given trial_grammar words)

-- `plan`: a job
abbrev pub plan_grammar : Grammar
plan_grammar = record { options = []; flags = []; places = job ∷ [] }

-- the job of the words behind `plan`, if they are words of it
abbrev pub plan_words : List Text → Option Text
plan_words words = option_and_then (value_of job) (given plan_grammar words)

-- `audit`: nothing
abbrev pub audit_grammar : Grammar
audit_grammar = record { options = []; flags = []; places = [] }

-- whether the words behind `audit` are words of it
abbrev pub audit_words : List Text → Bool
audit_words words = is_some (given audit_grammar words)
