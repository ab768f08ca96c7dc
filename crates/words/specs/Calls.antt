-- A whole call, whose first word names the program.
-- This project's own.
use Rattle.std.specs.Prelude.{List, [], ◌∷◌, Option, Some, None, if◌then◌else◌, codes, option_and_then}
use Rattle.std.specs.Str.{bytes_eq}
use Rattle.words.specs.Reading.{Text}
use Rattle.words.specs.Programs.{RunReading, run_words}

-- the words behind the first one, if that is this name
abbrev pub behind_first : Text → List Text → Option (List Text)
behind_first name [] = None
behind_first name (word ∷ rest) = if bytes_eq word name then Some rest else None

-- what a call of `run` says
abbrev pub run_call : List Text → Option RunReading
run_call words = option_and_then run_words (behind_first (codes "run") words)
