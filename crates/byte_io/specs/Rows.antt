-- The records of a text, as csv reads them with its defaults, with no header row of its own.
-- After the toolchain's crate csv, by whose reading it is said. A byte order mark at the start is no part of the text.
use Rattle.std.specs.Prelude.{ℕ, ◌+◌, List, length}
use Rattle.csv.specs.Reading.{default_config, records, records_from, strip_bom}
use Rattle.csv.specs.declared.parser.State.{State}

-- the records of a text
abbrev pub rows_of : List ℕ → List (List (List ℕ))
rows_of bytes = records default_config (strip_bom bytes)

-- the records that come from a state of csv's machine
abbrev pub rows_from : State → List ℕ → List (List (List ℕ))
rows_from s bytes = records_from default_config (length bytes + 1) s bytes
