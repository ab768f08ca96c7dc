-- What a reading of records has still to give.
-- This project's own, over what the csv crate says that it reads.
use Rattle.std.specs.Prelude.{◌≡◌, ℕ, List, [], ◌∷◌, Option, Some, None, Bool, true, false, if◌then◌else◌, option_map}
use Rattle.std.specs.Io.KnownBytes.{IsAtEnd}
use Rattle.csv.specs.Reading.{Ready, default_config, has_failed, reader_config, reader_source, reader_state, reader_trim, source_of}
use Rattle.csv.specs.Records.{Row, fields_of}
use Rattle.csv.specs.declared.reader.Trim.TheVariants as trim
use Rattle.byte_io.specs.Rows.{rows_from}
use Rattle.byte_io.specs.declared.records.Records.{Records}
use Rattle.byte_io.specs.declared.feed.Tap as tap
use Rattle.byte_io.specs.declared.feed.Origin as origin

-- the source that is lent
abbrev pub source_under : {T O : Type 0} {t : tap.Ghosts T} {o : origin.Ghosts O} → Records T O t o → T
source_under r = (reader_source r.reader).source

-- whether no fault came yet
abbrev pub is_live : {T O : Type 0} {t : tap.Ghosts T} {o : origin.Ghosts O} → Records T O t o → Bool
is_live r = r.live

-- the records still to come, of a source that tells
abbrev pub rows_left : {T O : Type 0} {t : tap.Ghosts T} {o : origin.Ghosts O} → Records T O t o → Option (List (List (List ℕ)))
rows_left {t} r = if r.done then Some [] else option_map (rows_from (reader_state r.reader)) (source_of (λ f. t.left f.source) r.reader)

-- a reading that may go on
pub record IsReading {T O : Type 0} {t : tap.Ghosts T} {o : origin.Ghosts O} (r : Records T O t o) : Type 0 where
  pub config : reader_config r.reader ≡ default_config
  pub trim : reader_trim r.reader ≡ trim.None
  pub ready : Ready r.reader
  pub fresh : has_failed r.reader ≡ false
  pub live : is_live r ≡ true
  pub over : r.done ≡ true → IsAtEnd (t.left (source_under r))

-- known records begin with the one that was given, and lose it; none was given only where none is left
abbrev pub GivesRow : Option (List (List (List ℕ))) → Option (List (List (List ℕ))) → Option Row → Type 0
GivesRow None after given = Unit {0}
GivesRow (Some rows) None given = ⊥
GivesRow (Some rows) (Some rest) None = (rows ≡ []) × (rest ≡ [])
GivesRow (Some rows) (Some rest) (Some row) = rows ≡ fields_of row ∷ rest
