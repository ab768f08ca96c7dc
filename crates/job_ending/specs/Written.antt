-- What the sink of the journal gains in a run, by how the run ends.
-- This project's own.
use Rattle.std.specs.Prelude.{Bool, true, false, List, ℕ, Option}
use Rattle.std.specs.Io.KnownBytes.{Appends, Keeps}
use Rattle.byte_io.specs.Sinks.{AppendsPrefix}
use Rattle.job_ending.specs.declared.status.Status.{Status}
use Rattle.job_ending.specs.declared.status.Status.TheVariants as status

-- all of a text after `Done`, a front of it after what may come behind the check of the sums, and else nothing
abbrev pub GainsText : Status → List ℕ → Option (List ℕ) → Option (List ℕ) → Type 0
GainsText status.Done text before after = Appends before after text
GainsText status.WriteFault text before after = AppendsPrefix before after text
GainsText status.JournalFault text before after = AppendsPrefix before after text
GainsText (status.DiskFault post) text before after = AppendsPrefix before after text
GainsText (status.Damaged post file kept found) text before after = AppendsPrefix before after text
GainsText status.NoMemory text before after = AppendsPrefix before after text
GainsText _ text before after = Keeps before after

-- the same where the journal is asked for; else it keeps what it has
abbrev pub GainsIfAsked : Bool → Status → List ℕ → Option (List ℕ) → Option (List ℕ) → Type 0
GainsIfAsked true ended text before after = GainsText ended text before after
GainsIfAsked false ended text before after = Keeps before after

-- the whole text is written where the journal is asked for; else nothing
abbrev pub WritesText : Bool → List ℕ → Option (List ℕ) → Option (List ℕ) → Type 0
WritesText true text before after = Appends before after text
WritesText false text before after = Keeps before after

-- a front of it is
abbrev pub WritesFront : Bool → List ℕ → Option (List ℕ) → Option (List ℕ) → Type 0
WritesFront true text before after = AppendsPrefix before after text
WritesFront false text before after = Keeps before after
