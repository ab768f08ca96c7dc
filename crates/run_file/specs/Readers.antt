-- What contracts see of a reader: what it keeps of its run's file, and the bytes that are ahead of it.
-- This project's own.
use Rattle.std.specs.Prelude.{◌≤◌, ◌^◌, ◌-◌, ◌++◌, ℕ, min, List, take, drop, Option, option_map}
use Rattle.spill_disk.specs.Files.{Files, bytes_of}
use Rattle.run_file.specs.declared.run.Run.{Run}
use Rattle.row_form.specs.declared.form.Form.{Form}

-- what is kept of a file: the row at hand, the bytes behind it, how many bytes are kept in all, and the
-- place in the file behind them
pub record Kept : Type 0 where
  pub row : List ℕ
  pub rest : List ℕ
  pub count : ℕ
  pub at : ℕ

-- a reader: its run and form, how many rows it gave, and what it keeps
pub record ReaderView : Type 0 where
  pub run : Run
  pub form : Form
  pub found : ℕ
  pub kept : Kept

-- how many bytes it keeps at most, which is enough for each of the run's rows behind its length
abbrev pub most_kept : Run → ℕ
most_kept run = min (run.greatest - 20) (2 ^ 33)

-- no more is kept than that, and the place lies in the run
pub record IsBounded (run : Run) (kept : Kept) : Type 0 where
  pub bound : kept.count ≤ most_kept run
  pub inside : kept.at ≤ run.bytes

-- the run's bytes that are ahead, where the disk tells: those that are kept, and those behind them on the file
abbrev pub ahead_of : Option Files → Run → Kept → Option (List ℕ)
ahead_of files run kept = option_map (λ known. kept.rest ++ drop kept.at (take run.bytes (bytes_of known run.file))) files

-- the same of a reader
abbrev pub known_ahead : Option Files → ReaderView → Option (List ℕ)
known_ahead files reader = ahead_of files reader.run reader.kept

-- the run that it reads
abbrev pub run_of : ReaderView → Run
run_of reader = reader.run

-- the form that it takes
abbrev pub form_of : ReaderView → Form
form_of reader = reader.form

-- how many rows it gave
abbrev pub found_of : ReaderView → ℕ
found_of reader = reader.found

-- the bytes that it keeps behind its row
abbrev pub rest_of : ReaderView → List ℕ
rest_of reader = reader.kept.rest
