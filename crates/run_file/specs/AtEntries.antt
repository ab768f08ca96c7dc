-- A reader that stands at an entry: a key and a value.
-- This project's own.
use Rattle.aggregate.specs.declared.kind.Kind.{Kind}
use Rattle.aggregate.specs.Totals.{Entry}
use Rattle.aggregate.specs.Rows.{entry_of}
use Rattle.row_form.specs.declared.form.Form.TheVariants.{Entries}
use Rattle.row_form.specs.Forms.{IsWellFormed}
use Rattle.run_file.specs.Readers.{ReaderView}
use Rattle.run_file.specs.Reading.{IsAtRow, row_at}

-- the row that it stands at, as an entry
abbrev pub entry_at : ReaderView → Entry
entry_at reader = entry_of (row_at reader)

-- it stands at a row that is an entry of this kind
pub record IsAtEntry (kind : Kind) (reader : ReaderView) : Type 0 where
  pub there : IsAtRow reader (row_at reader)
  pub formed : IsWellFormed (Entries kind) reader.run.greatest (row_at reader)
