-- A row that is lent, as contracts see it.
-- This project's own.
use Rattle.std.specs.Prelude.{ℕ, List}
use Rattle.row_page.specs.Reading.{fields_of}
use Rattle.row_page.specs.declared.row_view.RowView.{RowView}

-- the fields of the row that it lends
abbrev pub fields_in : RowView → List (List ℕ)
fields_in view = fields_of view.bytes.now
