-- What is counted of tables whose records come one by one.
-- This project's own. Each record of a table has as many fields as its heading; the next table has another number.
use Rattle.std.specs.Prelude.{ℕ, ◌+◌, ◌-◌, ◌^◌, ◌==◌, List, [], if◌then◌else◌, length, min, slice_index_or, unwrap_or, pos, unsigned_abs}
use Rattle.std.specs.List.{fold}
use Rattle.row_form.specs.Numbers.{number}
use Rattle.job_plan.specs.Columns.{Fields}
use Rattle.trial_input.specs.declared.tally.Tally.{Tally}

-- a number as far as a `u64` counts
abbrev pub within_u64 : ℕ → ℕ
within_u64 n = min n (2 ^ 64 - 1)

-- the count that a row tells in its second field; 0 where there is none
abbrev pub count_in : Fields → ℕ
count_in row = unsigned_abs (unwrap_or (number (slice_index_or row 1 [])) (pos 0))

-- no record was read
abbrev pub no_tally : Tally
no_tally = record { tables = 0; fields = 0; rows = 0; counted = 0 }

-- behind the heading of the next table
abbrev pub at_heading : Tally → Fields → Tally
at_heading tally row = record tally { tables = within_u64 (tally.tables + 1); fields = length row; rows = 0 }

-- behind one more row; the counts are those of the first table
abbrev pub at_row : Tally → Fields → Tally
at_row tally row = record tally {
  rows = within_u64 (tally.rows + 1);
  counted = if tally.tables == 1 then within_u64 (tally.counted + count_in row) else tally.counted;
}

-- behind one more record: a row where it has as many fields as the heading, else the next table's heading
abbrev pub tallied : Tally → Fields → Tally
tallied tally row = if length row == tally.fields then at_row tally row else at_heading tally row

-- of all records of some tables
abbrev pub tally_of : List Fields → Tally
tally_of records = fold tallied no_tally records
