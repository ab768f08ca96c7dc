-- The plain answer of a query over the rows of its input.
-- This project's own.
use Rattle.std.specs.Prelude.{ℕ, List, [], ◌∷◌, Option, Some, None, length, map, unwrap_or, slice_index_or, if◌then◌else◌, ℤ, pos, ◌+ℤ◌}
use Rattle.std.specs.FinMap.{entries, from_entries}
use Rattle.std.specs.Cmp.Lexicographic.{slice_cmp}
use Rattle.std.specs.Int.{int_max, int_min}
use Rattle.std.specs.List.{filter, fold}
use Rattle.std.specs.Ordering.{int_cmp, is_eq, nat_cmp, ordering_reverse, ordering_then}
use Rattle.std.specs.declared.cmp.Ordering.{Ordering}
use Rattle.std.specs.declared.cmp.Ordering.TheVariants.{Less, Equal, Greater}
use Rattle.aggregate.specs.declared.agg_list.Agg.{Agg}
use Rattle.aggregate.specs.declared.agg_list.Agg.TheVariants.{Count, Sum, Min, Max}
use Rattle.aggregate.specs.Partial.{present}
use Rattle.row_form.specs.Numbers.{number}
use Rattle.job_text.specs.declared.job.Job.{Job}
use Rattle.job_text.specs.declared.job.KeyItem.{KeyItem}
use Rattle.job_text.specs.declared.job.Part.{Part}
use Rattle.job_plan.specs.Columns.{Fields, place_of}

-- the field of a row in a job's column
abbrev pub field_of : Job → Fields → Fields → ℕ → List ℕ
field_of job header row column = slice_index_or row (place_of job header column) []

-- the number that it is; none where it is missing. Of a row that passed the checks of its input, whose landed row has the
-- form of the job's plan, it is none exactly where the field is empty (MissingValues.antt).
abbrev pub value_at : Job → Fields → Fields → ℕ → Option ℤ
value_at job header row column = number (field_of job header row column)

-- the number that a row is ordered by; 0 where it is none
abbrev pub number_of : Job → Fields → Fields → ℕ → ℤ
number_of job header row column = unwrap_or (value_at job header row column) (pos 0)

-- ---- groups

-- the fields that make the group of a row
abbrev pub group_of : Job → Fields → List ℕ → Fields → Fields
group_of job header columns row = map (field_of job header row) columns

-- lists of fields compare field by field, as lists of bytes
abbrev pub fields_cmp : Fields → Fields → Ordering
fields_cmp = slice_cmp (slice_cmp nat_cmp)

-- the rows of a group
abbrev pub members : Job → Fields → List ℕ → List Fields → Fields → List Fields
members job header columns rows group = filter (λ row. is_eq (fields_cmp (group_of job header columns row) group)) rows

-- the exact sum of numbers; none where there are none
abbrev pub summed : List ℤ → Option ℤ
summed [] = None
summed (n ∷ ns) = Some (fold ◌+ℤ◌ n ns)

-- the number that exceeds no other one; none where there are none
abbrev pub least : List ℤ → Option ℤ
least [] = None
least (n ∷ ns) = Some (fold int_min n ns)

-- the number that no other one exceeds; none where there are none
abbrev pub greatest : List ℤ → Option ℤ
greatest [] = None
greatest (n ∷ ns) = Some (fold int_max n ns)

-- what an aggregate makes of the values of a group's rows: how many rows there are, or what the numbers that aren't
-- missing come to, which is missing where all are
abbrev pub aggregated : Agg → List (Option ℤ) → Option ℤ
aggregated Count values = Some (pos (length values))
aggregated Sum values = summed (present values)
aggregated Min values = least (present values)
aggregated Max values = greatest (present values)

-- what is told of a group: the number of its rows, or the exact sum, the least or the greatest of a column over those of
-- its rows whose field isn't missing
abbrev pub told_of : Job → Fields → List Fields → Part → Option ℤ
told_of job header rows part = aggregated part.agg (map (λ row. value_at job header row (unwrap_or part.column 0)) rows)

-- the groups that occur, ascending, each with what is told of it
abbrev pub groups : Job → Fields → List ℕ → List Part → List Fields → List (Fields × List (Option ℤ))
groups job header columns parts rows =
    entries (from_entries {R = fields_cmp}
    (map (λ row. (group_of job header columns row, map (told_of job header (members job header columns rows (group_of job header columns row))) parts)) rows))

-- ---- orders

-- two rows by a key item: as numbers or as bytes, and the other way round for `down`
abbrev pub item_cmp : Job → Fields → KeyItem → Fields → Fields → Ordering
item_cmp job header item a b =
    let upward = if item.number then int_cmp (number_of job header a item.column) (number_of job header b item.column)
    else slice_cmp nat_cmp (field_of job header a item.column) (field_of job header b item.column) in
    if item.down then ordering_reverse upward else upward

-- by the items from the left
abbrev pub rows_cmp : Job → Fields → List KeyItem → Fields → Fields → Ordering
rows_cmp job header [] a b = Equal
rows_cmp job header (item ∷ items) a b = ordering_then (item_cmp job header item a b) (rows_cmp job header items a b)

-- a row among later ones that stand in order, before those that are equal to it
abbrev pub placed_by : Ordering → Fields → Fields → List Fields → List Fields → List Fields
placed_by Less row first rest later = row ∷ (first ∷ rest)
placed_by Equal row first rest later = row ∷ (first ∷ rest)
placed_by Greater row first rest later = first ∷ later

-- rows in order with an earlier row put in by its keys, before those that are equal to it
abbrev pub placed : Job → Fields → List KeyItem → Fields → List Fields → List Fields
placed job header keys row [] = row ∷ []
placed job header keys row (first ∷ rest) =
    placed_by (rows_cmp job header keys row first) row first rest (placed job header keys row rest)

-- the rows in order; equal ones stand as they stood
abbrev pub arranged : Job → Fields → List KeyItem → List Fields → List Fields
arranged job header keys [] = []
arranged job header keys (row ∷ rows) = placed job header keys row (arranged job header keys rows)
