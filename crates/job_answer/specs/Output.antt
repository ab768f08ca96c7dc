-- What is printed for a job: the tables of its queries, one behind the other.
-- This project's own.
use Rattle.std.specs.Prelude.{ℕ, ◌+◌, List, [], ◌∷◌, ◌++◌, Option, None, map, option_map}
use Rattle.std.specs.List.{find, flat_map, list_any}
use Rattle.std.specs.Option.{option_or}
use Rattle.csv.specs.Writing.{default_writer, row_text}
use Rattle.aggregate.specs.Spelling.{spelled}
use Rattle.job_text.specs.declared.job.Job.{Job}
use Rattle.job_text.specs.declared.job.Query.{Query}
use Rattle.job_text.specs.declared.job.Shape.{Shape}
use Rattle.job_text.specs.declared.job.Shape.TheVariants.{Group, Order}
use Rattle.job_plan.specs.Columns.{Fields}
use Rattle.job_plan.specs.Plans.{heading_of}
use Rattle.job_plan.specs.Telling.{leaves_i64, told_field}
use Rattle.job_answer.specs.Answer.{arranged, field_of, groups}
use Rattle.job_answer.specs.Derived.{derived}

-- ---- a shape over rows

-- the rows of its table, below its heading: of a group its fields and what is told of it, where a missing value is an empty
-- field
abbrev pub shape_rows : Job → Fields → List Fields → Shape → List Fields
shape_rows job header rows (Group columns parts) =
    map (λ group. group.0 ++ map told_field group.1) (groups job header columns parts rows)
shape_rows job header rows (Order keys columns) =
    map (λ row. map (field_of job header row) columns) (arranged job header keys rows)

-- the table: its heading, and the rows
abbrev pub shape_table : Job → Fields → List Fields → Shape → List Fields
shape_table job header rows shape = heading_of job.names shape ∷ shape_rows job header rows shape

-- the key, as it is spelled, of the first group with a number outside `i64`
abbrev pub shape_wide : Job → Fields → List Fields → Shape → Option (List ℕ)
shape_wide job header rows (Group columns parts) =
    option_map (λ group. flat_map spelled group.0)
    (find (λ group. list_any leaves_i64 group.1) (groups job header columns parts rows))
shape_wide job header rows (Order keys columns) = None

-- ---- a query over an input's rows: its shape over those of its dataset

-- the rows of its table, below its heading
abbrev pub answer_rows : Job → Fields → List Fields → Query → List Fields
answer_rows job header rows query = shape_rows job header (derived job header query.dataset rows) query.shape

-- the table: its heading, and the rows
abbrev pub table_rows : Job → Fields → List Fields → Query → List Fields
table_rows job header rows query = shape_table job header (derived job header query.dataset rows) query.shape

-- the key, as it is spelled, of its first group with a number outside `i64`
abbrev pub wide_key : Job → Fields → List Fields → Query → Option (List ℕ)
wide_key job header rows query = shape_wide job header (derived job header query.dataset rows) query.shape

-- ---- a job

-- rows as csv writes them
abbrev pub text_of : List Fields → List ℕ
text_of rows = flat_map (row_text default_writer) rows

-- tables one behind the other, with one line feed between two
abbrev pub tables_text : List (List ℕ) → List ℕ
tables_text [] = []
tables_text (table ∷ []) = table
tables_text (table ∷ next ∷ tables) = table ++ 10 ∷ tables_text (next ∷ tables)

-- the bytes that are printed
unfoldable pub output : Job → Fields → List Fields → List ℕ
output job header rows = tables_text (map (λ query. text_of (table_rows job header rows query)) job.queries)

-- the first query, from a number on, with a group that is too wide to be told, and that group's key
abbrev pub wide_from : Job → Fields → List Fields → ℕ → List Query → Option (ℕ × List ℕ)
wide_from job header rows number [] = None
wide_from job header rows number (query ∷ queries) =
    option_or (option_map (λ key. (number, key)) (wide_key job header rows query))
    (wide_from job header rows (number + 1) queries)

-- the first of a job's queries, from 0
abbrev pub too_wide : Job → Fields → List Fields → Option (ℕ × List ℕ)
too_wide job header rows = wide_from job header rows 0 job.queries
