-- Which job is written, and the grammar as a whole.
-- This project's own.
use Rattle.std.specs.Prelude.{◌≡◌, ℕ, ◌+◌, List, [], map, Option, Some, None}
use Rattle.std.specs.Option.{option_map}
use Rattle.job_text.specs.declared.token.Token.{Token}
use Rattle.job_text.specs.declared.job.Dataset.{Dataset}
use Rattle.job_text.specs.declared.job.Job.{Job}
use Rattle.job_text.specs.declared.job.KeyItem.{KeyItem}
use Rattle.job_text.specs.declared.job.Part.{Part}
use Rattle.job_text.specs.declared.job.Query.{Query}
use Rattle.job_text.specs.declared.job.Shape.{Shape}
use Rattle.job_text.specs.declared.job.Shape.TheVariants as shapes
use Rattle.job_text.specs.Columns.{place_of, with_names}
use Rattle.job_text.specs.Grammar.{WrittenAgg, WrittenColumn, WrittenDataset, WrittenJob, WrittenKey, WrittenQuery, WrittenShape, WrittenSource, job_written}
use Rattle.job_text.specs.Grammar.{by_name, group, input, order}
use Rattle.job_text.specs.Rules.{IsRight, agg_column, agg_of, job_names, name_of, names_written}

-- a column is its place among the names
abbrev pub column_meant : List (List ℕ) → WrittenColumn → ℕ
column_meant names column = place_of names (name_of column)

-- the key item that is meant, with its column as a place among the names
abbrev pub key_meant : List (List ℕ) → WrittenKey → KeyItem
key_meant names key = record { column = column_meant names key.column; number = key.number; down = key.down }

-- the aggregate that is meant, with its column as a place among the names, where it has one
abbrev pub agg_meant : List (List ℕ) → WrittenAgg → Part
agg_meant names agg = record { agg = agg_of agg; column = option_map (column_meant names) (agg_column agg) }

-- the group or the order that is meant, over places among the names
abbrev pub shape_meant : List (List ℕ) → WrittenShape → Shape
shape_meant names (group columns aggs) = shapes.Group (map (column_meant names) columns) (map (agg_meant names) aggs)
shape_meant names (order keys columns) = shapes.Order (map (key_meant names) keys) (map (column_meant names) columns)

-- the input is 0, and the datasets follow in their order
abbrev pub source_meant : List (List ℕ) → WrittenSource → ℕ
source_meant datasets input = 0
source_meant datasets (by_name name) = place_of datasets name + 1

-- a source that is left out is the input
abbrev pub from_meant : List (List ℕ) → Option WrittenSource → ℕ
from_meant datasets None = 0
from_meant datasets (Some source) = source_meant datasets source

-- the dataset that is meant: its name, the number of its source, what its filter means, and its level
abbrev pub dataset_meant : List (List ℕ) → WrittenDataset → Dataset
dataset_meant datasets dataset =
    record {
      name = dataset.name;
      parent = source_meant datasets dataset.source;
      filter = option_map (λ filter. filter.means) dataset.filter;
      level = dataset.level;
    }

-- the query that is meant: the number of its dataset, and its shape over places among the names
abbrev pub query_meant : List (List ℕ) → List (List ℕ) → WrittenQuery → Query
query_meant names datasets query =
    record { dataset = from_meant datasets query.source; shape = shape_meant names query.shape }

-- the job that is meant: its names are the columns in the order of the text, each where it stands first
abbrev pub job_meant : WrittenJob → Job
job_meant job =
    let names = with_names [] (job_names job) in
    let datasets = names_written job.datasets in
    record {
      names = names;
      datasets = map (dataset_meant datasets) job.datasets;
      queries = map (query_meant names datasets) job.queries;
    }

-- ---- the grammar

-- the tokens are this job as it may be written
pub record SpellsJob (tokens : List Token) (job : Job) : Type 0 where
  pub written : WrittenJob
  pub spelled : tokens ≡ job_written written
  pub right : IsRight written
  pub meant : job ≡ job_meant written
