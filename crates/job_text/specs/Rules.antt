-- The further rules of the grammar, on the bytes of names.
-- This project's own.
use Rattle.std.specs.Prelude.{⊤, ◌≡◌, ℕ, ◌≤◌, List, [], ◌∷◌, ◌++◌, length, map, flat_map, All, IfSome, true, false, Option, Some, None}
use Rattle.std.specs.Option.{option_map}
use Rattle.aggregate.specs.declared.agg_list.Agg.{Agg}
use Rattle.aggregate.specs.declared.agg_list.Agg.TheVariants as aggs
use Rattle.job_text.specs.FilterGrammar.{IsWrittenFilter}
use Rattle.job_text.specs.Columns.{is_among, with_names}
use Rattle.job_text.specs.Jobs.{IsShortList, IsDistinct}
use Rattle.job_text.specs.Grammar.{WrittenAgg, WrittenColumn, WrittenDataset, WrittenFilter, WrittenJob, WrittenQuery, WrittenShape, WrittenSource}
use Rattle.job_text.specs.Grammar.{by_name, count, group, in_quotes, input, max_of, min_of, order, sum_of, word}

-- the bytes that a column is, in quotes or not
abbrev pub name_of : WrittenColumn → List ℕ
name_of (word name) = name
name_of (in_quotes name) = name

-- the columns that are named, in the order of the text
abbrev pub column_names : WrittenColumn → List (List ℕ)
column_names column = name_of column ∷ []

-- the same of an aggregate; the count has none
abbrev pub agg_names : WrittenAgg → List (List ℕ)
agg_names count = []
agg_names (sum_of column) = column_names column
agg_names (min_of column) = column_names column
agg_names (max_of column) = column_names column

-- the same of a shape: those of its first list, and then those of its second
abbrev pub shape_names : WrittenShape → List (List ℕ)
shape_names (group columns aggs) = flat_map column_names columns ++ flat_map agg_names aggs
shape_names (order keys columns) = flat_map (λ key. column_names key.column) keys ++ flat_map column_names columns

-- the same of a query, which are those of its shape
abbrev pub query_names : WrittenQuery → List (List ℕ)
query_names query = shape_names query.shape

-- the same of a filter, if there is one
abbrev pub filter_uses : Option WrittenFilter → List (List ℕ)
filter_uses None = []
filter_uses (Some filter) = filter.used

-- the same of a dataset, which are those of its filter
abbrev pub dataset_uses : WrittenDataset → List (List ℕ)
dataset_uses dataset = filter_uses dataset.filter

-- the same of a job: of all its datasets, and then of its queries
abbrev pub job_names : WrittenJob → List (List ℕ)
job_names job = flat_map dataset_uses job.datasets ++ flat_map query_names job.queries

-- a column has at most 1,024 bytes
abbrev pub IsShortColumn : WrittenColumn → Type 0
IsShortColumn column = length (name_of column) ≤ 1024

-- one to eight columns in a list, and none twice
pub record AreColumns (columns : List WrittenColumn) : Type 0 where
  pub several : IsShortList columns
  pub short : All IsShortColumn columns
  pub distinct : IsDistinct (map name_of columns)

-- an aggregate's kind and its column, which the count hasn't
abbrev pub agg_of : WrittenAgg → Agg
agg_of count = aggs.Count
agg_of (sum_of column) = aggs.Sum
agg_of (min_of column) = aggs.Min
agg_of (max_of column) = aggs.Max

-- the column that an aggregate is over; the count is over none
abbrev pub agg_column : WrittenAgg → Option WrittenColumn
agg_column count = None
agg_column (sum_of column) = Some column
agg_column (min_of column) = Some column
agg_column (max_of column) = Some column

-- the kind of an aggregate, and the bytes of its column where it has one
abbrev pub agg_named : WrittenAgg → Agg × Option (List ℕ)
agg_named agg = (agg_of agg, option_map name_of (agg_column agg))

-- the column of an aggregate, if it has one, has at most 1,024 bytes
abbrev pub IsShortAgg : WrittenAgg → Type 0
IsShortAgg agg = IfSome (agg_column agg) IsShortColumn

-- one to eight aggregates in a query, and none twice
pub record AreAggs (aggs : List WrittenAgg) : Type 0 where
  pub several : IsShortList aggs
  pub short : All IsShortAgg aggs
  pub distinct : IsDistinct (map agg_named aggs)

-- both lists of a shape have one to eight items, none twice, and no column in them is too long
abbrev pub IsShapeRight : WrittenShape → Type 0
IsShapeRight (group columns aggs) = AreColumns columns × AreAggs aggs
IsShapeRight (order keys columns) = AreColumns (map (λ key. key.column) keys) × AreColumns columns

-- a source that is named is one of these datasets
abbrev pub IsSourceRight : List (List ℕ) → WrittenSource → Type 0
IsSourceRight datasets input = ⊤
IsSourceRight datasets (by_name name) = is_among datasets name ≡ true

-- a filter is one of the grammar, over the names of the job
abbrev pub IsFilterRight : List (List ℕ) → WrittenFilter → Type 0
IsFilterRight names filter = IsWrittenFilter names filter.tokens filter.used filter.means

-- the name of a dataset has at most 64 bytes, and none before has it; its source stands before it
pub record IsDatasetRight (names before : List (List ℕ)) (dataset : WrittenDataset) : Type 0 where
  pub short : length dataset.name ≤ 64
  pub new : is_among before dataset.name ≡ false
  pub source : IsSourceRight before dataset.source
  pub filter : IfSome dataset.filter (IsFilterRight names)

-- so each dataset, behind those before it
abbrev pub AreDatasets : List (List ℕ) → List (List ℕ) → List WrittenDataset → Type 0
AreDatasets names before [] = ⊤
AreDatasets names before (dataset ∷ more) =
    IsDatasetRight names before dataset × AreDatasets names (before ++ dataset.name ∷ []) more

-- what the datasets are called, in the order of the text
abbrev pub names_written : List WrittenDataset → List (List ℕ)
names_written datasets = map (λ dataset. dataset.name) datasets

-- the shape of a query keeps the rules, and its source, if it is named, is one of these datasets
pub record IsQueryRight (datasets : List (List ℕ)) (query : WrittenQuery) : Type 0 where
  pub shape : IsShapeRight query.shape
  pub source : IfSome query.source (IsSourceRight datasets)

-- at most eight datasets, and one to eight queries
pub record IsRight (job : WrittenJob) : Type 0 where
  pub few : length job.datasets ≤ 8
  pub datasets : AreDatasets (with_names [] (job_names job)) [] job.datasets
  pub several : IsShortList job.queries
  pub queries : All (IsQueryRight (names_written job.datasets)) job.queries
