-- What holds of each job that has a text: how long its lists are, and that a column is one of its names.
-- This project's own.
use Rattle.std.specs.Prelude.{◌≡◌, ◌≢◌, ℕ, ◌≤◌, ◌<◌, not, Bool, true, false, List, [], ◌++◌, All, AllPairs, IfSome, is_some, length, map, flat_map, slice_index_or, nat_eq, ◌&&◌}
use Rattle.std.specs.Option.{option_to_list, option_map_or}
use Rattle.aggregate.specs.declared.agg_list.Agg.{Agg}
use Rattle.aggregate.specs.declared.agg_list.Agg.TheVariants.{Count, Sum, Min, Max}
use Rattle.job_text.specs.declared.job.Dataset.{Dataset}
use Rattle.job_text.specs.declared.job.Job.{Job}
use Rattle.job_text.specs.declared.job.Part.{Part}
use Rattle.job_text.specs.declared.job.Query.{Query}
use Rattle.job_text.specs.declared.job.Shape.{Shape}
use Rattle.job_text.specs.declared.job.Shape.TheVariants.{Group, Order}
use Rattle.job_text.specs.Scan.{is_plain}
use Rattle.job_text.specs.FilterForms.{filter_places, IsFilter}
use Rattle.job_text.specs.Columns.{with_names}

-- one to eight items
pub record IsShortList {A : Type 0} (items : List A) : Type 0 where
  pub some : 1 ≤ length items
  pub few : length items ≤ 8

-- the aggregate is the count of rows, which is of no column
abbrev pub is_count : Agg → Bool
is_count Count = true
is_count Sum = false
is_count Min = false
is_count Max = false

-- an aggregate has a column exactly where it isn't the count, and the column is one of so many names
pub record IsAggregate (names : ℕ) (part : Part) : Type 0 where
  pub column : is_some part.column ≡ not (is_count part.agg)
  pub named : IfSome part.column (λ column. column < names)

-- no item stands twice
abbrev pub IsDistinct : {A : Type 0} → List A → Type 0
IsDistinct items = AllPairs (λ earlier later. earlier ≢ later) items

-- columns in a list: one to eight of so many names, none twice
pub record IsColumns (names : ℕ) (columns : List ℕ) : Type 0 where
  pub short : IsShortList columns
  pub named : All (λ column. column < names) columns
  pub distinct : IsDistinct columns

-- a shape's lists are short, and its columns are among so many names; in each list and among the keys none
-- stands twice
abbrev pub IsShape : ℕ → Shape → Type 0
IsShape names (Group columns parts) = IsColumns names columns × IsShortList parts × All (IsAggregate names) parts × IsDistinct parts
IsShape names (Order keys columns) = IsColumns names (map (λ key. key.column) keys) × IsColumns names columns

-- a query over one of so many datasets beside the input
pub record IsQuery (names datasets : ℕ) (query : Query) : Type 0 where
  pub dataset : query.dataset ≤ datasets
  pub shape : IsShape names query.shape

-- the columns of a shape, in the order of its text
abbrev pub shape_places : Shape → List ℕ
shape_places (Group columns parts) = columns ++ flat_map (λ part. option_to_list part.column) parts
shape_places (Order keys columns) = map (λ key. key.column) keys ++ columns

-- the columns of a dataset's filter, in the order of its text
abbrev pub dataset_places : Dataset → List ℕ
dataset_places dataset = option_map_or filter_places dataset.filter []

-- the names of a job's columns, in the order of its text
abbrev pub columns_named : Job → List (List ℕ)
columns_named job =
    map (λ place. slice_index_or job.names place [])
    (flat_map dataset_places job.datasets ++ flat_map (λ query. shape_places query.shape) job.queries)

-- datasets: a name is a word that isn't reserved, of at most 64 bytes, and none has the name of another; each is
-- made of the input or of one before it, by a filter over so many columns or none
pub record AreGoodDatasets (names : ℕ) (datasets : List Dataset) : Type 0 where
  pub few : length datasets ≤ 8
  pub short : All (λ dataset. length dataset.name ≤ 64) datasets
  pub new : IsDistinct (map (λ dataset. dataset.name) datasets)
  pub plain : All (λ dataset. is_plain dataset.name ≡ true) datasets
  pub filters : All (λ dataset. IfSome dataset.filter (IsFilter names)) datasets
  pub earlier : (place : ℕ) (d : Dataset) → place < length datasets → (slice_index_or datasets place d).parent ≤ place

-- one query over the input, without datasets
abbrev pub is_plain_job : Job → Bool
is_plain_job job = nat_eq (length job.datasets) 0 && nat_eq (length job.queries) 1

-- what each job has that was read from a text
pub record IsJob (job : Job) : Type 0 where
  pub names : All (λ name. length name ≤ 1024) job.names
  pub first : with_names [] (columns_named job) ≡ job.names
  pub distinct : IsDistinct job.names
  pub datasets : AreGoodDatasets (length job.names) job.datasets
  pub several : IsShortList job.queries
  pub queries : All (IsQuery (length job.names) (length job.datasets)) job.queries
