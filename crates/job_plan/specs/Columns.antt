-- Where the columns that a job names stand in a header, and which of them are kept.
-- This project's own.
use Rattle.std.specs.Prelude.{ℕ, ◌==◌, Bool, false, not, List, [], ◌∷◌, ◌++◌, Option, length, map, option_map, is_some, unwrap_or, slice_index_or}
use Rattle.std.specs.List.{filter, find, flat_map, list_any, position_from, range_with_len}
use Rattle.std.specs.Option.{option_map_or, option_to_list}
use Rattle.std.specs.Str.{bytes_eq}
use Rattle.row_filter.specs.declared.chain.Link.{Link}
use Rattle.row_filter.specs.declared.filter.Constant.{Constant}
use Rattle.row_filter.specs.declared.filter.Constant.TheVariants as constants
use Rattle.row_filter.specs.declared.filter.Filter.{Filter}
use Rattle.row_filter.specs.declared.filter.Filter.TheFolds.{fold-Filter}
use Rattle.row_filter.specs.declared.filter.Filter.TheOpen.{Filter-F}
use Rattle.row_filter.specs.declared.filter.Filter.TheOpen as layers
use Rattle.row_form.specs.declared.number_list.NumberPlace.{NumberPlace}
use Rattle.job_text.specs.declared.job.Job.{Job}
use Rattle.job_text.specs.declared.job.KeyItem.{KeyItem}
use Rattle.job_text.specs.declared.job.Part.{Part}
use Rattle.job_text.specs.declared.job.Shape.{Shape}
use Rattle.job_text.specs.declared.job.Shape.TheVariants.{Group, Order}
use Rattle.job_plan.specs.Moved.{link_over}

-- a record: its fields
abbrev pub Fields : Type 0
Fields = List (List ℕ)

-- the place of the first header field with exactly these bytes, from 0
abbrev pub place : List ℕ → Fields → Option ℕ
place name header = position_from (λ field. bytes_eq field name) 0 header

-- the first of these names that the header lacks
abbrev pub missing : List (List ℕ) → Fields → Option (List ℕ)
missing names header = find (λ name. not (is_some (place name header))) names

-- whether a name's column stands at this place
abbrev pub stands_at : Fields → ℕ → List ℕ → Bool
stands_at header p name = option_map_or (λ q. q == p) (place name header) false

-- the places of the columns that these names name, ascending
abbrev pub kept : List (List ℕ) → Fields → List ℕ
kept names header = filter (λ p. list_any (stands_at header p) names) (range_with_len 0 (length header))

-- the bytes of a job's column
abbrev pub name_of : Job → ℕ → List ℕ
name_of job column = slice_index_or job.names column []

-- where a job's column stands in the header
abbrev pub place_of : Job → Fields → ℕ → ℕ
place_of job header column = unwrap_or (place (name_of job column) header) 0

-- where it stands among the kept columns, from 0
abbrev pub kept_place : Job → Fields → ℕ → ℕ
kept_place job header column = unwrap_or (position_from (λ p. p == place_of job header column) 0 (kept job.names header)) 0

-- ---- columns whose fields are numbers

-- the columns that a shape adds up, or takes the least or the greatest of
abbrev pub told_in : Shape → List ℕ
told_in (Group columns parts) = flat_map (λ part. option_to_list part.column) parts
told_in (Order keys columns) = []

-- the columns that it orders by as a number
abbrev pub ordered_in : Shape → List ℕ
ordered_in (Group columns parts) = []
ordered_in (Order keys columns) = map (λ key. key.column) (filter (λ key. key.number) keys)

-- the column of a test, where it is compared with a number
abbrev pub test_numbers : ℕ → Constant → List ℕ
test_numbers column (constants.Number value) = column ∷ []
test_numbers column (constants.Text text) = []

-- the columns that a filter compares with a number, where they are told of the filters in it
abbrev pub filter_numbers_step : Filter-F (List ℕ) → List ℕ
filter_numbers_step (layers.Test column test constant) = test_numbers column constant
filter_numbers_step (layers.And parts) = flat_map (λ columns. columns) parts
filter_numbers_step (layers.Or parts) = flat_map (λ columns. columns) parts
filter_numbers_step (layers.Not inner) = inner

-- the columns that a filter compares with a number
abbrev pub filter_numbers : Filter → List ℕ
filter_numbers = fold-Filter (List ℕ) filter_numbers_step

-- those that a dataset's filter does, if it has one
abbrev pub numbers_for : Option Filter → List ℕ
numbers_for filter = option_map_or filter_numbers filter []

-- the columns of a job where only a number may stand: all that a dataset compares with one or a query orders by as one
abbrev pub strict_columns : Job → List ℕ
strict_columns job =
    flat_map (λ dataset. numbers_for dataset.filter) job.datasets ++ flat_map (λ query. ordered_in query.shape) job.queries

-- the columns that its queries add up, or take the least or the greatest of
abbrev pub told_columns : Job → List ℕ
told_columns job = flat_map (λ query. told_in query.shape) job.queries

-- its number columns
abbrev pub number_columns : Job → List ℕ
number_columns job = strict_columns job ++ told_columns job

-- whether one of these columns is the kept one at a place
abbrev pub is_number_place : Job → Fields → List ℕ → ℕ → Bool
is_number_place job header columns k = list_any (λ column. kept_place job header column == k) columns

-- the number column at a place among the kept columns: a value column, unless only a number may stand there
abbrev pub number_place : Job → Fields → ℕ → NumberPlace
number_place job header k = record { column = k; value = not (is_number_place job header (strict_columns job) k) }

-- those of the header, ascending
abbrev pub number_places : Job → Fields → List NumberPlace
number_places job header =
    map (number_place job header)
    (filter (is_number_place job header (number_columns job)) (range_with_len 0 (length (kept job.names header))))

-- ---- shapes and datasets over the kept columns

-- an aggregate over the kept columns, and a key item over them
abbrev pub part_over : Job → Fields → Part → Part
part_over job header part = record part { column = option_map (kept_place job header) part.column }

-- a key item whose column is given as its place among the kept ones
abbrev pub item_over : Job → Fields → KeyItem → KeyItem
item_over job header item = record item { column = kept_place job header item.column }

-- a shape whose columns are given as their places among the kept ones
abbrev pub over_kept : Job → Fields → Shape → Shape
over_kept job header (Group columns parts) =
    Group (map (kept_place job header) columns) (map (part_over job header) parts)
over_kept job header (Order keys columns) =
    Order (map (item_over job header) keys) (map (kept_place job header) columns)

-- how the datasets are made, over the kept columns
abbrev pub linked : Job → Fields → List Link
linked job header = map (link_over (kept_place job header)) job.datasets
