-- What a plan makes of a job and a header.
-- This project's own.
use Rattle.std.specs.Prelude.{◌≡◌, ℕ, ◌+◌, ◌*◌, List, [], ◌++◌, None, length, map, codes, slice_index_or}
use Rattle.std.specs.List.{range_with_len}
use Rattle.std.specs.Option.{option_map_or}
use Rattle.aggregate.specs.declared.agg_list.Agg.{Agg}
use Rattle.aggregate.specs.declared.agg_list.Agg.TheVariants.{Count, Sum, Min, Max}
use Rattle.aggregate.specs.declared.kind.Kind.{Kind}
use Rattle.row_filter.specs.Chains.{base_of, form_of, links_of}
use Rattle.row_filter.specs.declared.chain.Chain.{Chain}
use Rattle.row_form.specs.declared.form.Form.{Form}
use Rattle.row_form.specs.declared.form.Form.TheVariants.{Landed}
use Rattle.job_text.specs.declared.job.Job.{Job}
use Rattle.job_text.specs.declared.job.Part.{Part}
use Rattle.job_text.specs.declared.job.Shape.{Shape}
use Rattle.job_text.specs.declared.job.Shape.TheVariants.{Group, Order}
use Rattle.job_plan.specs.declared.query_plan.Plan.{Plan}
use Rattle.job_plan.specs.Columns.{Fields, kept, linked, missing, number_places, over_kept}
use Rattle.job_plan.specs.Entries.{kind_of}
use Rattle.job_plan.specs.Passes.{pass_datasets, queries_over, removed_after}

-- ---- the first row of a table

-- the name of an aggregate, before its column's
abbrev pub agg_name : Agg → List ℕ
agg_name Count = codes "count"
agg_name Sum = codes "sum_"
agg_name Min = codes "min_"
agg_name Max = codes "max_"

-- the bytes of a column's name
abbrev pub name_at : List (List ℕ) → ℕ → List ℕ
name_at names column = slice_index_or names column []

-- the name of a column of a table that tells an aggregate
abbrev pub part_name : List (List ℕ) → Part → List ℕ
part_name names part = agg_name part.agg ++ option_map_or (name_at names) part.column []

-- the columns' names
abbrev pub heading_of : List (List ℕ) → Shape → List (List ℕ)
heading_of names (Group columns parts) = map (name_at names) columns ++ map (part_name names) parts
heading_of names (Order keys columns) = map (name_at names) columns

-- ---- what a plan has

-- the places of the kept columns in the header
abbrev pub places_in : Plan → List ℕ
places_in plan = plan.places.items

-- the datasets, and the form of landed rows
abbrev pub chain_in : Plan → Chain
chain_in plan = plan.chain

-- the form of landed rows: how many columns are kept, and which of them are numbers
abbrev pub form_in : Plan → Form
form_in plan = form_of plan.chain

-- the bytes of the kept columns' names, and those of the datasets from number 1 on
abbrev pub column_names_in : Plan → List (List ℕ)
column_names_in plan = plan.columns.items

-- the bytes of the names of the datasets, from number 1 on
abbrev pub dataset_names_in : Plan → List (List ℕ)
dataset_names_in plan = plan.names.items

-- the number of its first task
abbrev pub first_task_of : Plan → ℕ
first_task_of plan = plan.first_task

-- the datasets of the queries
abbrev pub datasets_in : Plan → List ℕ
datasets_in plan = map (λ planned. planned.dataset) plan.queries.items

-- of each pass the dataset that it goes over, its queries, and the datasets whose blocks are removed after it
abbrev pub passes_in : Plan → List ℕ
passes_in plan = map (λ pass. pass.dataset) plan.passes.items

-- of each pass the numbers of the queries that it answers
abbrev pub queries_in : Plan → List (List ℕ)
queries_in plan = map (λ pass. pass.queries.items) plan.passes.items

-- of each pass the datasets whose blocks are removed after it
abbrev pub removed_in : Plan → List (List ℕ)
removed_in plan = map (λ pass. pass.removed.items) plan.passes.items

-- the queries' shapes, as the job has them
abbrev pub shapes_in : Plan → List Shape
shapes_in plan = map (λ planned. planned.shape) plan.queries.items

-- the same over the kept columns
abbrev pub kept_in : Plan → List Shape
kept_in plan = map (λ planned. planned.kept) plan.queries.items

-- the first rows of their tables
abbrev pub headings_in : Plan → List Fields
headings_in plan = map (λ planned. planned.heading) plan.queries.items

-- what stands for the shape of a query that isn't there
abbrev pub no_shape : Shape
no_shape = Order [] []

-- those of one query, from 0
abbrev pub shape_at : Plan → ℕ → Shape
shape_at plan query = slice_index_or (shapes_in plan) query no_shape

-- a query's shape over the kept columns, by the query's number from 0
abbrev pub kept_at : Plan → ℕ → Shape
kept_at plan query = slice_index_or (kept_in plan) query no_shape

-- the first row of a query's table, by the query's number from 0
abbrev pub heading_at : Plan → ℕ → Fields
heading_at plan query = slice_index_or (headings_in plan) query []

-- the kind of its entries
abbrev pub kind_at : Plan → ℕ → Kind
kind_at plan query = kind_of (kept_at plan query)

-- ---- the plan of a job and a header

-- the datasets of a job's queries
abbrev pub datasets_of : Job → List ℕ
datasets_of job = map (λ query. query.dataset) job.queries

-- the plan keeps the columns that the job names, and goes over its datasets in as many passes as its queries have
pub record IsPlanOf (job : Job) (header : Fields) (plan : Plan) : Type 0 where
  pub found : missing job.names header ≡ None
  pub places : places_in plan ≡ kept job.names header
  pub form : form_in plan ≡ Landed (length (kept job.names header)) (number_places job header)
  pub columns : column_names_in plan ≡ map (λ p. slice_index_or header p []) (kept job.names header)
  pub names : dataset_names_in plan ≡ map (λ dataset. dataset.name) job.datasets
  pub links : links_of (chain_in plan) ≡ linked job header
  pub base : base_of (chain_in plan) ≡ 0
  pub first : first_task_of plan ≡ 0
  pub datasets : datasets_in plan ≡ datasets_of job
  pub passes : passes_in plan ≡ pass_datasets (datasets_of job)
  pub queries : queries_in plan ≡ map (queries_over (datasets_of job)) (pass_datasets (datasets_of job))
  pub removed : removed_in plan
      ≡ map (removed_after (linked job header) (pass_datasets (datasets_of job)))
      (range_with_len 0 (length (pass_datasets (datasets_of job))))
  pub shapes : shapes_in plan ≡ map (λ query. query.shape) job.queries
  pub over : kept_in plan ≡ map (λ query. over_kept job header query.shape) job.queries
  pub headings : headings_in plan ≡ map (λ query. heading_of job.names query.shape) job.queries

-- both plans are one, but for the number of the first task and those by which blocks name the datasets
pub record IsSamePlan (old new : Plan) : Type 0 where
  pub places : places_in new ≡ places_in old
  pub columns : column_names_in new ≡ column_names_in old
  pub names : dataset_names_in new ≡ dataset_names_in old
  pub form : form_in new ≡ form_in old
  pub links : links_of (chain_in new) ≡ links_of (chain_in old)
  pub datasets : datasets_in new ≡ datasets_in old
  pub shapes : shapes_in new ≡ shapes_in old
  pub over : kept_in new ≡ kept_in old
  pub headings : headings_in new ≡ headings_in old
  pub passes : passes_in new ≡ passes_in old
  pub queries : queries_in new ≡ queries_in old
  pub removed : removed_in new ≡ removed_in old

-- the number of a task behind the first one: pass by pass, the partitions in order, and behind them the pass's final
-- task
abbrev pub task_of : ℕ → ℕ → ℕ → ℕ
task_of partitions pass part = pass * (partitions + 1) + part
