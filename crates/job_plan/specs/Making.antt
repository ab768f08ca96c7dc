-- A plan while it is made: which places are found, and what is planned for each query.
-- This project's own.
use Rattle.std.specs.Prelude.{◌≡◌, ℕ, ◌==◌, ◌++◌, All, List, [], Some, length, map, not, slice_index, slice_index_or, take, unwrap_or}
use Rattle.std.specs.List.{filter, flat_map, list_any, position_from, range_with_len}
use Rattle.row_filter.specs.Chains.{base_of, form_of, links_of}
use Rattle.row_filter.specs.declared.chain.Chain.{Chain}
use Rattle.row_filter.specs.declared.chain.Link.{Link}
use Rattle.row_form.specs.declared.form.Form.TheVariants.{Landed}
use Rattle.row_form.specs.declared.number_list.NumberPlace.{NumberPlace}
use Rattle.job_text.specs.declared.job.Dataset.{Dataset}
use Rattle.job_text.specs.declared.job.Query.{Query}
use Rattle.job_plan.specs.Columns.{Fields, numbers_for, ordered_in, place, told_in}
use Rattle.job_plan.specs.Entries.{kind_of}
use Rattle.job_plan.specs.Moved.{link_over, moved}
use Rattle.job_plan.specs.Passes.{pass_datasets, queries_over, removed_after}
use Rattle.job_plan.specs.Plans.{heading_of}
use Rattle.job_plan.specs.declared.passing.Pass.{Pass}
use Rattle.job_plan.specs.declared.planned.Planned.{Planned}

-- each name's column stands at its place in the header
abbrev pub AreFound : List (List ℕ) → Fields → List ℕ → Type 0
AreFound names header places = map Some places ≡ map (λ name. place name header) names

-- the numbers below a count that stand in a list, ascending
abbrev pub ascending : List ℕ → ℕ → List ℕ
ascending places count = filter (λ p. list_any (λ q. q == p) places) (range_with_len 0 count)

-- where a number stands in a list; 0 where it doesn't
abbrev pub place_in : List ℕ → ℕ → ℕ
place_in list number = unwrap_or (position_from (λ p. p == number) 0 list) 0

-- the name whose column stands at a place, where the names' columns stand at these places
abbrev pub name_for : List (List ℕ) → List ℕ → ℕ → List ℕ
name_for names places p = slice_index_or names (place_in places p) []

-- what is planned for a query, where the names' columns stand at these places among the kept ones
pub record IsPlannedOf (names : List (List ℕ)) (kept : List ℕ) (query : Query) (planned : Planned) : Type 0 where
  pub dataset : planned.dataset ≡ query.dataset
  pub shape : planned.shape ≡ query.shape
  pub over : planned.kept ≡ moved (slice_index kept) query.shape
  pub kind : planned.kind ≡ kind_of planned.kept
  pub heading : planned.heading ≡ heading_of names query.shape

-- what is planned for several queries, in their order
pub record ArePlannedOf (names : List (List ℕ)) (kept : List ℕ) (queries : List Query) (planned : List Planned) : Type 0 where
  pub datasets : map (λ p. p.dataset) planned ≡ map (λ query. query.dataset) queries
  pub shapes : map (λ p. p.shape) planned ≡ map (λ query. query.shape) queries
  pub over : map (λ p. p.kept) planned ≡ map (λ query. moved (slice_index kept) query.shape) queries
  pub kinds : All (λ p. p.kind ≡ kind_of p.kept) planned
  pub headings : map (λ p. p.heading) planned ≡ map (λ query. heading_of names query.shape) queries

-- one of the passes over these datasets
pub record IsPassAt (links : List Link) (asked over : List ℕ) (place : ℕ) (pass : Pass) : Type 0 where
  pub dataset : pass.dataset ≡ slice_index_or over place 0
  pub queries : pass.queries.items ≡ queries_over asked pass.dataset
  pub removed : pass.removed.items ≡ removed_after links over place

-- the first passes of queries over these datasets, so many of them
pub record AreFirstPasses (links : List Link) (asked : List ℕ) (count : ℕ) (passes : List Pass) : Type 0 where
  pub datasets : map (λ pass. pass.dataset) passes ≡ take count (pass_datasets asked)
  pub queries : map (λ pass. pass.queries.items) passes ≡ map (queries_over asked) (take count (pass_datasets asked))
  pub removed : map (λ pass. pass.removed.items) passes ≡ map (removed_after links (pass_datasets asked)) (range_with_len 0 count)

-- the passes of queries over these datasets
abbrev pub ArePasses : List Link → List ℕ → List Pass → Type 0
ArePasses links asked = AreFirstPasses links asked (length (pass_datasets asked))

-- the columns over the kept ones where only a number may stand, of all datasets and then of the queries
abbrev pub strict_over : List Link → List Planned → List ℕ
strict_over links planned = flat_map (λ link. numbers_for link.filter) links ++ flat_map (λ p. ordered_in p.kept) planned

-- those that the queries add up, or take the least or the greatest of
abbrev pub told_over : List Planned → List ℕ
told_over planned = flat_map (λ p. told_in p.kept) planned

-- the number column at a place: a value column, unless only a number may stand there
abbrev pub place_by : List ℕ → ℕ → NumberPlace
place_by strict k = record { column = k; value = not (list_any (λ q. q == k) strict) }

-- the number columns among so many kept ones, ascending
abbrev pub places_over : List Link → List Planned → ℕ → List NumberPlace
places_over links planned columns =
    map (place_by (strict_over links planned)) (ascending (strict_over links planned ++ told_over planned) columns)

-- the chain of these datasets over so many kept columns, among which the names' columns stand as they are moved
pub record IsChainOf (columns : ℕ) (move : ℕ → ℕ) (datasets : List Dataset) (planned : List Planned) (chain : Chain) : Type 0 where
  pub links : links_of chain ≡ map (link_over move) datasets
  pub form : form_of chain ≡ Landed columns (places_over (map (link_over move) datasets) planned columns)
  pub base : base_of chain ≡ 0
