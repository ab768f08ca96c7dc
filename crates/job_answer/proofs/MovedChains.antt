-- A chain of a job's datasets, with their filters moved to the kept columns, keeps of landed rows what they keep of the rows.
use Rattle.std.proofs.Common.{◌≡◌, ◌<◌, ◌∙◌, ℕ, zero, suc, true, List, [], ◌∷◌, Option, Some, None, map, length, refl, ap}
use Rattle.std.specs.Prelude.{IfSome, option_and_then, option_map, slice_get}
use Rattle.std.specs.List.{AllByRecursion}
use Rattle.std.specs.Option.{option_map_or}
use Rattle.std.proofs.lemmas.List.Elements.{recursion_from_All}
use Rattle.row_filter.specs.Chains.{links_of, parent_at}
use Rattle.row_filter.specs.Meaning.{keeps}
use Rattle.row_filter.specs.Rows.{column_in, keeps_row}
use Rattle.row_filter.specs.declared.chain.Chain.{Chain}
use Rattle.row_filter.specs.declared.chain.Link.{Link}
use Rattle.row_filter.specs.declared.filter.Filter.{Filter}
use Rattle.job_text.specs.FilterForms.{IsFilter, filter_places}
use Rattle.job_text.specs.Jobs.{IsJob}
use Rattle.job_text.specs.declared.job.Dataset.{Dataset}
use Rattle.job_text.specs.declared.job.Job.{Job}
use Rattle.job_plan.specs.Columns.{Fields, kept, kept_place, missing}
use Rattle.job_plan.specs.Rows.{landed_row}
use Rattle.job_answer.specs.Answer.{field_of}
use Rattle.job_answer.specs.Chained.{IsMovedToKept, MovedChainsHaveDatasets, keeps_own, link_of}
use Rattle.job_answer.specs.Derived.{parent_of, passes}
use Rattle.job_answer.proofs.AgreedFilters.{keeps-agree}
use Rattle.job_answer.proofs.Classes.{all-weaker}
use Rattle.job_answer.proofs.KeptFields.{column-kept, field-landed}

get-map : {X Y : Type 0} (f : X → Y) (xs : List X) (k : ℕ) → slice_get (map f xs) k ≡ option_map f (slice_get xs k)
get-map f [] k = refl
get-map f (x ∷ xs) zero = refl
get-map f (x ∷ xs) (suc k) = get-map f xs k

get-holds : {X : Type 0} (P : X → Type 0) (xs : List X) (k : ℕ) → AllByRecursion P xs → IfSome (slice_get xs k) P
get-holds P [] k all = tt
get-holds P (x ∷ xs) zero all = all.0
get-holds P (x ∷ xs) (suc k) all = get-holds P xs k all.1

module _ (job : Job) (header : Fields) (move : Filter → Filter) (found : missing job.names header ≡ None) (moves : IsMovedToKept job header move) where
  -- a moved filter keeps a landed row where the filter keeps the row
  moved-keeps : (n : ℕ) (row : Fields) (filter : Filter) → IsFilter (length job.names) filter
      → keeps_row (move filter) (landed_row (kept job.names header) n row) ≡ keeps (field_of job header row) filter
  moved-keeps n row filter is =
      let landed = landed_row (kept job.names header) n row in
      let Same = λ (column : ℕ). column_in landed (kept_place job header column) ≡ field_of job header row column in
      let same : AllByRecursion Same (filter_places filter) =
      all-weaker (λ column. column < length job.names) Same (λ column named. field-landed job header column n row (column-kept job header column found named))
      (filter_places filter) (recursion_from_All (λ column. column < length job.names) (filter_places filter) is.named) in
      moves (column_in landed) filter
      ∙ keeps-agree (λ column. column_in landed (kept_place job header column)) (field_of job header row) filter same

  own-filter : (n : ℕ) (row : Fields) (filter : Option Filter) → IfSome filter (IsFilter (length job.names))
      → option_map_or (λ f. keeps_row f (landed_row (kept job.names header) n row)) (option_map move filter) true ≡ option_map_or (keeps (field_of job header row)) filter true
  own-filter n row None is = refl
  own-filter n row (Some filter) is = moved-keeps n row filter is

  link-keeps : (n : ℕ) (row : Fields) (made : Option Dataset) → IfSome made (λ d. IfSome d.filter (IsFilter (length job.names)))
      → option_map_or (λ f. keeps_row f (landed_row (kept job.names header) n row)) (option_and_then (λ (link : Link). link.filter) (option_map (link_of move) made)) true
      ≡ option_map_or (keeps (field_of job header row)) (option_and_then (λ (d : Dataset). d.filter) made) true
  link-keeps n row None is = refl
  link-keeps n row (Some made) is = own-filter n row made.filter is

  link-parent : (made : Option Dataset) → option_map_or (λ (link : Link). link.parent) (option_map (link_of move) made) 0 ≡ option_map_or (λ (d : Dataset). d.parent) made 0
  link-parent None = refl
  link-parent (Some made) = refl

  module _ (chain : Chain) (whole : IsJob job) (linked : links_of chain ≡ map (link_of move) job.datasets) where
    link-is : (before : ℕ) → slice_get (links_of chain) before ≡ option_map (link_of move) (slice_get job.datasets before)
    link-is before = ap (λ (links : List Link). slice_get links before) linked ∙ get-map (link_of move) job.datasets before

    pub parents-same : (dataset : ℕ) → parent_at chain dataset ≡ parent_of job dataset
    parents-same zero = refl
    parents-same (suc before) = ap (λ (o : Option Link). option_map_or (λ link. link.parent) o 0) (link-is before) ∙ link-parent (slice_get job.datasets before)

    pub filters-same : (dataset n : ℕ) (row : Fields) → keeps_own chain (landed_row (kept job.names header) n row) dataset ≡ passes job header row dataset
    filters-same zero n row = refl
    filters-same (suc before) n row =
        let landed = landed_row (kept job.names header) n row in
        let Sound = λ (d : Dataset). IfSome d.filter (IsFilter (length job.names)) in
        ap (λ (o : Option Link). option_map_or (λ f. keeps_row f landed) (option_and_then (λ link. link.filter) o) true) (link-is before)
        ∙ link-keeps n row (slice_get job.datasets before) (get-holds Sound job.datasets before (recursion_from_All Sound job.datasets whole.datasets.filters))

pub moved-have : MovedChainsHaveDatasets
moved-have job header chain move whole found moves linked = record {
  parents = parents-same job header move found moves chain whole linked;
  filters = filters-same job header move found moves chain whole linked;
}
