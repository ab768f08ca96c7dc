-- The rows of a job's dataset, landed, are those that the chain of the job's plan derives.
use Rattle.std.proofs.Common.{◌≡◌, ◌∙◌, ℕ, zero, suc, List, ◌∷◌, refl, sym, ap, subst}
use Rattle.std.specs.List.{filter, list_all}
use Rattle.row_filter.specs.Chains.{links_of, parent_at}
use Rattle.row_filter.specs.Derived.{derived}
use Rattle.row_filter.specs.Lines.{line_within}
use Rattle.row_filter.specs.Meaning.{keeps}
use Rattle.row_filter.specs.Moved.{moved_filter}
use Rattle.row_filter.specs.declared.chain.Chain.{Chain}
use Rattle.row_filter.specs.declared.filter.Filter.{Filter}
use Rattle.job_plan.specs.Columns.{kept, kept_place}
use Rattle.job_plan.specs.Plans.{chain_in}
use Rattle.job_answer.specs.Chained.{HasDatasetsOf, keeps_own}
use Rattle.job_answer.specs.Derived.{derived_each}
use Rattle.job_answer.specs.Derived as job_lines
use Rattle.job_answer.specs.Numbered.{landed_each}
use Rattle.job_answer.specs.Planned.{PlansDeriveRows}
use Rattle.job_answer.proofs.ChainedRows.{landed-derived}
use Rattle.job_answer.proofs.MovedChains.{moved-have}

-- a chain's line, by its parents and by its links
lines-alike : (chain : Chain) (steps dataset : ℕ) → job_lines.line_within (parent_at chain) steps dataset ≡ line_within (links_of chain) steps dataset
lines-alike chain zero dataset = refl
lines-alike chain (suc steps) zero = refl
lines-alike chain (suc steps) (suc before) = ap (λ (rest : List ℕ). suc before ∷ rest) (lines-alike chain steps (parent_at chain (suc before)))

pub plans-derive : ((move : ℕ → ℕ) (field_at : ℕ → List ℕ) (filter : Filter) → keeps field_at (moved_filter move filter) ≡ keeps (λ column. field_at (move column)) filter) → PlansDeriveRows
plans-derive keep job header plan dataset input whole made =
    let chain = chain_in plan in
    let has : HasDatasetsOf job header chain = moved-have job header chain (moved_filter (kept_place job header)) whole made.found (keep (kept_place job header)) made.links in
    let rows : landed_each (kept job.names header) (derived_each job header dataset input) ≡ derived chain dataset (landed_each (kept job.names header) input) =
    landed-derived job header chain dataset input has
    ∙ ap (λ (numbers : List ℕ). filter (λ landed. list_all (keeps_own chain landed) numbers) (landed_each (kept job.names header) input)) (lines-alike chain dataset dataset) in
    subst (λ (places : List ℕ). landed_each places (derived_each job header dataset input) ≡ derived chain dataset (landed_each places input)) (sym made.places) rows
