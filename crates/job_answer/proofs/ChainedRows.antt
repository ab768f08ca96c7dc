-- What the filters of a chain keep of landed rows, where they keep what a job's filters keep of the rows.
use Rattle.std.proofs.Common.{◌≡◌, ◌∙◌, ℕ, zero, suc, Bool, true, false, cond, ◌&&◌, List, [], ◌∷◌, sym, ap, refl}
use Rattle.std.specs.List.{filter, list_all}
use Rattle.row_filter.specs.Chains.{parent_at}
use Rattle.row_filter.specs.declared.chain.Chain.{Chain}
use Rattle.job_text.specs.declared.job.Job.{Job}
use Rattle.job_plan.specs.Columns.{Fields, kept}
use Rattle.job_plan.specs.Rows.{landed_row}
use Rattle.job_answer.specs.Chained.{HasDatasetsOf, LandedRowsAreDerived, chain_line, keeps_own}
use Rattle.job_answer.specs.Derived.{is_in, line_within, parent_of, passes}
use Rattle.job_answer.specs.Numbered.{Numbered, landed_each}

module _ (job : Job) (header : Fields) (chain : Chain) (has : HasDatasetsOf job header chain) where
  lines-same : (steps dataset : ℕ) → line_within (parent_of job) steps dataset ≡ line_within (parent_at chain) steps dataset
  lines-same zero dataset = refl
  lines-same (suc steps) zero = refl
  lines-same (suc steps) (suc before) =
      ap (λ (parent : ℕ). suc before ∷ line_within (parent_of job) steps parent) (sym (has.parents (suc before)))
      ∙ ap (λ (rest : List ℕ). suc before ∷ rest) (lines-same steps (parent_at chain (suc before)))

  line-same : (n : ℕ) (row : Fields) (line : List ℕ) → list_all (passes job header row) line ≡ list_all (keeps_own chain (landed_row (kept job.names header) n row)) line
  line-same n row [] = refl
  line-same n row (dataset ∷ line) =
      ap (λ (b : Bool). b && list_all (passes job header row) line) (sym (has.filters dataset n row))
      ∙ ap (λ (b : Bool). keeps_own chain (landed_row (kept job.names header) n row) dataset && b) (line-same n row line)

landed-first : (b : Bool) (places : List ℕ) (r : Numbered) (rs : List Numbered)
    → landed_each places (cond b (r ∷ rs) rs) ≡ cond b (landed_row places r.0 r.1 ∷ landed_each places rs) (landed_each places rs)
landed-first true places r rs = refl
landed-first false places r rs = refl

landed-filter : (places : List ℕ) (p : Numbered → Bool) (q : Fields → Bool) → ((r : Numbered) → p r ≡ q (landed_row places r.0 r.1)) → (input : List Numbered)
    → landed_each places (filter p input) ≡ filter q (landed_each places input)
landed-filter places p q same [] = refl
landed-filter places p q same (r ∷ rs) =
    let landed = landed_row places r.0 r.1 in
    landed-first (p r) places r (filter p rs)
    ∙ ap (λ (b : Bool). cond b (landed ∷ landed_each places (filter p rs)) (landed_each places (filter p rs))) (same r)
    ∙ ap (λ (rest : List Fields). cond (q landed) (landed ∷ rest) rest) (landed-filter places p q same rs)

pub landed-derived : LandedRowsAreDerived
landed-derived job header chain dataset input has =
    landed-filter (kept job.names header) (λ r. is_in job header dataset r.1) (λ landed. list_all (keeps_own chain landed) (chain_line chain dataset))
    (λ r. ap (λ (line : List ℕ). list_all (passes job header r.1) line) (lines-same job header chain has dataset dataset)
    ∙ line-same job header chain has r.0 r.1 (chain_line chain dataset)) input
