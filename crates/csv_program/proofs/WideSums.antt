-- A sum that is too wide, and what comes before it is told.
use Rattle.std.proofs.Common.{◌≡◌, ◌<◌, ℕ, List, Option, Some, None, length, refl, sym, subst, inl, inr}
use Rattle.std.specs.Prelude.{◌⊎◌}
use Rattle.aggregate.specs.Totals.{Entry}
use Rattle.job_answer.specs.Laws.{wide_total}
use Rattle.job_plan.specs.Plans.{kept_at, kept_in}
use Rattle.job_plan.specs.declared.query_plan.Plan.{Plan}
use Rattle.job_ending.specs.Endings.{EndsAs, MayEndAs, ending_of_totals, ending_with, tables_of, wide_of}
use Rattle.job_ending.specs.Statuses.{IsUnprinted, TellsWide}
use Rattle.job_ending.specs.declared.status.Status.{Status}
use Rattle.csv_program.proofs.EndedRuns.{may_end}
use Rattle.csv_program.proofs.Pieces.{first_among}

-- where the queries before it are narrow, what is told of a query is how all end
pub wide_ends : (plan : Plan) (totals : ℕ → List Entry) (query : ℕ) (ended : Status) → query < length (kept_in plan) → ((before : ℕ) → before < query → wide_total (kept_at plan before) (totals before) ≡ None)
    → IsUnprinted ended ⊎ TellsWide query (wide_total (kept_at plan query) (totals query)) ended → MayEndAs (ending_of_totals plan totals) ended
wide_ends plan totals query ended within narrow (inl before) = may_end (tables_of plan totals) (wide_of plan totals) ended before
wide_ends plan totals query ended within narrow (inr wide) = by_total (wide_total (kept_at plan query) (totals query)) refl wide
  where
    by_total : (found : Option Entry) → wide_total (kept_at plan query) (totals query) ≡ found → TellsWide query found ended → MayEndAs (ending_of_totals plan totals) ended
    by_total None is told = absurd told
    by_total (Some entry) is told = inr (subst (λ (wide : Option (ℕ × List ℕ)). EndsAs (ending_with (tables_of plan totals) wide) ended) (sym (first_among plan totals query entry within narrow is)) told)
