-- What is told of a value, aggregate by aggregate.
use Rattle.std.proofs.Common.{◌≡◌, ◌+◌, ◌++◌, ◌∷◌, ◌∙◌, [], ℕ, List, map, ap, arith}
use Rattle.std.proofs.lemmas.List.{map-append}
use Rattle.std.proofs.lemmas.List.FromFn.{map-range_with_len_more}
use Rattle.aggregate.specs.Partial.{partial_at}
use Rattle.job_plan.specs.Telling.{told_field, value_partials}

-- the fields of one aggregate more
pub decimals_more : (value : List ℕ) (place : ℕ)
    → map told_field (value_partials (place + 1) value) ≡ map told_field (value_partials place value) ++ told_field (partial_at place value) ∷ []
decimals_more value place =
    ap (map told_field) (map-range_with_len_more (λ k. partial_at k value) 0 place place (omega arith))
    ∙ map-append told_field (value_partials place value) (partial_at place value ∷ [])
