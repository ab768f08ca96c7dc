use Rattle.std.proofs.Common.{◌∙◌, ℕ, List, ap, sym, arith, get_or}
use Rattle.job_text.proofs.Ends.{first_boundary, closed_within}
use Rattle.job_text.proofs.tokens.token.Goals as goal

pub range_from-requires : goal.range_from-requires
range_from-requires c =
    let first = ap (λ (l : List ℕ). get_or l 0 0) c.as_bytes-bytes.ensures.value in
    λ _. first_boundary c.args.text.now c.utf8.text (omega (arith, first, c.if-first-eq34.true)) (omega (arith, first, c.if-first-eq34.true))

pub overflow_add-result : goal.overflow_add-result
overflow_add-result c =
    let within = closed_within 34 c.range_from.result.now c.in-Some.name c.in-Some.length (omega arith) (sym c.in_ok-name.ensures ∙ c.in-Some.is) in
    omega (arith, within, c.range_from.ensures.len)

pub range_from-requires-then-first-eq39 : goal.range_from-requires-then-first-eq39
range_from-requires-then-first-eq39 c =
    let first = ap (λ (l : List ℕ). get_or l 0 0) c.as_bytes-bytes.ensures.value in
    λ _. first_boundary c.args.text.now c.utf8.text (omega (arith, first, c.if-first-eq39.true)) (omega (arith, first, c.if-first-eq39.true))

pub overflow_add-result-then-first-eq39 : goal.overflow_add-result-then-first-eq39
overflow_add-result-then-first-eq39 c =
    let within = closed_within 39 c.range_from-then-first-eq39.result.now c.in-Some-2.name c.in-Some-2.length (omega arith) (sym c.in_ok-name-2.ensures ∙ c.in-Some-2.is) in
    omega (arith, within, c.range_from-then-first-eq39.ensures.len)
