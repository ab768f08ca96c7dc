use Rattle.std.proofs.Common.{◌≡◌, ◌∙◌, ◌*◌, ◌+◌, ◌-◌, ◌<◌, ℕ, arith, get_or, inl, inr, length, sym, ap, subst, true≢false, rules}
use Rattle.std.proofs.lemmas.Bool.{cases_eq}
use Rattle.aggregate.specs.declared.agg_list.Agg.TheVariants.{Count}
use Rattle.aggregate.specs.Values.{IsPartial}
use Rattle.aggregate.proofs.Combining.{all_formed, length_partials, slot, slot_formed}
use Rattle.aggregate.proofs.Tested.{fails, passes}
use Rattle.aggregate.proofs.partial.are_partials.Goals as goal

pub returns-then-value-list : goal.returns-then-value-list
returns-then-value-list c = sym (fails c.args.aggs.now c.args.value.now (λ are.
    c.if-value-list.true (length_partials c.args.aggs.now c.args.value.now are ∙ ap (λ (n : ℕ). 17 * n) (ap length (sym c.items-list.ensures.items)))))

pub returns-then-not-is_partial : goal.returns-then-not-is_partial
returns-then-not-is_partial c =
    let i = c.loop-i.i in
    let k : 17 * i + 17 - 17 * i ≡ 17 = omega arith in
    let many = ap length c.items-list.ensures.items in
    let lt : i < length c.args.aggs.now = omega (arith, c.loop-i-test.true, many) in
    sym (fails c.args.aggs.now c.args.value.now (λ are.
    true≢false (sym (c.is_partial.ensures.1 (rw (k, c.items-list.ensures.items) (slot_formed c.args.aggs.now i c.args.value.now lt are))) ∙ c.if-not-is_partial.true)))

pub loop-i-preserved : goal.loop-i-preserved
loop-i-preserved c =
    let i = c.loop-i.i in
    let k : 17 * i + 17 - 17 * i ≡ 17 = omega arith in
    let here = rw (k, c.items-list.ensures.items) at (c.is_partial.ensures.0 (search rules)) in
    λ j lt. elim (cases_eq j i) [
      | inl same ↦ subst (λ (v : ℕ). IsPartial (get_or c.args.aggs.now v Count) (slot v c.args.value.now)) (sym same) here
      | inr other ↦ c.loop-i.invariant j (omega (arith, lt, other))
    ]

pub returns : goal.returns
returns c =
    let many = ap length c.items-list.ensures.items in
    sym (passes c.args.aggs.now c.args.value.now (all_formed c.args.aggs.now c.args.value.now (omega (arith, c.if-value-list.false, many)) (λ j lt. c.loop-i.invariant j (omega (arith, lt, c.loop-i-test.false, many)))))
