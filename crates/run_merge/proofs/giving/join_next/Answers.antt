use Rattle.std.proofs.Common.{◌≡◌, ◌<◌, ℕ, length, true, sym, subst, ◌∙◌, arith, rules}
use Rattle.std.proofs.lemmas.List.{get_or_default}
use Rattle.aggregate.specs.declared.kind.Kind.TheVariants.{Group}
use Rattle.aggregate.specs.Values.{IsValueOf}
use Rattle.run_file.specs.AtEntries.{entry_at}
use Rattle.run_merge.specs.Heads.{has_head}
use Rattle.run_merge.proofs.Formed.{value_formed}
use Rattle.run_merge.proofs.Joining.{joined_one}
use Rattle.run_merge.proofs.Orders.{begins_apart, head_within}
use Rattle.run_merge.proofs.giving.join_next.Goals as goal

pub returns-then-not-has_key-clause-apart : goal.returns-then-not-has_key-clause-apart
returns-then-not-has_key-clause-apart c says =
    let heads = c.args.heads.now.items in
    let next = c.first-next.result in
    let some : 0 < length c.args.order.now = search rules in
    let head : has_head heads next ≡ true = subst (λ (n : ℕ). has_head heads n ≡ true) (sym c.first-next.ensures) (c.requires.order.stand 0 next some) in
    let within : next < length c.args.readers.now = omega (arith, c.requires.heads, head_within heads next head) in
    begins_apart c.args.readers.now c.args.order.now c.args.key.now next c.index-readers-next.result within c.first-next.ensures c.index-readers-next.is (c.has_key.ensures.other c.if-not-has_key.true)

pub combine-requires-clause-from : goal.combine-requires-clause-from
combine-requires-clause-from c =
    let heads = c.args.heads.now.items in
    let next = c.first-next.result in
    let some : 0 < length c.args.order.now = search rules in
    let head : has_head heads next ≡ true = subst (λ (n : ℕ). has_head heads n ≡ true) (sym c.first-next.ensures) (c.requires.order.stand 0 next some) in
    let within : next < length c.args.readers.now = omega (arith, c.requires.heads, head_within heads next head) in
    subst (IsValueOf (Group c.args.aggs.now)) (sym c.value.ensures) (value_formed c.args.aggs.now c.index-readers-next.result (c.requires.stand next c.index-readers-next.result within c.index-readers-next.is head))

pub returns-clause-joins : goal.returns-clause-joins
returns-clause-joins c files entries taken =
    let place = c.take_first.result in
    let reader = c.index-readers-next.result in
    let order = c.args.order.now in
    let some : 0 < length order = search rules in
    let next : c.first-next.result ≡ place = c.first-next.ensures ∙ get_or_default order 0 c.first-next.result place some ∙ sym c.take_first.ensures.was in
    let same : (entry_at reader).key ≡ c.args.key.now = c.has_key.ensures.same c.if-not-has_key.false in
    let joined = joined_one files c.args.aggs.now c.combine_is_associative.ensures c.args.readers.now c.args.heads.now.items place reader (record { key = c.args.key.now; value = c.args.value.now }) entries c.take_first.ensures.first (rw next at c.index-readers-next.is) same taken in
    rw (c.combine.ensures, c.value.ensures, c.take_first.ensures.heads) joined

pub returns-clause-value : goal.returns-clause-value
returns-clause-value c =
    let stays = c.combined_values_stay_formed.ensures c.args.aggs.now c.args.value.now c.value.result.now c.requires.value in
    subst (IsValueOf (Group c.args.aggs.now)) (sym c.combine.ensures) stays
