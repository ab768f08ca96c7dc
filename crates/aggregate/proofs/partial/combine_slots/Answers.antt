use Rattle.std.proofs.Common.{◌≡◌, ◌∙◌, ap, arith, drop, length}
use Rattle.std.proofs.lemmas.List.{drop_at}
use Rattle.aggregate.proofs.Combining.{length-joined_bytes, one_formed, one_joined, sum_at, two_long, two_summed}
use Rattle.aggregate.proofs.partial.combine_slots.Goals as goal
use Rattle.aggregate.specs.declared.agg_list.Agg.TheVariants.{Sum}

pub add_bytes-requires-clause-into : goal.add_bytes-requires-clause-into
add_bytes-requires-clause-into c =
    let two = two_long c.args.aggs.now (c.has_two_sums.ensures c.if-has_two_sums.true) in
    sum_at c.args.aggs.now 0 c.args.into.now (omega (arith, two)) c.requires.into

pub add_bytes-requires-clause-from : goal.add_bytes-requires-clause-from
add_bytes-requires-clause-from c =
    let two = two_long c.args.aggs.now (c.has_two_sums.ensures c.if-has_two_sums.true) in
    sum_at c.args.aggs.now 0 c.args.from.now (omega (arith, two)) c.requires.from

pub add_bytes-requires-then-has_two_sums-clause-into : goal.add_bytes-requires-then-has_two_sums-clause-into
add_bytes-requires-then-has_two_sums-clause-into c =
    let two = two_long c.args.aggs.now (c.has_two_sums.ensures c.if-has_two_sums.true) in
    let long : length c.add_bytes.new.into ≡ 17 = ap length c.add_bytes.ensures ∙ length-joined_bytes Sum _ _ in
    rw (drop_at c.add_bytes.new.into (drop 17 c.args.into.now) 17 long) (sum_at c.args.aggs.now 1 c.args.into.now (omega (arith, two)) c.requires.into)

pub add_bytes-requires-then-has_two_sums-clause-from : goal.add_bytes-requires-then-has_two_sums-clause-from
add_bytes-requires-then-has_two_sums-clause-from c =
    let two = two_long c.args.aggs.now (c.has_two_sums.ensures c.if-has_two_sums.true) in
    sum_at c.args.aggs.now 1 c.args.from.now (omega (arith, two)) c.requires.from

pub join_bytes-requires-clause-into : goal.join_bytes-requires-clause-into
join_bytes-requires-clause-into c =
    let many = ap length c.items.ensures.items in
    let one : length c.args.aggs.now ≡ 1 = omega (arith, many, c.in-len1.len_at_least, c.in-len1.len_below) in
    rw c.items.ensures.items (one_formed c.args.aggs.now c.args.into.now one (omega (arith, one, c.requires.long)) c.requires.into)

pub join_bytes-requires-clause-from : goal.join_bytes-requires-clause-from
join_bytes-requires-clause-from c =
    let many = ap length c.items.ensures.items in
    let one : length c.args.aggs.now ≡ 1 = omega (arith, many, c.in-len1.len_at_least, c.in-len1.len_below) in
    rw c.items.ensures.items (one_formed c.args.aggs.now c.args.from.now one (omega (arith, one, c.requires.alike)) c.requires.from)

pub returns-in-len1 : goal.returns-in-len1
returns-in-len1 c =
    let many = ap length c.items.ensures.items in
    one_joined c.args.aggs.now c.args.into.now c.args.from.now c.join_bytes.new.into (omega (arith, many, c.in-len1.len_at_least, c.in-len1.len_below)) (omega (arith, many, c.in-len1.len_at_least, c.in-len1.len_below, c.requires.long)) (omega (arith, many, c.in-len1.len_at_least, c.in-len1.len_below, c.requires.alike)) (rw c.items.ensures.items at c.join_bytes.ensures)

pub returns-then-has_two_sums : goal.returns-then-has_two_sums
returns-then-has_two_sums c =
    two_summed c.args.aggs.now c.args.into.now c.args.from.now c.add_bytes.new.into c.add_bytes-then-has_two_sums.new.into (c.has_two_sums.ensures c.if-has_two_sums.true) c.requires.long c.add_bytes.ensures c.add_bytes-then-has_two_sums.ensures
