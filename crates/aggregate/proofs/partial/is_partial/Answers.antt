use Rattle.std.proofs.Common.{◌≡◌, get_or, refl, rules}
use Rattle.aggregate.proofs.Deciding.{one_whole, zero_back, zero_whole}
use Rattle.aggregate.proofs.partial.is_partial.Goals as goal

pub returns-in-1 : goal.returns-in-1
returns-in-1 c = (λ _. one_whole c.args.agg c.args.bytes.now (λ k. search rules) c.requires (search rules), λ _. refl)

pub returns-then-may_miss : goal.returns-then-may_miss
returns-then-may_miss c =
    let flag : get_or c.args.bytes.now 0 0 ≡ 0 = search rules in
    let suits = c.may_miss.ensures.0 c.if-may_miss.true in (
      λ zero. zero_whole c.args.agg c.args.bytes.now (λ k. search rules) c.requires flag (c.is_zero.ensures.0 zero) suits,
      λ is. c.is_zero.ensures.1 (zero_back c.args.agg c.args.bytes.now flag is).0,
    )
