use Rattle.std.proofs.Common.{ℕ, Option, IsSome, refl, subst, sym}
use Rattle.std.specs.Cmp.{nat_cmp_is}
use Rattle.std.specs.declared.cmp.Ordering.TheVariants.{Less}
use Rattle.std.proofs.lemmas.Map.Keys.{ge_from_not_lt}
use Rattle.journal_replay.specs.declared.placed.Placed.{Placed}
use Rattle.journal_replay.proofs.placed.last_before.Goals as goal

pub returns-in-Some-clause-greatest : goal.returns-in-Some-clause-greatest
returns-in-Some-clause-greatest c = λ q placed there before.
    let entry : ℕ × Placed = (c.in-Some.place.now, c.in-Some.placed.now) in
    ge_from_not_lt c.in-Some.place.now q
    ((c.range.ensures.in_range tt).4 entry c.next_back.new.self c.in-Some.ensures.steps q (tt, sym (nat_cmp_is q c.args.place Less before))
    (subst (λ (o : Option Placed). IsSome o) (sym there) refl))
