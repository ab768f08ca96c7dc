use Rattle.std.proofs.Common.{ap, sym, arith, length, take}
use Rattle.std.proofs.lemmas.Bool.{ne_eqb}
use Rattle.pool_ledger.specs.Blocks.{sizes}
use Rattle.eviction.specs.Victims.{evictable}
use Rattle.pool_plans.proofs.Chosen.{found_chosen, none_chosen}
use Rattle.pool_plans.proofs.choice.freed_by.Goals as goal

pub returns-in-Some : goal.returns-in-Some
returns-in-Some c =
    let is = c.requires.listed (omega (arith, c.if-need-eq0.false)) in
    let sum = found_chosen c.args.ledger.now.history c.args.list.now is c.args.except c.args.need (ne_eqb c.args.need 0 c.if-need-eq0.false) (evictable c.args.except (take c.in-Some.among c.args.list.now)) c.sum_of.result.count c.sum_of.result.bytes c.in-Some.ensures.front c.sum_of.ensures.count c.sum_of.ensures.bytes in
    record { count = sum.count_is; bytes = sum.bytes_is; first = sum.first; few = sum.few; stored = sum.in_stored }

pub returns-in-None : goal.returns-in-None
returns-in-None c =
    let is = c.requires.listed (omega (arith, c.if-need-eq0.false)) in
    let none = none_chosen c.args.ledger.now.history c.args.list.now is c.args.except c.args.need (ne_eqb c.args.need 0 c.if-need-eq0.false) c.in-None.ensures.front in
    record { count = ap length (sym none); bytes = ap sizes (sym none); first = sym none; few = omega arith; stored = omega arith }
