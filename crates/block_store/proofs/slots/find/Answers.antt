use Rattle.std.proofs.Common.{sym, ap, ◌∙◌}
use Rattle.block_store.proofs.Walks.{has_block, first_slot, walk_found, block_missing}
use Rattle.block_store.proofs.slots.find.Goals as goal

pub returns-in-Some-slot-clause-found : goal.returns-in-Some-slot-clause-found
returns-in-Some-slot-clause-found c =
    walk_found c.args.dataset c.args.part c.args.slots.now.entries c.loop-number.number-iterator c.next.new.self c.in-Some.number.now c.in-Some.slot.now c.in-Some-slot.resident c.len-count.ensures.valid.0 c.loop-number.invariant.2 c.in-Some.ensures.steps c.in-Some-slot.is (sym c.is_of.ensures ∙ c.if-is_of.true)

pub returns-clause-none : goal.returns-clause-none
returns-clause-none c =
    block_missing c.args.dataset c.args.part c.args.slots.now.entries (sym c.loop-number.invariant.2 ∙ ap (first_slot (has_block c.args.dataset c.args.part)) c.in-None.ensures.steps.0)
