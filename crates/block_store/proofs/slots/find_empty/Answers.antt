use Rattle.std.proofs.Common.{sym, ap, ◌∙◌}
use Rattle.block_store.proofs.Walks.{is_empty, first_slot, walk_found_empty, all_taken}
use Rattle.block_store.proofs.slots.find_empty.Goals as goal

pub returns-in-None-slot-clause-found : goal.returns-in-None-slot-clause-found
returns-in-None-slot-clause-found c =
    walk_found_empty c.args.slots.now.entries c.loop-number.number-iterator c.next.new.self c.in-Some.number.now c.in-Some.slot.now c.len-count.ensures.valid.0 c.loop-number.invariant.2 c.in-Some.ensures.steps c.in-None-slot.is

pub returns-clause-none : goal.returns-clause-none
returns-clause-none c =
    all_taken c.args.slots.now.entries (sym c.loop-number.invariant.2 ∙ ap (first_slot is_empty) c.in-None.ensures.steps.0)
