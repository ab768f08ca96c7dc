use Rattle.std.proofs.Common.{arith, ap, ◌∙◌, ◌++◌, ◌∷◌, []}
use Rattle.std.specs.Iterator.Adapters.{rev_source}
use Rattle.eviction.specs.declared.candidate.Candidate.{Candidate}
use Rattle.block_store.proofs.Walks.{written_more, written_same, written_fits}
use Rattle.block_store.proofs.slots.list_blocks.Goals as goal

pub push-requires : goal.push-requires
push-requires c =
    omega (arith, c.loop-slot.list.ok, c.requires, c.loop-slot.invariant.3, written_fits c.args.slots.now.entries (rev_source c.loop-slot.slot-iterator) (rev_source c.next.new.self) c.in-Some.field-0-0.now c.in-Some.slot.now c.in-Some-slot.resident c.loop-slot.list.items c.loop-slot.invariant.2 c.in-Some.ensures.steps c.in-Some-slot.is)

pub loop-slot-preserved-in-Some-slot : goal.loop-slot-preserved-in-Some-slot
loop-slot-preserved-in-Some-slot c =
    (tt, tt, written_more c.args.slots.now.entries (rev_source c.loop-slot.slot-iterator) (rev_source c.next.new.self) c.in-Some.field-0-0.now c.in-Some.slot.now c.in-Some-slot.resident c.loop-slot.list.items c.push.new.items.items c.loop-slot.invariant.2 c.in-Some.ensures.steps c.in-Some-slot.is (c.push.ensures.items ∙ ap (λ (x : Candidate). c.loop-slot.list.items ++ x ∷ []) c.candidate_in.ensures), omega (arith, c.loop-slot.invariant.3, c.push.ensures.capacity))

pub loop-slot-preserved : goal.loop-slot-preserved
loop-slot-preserved c =
    (tt, tt, written_same c.args.slots.now.entries (rev_source c.loop-slot.slot-iterator) (rev_source c.next.new.self) c.in-Some.field-0-0.now c.in-Some.slot.now c.loop-slot.list.items c.loop-slot.invariant.2 c.in-Some.ensures.steps c.in_default.is, c.loop-slot.invariant.3)
