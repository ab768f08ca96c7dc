use Rattle.std.proofs.Common.{Some, None, sym, ap, ◌∙◌}
use Rattle.std.specs.Iterator.Adapters.{rev_source}
use Rattle.eviction.specs.Victims.{is_evictable}
use Rattle.block_store.proofs.Walks.{left_to_look, goes_first, goes_later}
use Rattle.block_store.proofs.slots.first_to_go.Goals as goal

pub returns-then-may_go : goal.returns-then-may_go
returns-then-may_go c =
    ap Some c.candidate_in-candidate.ensures
    ∙ goes_first (is_evictable c.args.except) c.args.slots.now.entries (rev_source c.loop-slot.slot-iterator) (rev_source c.next.new.self) c.in-Some.field-0-0.now c.in-Some.slot.now c.loop-slot.invariant.2 c.in-Some.ensures.steps c.in-Some-slot.resident c.in-Some-slot.is
    (ap (is_evictable c.args.except) (sym c.candidate_in-candidate.ensures) ∙ sym c.may_go.ensures ∙ c.if-may_go.true)

pub loop-slot-preserved-else-may_go : goal.loop-slot-preserved-else-may_go
loop-slot-preserved-else-may_go c = (
  tt,
  tt,
  goes_later (is_evictable c.args.except) c.args.slots.now.entries (rev_source c.loop-slot.slot-iterator) (rev_source c.next.new.self) c.in-Some.field-0-0.now c.in-Some.slot.now c.loop-slot.invariant.2 c.in-Some.ensures.steps c.in-Some-slot.resident c.in-Some-slot.is
      (ap (is_evictable c.args.except) (sym c.candidate_in-candidate.ensures) ∙ sym c.may_go.ensures ∙ c.if-may_go.false),
)

pub loop-slot-preserved : goal.loop-slot-preserved
loop-slot-preserved c = (
  tt,
  tt,
  left_to_look (is_evictable c.args.except) c.args.slots.now.entries (rev_source c.loop-slot.slot-iterator) (rev_source c.next.new.self) c.in-Some.field-0-0.now c.in-Some.slot.now c.loop-slot.invariant.2 c.in-Some.ensures.steps None c.in_default.is,
)
