use Rattle.std.proofs.Common.{◌-◌, arith}
use Rattle.block_store.proofs.Written.{opened, pins_found, set_is, unpinned_once, same_count}
use Rattle.block_store.proofs.residents.Residents.unpin.Goals as goal

pub overflow_sub-pins : goal.overflow_sub-pins
overflow_sub-pins c =
    let shown = opened c.self.inside.slots c.in-Some.slots c.self.inside.count c.self.inside.room c.args.self.now c.self.invariant c.self.view_is c.in-Some.is in
    omega (arith, c.requires, pins_found c.in-Some.slots c.self.inside.count c.self.inside.room c.args.self.now shown c.args.dataset c.args.part c.in-Some-find.number c.in-Some-find.resident.now c.in-Some-find.ensures.found)

pub invariant_of-self : goal.invariant_of-self
invariant_of-self c =
    let shown = opened c.self.inside.slots c.in-Some.slots c.self.inside.count c.self.inside.room c.args.self.now c.self.invariant c.self.view_is c.in-Some.is in
    rw (set_is c.in-Some.slots c.self.inside.count c.self.inside.room c.args.self.now shown c.args.dataset c.args.part c.in-Some-find.number c.in-Some-find.resident.now c.in-Some-find.ensures.found c.in-Some-peek_mut.slot.now c.set_pins.new.slot (c.in-Some-find.resident.now.pins - 1) c.set_pins.ensures c.in-Some-peek_mut.ensures.value) (unpinned_once c.in-Some.slots c.self.inside.count c.self.inside.room c.args.self.now shown c.args.dataset c.args.part c.in-Some-find.number c.in-Some-find.resident.now c.in-Some-find.ensures.found).0

pub returns-clause-blocks : goal.returns-clause-blocks
returns-clause-blocks c =
    let shown = opened c.self.inside.slots c.in-Some.slots c.self.inside.count c.self.inside.room c.args.self.now c.self.invariant c.self.view_is c.in-Some.is in
    rw (set_is c.in-Some.slots c.self.inside.count c.self.inside.room c.args.self.now shown c.args.dataset c.args.part c.in-Some-find.number c.in-Some-find.resident.now c.in-Some-find.ensures.found c.in-Some-peek_mut.slot.now c.set_pins.new.slot (c.in-Some-find.resident.now.pins - 1) c.set_pins.ensures c.in-Some-peek_mut.ensures.value) (unpinned_once c.in-Some.slots c.self.inside.count c.self.inside.room c.args.self.now shown c.args.dataset c.args.part c.in-Some-find.number c.in-Some-find.resident.now c.in-Some-find.ensures.found).1

pub returns-clause-count : goal.returns-clause-count
returns-clause-count c =
    let shown = opened c.self.inside.slots c.in-Some.slots c.self.inside.count c.self.inside.room c.args.self.now c.self.invariant c.self.view_is c.in-Some.is in
    rw (set_is c.in-Some.slots c.self.inside.count c.self.inside.room c.args.self.now shown c.args.dataset c.args.part c.in-Some-find.number c.in-Some-find.resident.now c.in-Some-find.ensures.found c.in-Some-peek_mut.slot.now c.set_pins.new.slot (c.in-Some-find.resident.now.pins - 1) c.set_pins.ensures c.in-Some-peek_mut.ensures.value) (same_count c.in-Some.slots c.self.inside.count c.self.inside.room c.args.self.now shown _ (unpinned_once c.in-Some.slots c.self.inside.count c.self.inside.room c.args.self.now shown c.args.dataset c.args.part c.in-Some-find.number c.in-Some-find.resident.now c.in-Some-find.ensures.found).0)
