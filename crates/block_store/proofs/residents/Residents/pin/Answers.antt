use Rattle.std.proofs.Common.{◌+◌, refl, arith}
use Rattle.block_store.proofs.Written.{opened, pins_found, used_is, pinned, pinned_last, same_count}
use Rattle.block_store.proofs.residents.Residents.pin.Goals as goal

pub overflow_add-pins : goal.overflow_add-pins
overflow_add-pins c =
    let shown = opened c.self.inside.slots c.in-Some.slots c.self.inside.count c.self.inside.room c.args.self.now c.self.invariant c.self.view_is c.in-Some.is in
    omega (arith, c.requires.few, pins_found c.in-Some.slots c.self.inside.count c.self.inside.room c.args.self.now shown c.args.dataset c.args.part c.in-Some-find.number c.in-Some-find.resident.now c.in-Some-find.ensures.found)

pub invariant_of-self : goal.invariant_of-self
invariant_of-self c =
    let shown = opened c.self.inside.slots c.in-Some.slots c.self.inside.count c.self.inside.room c.args.self.now c.self.invariant c.self.view_is c.in-Some.is in
    rw (used_is c.in-Some.slots c.self.inside.count c.self.inside.room c.args.self.now shown c.args.dataset c.args.part c.in-Some-find.number c.in-Some-find.resident.now c.in-Some-find.ensures.found c.use_slot.new.slots (c.in-Some-find.resident.now.pins + 1) c.use_slot.ensures) (pinned c.in-Some.slots c.self.inside.count c.self.inside.room c.args.self.now shown c.args.dataset c.args.part c.in-Some-find.number c.in-Some-find.resident.now c.in-Some-find.ensures.found (c.in-Some-find.resident.now.pins + 1) refl).0

pub returns-clause-last : goal.returns-clause-last
returns-clause-last c =
    let shown = opened c.self.inside.slots c.in-Some.slots c.self.inside.count c.self.inside.room c.args.self.now c.self.invariant c.self.view_is c.in-Some.is in
    pinned_last c.in-Some.slots c.self.inside.count c.self.inside.room c.args.self.now shown c.args.dataset c.args.part c.in-Some-find.number c.in-Some-find.resident.now c.in-Some-find.ensures.found _ (rw (used_is c.in-Some.slots c.self.inside.count c.self.inside.room c.args.self.now shown c.args.dataset c.args.part c.in-Some-find.number c.in-Some-find.resident.now c.in-Some-find.ensures.found c.use_slot.new.slots (c.in-Some-find.resident.now.pins + 1) c.use_slot.ensures) (pinned c.in-Some.slots c.self.inside.count c.self.inside.room c.args.self.now shown c.args.dataset c.args.part c.in-Some-find.number c.in-Some-find.resident.now c.in-Some-find.ensures.found (c.in-Some-find.resident.now.pins + 1) refl).1)

pub returns-clause-count : goal.returns-clause-count
returns-clause-count c =
    let shown = opened c.self.inside.slots c.in-Some.slots c.self.inside.count c.self.inside.room c.args.self.now c.self.invariant c.self.view_is c.in-Some.is in
    rw (used_is c.in-Some.slots c.self.inside.count c.self.inside.room c.args.self.now shown c.args.dataset c.args.part c.in-Some-find.number c.in-Some-find.resident.now c.in-Some-find.ensures.found c.use_slot.new.slots (c.in-Some-find.resident.now.pins + 1) c.use_slot.ensures) (same_count c.in-Some.slots c.self.inside.count c.self.inside.room c.args.self.now shown _ (pinned c.in-Some.slots c.self.inside.count c.self.inside.room c.args.self.now shown c.args.dataset c.args.part c.in-Some-find.number c.in-Some-find.resident.now c.in-Some-find.ensures.found (c.in-Some-find.resident.now.pins + 1) refl).0)
