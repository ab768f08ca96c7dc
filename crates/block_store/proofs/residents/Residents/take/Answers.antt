use Rattle.std.proofs.Common.{◌≡◌, sym, ap, ◌∙◌}
use Rattle.std.specs.Arc.{arc_value}
use Rattle.std.proofs.lemmas.Option.{same_Some}
use Rattle.block_store.specs.declared.resident.Resident.{Resident}
use Rattle.block_store.proofs.Written.{opened, is_known, slot_is, taken, one_less}
use Rattle.block_store.proofs.residents.Residents.take.Goals as goal

pub invariant_of-self : goal.invariant_of-self
invariant_of-self c =
    let shown = opened c.self.inside.slots c.in-Some.slots c.self.inside.count c.self.inside.room c.args.self.now c.self.invariant c.self.view_is c.in-Some.is in
    rw c.take.ensures.after (taken c.in-Some.slots c.self.inside.count c.self.inside.room c.args.self.now shown c.args.dataset c.args.part c.in-Some-find.number c.in-Some-find.field-0-1.now c.in-Some-find.ensures.found).0

pub returns-clause-value : goal.returns-clause-value
returns-clause-value c =
    let shown = opened c.self.inside.slots c.in-Some.slots c.self.inside.count c.self.inside.room c.args.self.now c.self.invariant c.self.view_is c.in-Some.is in
    let same : c.in-Some-take.field-0 ≡ c.in-Some-find.field-0-1.now = same_Some c.in-Some-take.field-0 c.in-Some-find.field-0-1.now (sym c.in-Some-take.is ∙ c.take.ensures.value ∙ slot_is c.in-Some.slots c.self.inside.count c.self.inside.room c.args.self.now shown c.args.dataset c.args.part c.in-Some-find.number c.in-Some-find.field-0-1.now c.in-Some-find.ensures.found c.in-Some-peek_mut.emptied.now c.in-Some-peek_mut.ensures.value) in
    is_known c.in-Some.slots c.self.inside.count c.self.inside.room c.args.self.now shown c.args.dataset c.args.part c.in-Some-find.number c.in-Some-find.field-0-1.now c.in-Some-find.ensures.found (arc_value c.in-Some-take.field-0.block) (ap (λ (r : Resident). arc_value r.block) same)

pub returns-clause-blocks : goal.returns-clause-blocks
returns-clause-blocks c =
    let shown = opened c.self.inside.slots c.in-Some.slots c.self.inside.count c.self.inside.room c.args.self.now c.self.invariant c.self.view_is c.in-Some.is in
    rw c.take.ensures.after (taken c.in-Some.slots c.self.inside.count c.self.inside.room c.args.self.now shown c.args.dataset c.args.part c.in-Some-find.number c.in-Some-find.field-0-1.now c.in-Some-find.ensures.found).1

pub returns-clause-count : goal.returns-clause-count
returns-clause-count c =
    let shown = opened c.self.inside.slots c.in-Some.slots c.self.inside.count c.self.inside.room c.args.self.now c.self.invariant c.self.view_is c.in-Some.is in
    rw (c.take.ensures.after, (taken c.in-Some.slots c.self.inside.count c.self.inside.room c.args.self.now shown c.args.dataset c.args.part c.in-Some-find.number c.in-Some-find.field-0-1.now c.in-Some-find.ensures.found).1) (one_less c.in-Some.slots c.self.inside.count c.self.inside.room c.args.self.now shown c.args.dataset c.args.part c.in-Some-find.number c.in-Some-find.field-0-1.now c.in-Some-find.ensures.found)
