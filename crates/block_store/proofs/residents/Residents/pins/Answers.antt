use Rattle.std.proofs.Common.{sym, ap}
use Rattle.std.specs.Prelude.{is_some}
use Rattle.block_store.proofs.Written.{opened, is_found, pins_found}
use Rattle.block_store.proofs.residents.Residents.pins.Goals as goal

pub returns-clause-found : goal.returns-clause-found
returns-clause-found c =
    let shown = opened c.self.inside.slots c.in-Some.slots c.self.inside.count c.self.inside.room c.args.self.now c.self.invariant c.self.view_is c.in-Some.is in
    ap is_some (is_found c.in-Some.slots c.self.inside.count c.self.inside.room c.args.self.now shown c.args.dataset c.args.part c.in_ok-resident.field-0-0 c.in_ok-resident.resident.now c.in_ok-resident.ensures.found)

pub returns-clause-value : goal.returns-clause-value
returns-clause-value c =
    let shown = opened c.self.inside.slots c.in-Some.slots c.self.inside.count c.self.inside.room c.args.self.now c.self.invariant c.self.view_is c.in-Some.is in
    sym (pins_found c.in-Some.slots c.self.inside.count c.self.inside.room c.args.self.now shown c.args.dataset c.args.part c.in_ok-resident.field-0-0 c.in_ok-resident.resident.now c.in_ok-resident.ensures.found)
