use Rattle.std.proofs.Common.{sym, ap}
use Rattle.std.specs.Prelude.{is_some}
use Rattle.block_store.proofs.Written.{opened, is_found, is_known}
use Rattle.block_store.proofs.residents.Residents.lend.Goals as goal

pub returns-clause-found : goal.returns-clause-found
returns-clause-found c =
    let shown = opened c.self.inside.slots c.in-Some.slots c.self.inside.count c.self.inside.room c.args.self.now c.self.invariant c.self.view_is c.in-Some.is in
    sym (ap is_some (is_found c.in-Some.slots c.self.inside.count c.self.inside.room c.args.self.now shown c.args.dataset c.args.part c.in-Some-find.field-0-0 c.in-Some-find.resident.now c.in-Some-find.ensures.found))

pub returns-clause-value : goal.returns-clause-value
returns-clause-value c =
    let shown = opened c.self.inside.slots c.in-Some.slots c.self.inside.count c.self.inside.room c.args.self.now c.self.invariant c.self.view_is c.in-Some.is in
    is_known c.in-Some.slots c.self.inside.count c.self.inside.room c.args.self.now shown c.args.dataset c.args.part c.in-Some-find.field-0-0 c.in-Some-find.resident.now c.in-Some-find.ensures.found _ c.in_ok-block.ensures
