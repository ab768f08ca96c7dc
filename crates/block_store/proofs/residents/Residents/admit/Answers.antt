use Rattle.block_store.proofs.Written.{opened, admitted}
use Rattle.block_store.proofs.residents.Residents.admit.Goals as goal

pub invariant_of-self : goal.invariant_of-self
invariant_of-self c =
    let shown = opened c.self.inside.slots c.in-Some.slots c.self.inside.count c.self.inside.room c.args.self.now c.self.invariant c.self.view_is c.in-Some.is in
    (admitted c.in-Some.slots c.self.inside.count c.self.inside.room c.args.self.now shown c.in-Some-find_empty.number (record { block = c.args.block; pins = 0 }) c.requires.room c.in-Some-find_empty.ensures.found c.requires.absent).0

pub returns-clause-blocks : goal.returns-clause-blocks
returns-clause-blocks c =
    let shown = opened c.self.inside.slots c.in-Some.slots c.self.inside.count c.self.inside.room c.args.self.now c.self.invariant c.self.view_is c.in-Some.is in
    (admitted c.in-Some.slots c.self.inside.count c.self.inside.room c.args.self.now shown c.in-Some-find_empty.number (record { block = c.args.block; pins = 0 }) c.requires.room c.in-Some-find_empty.ensures.found c.requires.absent).1
