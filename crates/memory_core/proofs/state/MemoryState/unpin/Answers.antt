use Rattle.std.proofs.Common.{◌≡◌, ◌<◌, Some, sym, ap, subst, arith}
use Rattle.pool_ledger.specs.Blocks.{worker_pin}
use Rattle.pool_ledger.specs.Journal.{journal_of}
use Rattle.pool_ledger.specs.Workers.{Continues}
use Rattle.memory_core.specs.Caches.{Memory}
use Rattle.memory_core.proofs.Planned.{own_planned, steady_after}
use Rattle.memory_core.proofs.state.MemoryState.unpin.Goals as goal

-- the worker owes its unpin
pub unpin-requires-clause-spare : goal.unpin-requires-clause-spare
unpin-requires-clause-spare g c =
    let inside = c.self.inside.pool in
    let known = subst (λ (m : Memory). c.args.worker < m.setup.workers) (sym c.self.view_is) c.requires.known in
    let its = subst (λ (m : Memory). worker_pin m.history c.args.worker ≡ Some (record { dataset = c.args.dataset; part = c.args.part })) (sym c.self.view_is) c.requires.its_pin in
    let next = c.states_go_on.ensures.unpins inside.setup inside.history c.args.worker c.args.dataset c.args.part _ known its in
    omega (arith, next.owed_is, c.self.invariant.1, c.self.invariant.2)

pub overflow_sub-self : goal.overflow_sub-self
overflow_sub-self g c =
    let inside = c.self.inside.pool in
    let known = subst (λ (m : Memory). c.args.worker < m.setup.workers) (sym c.self.view_is) c.requires.known in
    let its = subst (λ (m : Memory). worker_pin m.history c.args.worker ≡ Some (record { dataset = c.args.dataset; part = c.args.part })) (sym c.self.view_is) c.requires.its_pin in
    let next = c.states_go_on.ensures.unpins inside.setup inside.history c.args.worker c.args.dataset c.args.part _ known its in
    omega (arith, next.owed_is, c.self.invariant.1)

pub invariant_of-self : goal.invariant_of-self
invariant_of-self g c =
    let inside = c.self.inside.pool in
    let known = subst (λ (m : Memory). c.args.worker < m.setup.workers) (sym c.self.view_is) c.requires.known in
    let its = subst (λ (m : Memory). worker_pin m.history c.args.worker ≡ Some (record { dataset = c.args.dataset; part = c.args.part })) (sym c.self.view_is) c.requires.its_pin in
    let next = c.states_go_on.ensures.unpins inside.setup inside.history c.args.worker c.args.dataset c.args.part _ known its in
    let stays = steady_after inside.setup _ inside.history _ _ c.unpin.new.self.cache c.args.worker 1 0 c.unpin.ensures.amid c.unpin.ensures.setup c.unpin.ensures.history next in
    (stays.steady, omega (arith, stays.owed_is, c.self.invariant.1), omega (arith, stays.owed_is, c.self.invariant.1, c.self.invariant.2, c.unpin.ensures.spare))

pub returns-clause-own : goal.returns-clause-own
returns-clause-own g c =
    let inside = c.self.inside.pool in
    let known = subst (λ (m : Memory). c.args.worker < m.setup.workers) (sym c.self.view_is) c.requires.known in
    let its = subst (λ (m : Memory). worker_pin m.history c.args.worker ≡ Some (record { dataset = c.args.dataset; part = c.args.part })) (sym c.self.view_is) c.requires.its_pin in
    let next = c.states_go_on.ensures.unpins inside.setup inside.history c.args.worker c.args.dataset c.args.part _ known its in
    subst (λ (m : Memory). Continues c.args.worker (journal_of m.history) (journal_of c.unpin.new.self.history)) c.self.view_is (own_planned inside.setup inside.history _ _ c.args.worker 1 0 c.unpin.ensures.history next)

pub returns-clause-room : goal.returns-clause-room
returns-clause-room g c =
    let inside = c.self.inside.pool in
    let known = subst (λ (m : Memory). c.args.worker < m.setup.workers) (sym c.self.view_is) c.requires.known in
    let its = subst (λ (m : Memory). worker_pin m.history c.args.worker ≡ Some (record { dataset = c.args.dataset; part = c.args.part })) (sym c.self.view_is) c.requires.its_pin in
    let next = c.states_go_on.ensures.unpins inside.setup inside.history c.args.worker c.args.dataset c.args.part _ known its in
    omega (arith, next.owed_is, c.self.invariant.1, c.self.invariant.2, c.unpin.ensures.spare, ap (λ (m : Memory). m.spare) c.self.view_is)
