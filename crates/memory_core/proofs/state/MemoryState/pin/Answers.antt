use Rattle.std.proofs.Common.{◌≡◌, ◌<◌, ◌+◌, ◌∷◌, ◌++◌, [], Option, Some, None, IfSome, Global, true, sym, ap, subst, ◌∙◌}
use Rattle.std.specs.Prelude.{is_some}
use Rattle.std.specs.declared.sync.Arc.{Arc}
use Rattle.std.specs.Arc.{arc_value}
use Rattle.pool_ledger.specs.declared.entry.Event.TheVariants.{Pin}
use Rattle.pool_ledger.specs.Sizes.{Sizes}
use Rattle.pool_ledger.specs.History.{History}
use Rattle.pool_ledger.specs.Blocks.{worker_pin}
use Rattle.pool_ledger.specs.Journal.{journal_of}
use Rattle.pool_ledger.specs.Workers.{Continues}
use Rattle.pool_laws.specs.Growing.{entry_by}
use Rattle.block_store.specs.declared.block.Block.{Block}
use Rattle.block_store.specs.Stores.{HeldBlock, held_at, held_of, pins_at, without}
use Rattle.block_store.specs.Copies.{copy_rows, has_copy}
use Rattle.memory_core.specs.Caches.{AreGiven, Cache, FitsRows, Memory, RowsByName}
use Rattle.memory_core.proofs.Naming.{hit_named}
use Rattle.memory_core.proofs.Planned.{own_planned}
use Rattle.memory_core.proofs.state.MemoryState.pin.Given as given
use Rattle.memory_core.proofs.state.MemoryState.pin.Goals as goal
use Rattle.memory_core.proofs.state.MemoryState.pin.Goals.{In-Some}

-- the block that is lent is the one in memory
value : (g : given.Over) (c : In-Some g)
    → held_at c.args.self.now.cache.blocks c.args.dataset c.args.part ≡ Some (held_of (pins_at c.args.self.now.cache.blocks c.args.dataset c.args.part) (arc_value c.in-Some.block))
value g c =
    subst (λ (m : Memory). held_at m.cache.blocks c.args.dataset c.args.part ≡ Some (held_of (pins_at m.cache.blocks c.args.dataset c.args.part) (arc_value c.in-Some.block))) c.self.view_is
    (subst (λ (o : Option (Arc Block Global)). IfSome o (λ block. held_at c.self.inside.pool.cache.blocks c.args.dataset c.args.part ≡ Some (held_of (pins_at c.self.inside.pool.cache.blocks c.args.dataset c.args.part) (arc_value block)))) c.in-Some.is c.in_ok-block.ensures.value)

pub returns-in-Some-clause-named : goal.returns-in-Some-clause-named
returns-in-Some-clause-named g c = hit_named c.args.dataset c.args.part _ (arc_value c.in-Some.block) _ (value g (goal.at.returns-in-Some-clause-named g c).In-Some)

pub returns-in-Some-clause-own : goal.returns-in-Some-clause-own
returns-in-Some-clause-own g c =
    let inside = c.self-in-Some.inside.pool in
    let history_is = ap (λ (m : Memory). m.history) c.self-in-Some.view_is ∙ c.in_ok-reserve.ensures.history in
    let setup_is = ap (λ (m : Memory). m.setup) c.self-in-Some.view_is ∙ c.in_ok-reserve.ensures.setup in
    let known = subst (λ (s : Sizes). c.args.worker < s.workers) (sym setup_is) c.requires.known in
    let free = subst (λ (h : History). worker_pin h c.args.worker ≡ None) (sym history_is) c.requires.free in
    let next = c.states_go_on.ensures.pins inside.setup inside.history c.args.worker c.args.dataset c.args.part known free in
    subst (λ (h : History). Continues c.args.worker (journal_of h) (journal_of c.pin.new.self.history)) history_is
    (own_planned inside.setup inside.history _ _ c.args.worker 0 1 c.pin.ensures.history next)

pub returns-in-Some-clause-rows : goal.returns-in-Some-clause-rows
returns-in-Some-clause-rows g c =
    let d = c.args.dataset in
    let p = c.args.part in
    let here = value g (goal.at.returns-in-Some-clause-rows g c).In-Some in
    let cache_is = ap (λ (m : Memory). m.cache) c.self-in-Some.view_is ∙ c.in_ok-reserve.ensures.cache in
    let pinned = subst (λ (k : Cache). IfSome (held_at k.blocks d p) (λ held. c.pin.new.self.cache ≡ record k { blocks = without d p k.blocks ++ record held { pins = held.pins + 1 } ∷ [] })) cache_is c.pin.ensures.cache in
    let last = subst (λ (o : Option HeldBlock). IfSome o (λ held. c.pin.new.self.cache ≡ record c.args.self.now.cache { blocks = without d p c.args.self.now.cache.blocks ++ record held { pins = held.pins + 1 } ∷ [] })) here pinned in
    c.states_go_on.ensures.pins_rows d p _ _ (arc_value c.in-Some.block) c.args.self.now.cache c.pin.new.self.cache here last

pub returns-clause-handed : goal.returns-clause-handed
returns-clause-handed g c =
    let base = c.self.inside.pool in
    let read = c.states_go_on.ensures.copies_rows c.args.dataset c.args.part (arc_value c.in-Some-2.block) base.cache
    (λ tells. subst (λ (o : Option (Arc Block Global)). IfSome o (λ block. copy_rows base.cache.files base.cache.copies c.args.dataset c.args.part ≡ Some (arc_value block).page.rows)) c.in-Some-2.is (c.in_ok-block-2.ensures.rows tells)) in
    subst (λ (m : Memory). (given : RowsByName) → FitsRows given m.cache → AreGiven given c.args.dataset c.args.part (arc_value c.in-Some-2.block).page.rows) c.self.view_is read

pub returns-clause-own : goal.returns-clause-own
returns-clause-own g c =
    let base = c.self.inside.pool in
    let known = subst (λ (m : Memory). c.args.worker < m.setup.workers) (sym c.self.view_is) c.requires.known in
    let free = subst (λ (m : Memory). worker_pin m.history c.args.worker ≡ None) (sym c.self.view_is) c.requires.free in
    let absent = sym c.in_ok-block.ensures.found ∙ ap is_some c.in_default.is in
    let copied = subst (λ (o : Option (Arc Block Global)). IfSome o (λ _. has_copy base.cache.copies c.args.dataset c.args.part ≡ true)) c.in-Some-2.is c.in_ok-block-2.ensures.copied in
    let next = c.states_go_on.ensures.reads base.setup base.history base.cache c.args.worker c.args.dataset c.args.part c.self.invariant.0 known absent free copied in
    let history_is = ap (λ (m : Memory). m.history) c.self-2.view_is ∙ c.in_ok-reserve-2.ensures.history ∙ c.in_ok-block-2.ensures.history in
    let after = c.add.ensures.history ∙ ap (λ (h : History). entry_by c.args.worker (Pin c.args.dataset c.args.part true) ∷ h) history_is in
    subst (λ (m : Memory). Continues c.args.worker (journal_of m.history) (journal_of c.add.new.self.history)) c.self.view_is
    (own_planned base.setup base.history _ _ c.args.worker 0 0 after next.1)
