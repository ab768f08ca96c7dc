use Rattle.std.proofs.Common.{ℕ, ◌≡◌, ◌<◌, ◌∷◌, ◌++◌, [], Some, true, false, sym, ap, subst, ◌∙◌, arith}
use Rattle.std.specs.Arc.{arc_value}
use Rattle.std.specs.Prelude.{take}
use Rattle.row_page.specs.Spelling.{page_cost}
use Rattle.pool_ledger.specs.History.{History}
use Rattle.pool_ledger.specs.Blocks.{evictable, is_resident}
use Rattle.pool_ledger.specs.Answers.{admission}
use Rattle.pool_ledger.specs.Journal.{journal_of}
use Rattle.pool_ledger.specs.Workers.{Continues}
use Rattle.pool_ledger.specs.declared.entry.Event.TheVariants.{Admit, Refused}
use Rattle.pool_laws.specs.Growing.{entry_by}
use Rattle.pool_laws.specs.Evicting.{IsEvicting}
use Rattle.block_store.specs.declared.block.Block.{Block}
use Rattle.block_store.specs.Stores.{held_of}
use Rattle.memory_core.specs.Caches.{Cache, Memory, PoolView}
use Rattle.memory_core.specs.Changes.{StillFitsWith}
use Rattle.memory_core.specs.Evictions.{EvictsInTurn, admission_by, refusal_by}
use Rattle.memory_core.specs.Steady.{GoesSteadily}
use Rattle.memory_core.proofs.Planned.{IsPlan, Turned, admit_entry, history_planned, own_planned, refusal_entry, steady_after, turned}
use Rattle.memory_core.proofs.state.MemoryState.admit.Given as given
use Rattle.memory_core.proofs.state.MemoryState.admit.Goals as goal
use Rattle.memory_core.proofs.state.MemoryState.admit.Goals.{After-evict}

-- what was planned is what the rules give the block
plan_is : (g : given.Over) (c : After-evict g)
    → IsPlan c.self.inside.pool.setup c.self.inside.pool.history (arc_value c.args.block).dataset (page_cost (arc_value c.args.block).page.rows)
    c.plan_admission-plan.result.admitted c.plan_admission-plan.result.borrowed c.plan_admission-plan.result.evictions
plan_is g c =
    let inside = c.self.inside.pool in
    let plan = c.plan_admission-plan in
    let size_is = c.size-size.ensures ∙ ap (λ (b : Block). page_cost b.page.rows) c.deref-3.ensures in
    subst (λ (b : Block). IsPlan inside.setup inside.history b.dataset (page_cost (arc_value c.args.block).page.rows) plan.result.admitted plan.result.borrowed plan.result.evictions) c.deref.ensures
    (subst (λ (n : ℕ). IsPlan inside.setup inside.history c.deref.result.now.dataset n plan.result.admitted plan.result.borrowed plan.result.evictions) size_is
    (record { admitted_is = plan.ensures.admitted; borrowed_is = plan.ensures.borrowed; evictions_is = plan.ensures.evictions; first = plan.ensures.first }))

-- its victims are gone
gone_by : (g : given.Over) (c : After-evict g)
    → Turned c.self.inside.pool.history c.self.inside.pool.cache c.args.worker (Some (arc_value c.args.block).dataset)
    (admission c.self.inside.pool.setup c.self.inside.pool.history (arc_value c.args.block).dataset (page_cost (arc_value c.args.block).page.rows)).evicted c.evict.new.self.history c.evict.new.self.cache
gone_by g c =
    let inside = c.self.inside.pool in
    let block = arc_value c.args.block in
    let evictions = c.plan_admission-plan.result.evictions in
    let history_is = c.in_ok-reserve.ensures.history ∙ c.in_ok-reserve_block.ensures.history ∙ ap (λ (v : PoolView). v.history) c.plan_admission-plan.ensures.same in
    let cache_is = c.in_ok-reserve.ensures.cache ∙ c.in_ok-reserve_block.ensures.cache ∙ ap (λ (v : PoolView). v.cache) c.plan_admission-plan.ensures.same in
    let both = subst (λ (b : Block). EvictsInTurn c.args.worker (take evictions (evictable c.reserve.new.self.history (Some b.dataset))) c.reserve.new.self.history c.reserve.new.self.cache c.evict.new.self.history c.evict.new.self.cache
    × IsEvicting c.evict.new.self.history c.reserve.new.self.history c.args.worker (Some b.dataset) (take evictions (evictable c.reserve.new.self.history (Some b.dataset))) []) c.deref.ensures (c.evict.ensures.evicts, c.evict.ensures.evicting) in
    turned inside.history _ inside.cache _ c.args.worker (Some block.dataset) evictions _ _ _ history_is cache_is (plan_is g c).first both.0 both.1

-- the setup is as it was
setup_is : (g : given.Over) (c : After-evict g) → c.evict.new.self.setup ≡ c.self.inside.pool.setup
setup_is g c = c.evict.ensures.setup ∙ c.in_ok-reserve.ensures.setup ∙ c.in_ok-reserve_block.ensures.setup ∙ ap (λ (v : PoolView). v.setup) c.plan_admission-plan.ensures.same

-- the block wasn't in memory
absent : (g : given.Over) (c : After-evict g) → is_resident c.self.inside.pool.history (arc_value c.args.block).dataset (arc_value c.args.block).part ≡ false
absent g c =
    let history = c.self.inside.pool.history in
    subst (λ (b : Block). is_resident history (arc_value c.args.block).dataset b.part ≡ false) c.deref-2.ensures
    (subst (λ (b : Block). is_resident history b.dataset c.deref-2.result.now.part ≡ false) c.deref.ensures (sym c.is_resident.ensures ∙ c.if-is_resident.false))

-- where it is admitted, its admission may follow
admits : (g : given.Over) (c : After-evict g) → c.plan_admission-plan.result.admitted ≡ true
    → GoesSteadily c.self.inside.pool.setup c.self.inside.pool.history
    (admission_by c.self.inside.pool.setup c.self.inside.pool.history c.args.worker (arc_value c.args.block).dataset (arc_value c.args.block).part (page_cost (arc_value c.args.block).page.rows) (arc_value c.args.block).level ∷ c.evict.new.self.history)
    c.args.worker 0 0
admits g c admitted =
    let inside = c.self.inside.pool in
    let block = arc_value c.args.block in
    let known = subst (λ (m : Memory). c.args.worker < m.setup.workers) (sym c.self.view_is) c.requires.known in
    let gone = gone_by g c in
    (c.states_go_on.ensures.admits inside.setup inside.history _ inside.cache _ c.args.worker block.dataset block.part (page_cost block.page.rows) block.level c.self.invariant.0 known (absent g c) (sym (plan_is g c).admitted_is ∙ admitted) gone.gone gone.evicting).1

-- and where it isn't, its refusal
refuses : (g : given.Over) (c : After-evict g) → c.plan_admission-plan.result.admitted ≡ false
    → GoesSteadily c.self.inside.pool.setup c.self.inside.pool.history
    (refusal_by c.self.inside.pool.setup c.self.inside.pool.history c.args.worker (arc_value c.args.block).dataset (arc_value c.args.block).part (page_cost (arc_value c.args.block).page.rows) ∷ c.evict.new.self.history)
    c.args.worker 0 0
refuses g c refused =
    let inside = c.self.inside.pool in
    let block = arc_value c.args.block in
    let known = subst (λ (m : Memory). c.args.worker < m.setup.workers) (sym c.self.view_is) c.requires.known in
    let gone = gone_by g c in
    (c.states_go_on.ensures.refuses inside.setup inside.history _ inside.cache _ c.args.worker block.dataset block.part (page_cost block.page.rows) c.self.invariant.0 known (absent g c) (sym (plan_is g c).admitted_is ∙ refused) gone.gone gone.evicting).1

-- the entry that was planned
admitted_entry : (g : given.Over) (c : After-evict g)
    → entry_by c.args.worker (Admit (arc_value c.args.block).dataset (arc_value c.args.block).part (page_cost (arc_value c.args.block).page.rows) (arc_value c.args.block).level c.plan_admission-plan.result.borrowed c.plan_admission-plan.result.evictions)
    ≡ admission_by c.self.inside.pool.setup c.self.inside.pool.history c.args.worker (arc_value c.args.block).dataset (arc_value c.args.block).part (page_cost (arc_value c.args.block).page.rows) (arc_value c.args.block).level
admitted_entry g c =
    let inside = c.self.inside.pool in
    let block = arc_value c.args.block in
    admit_entry inside.setup inside.history c.args.worker block.dataset block.part (page_cost block.page.rows) block.level _ _ (plan_is g c).borrowed_is (plan_is g c).evictions_is

refused_entry : (g : given.Over) (c : After-evict g)
    → entry_by c.args.worker (Refused c.deref.result.now.dataset c.deref-2.result.now.part c.size-size.result c.plan_admission-plan.result.borrowed c.plan_admission-plan.result.evictions)
    ≡ refusal_by c.self.inside.pool.setup c.self.inside.pool.history c.args.worker (arc_value c.args.block).dataset (arc_value c.args.block).part (page_cost (arc_value c.args.block).page.rows)
refused_entry g c =
    let inside = c.self.inside.pool in
    let block = arc_value c.args.block in
    let plan = c.plan_admission-plan.result in
    let size_is = c.size-size.ensures ∙ ap (λ (b : Block). page_cost b.page.rows) c.deref-3.ensures in
    ap (λ (b : Block). entry_by c.args.worker (Refused b.dataset c.deref-2.result.now.part c.size-size.result plan.borrowed plan.evictions)) c.deref.ensures
    ∙ ap (λ (b : Block). entry_by c.args.worker (Refused block.dataset b.part c.size-size.result plan.borrowed plan.evictions)) c.deref-2.ensures
    ∙ ap (λ (n : ℕ). entry_by c.args.worker (Refused block.dataset block.part n plan.borrowed plan.evictions)) size_is
    ∙ refusal_entry inside.setup inside.history c.args.worker block.dataset block.part (page_cost block.page.rows) _ _ (plan_is g c).borrowed_is (plan_is g c).evictions_is

pub invariant_of-self-then-plan : goal.invariant_of-self-then-plan
invariant_of-self-then-plan g c =
    let inside = c.self.inside.pool in
    let at = (goal.at.invariant_of-self-then-plan g c).After-evict in
    let after = history_planned _ _ _ _ c.admit.ensures.history (admitted_entry g at) in
    let stays = steady_after inside.setup _ inside.history _ _ c.admit.new.self.cache c.args.worker 0 0 c.admit.ensures.amid (c.admit.ensures.setup ∙ setup_is g at) after (admits g at c.if-plan.true) in
    (stays.steady, omega (arith, stays.owed_is, c.self.invariant.1), omega (arith, c.admit.ensures.spare, c.evict.ensures.spare, c.in_ok-reserve.ensures.ok, c.in-Some.ensures))

pub returns-then-plan-clause-ok : goal.returns-then-plan-clause-ok
returns-then-plan-clause-ok g c =
    let inside = c.self.inside.pool in
    let block = arc_value c.args.block in
    let size = page_cost block.page.rows in
    let at = (goal.at.returns-then-plan-clause-ok g c).After-evict in
    let after = history_planned _ _ _ _ c.admit.ensures.history (admitted_entry g at) in
    subst (λ (m : Memory). (is_resident m.history block.dataset block.part ≡ false) × ((admission m.setup m.history block.dataset size).admitted ≡ true)
    × ((amid : History) × (room : Cache) × EvictsInTurn c.args.worker (admission m.setup m.history block.dataset size).evicted m.history m.cache amid room
    × (c.admit.new.self.history ≡ admission_by m.setup m.history c.args.worker block.dataset block.part size block.level ∷ amid)
    × (c.admit.new.self.cache ≡ record room { blocks = room.blocks ++ held_of 0 block ∷ [] })))
    c.self.view_is (absent g at, sym (plan_is g at).admitted_is ∙ c.if-plan.true, (c.evict.new.self.history, c.evict.new.self.cache, (gone_by g at).gone, after, c.admit.ensures.cache))

pub returns-then-plan-clause-own : goal.returns-then-plan-clause-own
returns-then-plan-clause-own g c =
    let inside = c.self.inside.pool in
    let at = (goal.at.returns-then-plan-clause-own g c).After-evict in
    let after = history_planned _ _ _ _ c.admit.ensures.history (admitted_entry g at) in
    subst (λ (m : Memory). Continues c.args.worker (journal_of m.history) (journal_of c.admit.new.self.history)) c.self.view_is (own_planned inside.setup inside.history _ _ c.args.worker 0 0 after (admits g at c.if-plan.true))

pub returns-then-plan-clause-rows : goal.returns-then-plan-clause-rows
returns-then-plan-clause-rows g c =
    let inside = c.self.inside.pool in
    let block = arc_value c.args.block in
    let at = (goal.at.returns-then-plan-clause-rows g c).After-evict in
    subst (λ (m : Memory). StillFitsWith block m.cache c.admit.new.self.cache) c.self.view_is
    (λ given rows fits. c.states_go_on.ensures.admits_rows block c.evict.new.self.cache c.admit.new.self.cache c.admit.ensures.cache given rows
    (c.states_go_on.ensures.evicts c.args.worker _ inside.history _ inside.cache c.evict.new.self.cache (gone_by g at).gone given fits))

pub invariant_of-self-2 : goal.invariant_of-self-2
invariant_of-self-2 g c =
    let inside = c.self.inside.pool in
    let at = (goal.at.invariant_of-self-2 g c).After-evict in
    let after = history_planned _ _ _ _ c.add.ensures.history (refused_entry g at) in
    let stays = steady_after inside.setup _ inside.history _ _ c.add.new.self.cache c.args.worker 0 0 c.add.ensures.amid (c.add.ensures.setup ∙ setup_is g at) after (refuses g at c.if-plan.false) in
    (stays.steady, omega (arith, stays.owed_is, c.self.invariant.1), omega (arith, c.add.ensures.spare, c.evict.ensures.spare, c.in_ok-reserve.ensures.ok, c.in-Some.ensures))

pub returns-clause-ok : goal.returns-clause-ok
returns-clause-ok g c =
    let inside = c.self.inside.pool in
    let block = arc_value c.args.block in
    let size = page_cost block.page.rows in
    let at = (goal.at.returns-clause-ok g c).After-evict in
    let after = history_planned _ _ _ _ c.add.ensures.history (refused_entry g at) in
    let evicted = subst (λ (k : Cache). EvictsInTurn c.args.worker (admission inside.setup inside.history block.dataset size).evicted inside.history inside.cache c.evict.new.self.history k) (sym c.add.ensures.cache) (gone_by g at).gone in
    subst (λ (m : Memory). (is_resident m.history block.dataset block.part ≡ false) × ((admission m.setup m.history block.dataset size).admitted ≡ false)
    × ((amid : History) × EvictsInTurn c.args.worker (admission m.setup m.history block.dataset size).evicted m.history m.cache amid c.add.new.self.cache
    × (c.add.new.self.history ≡ refusal_by m.setup m.history c.args.worker block.dataset block.part size ∷ amid)))
    c.self.view_is (absent g at, sym (plan_is g at).admitted_is ∙ c.if-plan.false, (c.evict.new.self.history, evicted, after))
