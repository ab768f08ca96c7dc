use Rattle.std.proofs.Common.{◌≡◌, None, sym, ap, subst, ◌∙◌, arith}
use Rattle.std.specs.Prelude.{take, length}
use Rattle.pool_ledger.specs.declared.entry.Event.TheVariants.{Attempt}
use Rattle.pool_ledger.specs.Sizes.{Sizes}
use Rattle.pool_ledger.specs.History.{History}
use Rattle.pool_ledger.specs.Blocks.{evictable}
use Rattle.pool_ledger.specs.Answers.{answer, growth}
use Rattle.pool_laws.specs.Growing.{entry_by}
use Rattle.pool_laws.specs.Evicting.{evicting_attempt_by}
use Rattle.memory_core.specs.Attempts.{granted_in}
use Rattle.memory_core.specs.Caches.{Cache, Memory, PoolView}
use Rattle.memory_core.specs.Changes.{StillFits}
use Rattle.memory_core.specs.Evictions.{EvictsInTurn}
use Rattle.memory_core.specs.Steady.{IsSteady, owed}
use Rattle.memory_core.proofs.Asking.{keeps_floor, waits_behind}
use Rattle.memory_core.proofs.Planned.{MayAttempt, attempt_entry, history_planned, may_planned, own_planned, steady_after, turned}
use Rattle.memory_core.proofs.state.MemoryState.attempt.Given as given
use Rattle.memory_core.proofs.state.MemoryState.attempt.Goals as goal
use Rattle.memory_core.proofs.state.MemoryState.attempt.Goals.{After-evict, After-plan_attempt-plan}

-- what was planned is the attempt of the rules
entry_is : (g : given.Over) (c : After-plan_attempt-plan g)
    → entry_by c.args.worker (Attempt c.args.task c.args.asked c.plan_attempt-plan.result.moved c.plan_attempt-plan.result.evictions c.plan_attempt-plan.result.got)
    ≡ evicting_attempt_by c.args.self.now.setup c.args.self.now.history c.args.worker c.args.task c.args.asked
entry_is g c =
    let now = c.args.self.now in
    let plan = c.plan_attempt-plan in
    attempt_entry now.setup now.history c.args.worker c.args.task c.args.asked _ _ _
    (subst (λ (m : Memory). plan.result.moved ≡ (growth m.setup m.history c.args.asked).moved) c.self.view_is plan.ensures.moved)
    (subst (λ (m : Memory). plan.result.evictions ≡ length (growth m.setup m.history c.args.asked).evicted) c.self.view_is plan.ensures.evictions)
    (subst (λ (m : Memory). plan.result.got ≡ answer m.setup m.history c.args.task c.args.asked) c.self.view_is plan.ensures.got)

-- once the victims are gone it may follow
follows : (g : given.Over) (c : After-evict g)
    → MayAttempt c.args.self.now.setup c.args.self.now.history c.args.self.now.cache c.args.worker c.args.task c.args.asked c.evict.new.self.history c.evict.new.self.cache
follows g c =
    let now = c.args.self.now in
    let plan = c.plan_attempt-plan in
    let steady = subst (λ (m : Memory). IsSteady m.setup m.history m.cache) c.self.view_is c.self.invariant.0 in
    let first = subst (λ (m : Memory). take plan.result.evictions (evictable m.history None) ≡ (growth m.setup m.history c.args.asked).evicted) c.self.view_is plan.ensures.first in
    let history_is = ap (λ (m : Memory). m.history) c.self-2.view_is ∙ c.in_ok-reserve_behind.ensures.history ∙ ap (λ (v : PoolView). v.history) plan.ensures.same ∙ ap (λ (m : Memory). m.history) c.self.view_is in
    let cache_is = ap (λ (m : Memory). m.cache) c.self-2.view_is ∙ c.in_ok-reserve_behind.ensures.cache ∙ ap (λ (v : PoolView). v.cache) plan.ensures.same ∙ ap (λ (m : Memory). m.cache) c.self.view_is in
    let gone = turned now.history _ now.cache _ c.args.worker None plan.result.evictions (growth now.setup now.history c.args.asked).evicted _ _ history_is cache_is first c.evict.ensures.evicts c.evict.ensures.evicting in
    let next = c.states_go_on.ensures.attempts now.setup now.history _ now.cache _ c.args.worker c.args.task c.args.asked steady c.requires.known c.requires.its_task c.requires.some_asked c.requires.few_asked gone.gone gone.evicting in
    record { gone = gone.gone; may = next.0; goes = next.1 }

-- the setup is as it was
setup_is : (g : given.Over) (c : After-evict g) → c.evict.new.self.setup ≡ c.args.self.now.setup
setup_is g c =
    c.evict.ensures.setup ∙ ap (λ (m : Memory). m.setup) c.self-2.view_is ∙ c.in_ok-reserve_behind.ensures.setup ∙ ap (λ (v : PoolView). v.setup) c.plan_attempt-plan.ensures.same ∙ ap (λ (m : Memory). m.setup) c.self.view_is

pub add-requires-clause-next : goal.add-requires-clause-next
add-requires-clause-next g c =
    let now = c.args.self.now in
    let at = goal.at.add-requires-clause-next g c in
    may_planned now.setup _ _ _ (evicting_attempt_by now.setup now.history c.args.worker c.args.task c.args.asked) (setup_is g at.After-evict) (entry_is g at.After-plan_attempt-plan) (follows g at.After-evict).may

pub invariant_of-self-2 : goal.invariant_of-self-2
invariant_of-self-2 g c =
    let now = c.args.self.now in
    let at = goal.at.invariant_of-self-2 g c in
    let after = history_planned _ _ _ (evicting_attempt_by now.setup now.history c.args.worker c.args.task c.args.asked) c.add.ensures.history (entry_is g at.After-plan_attempt-plan) in
    let stays = steady_after now.setup _ now.history _ _ c.add.new.self.cache c.args.worker 0 0 c.add.ensures.amid (c.add.ensures.setup ∙ setup_is g at.After-evict) after (follows g at.After-evict).goes in
    let was = ap (λ (m : Memory). m.history) c.self-2.view_is ∙ c.in_ok-reserve_behind.ensures.history ∙ ap (λ (v : PoolView). v.history) c.plan_attempt-plan.ensures.same ∙ ap (λ (m : Memory). m.history) c.self.view_is in
    let sizes = ap (λ (m : Memory). m.setup) c.self-2.view_is ∙ c.in_ok-reserve_behind.ensures.setup ∙ ap (λ (v : PoolView). v.setup) c.plan_attempt-plan.ensures.same ∙ ap (λ (m : Memory). m.setup) c.self.view_is in
    let owes = c.self-2.invariant.1 ∙ ap (λ (h : History). owed c.self-2.inside.pool.setup.workers h) was ∙ ap (λ (s : Sizes). owed s.workers now.history) sizes in
    (stays.steady, omega (arith, stays.owed_is, owes), omega (arith, c.self-2.invariant.2, c.add.ensures.spare, c.evict.ensures.spare, c.in_ok-reserve_behind.ensures.ok, ap (λ (m : Memory). m.spare) c.self-2.view_is))

pub returns-clause-answer : goal.returns-clause-answer
returns-clause-answer g c =
    c.answered.ensures ∙ subst (λ (m : Memory). c.plan_attempt-plan.result.got ≡ answer m.setup m.history c.args.task c.args.asked) c.self.view_is c.plan_attempt-plan.ensures.got

pub returns-clause-ok : goal.returns-clause-ok
returns-clause-ok g c =
    let now = c.args.self.now in
    let at = goal.at.returns-clause-ok g c in
    let after = history_planned _ _ _ (evicting_attempt_by now.setup now.history c.args.worker c.args.task c.args.asked) c.add.ensures.history (entry_is g at.After-plan_attempt-plan) in
    (c.evict.new.self.history, subst (λ (k : Cache). EvictsInTurn c.args.worker (growth now.setup now.history c.args.asked).evicted now.history now.cache c.evict.new.self.history k) (sym c.add.ensures.cache) (follows g at.After-evict).gone, after)

pub returns-clause-own : goal.returns-clause-own
returns-clause-own g c =
    let now = c.args.self.now in
    let at = goal.at.returns-clause-own g c in
    let after = history_planned _ _ _ (evicting_attempt_by now.setup now.history c.args.worker c.args.task c.args.asked) c.add.ensures.history (entry_is g at.After-plan_attempt-plan) in
    own_planned now.setup now.history _ _ c.args.worker 0 0 after (follows g at.After-evict).goes

pub returns-clause-rows : goal.returns-clause-rows
returns-clause-rows g c =
    let now = c.args.self.now in
    let at = goal.at.returns-clause-rows g c in
    subst (λ (k : Cache). StillFits now.cache k) (sym c.add.ensures.cache) (c.states_go_on.ensures.evicts c.args.worker _ now.history _ now.cache c.evict.new.self.cache (follows g at.After-evict).gone)

pub returns-clause-greatest : goal.returns-clause-greatest
returns-clause-greatest g c = λ most waits.
    let now = c.args.self.now in
    let steady = subst (λ (m : Memory). IsSteady m.setup m.history m.cache) c.self.view_is c.self.invariant.0 in
    let laws = c.permitted_histories_keep_laws.ensures now.setup now.history steady.amid.range.region_fits steady.amid.permitted in
    let got = c.answered.ensures ∙ subst (λ (m : Memory). c.plan_attempt-plan.result.got ≡ answer m.setup m.history c.args.task c.args.asked) c.self.view_is c.plan_attempt-plan.ensures.got in
    absurd (laws.greatest c.args.task c.args.asked most (sym got ∙ ap granted_in waits))

pub returns-clause-waits : goal.returns-clause-waits
returns-clause-waits g c =
    let now = c.args.self.now in
    let steady = subst (λ (m : Memory). IsSteady m.setup m.history m.cache) c.self.view_is c.self.invariant.0 in
    let laws = c.permitted_histories_keep_laws.ensures now.setup now.history steady.amid.range.region_fits steady.amid.permitted in
    let got = c.answered.ensures ∙ subst (λ (m : Memory). c.plan_attempt-plan.result.got ≡ answer m.setup m.history c.args.task c.args.asked) c.self.view_is c.plan_attempt-plan.ensures.got in
    waits_behind now.setup now.history c.args.task c.args.asked c.answered.result laws got

pub returns-clause-floor : goal.returns-clause-floor
returns-clause-floor g c =
    let now = c.args.self.now in
    let steady = subst (λ (m : Memory). IsSteady m.setup m.history m.cache) c.self.view_is c.self.invariant.0 in
    let laws = c.permitted_histories_keep_laws.ensures now.setup now.history steady.amid.range.region_fits steady.amid.permitted in
    let got = c.answered.ensures ∙ subst (λ (m : Memory). c.plan_attempt-plan.result.got ≡ answer m.setup m.history c.args.task c.args.asked) c.self.view_is c.plan_attempt-plan.ensures.got in
    keeps_floor now.setup now.history c.args.worker c.args.task c.args.asked c.answered.result laws c.requires.its_task got
