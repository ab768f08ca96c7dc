use Rattle.std.proofs.Common.{◌≡◌, ◌∷◌, ap, sym, subst, refl, ◌∙◌, None}
use Rattle.std.specs.Arc.{arc_value}
use Rattle.row_page.specs.Spelling.{page_cost}
use Rattle.pool_ledger.specs.declared.entry.Event.{Event}
use Rattle.pool_ledger.specs.declared.entry.Event.TheVariants.{Admit}
use Rattle.pool_ledger.specs.Legal.{MayFollow}
use Rattle.pool_ledger.specs.Recorded.{CanFollow}
use Rattle.pool_laws.specs.Growing.{entry_by}
use Rattle.block_store.specs.Stores.{held_at, held_of}
use Rattle.memory_core.specs.Caches.{PoolView}
use Rattle.memory_core.specs.Steady.{IsAmid}
use Rattle.memory_core.proofs.Stepping.{amid_at, amid_more, in_step_admitted, none_found, same_admission}
use Rattle.memory_core.proofs.pool.Pool.admit.Goals as goal

pub admit-requires-clause-absent : goal.admit-requires-clause-absent
admit-requires-clause-absent g c =
    let now = c.args.self.now in
    let block = arc_value c.args.block in
    let laws = c.permitted_histories_keep_laws.ensures now.setup now.history c.requires.amid.range.region_fits c.requires.amid.permitted in
    let can = laws.taken (entry_by c.args.worker (Admit block.dataset block.part (page_cost block.page.rows) block.level c.args.borrowed c.args.evictions)) c.requires.next in
    subst (λ (v : PoolView). held_at v.cache.blocks block.dataset block.part ≡ None) (sym c.self.view_is)
    (none_found now.history now.cache block.dataset block.part c.requires.amid.in_step can.event_fits.absent)

pub push-requires-clause-next : goal.push-requires-clause-next
push-requires-clause-next g c =
    let now = c.args.self.now in
    let block = arc_value c.args.block in
    let laws = c.permitted_histories_keep_laws.ensures now.setup now.history c.requires.amid.range.region_fits c.requires.amid.permitted in
    let event = Admit block.dataset block.part (page_cost block.page.rows) block.level c.args.borrowed c.args.evictions in
    let same = same_admission block _ _ _ _ c.size.result c.args.borrowed c.args.evictions c.deref.ensures c.deref-2.ensures c.deref-3.ensures c.deref-4.ensures c.size.ensures in
    let can = subst (λ (v : PoolView). CanFollow v.setup v.history (entry_by c.args.worker event)) (sym c.self.view_is) (laws.taken (entry_by c.args.worker event) c.requires.next) in
    subst (λ (e : Event). CanFollow c.self.inside.ledger.setup c.self.inside.ledger.history (entry_by c.args.worker e)) (sym same) can

pub returns-clause-amid : goal.returns-clause-amid
returns-clause-amid g c =
    let block = arc_value c.args.block in
    let event = Admit block.dataset block.part (page_cost block.page.rows) block.level c.args.borrowed c.args.evictions in
    let same = same_admission block _ _ _ _ c.size.result c.args.borrowed c.args.evictions c.deref.ensures c.deref-2.ensures c.deref-3.ensures c.deref-4.ensures c.size.ensures in
    let amid = subst (λ (v : PoolView). IsAmid v.setup v.history v.cache) (sym c.self.view_is) c.requires.amid in
    let may = subst (λ (v : PoolView). MayFollow v.setup v.history (entry_by c.args.worker event)) (sym c.self.view_is) c.requires.next in
    amid_at _ _ _ _ _ c.push.ensures.setup (c.push.ensures.history ∙ ap (λ (e : Event). entry_by c.args.worker e ∷ c.self.inside.ledger.history) same)
    (amid_more _ _ _ _ (entry_by c.args.worker event) amid may
    (in_step_admitted _ c.args.worker c.args.borrowed c.args.evictions (held_of 0 block) _ _ amid.in_step refl c.admit.ensures.blocks c.admit.ensures.copies))
