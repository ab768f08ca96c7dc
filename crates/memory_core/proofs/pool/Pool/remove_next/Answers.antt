use Rattle.std.proofs.Common.{◌≡◌, ◌+◌, false, List, ◌∷◌, count_by, IsSome, sym, ap, subst, ◌∙◌, arith}
use Rattle.std.specs.List.{list_any}
use Rattle.std.specs.Option.{is_some}
use Rattle.pool_ledger.specs.declared.entry.Event.TheVariants.{Remove}
use Rattle.pool_ledger.specs.Recorded.{CanFollow}
use Rattle.pool_ledger.specs.Sizes.{Sizes}
use Rattle.pool_ledger.specs.History.{History}
use Rattle.pool_laws.specs.Growing.{entry_by}
use Rattle.block_store.specs.Stores.{HeldBlock, held_at, pins_at, without}
use Rattle.block_store.specs.Seen.{blocks_of, copies_of, disk_of}
use Rattle.memory_core.specs.Caches.{Cache, PoolView}
use Rattle.memory_core.specs.Changes.{may_be_removed, may_be_removed_below}
use Rattle.memory_core.specs.Steady.{IsAmid}
use Rattle.memory_core.proofs.LeastPart.{Stands, least_stands, nothing_least}
use Rattle.memory_core.proofs.Removals.{amid_gone, fewer, found_at, may_follow, named, none_below, removes_one, unpinned_at}
use Rattle.memory_core.proofs.pool.Pool.remove_next.Given as given
use Rattle.memory_core.proofs.pool.Pool.remove_next.Goals as goal
use Rattle.memory_core.proofs.pool.Pool.remove_next.Goals.{In-Some}

pub unreachable-requires : goal.unreachable-requires
unreachable-requires g c =
    omega (arith, c.requires.some, nothing_least c.args.dataset c.args.self.now.cache.blocks (sym c.next_to_remove.ensures.found ∙ c.in_default.is))

-- what was found stands among the blocks, and no other has a lesser part
found : (g : given.Over) (c : In-Some g) → Stands c.args.dataset c.args.self.now.cache.blocks c.in-Some.next × (list_any (may_be_removed_below c.args.dataset c.in-Some.next.part) c.args.self.now.cache.blocks ≡ false)
found g c = least_stands c.args.dataset c.args.self.now.cache.blocks c.in-Some.next (sym c.next_to_remove.ensures.found ∙ c.in-Some.is)

pub remove-requires-clause-resident : goal.remove-requires-clause-resident
remove-requires-clause-resident g c =
    let now = c.args.self.now in
    let next = c.in-Some.next in
    let it = (found g (goal.at.remove-requires-clause-resident g c).In-Some).0 in
    subst (λ (v : PoolView). IsSome (held_at v.cache.blocks next.dataset next.part)) (sym (c.self.view_is ∙ c.next_to_remove.ensures.same))
    (ap is_some (found_at c.args.dataset now.cache.blocks next it c.next_to_remove.ensures.apart))

pub remove-requires-clause-unpinned : goal.remove-requires-clause-unpinned
remove-requires-clause-unpinned g c =
    let now = c.args.self.now in
    let next = c.in-Some.next in
    let it = (found g (goal.at.remove-requires-clause-unpinned g c).In-Some).0 in
    subst (λ (v : PoolView). pins_at v.cache.blocks next.dataset next.part ≡ 0) (sym (c.self.view_is ∙ c.next_to_remove.ensures.same))
    (unpinned_at c.args.dataset now.cache.blocks next it c.next_to_remove.ensures.apart)

pub push-requires-clause-next : goal.push-requires-clause-next
push-requires-clause-next g c =
    let now = c.args.self.now in
    let next = c.in-Some.next in
    let it = (found g (goal.at.push-requires-clause-next g c).In-Some).0 in
    let may = may_follow now.setup now.history now.cache c.args.worker c.args.dataset next c.requires.amid c.requires.whole c.requires.known it c.next_to_remove.ensures.apart in
    let laws = c.permitted_histories_keep_laws.ensures now.setup now.history c.requires.amid.range.region_fits c.requires.amid.permitted in
    subst (λ (v : PoolView). CanFollow v.setup v.history (entry_by c.args.worker (Remove next.dataset next.part next.size))) (sym (c.self.view_is ∙ c.next_to_remove.ensures.same))
    (laws.taken (entry_by c.args.worker (Remove next.dataset next.part next.size)) may)

pub returns-clause-amid : goal.returns-clause-amid
returns-clause-amid g c =
    let now = c.args.self.now in
    let next = c.in-Some.next in
    let it = (found g (goal.at.returns-clause-amid g c).In-Some).0 in
    let is = c.self.view_is ∙ c.next_to_remove.ensures.same in
    let has : Cache = record { blocks = blocks_of c.remove.new.self; copies = copies_of c.remove.new.self; files = g.K.Disk.files (disk_of c.remove.new.self); faults = g.K.Disk.faults (disk_of c.remove.new.self) } in
    let gone = amid_gone now.setup now.history now.cache has c.args.worker c.args.dataset next c.requires.amid c.requires.whole c.requires.known it c.next_to_remove.ensures.apart
    (c.remove.ensures.blocks ∙ ap (λ (v : PoolView). without next.dataset next.part v.cache.blocks) is) (c.remove.ensures.copies ∙ ap (λ (v : PoolView). v.cache.copies) is) in
    subst (λ (s : Sizes). IsAmid s c.push.new.self.history has) (sym (c.push.ensures.setup ∙ ap (λ (v : PoolView). v.setup) is))
    (subst (λ (h : History). IsAmid now.setup h has) (sym (c.push.ensures.history ∙ ap (λ (v : PoolView). entry_by c.args.worker (Remove next.dataset next.part next.size) ∷ v.history) is)) gone)

pub returns-clause-removes : goal.returns-clause-removes
returns-clause-removes g c =
    let now = c.args.self.now in
    let next = c.in-Some.next in
    let it = (found g (goal.at.returns-clause-removes g c).In-Some).0 in
    let is = c.self.view_is ∙ c.next_to_remove.ensures.same in
    let left = c.remove.ensures.blocks ∙ ap (λ (v : PoolView). without next.dataset next.part v.cache.blocks) is in
    removes_one c.args.worker c.args.dataset c.args.from next now.history c.push.new.self.history now.cache.blocks (blocks_of c.remove.new.self) it c.next_to_remove.ensures.apart c.requires.from
    (c.push.ensures.history ∙ ap (λ (v : PoolView). entry_by c.args.worker (Remove next.dataset next.part next.size) ∷ v.history) is) left

pub returns-clause-count : goal.returns-clause-count
returns-clause-count g c =
    let now = c.args.self.now in
    let next = c.in-Some.next in
    let it = (found g (goal.at.returns-clause-count g c).In-Some).0 in
    let is = c.self.view_is ∙ c.next_to_remove.ensures.same in
    ap (λ (bs : List HeldBlock). count_by (may_be_removed c.args.dataset) bs + 1) (c.remove.ensures.blocks ∙ ap (λ (v : PoolView). without next.dataset next.part v.cache.blocks) is)
    ∙ fewer c.args.dataset now.cache.blocks next it c.next_to_remove.ensures.apart

pub returns-clause-from : goal.returns-clause-from
returns-clause-from g c =
    let now = c.args.self.now in
    let next = c.in-Some.next in
    let it = found g (goal.at.returns-clause-from g c).In-Some in
    let is = c.self.view_is ∙ c.next_to_remove.ensures.same in
    ap (list_any (may_be_removed_below c.args.dataset (next.part + 1)))
    (c.remove.ensures.blocks ∙ ap (λ (v : PoolView). without next.dataset next.part v.cache.blocks) is ∙ ap (λ n. without n next.part now.cache.blocks) (named c.args.dataset now.cache.blocks next it.0))
    ∙ none_below c.args.dataset next.part now.cache.blocks it.1
