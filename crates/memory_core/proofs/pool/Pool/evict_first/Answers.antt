use Rattle.std.proofs.Common.{◌≡◌, map, ◌++◌, ◌∷◌, [], Some, None, refl, ap, sym, subst, ◌∙◌}
use Rattle.std.specs.List.{find}
use Rattle.std.specs.Option.{IsSome, option_map_or}
use Rattle.pool_ledger.specs.declared.entry.Event.TheVariants.{Evict}
use Rattle.pool_ledger.specs.History.{History}
use Rattle.pool_ledger.specs.Recorded.{CanFollow}
use Rattle.pool_ledger.specs.Sizes.{Sizes}
use Rattle.pool_laws.specs.Growing.{entry_by}
use Rattle.pool_laws.specs.Evicting.{IsEvicting}
use Rattle.eviction.specs.Victims.{is_evictable}
use Rattle.eviction.specs.declared.candidate.Candidate.{Candidate}
use Rattle.block_store.specs.Stores.{AreApart, HeldBlock, candidate_of, held_at}
use Rattle.block_store.specs.Seen.{blocks_of, copies_of, disk_of}
use Rattle.memory_core.specs.Caches.{Cache, PoolView}
use Rattle.memory_core.specs.Evictions.{EvictsInTurn}
use Rattle.memory_core.specs.Steady.{IsAmid}
use Rattle.memory_core.proofs.NextVictim.{IsFollowed, IsNext, IsPutOut, followed, next_goes, some_goes}
use Rattle.memory_core.proofs.pool.Pool.evict_first.Given as given
use Rattle.memory_core.proofs.pool.Pool.evict_first.Goals as goal
use Rattle.memory_core.proofs.pool.Pool.evict_first.Goals.{In-Some, After-evict_one-fate}

pub unreachable-requires : goal.unreachable-requires
unreachable-requires g c =
    let now = c.args.self.now in
    let next = c.requires.next in
    let apart = subst (λ (v : PoolView). AreApart v.cache.blocks) c.self.view_is c.first_that_may_go.ensures.apart in
    let none = subst (λ (v : PoolView). find (is_evictable c.args.except) (map candidate_of v.cache.blocks) ≡ None) c.self.view_is (sym c.first_that_may_go.ensures.found ∙ c.in_default.is) in
    some_goes now.history now.cache (map candidate_of now.cache.blocks) c.args.except (record { list_is = refl; apart = apart }) c.requires.amid.in_step next.3 (next.2 ++ next.4.behind) next.4.left_first none

-- the block in memory that was found
found : (g : given.Over) (c : In-Some g) → (held : HeldBlock) × IsNext c.args.self.now.history c.args.self.now.cache c.args.except c.in-Some.next held
found g c =
    let now = c.args.self.now in
    let apart = subst (λ (v : PoolView). AreApart v.cache.blocks) c.self.view_is c.first_that_may_go.ensures.apart in
    let first = subst (λ (v : PoolView). find (is_evictable c.args.except) (map candidate_of v.cache.blocks) ≡ Some c.in-Some.next) c.self.view_is (sym c.first_that_may_go.ensures.found ∙ c.in-Some.is) in
    next_goes now.history now.cache (map candidate_of now.cache.blocks) c.args.except (record { list_is = refl; apart = apart }) c.requires.amid.in_step c.in-Some.next first

-- it is in the store, as long as what is kept is as it was
there : (g : given.Over) (c : In-Some g) (kept : PoolView) → kept ≡ c.args.self.now → held_at kept.cache.blocks c.in-Some.next.dataset c.in-Some.next.part ≡ Some (found g c).0
there g c kept same =
    let is = (found g c).1 in
    ap (λ (v : PoolView). held_at v.cache.blocks c.in-Some.next.dataset c.in-Some.next.part) same
    ∙ ap (λ (next : Candidate). held_at c.args.self.now.cache.blocks next.dataset next.part) is.next_is
    ∙ is.found

pub evict_one-fate-requires-clause-resident : goal.evict_one-fate-requires-clause-resident
evict_one-fate-requires-clause-resident g c =
    subst IsSome (sym (there g (goal.at.evict_one-fate-requires-clause-resident g c).In-Some _ c.self.view_is)) refl

pub evict_one-fate-requires-clause-unpinned : goal.evict_one-fate-requires-clause-unpinned
evict_one-fate-requires-clause-unpinned g c =
    let at = (goal.at.evict_one-fate-requires-clause-unpinned g c).In-Some in
    ap (λ found. option_map_or (λ (h : HeldBlock). h.pins) found 0) (there g at _ c.self.view_is) ∙ (found g at).1.unpinned

-- what is kept of blocks once it is put out
abbrev left : (g : given.Over) (c : After-evict_one-fate g) → Cache
left g c = record {
  blocks = blocks_of c.evict_one-fate.new.self;
  copies = copies_of c.evict_one-fate.new.self;
  files = g.K.Disk.files (disk_of c.evict_one-fate.new.self);
  faults = g.K.Disk.faults (disk_of c.evict_one-fate.new.self);
}

-- it is put out
put_out : (g : given.Over) (c : After-evict_one-fate g) → IsPutOut c.in-Some.next.dataset c.in-Some.next.part c.evict_one-fate.result c.args.self.now.cache (left g c)
put_out g c =
    let did = c.evict_one-fate.ensures in
    subst (λ (v : PoolView). IsPutOut c.in-Some.next.dataset c.in-Some.next.part c.evict_one-fate.result v.cache (left g c)) c.self.view_is record {
      blocks = did.blocks;
      memory = λ is. (did.memory is, record { copies = did.memory_copies is; files = ap g.K.Disk.files (did.memory_disk is); faults = ap g.K.Disk.faults (did.memory_disk is) });
      copied = λ is has. (did.copied is has, record { copies = did.copied_copies has; files = ap g.K.Disk.files (did.copied_disk has); faults = ap g.K.Disk.faults (did.copied_disk has) });
      gone = did.gone;
      copy = did.copy;
      rows = did.rows;
      lost = did.lost;
      written = did.written;
      begun = did.begun;
      others = did.others;
      tells = did.tells;
      later = did.later;
    }

-- what follows once it is put out, for whichever victims are left
follows : (g : given.Over) (c : After-evict_one-fate g) (held : HeldBlock) → IsNext c.args.self.now.history c.args.self.now.cache c.args.except c.in-Some.next held
    → IsFollowed c.args.self.now.setup c.args.self.now.history c.args.self.now.cache (left g c) c.args.worker c.args.except held c.evict_one-fate.result
follows g c held is =
    let now = c.args.self.now in
    let out = subst (λ (next : Candidate). IsPutOut next.dataset next.part c.evict_one-fate.result now.cache (left g c)) is.next_is (put_out g c) in
    followed now.setup now.history now.cache (left g c) c.args.worker c.args.except c.in-Some.next c.evict_one-fate.result held is out
    (c.victims_go_one_by_one.ensures now.setup c.requires.amid.range.region_fits).next c.requires.amid c.requires.known c.requires.next

pub push-requires-clause-next : goal.push-requires-clause-next
push-requires-clause-next g c =
    let now = c.args.self.now in
    let at = goal.at.push-requires-clause-next g c in
    let next = found g at.In-Some in
    let laws = c.permitted_histories_keep_laws.ensures now.setup now.history c.requires.amid.range.region_fits c.requires.amid.permitted in
    let entry_of = λ (next : Candidate). entry_by c.args.worker (Evict next.dataset next.part next.size c.evict_one-fate.result) in
    subst (λ (v : PoolView). CanFollow v.setup v.history (entry_of c.in-Some.next)) (sym c.self.view_is)
    (subst (λ (seen : Candidate). CanFollow now.setup now.history (entry_of seen)) (sym next.1.next_is) (laws.taken (entry_of (candidate_of next.0)) (follows g at.After-evict_one-fate next.0 next.1).may))

pub returns-clause-amid : goal.returns-clause-amid
returns-clause-amid g c =
    let now = c.args.self.now in
    let at = goal.at.returns-clause-amid g c in
    let next = found g at.In-Some in
    let entry_of = λ (next : Candidate). entry_by c.args.worker (Evict next.dataset next.part next.size c.evict_one-fate.result) in
    let history_is = c.push.ensures.history ∙ ap (λ (v : PoolView). entry_of c.in-Some.next ∷ v.history) c.self.view_is ∙ ap (λ (seen : Candidate). entry_of seen ∷ now.history) next.1.next_is in
    let setup_is = c.push.ensures.setup ∙ ap (λ (v : PoolView). v.setup) c.self.view_is in
    subst (λ (setup : Sizes). IsAmid setup c.push.new.self.history (left g at.After-evict_one-fate)) (sym setup_is)
    (subst (λ (history : History). IsAmid now.setup history (left g at.After-evict_one-fate)) (sym history_is) (follows g at.After-evict_one-fate next.0 next.1).amid)

pub returns-clause-evicts : goal.returns-clause-evicts
returns-clause-evicts g c base gone others block evicting =
    let now = c.args.self.now in
    let at = goal.at.returns-clause-evicts g c in
    let next = found g at.In-Some in
    let entry_of = λ (next : Candidate). entry_by c.args.worker (Evict next.dataset next.part next.size c.evict_one-fate.result) in
    let history_is = c.push.ensures.history ∙ ap (λ (v : PoolView). entry_of c.in-Some.next ∷ v.history) c.self.view_is ∙ ap (λ (seen : Candidate). entry_of seen ∷ now.history) next.1.next_is in
    let goes = (follows g at.After-evict_one-fate next.0 next.1).evicts base gone others block evicting in (
      subst (λ (history : History). EvictsInTurn c.args.worker (block ∷ []) now.history now.cache history (left g at.After-evict_one-fate)) (sym history_is) goes.0,
      subst (λ (history : History). IsEvicting history base c.args.worker c.args.except (gone ++ block ∷ []) others) (sym history_is) goes.1,
    )
