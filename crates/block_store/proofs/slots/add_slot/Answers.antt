use Rattle.std.proofs.Common.{ap, ◌∙◌, ℕ, Option}
use Rattle.lru.specs.LruCache.{LruCache}
use Rattle.block_store.specs.declared.resident.Resident.{Resident}
use Rattle.block_store.proofs.Walks.{put_new}
use Rattle.block_store.proofs.slots.add_slot.Goals as goal

pub returns-clause-ok : goal.returns-clause-ok
returns-clause-ok c =
    ap (λ (l : LruCache ℕ (Option Resident)). l.entries) c.in_ok-put.ensures.entries
    ∙ put_new c.args.slots.now c.len.result c.len.ensures.len c.requires.numbers c.requires.unbounded c.len.ensures.fits
