use Rattle.std.proofs.Common.{◌≡◌, ℕ, [], Option, ap, arith, subst, sym}
use Rattle.pool_ledger.specs.Blocks.{sizes}
use Rattle.journal_replay.specs.Tables.{bytes_of}
use Rattle.journal_replay.specs.UseOrder.{evictable_bytes}
use Rattle.journal_replay.proofs.MayGo.{all_evictable, beside_evictable}
use Rattle.journal_replay.proofs.evictable.bytes_beside.Goals as goal

pub returns-in-Some : goal.returns-in-Some
returns-in-Some c =
    let before = c.requires.before in
    let d = c.in-Some.dataset in
    let es = c.args.turns.now.before.order.placed.entries in
    subst (λ (o : Option ℕ). c.saturating_sub.result ≡ evictable_bytes o [] es) (sym c.in-Some.is)
    (omega (arith, beside_evictable d es, ap sizes before.blocks, ap (bytes_of d) before.blocks, before.bytes d, c.stored.ensures, c.bytes_at.ensures, c.saturating_sub.ensures))

pub returns-in-None : goal.returns-in-None
returns-in-None c =
    let es = c.args.turns.now.before.order.placed.entries in
    subst (λ (o : Option ℕ). c.stored-in-None.result ≡ evictable_bytes o [] es) (sym c.in-None.is)
    (omega (arith, all_evictable es, ap sizes c.requires.before.blocks, c.stored-in-None.ensures))
