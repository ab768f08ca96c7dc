use Rattle.std.proofs.Common.{◌∷◌, ◌++◌, arith, subst, sym}
use Rattle.std.specs.Prelude.{slice_index_or}
use Rattle.pool_ledger.specs.declared.entry.Entry.{Entry}
use Rattle.pool_ledger.specs.declared.entry.Event.TheVariants.{Begin}
use Rattle.pool_ledger.specs.Sizes.{Sizes}
use Rattle.pool_ledger.specs.History.{History}
use Rattle.pool_ledger.specs.Journal.{after}
use Rattle.pool_ledger.specs.Legal.{IsPermitted}
use Rattle.journal_replay.proofs.TurnsKept.{permitted_next}
use Rattle.journal_replay.proofs.turns.settle.Goals as goal

pub settle_one-requires-clause-permitted : goal.settle_one-requires-clause-permitted
settle_one-requires-clause-permitted c =
    let any : Entry = record { worker = 0; event = Begin 0 } in
    let i = c.loop-eviction.eviction-index in
    let item = slice_index_or c.args.waiting.now i any in
    let next = permitted_next c.args.ledger.now.setup c.args.waiting.now c.args.ledger.now.history i any c.requires.permitted.0 (omega (arith, c.loop-eviction-test.true)) in
    subst (λ (h : History). IsPermitted c.loop-eviction.ledger.setup (item ∷ h)) (sym c.loop-eviction.invariant.0)
    (subst (λ (s : Sizes). IsPermitted s (item ∷ (after i c.args.waiting.now ++ c.args.ledger.now.history))) (sym c.loop-eviction.invariant.1) next)
