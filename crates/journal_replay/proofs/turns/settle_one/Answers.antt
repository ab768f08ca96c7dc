use Rattle.std.proofs.Common.{◌≡◌, ◌+◌, ◌∷◌, ap, arith, length, subst, sym, ◌∙◌}
use Rattle.pool_ledger.specs.History.{History}
use Rattle.pool_ledger.specs.Sizes.{Sizes, IsInRange}
use Rattle.pool_ledger.specs.Blocks.{residents_after}
use Rattle.pool_laws.proofs.Passing.{holds}
use Rattle.pool_laws.proofs.Small.{stays_small}
use Rattle.journal_replay.specs.declared.before.Before.{Before}
use Rattle.journal_replay.specs.Replays.{TellsBefore}
use Rattle.journal_replay.specs.UseOrder.{IsInOrder}
use Rattle.journal_replay.proofs.Bytes.{bytes_noted, small_noted}
use Rattle.journal_replay.proofs.turns.settle_one.Goals as goal

pub note_bytes-requires : goal.note_bytes-requires
note_bytes-requires c =
    let h = c.args.ledger.now.history in
    let range = subst (λ (s : Sizes). IsInRange s.maximum s.region s.workers) c.setup.ensures c.max-range.ensures.range in
    record {
      small = small_noted c.args.before.now.bytes c.args.ledger.now.setup h c.args.entry (stays_small c.args.ledger.now.setup h range.maximum_small c.requires.permitted.0)
          (holds c.args.ledger.now.setup (c.args.entry ∷ h) range.region_fits c.requires.permitted).recorded c.requires.blocks.bytes;
    }

pub returns-clause-blocks : goal.returns-clause-blocks
returns-clause-blocks c =
    let h = c.args.ledger.now.history in
    let range = subst (λ (s : Sizes). IsInRange s.maximum s.region s.workers) c.setup.ensures c.max-range.ensures.range in
    let new : Before = record { order = c.note_order.new.order; bytes = c.note_bytes.new.bytes } in
    let next : c.next_place-place.result + 1 ≡ length (c.args.entry ∷ h) = omega (arith, c.next_place-place.ensures) in
    subst (TellsBefore new) (sym (c.push.ensures.history ∙ ap (λ (g : History). c.args.entry ∷ g) c.in_ok-reserve.ensures.history)) (
    record {
      blocks = c.in_ok-note_order.ensures.blocks ∙ ap (residents_after c.args.entry.event) c.requires.blocks.blocks;
      in_order = subst (IsInOrder c.note_order.new.order) next c.in_ok-note_order.ensures.in_order;
      bytes = bytes_noted c.args.before.now.bytes c.note_bytes.new.bytes c.args.ledger.now.setup h c.args.entry
          (holds c.args.ledger.now.setup (c.args.entry ∷ h) range.region_fits c.requires.permitted).recorded c.requires.blocks.bytes c.in_ok-note_bytes.ensures.ok;
    })
