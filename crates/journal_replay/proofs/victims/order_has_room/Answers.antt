use Rattle.std.proofs.Common.{length, arith}
use Rattle.journal_replay.proofs.Known.{all_before}
use Rattle.journal_replay.proofs.victims.order_has_room.Goals as goal

pub returns : goal.returns
returns c = λ place placed there.
    let before = all_before c.args.turns.now.before.order (length c.args.turns.now.ledger.history) c.requires.before.in_order place placed there in
    omega (arith, before, c.next_place-place.ensures)
