use Rattle.std.proofs.Common.{◌≡◌, refl, Some}
use Rattle.turn_lock.proofs.AtRest.{seat_of}
use Rattle.turn_lock.proofs.Ends.{IsEnd, closes, end_is}
use Rattle.turn_lock.proofs.lock.TurnLock.close.Given as given
use Rattle.turn_lock.proofs.lock.TurnLock.close.Goals as goal
use Rattle.turn_lock.proofs.lock.TurnLock.close.Goals.{After-take-value}

-- what the slot has, and that the pass has seen its history
last : (g : given.Over) (c : After-take-value g) → (value : g.row.V.Denot) × (c.take-value.result ≡ Some value) × IsEnd g.V.Kept.history g.V.Kept.fact c.args.pass.seen value
last g c =
    let is = seat_of c.into_parts-badge.result.1.views c.into_seat.result.me.0 c.args.pass c.into_seat.ensures.2 c.into_parts-badge.ensures.badge.1 in
    closes g.V.Kept.history g.V.Kept.fact c.into_seat.result.id c.into_seat.result.me.0 c.args.pass _ _ c.take-value.result is c.requires.free c.requires.all c.close_with-closed.ensures.values.2 c.take-value.ensures.value

pub unwrap-requires : goal.unwrap-requires
unwrap-requires g c = rw (last g (goal.at.unwrap-requires g c).After-take-value).1 refl

pub returns-clause-meets : goal.returns-clause-meets
returns-clause-meets g c =
    let l = last g (goal.at.returns-clause-meets g c).After-take-value in
    (end_is g.V.Kept.history g.V.Kept.fact c.args.pass.seen l.0 c.unwrap.result c.take-value.result l.1 c.unwrap.ensures l.2).meets

pub returns-clause-history : goal.returns-clause-history
returns-clause-history g c =
    let l = last g (goal.at.returns-clause-history g c).After-take-value in
    (end_is g.V.Kept.history g.V.Kept.fact c.args.pass.seen l.0 c.unwrap.result c.take-value.result l.1 c.unwrap.ensures l.2).history_is
