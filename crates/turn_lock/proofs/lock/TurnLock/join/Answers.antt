use Rattle.turn_lock.specs.Views.{joined_view, settled_view}
use Rattle.turn_lock.proofs.AtRest.{rests_joined, seat_of, spare_of, view_in, views_before}
use Rattle.turn_lock.proofs.lock.TurnLock.join.Goals as goal

pub invariant_of-pass : goal.invariant_of-pass
invariant_of-pass g c =
    let was = views_before c.pass.inside.badge c.replace.result c.into_seat-seat.result.me.0 c.replace.ensures.value c.into_seat-seat.ensures.2 in
    let theirs = seat_of c.into_parts-spare.result.1.views c.into_seat.result.me.0 c.args.other c.into_seat.ensures.2 c.into_parts-spare.ensures.badge.1 in
    let spare = spare_of c.into_seat.result.me.0 c.args.other c.into_parts-spare.result.0 theirs c.into_parts-spare.ensures.spare.0 in
    let now = view_in c.join_seats.new.seat.me (settled_view (joined_view c.into_seat-seat.result.me.0 c.into_seat.result.me.0)) c.into_seat-seat.result.me.1 c.join_seats.ensures.seat.2 in
    rests_joined c.pass.inside.number c.pass.inside.spare c.into_parts-spare.result.0 c.min-pass-inside.result c.pass.inside.badge.table_id c.into_badge.result.table_id c.pass.inside.badge.views c.into_badge.result.views
    c.into_seat-seat.result.me.0 c.into_seat.result.me.0 c.join_seats.new.seat.me.0 c.min-pass-inside.ensures c.pass.invariant was spare c.into_badge.ensures.2 now
