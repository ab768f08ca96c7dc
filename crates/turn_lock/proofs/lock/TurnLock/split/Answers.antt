use Rattle.std.proofs.Common.{rules}
use Rattle.turn_lock.specs.Views.{emptied_view}
use Rattle.turn_lock.proofs.Splitting.{splits_number}
use Rattle.turn_lock.proofs.AtRest.{rests_emptied, spare_left, view_in, views_before}
use Rattle.turn_lock.proofs.lock.TurnLock.split.Goals as goal

pub split_seat-other-requires : goal.split_seat-other-requires
split_seat-other-requires g c =
    let was = views_before c.pass.inside.badge c.replace.result c.into_seat-seat.result.me.0 c.replace.ensures.value c.into_seat-seat.ensures.2 in
    (search rules, search rules, splits_number _ _ _ _ (spare_left c.pass.inside.badge.views c.into_seat-seat.result.me.0 c.args.pass.now c.pass.inside.badge.table_id was c.pass.view_is c.requires.left))

pub invariant_of-pass : goal.invariant_of-pass
invariant_of-pass g c =
    let was = views_before c.pass.inside.badge c.replace.result c.into_seat-seat.result.me.0 c.replace.ensures.value c.into_seat-seat.ensures.2 in
    let now = view_in c.split_seat-other.new.seat.me (emptied_view c.into_seat-seat.result.me.0) c.into_seat-seat.result.me.1 c.split_seat-other.ensures.2 in
    rests_emptied _ _ c.pass.inside.badge.table_id c.into_badge.result.table_id c.pass.inside.badge.views _ c.into_seat-seat.result.me.0 c.split_seat-other.new.seat.me.0 c.pass.invariant was c.into_badge.ensures.2 now
