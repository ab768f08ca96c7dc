use Rattle.std.proofs.Common.{arith, subst}
use Rattle.pool_ledger.specs.Recorded.{CanCome, CanFollow, CanAttempt, CanRelease}
use Rattle.pool_ledger.proofs.Tasks.{entry_of}
use Rattle.pool_ledger.proofs.After.{IsSeated, is_seated, kept-Begin, kept-Attempt, kept-Release, kept-End, kept-Leave, kept-Remove, kept-Pin, kept-Grow, at_entry}
use Rattle.pool_ledger.proofs.Bounds.{maximum_within}
use Rattle.pool_ledger.proofs.Residents.{stored-without}
use Rattle.pool_ledger.specs.declared.entry.Event.TheVariants.{Evict, Remove}
use Rattle.pool_ledger.proofs.ledger.Ledger.kept_after.Goals as goal
use Rattle.pool_ledger.proofs.ledger.Ledger.kept_after.Goals.{In-Begin-default, In-Attempt-Some, In-Release-Some, In-End-Some, In-Evict-default, In-Remove-default}

can_attempt : (c : In-Attempt-Some) → CanAttempt c.args.self.now.setup c.args.self.now.history c.args.entry.worker c.in-Attempt-Some.task-0 c.in-Attempt-Some.moved c.in-Attempt-Some.got
can_attempt c = subst (λ e. CanCome c.args.self.now.setup c.args.self.now.history c.args.entry.worker e) c.in-Attempt-Some.is-0 c.requires.event_fits

attempt_seat : (c : In-Attempt-Some) → IsSeated c.args.self.now.setup c.args.self.now.history c.kept-kept.result c.in-Attempt-Some.open c.in-Attempt-Some.task-0
attempt_seat c = is_seated _ _ _ _ _ _ c.kept-kept.ensures.sums c.kept-kept.ensures.recorded (can_attempt c).open_now c.in-Attempt-Some.is-1

can_release : (c : In-Release-Some) → CanRelease c.args.self.now.history c.args.entry.worker c.in-Release-Some.task-0 c.in-Release-Some.freed
can_release c = subst (λ e. CanCome c.args.self.now.setup c.args.self.now.history c.args.entry.worker e) c.in-Release-Some.is-0 c.requires.event_fits

release_seat : (c : In-Release-Some) → IsSeated c.args.self.now.setup c.args.self.now.history c.kept-kept.result c.in-Release-Some.open c.in-Release-Some.task-0
release_seat c = is_seated _ _ _ _ _ _ c.kept-kept.ensures.sums c.kept-kept.ensures.recorded (can_release c).open_now c.in-Release-Some.is-1

can_end : (c : In-End-Some) → CanRelease c.args.self.now.history c.args.entry.worker c.in-End-Some.task-0 c.in-End-Some.freed
can_end c = subst (λ e. CanCome c.args.self.now.setup c.args.self.now.history c.args.entry.worker e) c.in-End-Some.is-0 c.requires.event_fits

end_seat : (c : In-End-Some) → IsSeated c.args.self.now.setup c.args.self.now.history c.kept-kept.result c.in-End-Some.open c.in-End-Some.task-0
end_seat c = is_seated _ _ _ _ _ _ c.kept-kept.ensures.sums c.kept-kept.ensures.recorded (can_end c).open_now c.in-End-Some.is-1

pub granted-next-requires : goal.granted-next-requires
granted-next-requires c =
    let seat = attempt_seat (goal.at.granted-next-requires c).In-Attempt-Some in
    let can = can_attempt (goal.at.granted-next-requires c).In-Attempt-Some in
    omega (arith, seat.held_fits, can.sum_fits, c.kept-kept.ensures.sums.exec_is, c.unwrap_or.ensures, maximum_within _ _ c.kept-kept.ensures.range.maximum_small c.kept-kept.ensures.recorded)

pub overflow_sub-result : goal.overflow_sub-result
overflow_sub-result c = (attempt_seat (goal.at.overflow_sub-result c).In-Attempt-Some).held_fits

pub overflow_sub-result-in-Attempt-Some : goal.overflow_sub-result-in-Attempt-Some
overflow_sub-result-in-Attempt-Some c = let seat = attempt_seat (goal.at.overflow_sub-result-in-Attempt-Some c).In-Attempt-Some in omega (arith, seat.mark_fits, c.mark.ensures)

pub overflow_add-result-in-Attempt-Some-2 : goal.overflow_add-result-in-Attempt-Some-2
overflow_add-result-in-Attempt-Some-2 c =
    let seat = attempt_seat (goal.at.overflow_add-result-in-Attempt-Some-2 c).In-Attempt-Some in
    omega (arith, seat.few, c.mark.ensures, c.kept-kept.ensures.few)

pub overflow_sub-result-in-Release-Some : goal.overflow_sub-result-in-Release-Some
overflow_sub-result-in-Release-Some c =
    let seat = release_seat (goal.at.overflow_sub-result-in-Release-Some c).In-Release-Some in
    let can = can_release (goal.at.overflow_sub-result-in-Release-Some c).In-Release-Some in
    omega (arith, seat.held_fits, seat.held_is, can.holds)

pub overflow_sub-result-in-Release-Some-2 : goal.overflow_sub-result-in-Release-Some-2
overflow_sub-result-in-Release-Some-2 c =
    let seat = release_seat (goal.at.overflow_sub-result-in-Release-Some-2 c).In-Release-Some in
    omega (arith, seat.mark_fits, c.mark-in-Release-Some.ensures)

pub overflow_sub-result-in-End-Some : goal.overflow_sub-result-in-End-Some
overflow_sub-result-in-End-Some c =
    let seat = end_seat (goal.at.overflow_sub-result-in-End-Some c).In-End-Some in
    let can = can_end (goal.at.overflow_sub-result-in-End-Some c).In-End-Some in
    omega (arith, seat.held_fits, seat.held_is, can.holds)

pub overflow_sub-result-in-End-Some-2 : goal.overflow_sub-result-in-End-Some-2
overflow_sub-result-in-End-Some-2 c =
    let seat = end_seat (goal.at.overflow_sub-result-in-End-Some-2 c).In-End-Some in
    omega (arith, seat.mark_fits, c.mark-in-End-Some.ensures)

pub returns-in-Begin-default : goal.returns-in-Begin-default
returns-in-Begin-default c =
    let can = subst (λ e. CanFollow c.args.self.now.setup c.args.self.now.history (entry_of c.args.entry.worker e)) c.in-Begin-default.is-0 c.requires in
    rw c.with_seat.ensures
    (rw c.new.ensures
    (at_entry _ _ _ c.args.entry _ c.in-Begin-default.is-0 (kept-Begin _ _ _ _ _ c.kept-kept.ensures.sums c.kept-kept.ensures.recorded can)))

pub returns-in-Attempt-Some : goal.returns-in-Attempt-Some
returns-in-Attempt-Some c =
    let at = (goal.at.returns-in-Attempt-Some c).In-Attempt-Some in
    let next = rw c.unwrap_or.ensures at c.granted-next.ensures in
    at_entry _ _ _ c.args.entry _ c.in-Attempt-Some.is-0
    (kept-Attempt _ _ _ _ _ _ _ _ _ _ _ _ c.kept-kept.ensures.sums c.kept-kept.ensures.recorded (can_attempt at) (attempt_seat at) next c.mark.ensures)

pub returns-in-Release-Some : goal.returns-in-Release-Some
returns-in-Release-Some c =
    let at = (goal.at.returns-in-Release-Some c).In-Release-Some in
    at_entry _ _ _ c.args.entry _ c.in-Release-Some.is-0
    (kept-Release _ _ _ _ _ _ _ _ _ _ c.kept-kept.ensures.sums c.kept-kept.ensures.recorded (can_release at) (release_seat at) c.released-next.ensures c.mark-in-Release-Some.ensures c.mark-in-Release-Some-2.ensures)

pub returns-in-End-Some : goal.returns-in-End-Some
returns-in-End-Some c =
    let at = (goal.at.returns-in-End-Some c).In-End-Some in
    at_entry _ _ _ c.args.entry _ c.in-End-Some.is-0
    (kept-End _ _ _ _ _ _ _ _ _ _ c.kept-kept.ensures.sums c.kept-kept.ensures.recorded (can_end at) (end_seat at) c.released-left.ensures c.mark-in-End-Some.ensures c.mark-in-End-Some-2.ensures)

can_evict : (c : In-Evict-default) → CanCome c.args.self.now.setup c.args.self.now.history c.args.entry.worker (Evict c.in-Evict-default.dataset-0 c.in-Evict-default.part-0 c.in-Evict-default.size c.in-Evict-default.fate-0)
can_evict c = subst (λ e. CanCome c.args.self.now.setup c.args.self.now.history c.args.entry.worker e) c.in-Evict-default.is-0 c.requires.event_fits

can_remove : (c : In-Remove-default) → CanCome c.args.self.now.setup c.args.self.now.history c.args.entry.worker (Remove c.in-Remove-default.dataset-0 c.in-Remove-default.part-0 c.in-Remove-default.size)
can_remove c = subst (λ e. CanCome c.args.self.now.setup c.args.self.now.history c.args.entry.worker e) c.in-Remove-default.is-0 c.requires.event_fits

pub overflow_sub-kept : goal.overflow_sub-kept
overflow_sub-kept c =
    let can = can_evict (goal.at.overflow_sub-kept c).In-Evict-default in
    omega (arith, c.kept-kept.ensures.sums.stored_is, stored-without _ _ _ _ _ _ c.kept-kept.ensures.recorded can.1)

pub overflow_sub-kept-in-Remove-default : goal.overflow_sub-kept-in-Remove-default
overflow_sub-kept-in-Remove-default c =
    let can = can_remove (goal.at.overflow_sub-kept-in-Remove-default c).In-Remove-default in
    omega (arith, c.kept-kept.ensures.sums.stored_is, stored-without _ _ _ _ _ _ c.kept-kept.ensures.recorded can.1)

pub returns-in-Evict-default : goal.returns-in-Evict-default
returns-in-Evict-default c =
    rw c.with_stored.ensures
    (at_entry _ _ _ c.args.entry _ c.in-Evict-default.is-0
    (kept-Leave _ _ _ _ _ _ _ c.in-Evict-default.fate-0 c.kept-kept.ensures.sums c.kept-kept.ensures.recorded (can_evict (goal.at.returns-in-Evict-default c).In-Evict-default)))

pub returns-in-Remove-default : goal.returns-in-Remove-default
returns-in-Remove-default c =
    rw c.with_stored-in-Remove-default.ensures
    (at_entry _ _ _ c.args.entry _ c.in-Remove-default.is-0
    (kept-Remove _ _ _ _ _ _ _ c.kept-kept.ensures.sums c.kept-kept.ensures.recorded (can_remove (goal.at.returns-in-Remove-default c).In-Remove-default)))

pub returns-in-Pin-default : goal.returns-in-Pin-default
returns-in-Pin-default c =
    at_entry _ _ _ c.args.entry _ c.in-Pin-default.is-0
    (kept-Pin _ _ _ _ c.in-Pin-default.dataset-0 c.in-Pin-default.part-0 c.in-Pin-default.copy-0 c.kept-kept.ensures.sums)

pub returns-in-Grow-default : goal.returns-in-Grow-default
returns-in-Grow-default c =
    rw c.grown.ensures
    (at_entry _ _ _ c.args.entry _ c.in-Grow-default.is-0
    (kept-Grow _ _ _ _ _ c.kept-kept.ensures.range.region_fits c.kept-kept.ensures.sums c.kept-kept.ensures.recorded))
