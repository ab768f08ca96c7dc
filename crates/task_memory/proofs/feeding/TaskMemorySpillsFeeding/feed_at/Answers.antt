use Rattle.std.proofs.Common.{rules, arith, ℕ, ◌≡◌, List, map, subst, sym}
use Rattle.std.specs.Prelude.{Err}
use Rattle.aggregate.specs.Totals.{Entry}
use Rattle.consumer_trait.specs.States.{State}
use Rattle.consumer_trait.specs.Members.{state_at}
use Rattle.consumer_trait.specs.Calls.{Needs}
use Rattle.task_memory.specs.declared.fault.TaskFault.TheVariants.{DiskFault}
use Rattle.task_memory.specs.Pauses.{AllSame}
use Rattle.task_memory.specs.Scenes.{GoesOn, IsBetween, Scene}
use Rattle.task_memory.specs.Words.{scene_of}
use Rattle.task_memory.proofs.AddingRuns.{on_err_always}
use Rattle.task_memory.proofs.Between.{pick_begun, pick_within}
use Rattle.task_memory.proofs.FeedLoop.{feeding_asks, feeding_ends, feeding_fails, feeding_first, feeding_goes, feeding_more, feeding_refused, feeding_still, feeding_taken}
use Rattle.task_memory.proofs.FeedingOn.{goes_but_first, goes_from, need_is, with_states}
use Rattle.task_memory.proofs.Refused.{no_room_weaker}
use Rattle.task_memory.proofs.Sameness.{all_same_trans, cause_later}
use Rattle.task_memory.proofs.feeding.TaskMemorySpillsFeeding.feed_at.Goals as goal

pub loop-got-init : goal.loop-got-init
loop-got-init g c =
    feeding_first (scene_of g.C.Consumer.state g.P.Pool.state g.D.Disk.files g.D.Disk.faults c.args.self.now) c.args.place (record { key = c.args.key.now; value = c.args.value.now }) c.requires.ready
    (c.scenes_go_on.ensures.none _ c.requires.ready.between.rests.at_work)

pub loop-got-preserved : goal.loop-got-preserved
loop-got-preserved g c =
    let entry : Entry = record { key = c.args.key.now; value = c.args.value.now } in
    let old : Scene = scene_of g.C.Consumer.state g.P.Pool.state g.D.Disk.files g.D.Disk.faults c.args.self.now in
    let now : Scene = scene_of g.C.Consumer.state g.P.Pool.state g.D.Disk.files g.D.Disk.faults c.loop-got.self in
    let states : List State = map g.C.Consumer.state c.feed_at.new.members in
    let so_far = c.loop-got.invariant in
    let needs : Needs (state_at now.stack.states c.args.place) (state_at states c.args.place) entry c.in-Ok-Need.must c.in-Ok-Need.wish = rw c.in-Ok-Need.field-0-is at c.in-Ok-Need.ensures.feeds in
    let only = c.in-Ok-Need.ensures.others in
    let same = need_is now states c.args.place c.in-Ok-Need.must c.in-Ok-Need.wish entry only needs in
    let mid : Scene = scene_of g.C.Consumer.state g.P.Pool.state g.D.Disk.files g.D.Disk.faults c.acquire_at.new.self in
    let goes : GoesOn now mid = goes_from now mid states same c.acquire_at.ensures.goes in
    feeding_more old now mid states c.args.place c.in-Ok-Need.must c.in-Ok-Need.wish c.in_ok-acquire_at-in-Ok-Need.field-0 c.loop-got._got entry c.totals_stay_equal.ensures so_far only needs c.in_ok-acquire_at-in-Ok-Need.ensures.acquires
    (c.scenes_go_on.ensures.more _ _ _ so_far.goes goes)

pub acquire_at-requires-clause-between : goal.acquire_at-requires-clause-between
acquire_at-requires-clause-between g c =
    let entry : Entry = record { key = c.args.key.now; value = c.args.value.now } in
    let old : Scene = scene_of g.C.Consumer.state g.P.Pool.state g.D.Disk.files g.D.Disk.faults c.args.self.now in
    let now : Scene = scene_of g.C.Consumer.state g.P.Pool.state g.D.Disk.files g.D.Disk.faults c.loop-got.self in
    let states : List State = map g.C.Consumer.state c.feed_at.new.members in
    let so_far = c.loop-got.invariant in
    let needs : Needs (state_at now.stack.states c.args.place) (state_at states c.args.place) entry c.in-Ok-Need.must c.in-Ok-Need.wish = rw c.in-Ok-Need.field-0-is at c.in-Ok-Need.ensures.feeds in
    let only = c.in-Ok-Need.ensures.others in
    let same = need_is now states c.args.place c.in-Ok-Need.must c.in-Ok-Need.wish entry only needs in
    subst (λ (each : Scene). IsBetween each) (sym same) so_far.can.between

pub feed_at-requires-clause-kind : goal.feed_at-requires-clause-kind
feed_at-requires-clause-kind g c =
    pick_begun (scene_of g.C.Consumer.state g.P.Pool.state g.D.Disk.files g.D.Disk.faults c.loop-got.self) c.args.place c.loop-got.invariant.can.between c.loop-got.invariant.can.pick

pub feed_at-requires-clause-rest : goal.feed_at-requires-clause-rest
feed_at-requires-clause-rest g c =
    let can = c.loop-got.invariant.can in
    can.between.rests.ready.rests c.args.place (pick_within (scene_of g.C.Consumer.state g.P.Pool.state g.D.Disk.files g.D.Disk.faults c.loop-got.self) c.args.place can.between can.pick)

pub feed_at-requires-clause-entry : goal.feed_at-requires-clause-entry
feed_at-requires-clause-entry g c =
    c.loop-got.invariant.can.formed

pub feed_at-requires-2-clause-kind : goal.feed_at-requires-2-clause-kind
feed_at-requires-2-clause-kind g c =
    pick_begun (scene_of g.C.Consumer.state g.P.Pool.state g.D.Disk.files g.D.Disk.faults c.loop-got.self) c.args.place c.loop-got.invariant.can.between c.loop-got.invariant.can.pick

pub feed_at-requires-2-clause-rest : goal.feed_at-requires-2-clause-rest
feed_at-requires-2-clause-rest g c =
    let can = c.loop-got.invariant.can in
    can.between.rests.ready.rests c.args.place (pick_within (scene_of g.C.Consumer.state g.P.Pool.state g.D.Disk.files g.D.Disk.faults c.loop-got.self) c.args.place can.between can.pick)

pub feed_at-requires-2-clause-entry : goal.feed_at-requires-2-clause-entry
feed_at-requires-2-clause-entry g c =
    c.loop-got.invariant.can.formed

pub returns-in_err-acquire_at-in-Ok-Need-clause-no_room : goal.returns-in_err-acquire_at-in-Ok-Need-clause-no_room
returns-in_err-acquire_at-in-Ok-Need-clause-no_room g c =
    let entry : Entry = record { key = c.args.key.now; value = c.args.value.now } in
    let old : Scene = scene_of g.C.Consumer.state g.P.Pool.state g.D.Disk.files g.D.Disk.faults c.args.self.now in
    let now : Scene = scene_of g.C.Consumer.state g.P.Pool.state g.D.Disk.files g.D.Disk.faults c.loop-got.self in
    let states : List State = map g.C.Consumer.state c.feed_at.new.members in
    let so_far = c.loop-got.invariant in
    let needs : Needs (state_at now.stack.states c.args.place) (state_at states c.args.place) entry c.in-Ok-Need.must c.in-Ok-Need.wish = rw c.in-Ok-Need.field-0-is at c.in-Ok-Need.ensures.feeds in
    let only = c.in-Ok-Need.ensures.others in
    let same = need_is now states c.args.place c.in-Ok-Need.must c.in-Ok-Need.wish entry only needs in
    let mid : Scene = scene_of g.C.Consumer.state g.P.Pool.state g.D.Disk.files g.D.Disk.faults c.acquire_at.new.self in
    let goes : GoesOn now mid = goes_from now mid states same c.acquire_at.ensures.goes in
    let fault = c.in_err-acquire_at-in-Ok-Need.field-0.0 in
    let is : c.from_residual.result ≡ Err fault = search rules in
    rw is (no_room_weaker ℕ (Unit {0}) fault mid.stack.account _ _
    (λ asked refused. feeding_refused old now mid.stack states c.args.place c.in-Ok-Need.must c.in-Ok-Need.wish asked c.loop-got._got entry c.loop-got-test.true so_far only needs refused.no_room) c.in_err-acquire_at-in-Ok-Need.ensures.no_room)

pub returns-in_err-acquire_at-in-Ok-Need-clause-goes : goal.returns-in_err-acquire_at-in-Ok-Need-clause-goes
returns-in_err-acquire_at-in-Ok-Need-clause-goes g c =
    let entry : Entry = record { key = c.args.key.now; value = c.args.value.now } in
    let old : Scene = scene_of g.C.Consumer.state g.P.Pool.state g.D.Disk.files g.D.Disk.faults c.args.self.now in
    let now : Scene = scene_of g.C.Consumer.state g.P.Pool.state g.D.Disk.files g.D.Disk.faults c.loop-got.self in
    let states : List State = map g.C.Consumer.state c.feed_at.new.members in
    let so_far = c.loop-got.invariant in
    let needs : Needs (state_at now.stack.states c.args.place) (state_at states c.args.place) entry c.in-Ok-Need.must c.in-Ok-Need.wish = rw c.in-Ok-Need.field-0-is at c.in-Ok-Need.ensures.feeds in
    let only = c.in-Ok-Need.ensures.others in
    let same = need_is now states c.args.place c.in-Ok-Need.must c.in-Ok-Need.wish entry only needs in
    let mid : Scene = scene_of g.C.Consumer.state g.P.Pool.state g.D.Disk.files g.D.Disk.faults c.acquire_at.new.self in
    let goes : GoesOn now mid = goes_from now mid states same c.acquire_at.ensures.goes in
    goes_but_first old mid c.args.place (pick_within old c.args.place c.requires.ready.between c.requires.ready.pick) (c.scenes_go_on.ensures.more _ _ _ so_far.goes goes)

pub returns-in_err-acquire_at-in-Ok-Need-clause-still : goal.returns-in_err-acquire_at-in-Ok-Need-clause-still
returns-in_err-acquire_at-in-Ok-Need-clause-still g c =
    let entry : Entry = record { key = c.args.key.now; value = c.args.value.now } in
    let old : Scene = scene_of g.C.Consumer.state g.P.Pool.state g.D.Disk.files g.D.Disk.faults c.args.self.now in
    let now : Scene = scene_of g.C.Consumer.state g.P.Pool.state g.D.Disk.files g.D.Disk.faults c.loop-got.self in
    let states : List State = map g.C.Consumer.state c.feed_at.new.members in
    let so_far = c.loop-got.invariant in
    let needs : Needs (state_at now.stack.states c.args.place) (state_at states c.args.place) entry c.in-Ok-Need.must c.in-Ok-Need.wish = rw c.in-Ok-Need.field-0-is at c.in-Ok-Need.ensures.feeds in
    let only = c.in-Ok-Need.ensures.others in
    let same = need_is now states c.args.place c.in-Ok-Need.must c.in-Ok-Need.wish entry only needs in
    feeding_asks old now (scene_of g.C.Consumer.state g.P.Pool.state g.D.Disk.files g.D.Disk.faults c.acquire_at.new.self) c.args.place c.in-Ok-Need.must c.in-Ok-Need.wish c.loop-got._got entry (state_at states c.args.place) so_far needs

pub returns-in_err-acquire_at-in-Ok-Need-clause-unfed : goal.returns-in_err-acquire_at-in-Ok-Need-clause-unfed
returns-in_err-acquire_at-in-Ok-Need-clause-unfed g c =
    let entry : Entry = record { key = c.args.key.now; value = c.args.value.now } in
    let old : Scene = scene_of g.C.Consumer.state g.P.Pool.state g.D.Disk.files g.D.Disk.faults c.args.self.now in
    let now : Scene = scene_of g.C.Consumer.state g.P.Pool.state g.D.Disk.files g.D.Disk.faults c.loop-got.self in
    let states : List State = map g.C.Consumer.state c.feed_at.new.members in
    let so_far = c.loop-got.invariant in
    let needs : Needs (state_at now.stack.states c.args.place) (state_at states c.args.place) entry c.in-Ok-Need.must c.in-Ok-Need.wish = rw c.in-Ok-Need.field-0-is at c.in-Ok-Need.ensures.feeds in
    let only = c.in-Ok-Need.ensures.others in
    let same = need_is now states c.args.place c.in-Ok-Need.must c.in-Ok-Need.wish entry only needs in
    let mid : Scene = scene_of g.C.Consumer.state g.P.Pool.state g.D.Disk.files g.D.Disk.faults c.acquire_at.new.self in
    let goes : GoesOn now mid = goes_from now mid states same c.acquire_at.ensures.goes in
    on_err_always c.from_residual.result (all_same_trans _ _ _ so_far.goes.same goes.same)

pub returns-in_err-acquire_at-in-Ok-Need-clause-cause : goal.returns-in_err-acquire_at-in-Ok-Need-clause-cause
returns-in_err-acquire_at-in-Ok-Need-clause-cause g c =
    let entry : Entry = record { key = c.args.key.now; value = c.args.value.now } in
    let old : Scene = scene_of g.C.Consumer.state g.P.Pool.state g.D.Disk.files g.D.Disk.faults c.args.self.now in
    let now : Scene = scene_of g.C.Consumer.state g.P.Pool.state g.D.Disk.files g.D.Disk.faults c.loop-got.self in
    let states : List State = map g.C.Consumer.state c.feed_at.new.members in
    let so_far = c.loop-got.invariant in
    let mid : Scene = scene_of g.C.Consumer.state g.P.Pool.state g.D.Disk.files g.D.Disk.faults c.acquire_at.new.self in
    let fault = c.in_err-acquire_at-in-Ok-Need.field-0.0 in
    let is : c.from_residual.result ≡ Err fault = search rules in
    rw is (cause_later ℕ (Unit {0}) DiskFault fault old.faults now.faults mid.faults so_far.goes.disk.later c.in_err-acquire_at-in-Ok-Need.ensures.cause)

pub returns-in-Ok-Taken-clause-feeds : goal.returns-in-Ok-Taken-clause-feeds
returns-in-Ok-Taken-clause-feeds g c =
    let entry : Entry = record { key = c.args.key.now; value = c.args.value.now } in
    let old : Scene = scene_of g.C.Consumer.state g.P.Pool.state g.D.Disk.files g.D.Disk.faults c.args.self.now in
    let now : Scene = scene_of g.C.Consumer.state g.P.Pool.state g.D.Disk.files g.D.Disk.faults c.loop-got.self in
    let states : List State = map g.C.Consumer.state c.feed_at.new.members in
    let so_far = c.loop-got.invariant in
    let takes = rw c.in-Ok-Taken.field-0-is at c.in-Ok-Taken.ensures.feeds in
    feeding_taken old now states c.args.place c.loop-got._got entry c.totals_stay_equal.ensures so_far c.in-Ok-Taken.ensures.others takes

pub returns-in-Ok-Taken-clause-goes : goal.returns-in-Ok-Taken-clause-goes
returns-in-Ok-Taken-clause-goes g c =
    let entry : Entry = record { key = c.args.key.now; value = c.args.value.now } in
    let old : Scene = scene_of g.C.Consumer.state g.P.Pool.state g.D.Disk.files g.D.Disk.faults c.args.self.now in
    let now : Scene = scene_of g.C.Consumer.state g.P.Pool.state g.D.Disk.files g.D.Disk.faults c.loop-got.self in
    let states : List State = map g.C.Consumer.state c.feed_at.new.members in
    let so_far = c.loop-got.invariant in
    let takes = rw c.in-Ok-Taken.field-0-is at c.in-Ok-Taken.ensures.feeds in
    feeding_goes old now states c.args.place c.loop-got._got entry so_far c.in-Ok-Taken.ensures.others takes (pick_within old c.args.place c.requires.ready.between c.requires.ready.pick)

pub returns-in-Ok-Taken-clause-still : goal.returns-in-Ok-Taken-clause-still
returns-in-Ok-Taken-clause-still g c =
    let entry : Entry = record { key = c.args.key.now; value = c.args.value.now } in
    let old : Scene = scene_of g.C.Consumer.state g.P.Pool.state g.D.Disk.files g.D.Disk.faults c.args.self.now in
    let now : Scene = scene_of g.C.Consumer.state g.P.Pool.state g.D.Disk.files g.D.Disk.faults c.loop-got.self in
    let states : List State = map g.C.Consumer.state c.feed_at.new.members in
    let so_far = c.loop-got.invariant in
    feeding_still old now states c.args.place c.loop-got._got entry so_far

pub returns-in-Ok-Taken-clause-cause : goal.returns-in-Ok-Taken-clause-cause
returns-in-Ok-Taken-clause-cause g c =
    record { later = c.loop-got.invariant.goes.disk.later; failed = λ is. cc is }

pub returns-in-Err-clause-cause : goal.returns-in-Err-clause-cause
returns-in-Err-clause-cause g c =
    record { later = c.loop-got.invariant.goes.disk.later; failed = λ is. cc is }

pub returns-in-Err-clause-goes : goal.returns-in-Err-clause-goes
returns-in-Err-clause-goes g c =
    let entry : Entry = record { key = c.args.key.now; value = c.args.value.now } in
    let old : Scene = scene_of g.C.Consumer.state g.P.Pool.state g.D.Disk.files g.D.Disk.faults c.args.self.now in
    let now : Scene = scene_of g.C.Consumer.state g.P.Pool.state g.D.Disk.files g.D.Disk.faults c.loop-got.self in
    let states : List State = map g.C.Consumer.state c.feed_at.new.members in
    let so_far = c.loop-got.invariant in
    let fails = feeding_fails now states c.args.place c.in-Err.ensures.others c.in-Err.ensures.feeds in
    goes_but_first old (with_states now states) c.args.place (pick_within old c.args.place c.requires.ready.between c.requires.ready.pick) (subst (λ (each : Scene). GoesOn old each) (sym fails) so_far.goes)

pub returns-in-Err-clause-still : goal.returns-in-Err-clause-still
returns-in-Err-clause-still g c =
    let entry : Entry = record { key = c.args.key.now; value = c.args.value.now } in
    let old : Scene = scene_of g.C.Consumer.state g.P.Pool.state g.D.Disk.files g.D.Disk.faults c.args.self.now in
    let now : Scene = scene_of g.C.Consumer.state g.P.Pool.state g.D.Disk.files g.D.Disk.faults c.loop-got.self in
    let states : List State = map g.C.Consumer.state c.feed_at.new.members in
    let so_far = c.loop-got.invariant in
    feeding_still old now states c.args.place c.loop-got._got entry so_far

pub returns-in-Err-clause-unfed : goal.returns-in-Err-clause-unfed
returns-in-Err-clause-unfed g c =
    let entry : Entry = record { key = c.args.key.now; value = c.args.value.now } in
    let old : Scene = scene_of g.C.Consumer.state g.P.Pool.state g.D.Disk.files g.D.Disk.faults c.args.self.now in
    let now : Scene = scene_of g.C.Consumer.state g.P.Pool.state g.D.Disk.files g.D.Disk.faults c.loop-got.self in
    let states : List State = map g.C.Consumer.state c.feed_at.new.members in
    let so_far = c.loop-got.invariant in
    let fails = feeding_fails now states c.args.place c.in-Err.ensures.others c.in-Err.ensures.feeds in
    subst (λ (each : Scene). AllSame old.stack.states each.stack.states) (sym fails) so_far.goes.same

pub returns-in-Ok-Taken-feed_at-clause-feeds : goal.returns-in-Ok-Taken-feed_at-clause-feeds
returns-in-Ok-Taken-feed_at-clause-feeds g c =
    let entry : Entry = record { key = c.args.key.now; value = c.args.value.now } in
    let old : Scene = scene_of g.C.Consumer.state g.P.Pool.state g.D.Disk.files g.D.Disk.faults c.args.self.now in
    let now : Scene = scene_of g.C.Consumer.state g.P.Pool.state g.D.Disk.files g.D.Disk.faults c.loop-got.self in
    let states : List State = map g.C.Consumer.state c.feed_at-2.new.members in
    let so_far = c.loop-got.invariant in
    let takes = rw c.in-Ok-Taken-feed_at.field-0-is at c.in-Ok-Taken-feed_at.ensures.feeds in
    feeding_taken old now states c.args.place c.loop-got._got entry c.totals_stay_equal.ensures so_far c.in-Ok-Taken-feed_at.ensures.others takes

pub returns-in-Ok-Taken-feed_at-clause-goes : goal.returns-in-Ok-Taken-feed_at-clause-goes
returns-in-Ok-Taken-feed_at-clause-goes g c =
    let entry : Entry = record { key = c.args.key.now; value = c.args.value.now } in
    let old : Scene = scene_of g.C.Consumer.state g.P.Pool.state g.D.Disk.files g.D.Disk.faults c.args.self.now in
    let now : Scene = scene_of g.C.Consumer.state g.P.Pool.state g.D.Disk.files g.D.Disk.faults c.loop-got.self in
    let states : List State = map g.C.Consumer.state c.feed_at-2.new.members in
    let so_far = c.loop-got.invariant in
    let takes = rw c.in-Ok-Taken-feed_at.field-0-is at c.in-Ok-Taken-feed_at.ensures.feeds in
    feeding_goes old now states c.args.place c.loop-got._got entry so_far c.in-Ok-Taken-feed_at.ensures.others takes (pick_within old c.args.place c.requires.ready.between c.requires.ready.pick)

pub returns-in-Ok-Taken-feed_at-clause-still : goal.returns-in-Ok-Taken-feed_at-clause-still
returns-in-Ok-Taken-feed_at-clause-still g c =
    let entry : Entry = record { key = c.args.key.now; value = c.args.value.now } in
    let old : Scene = scene_of g.C.Consumer.state g.P.Pool.state g.D.Disk.files g.D.Disk.faults c.args.self.now in
    let now : Scene = scene_of g.C.Consumer.state g.P.Pool.state g.D.Disk.files g.D.Disk.faults c.loop-got.self in
    let states : List State = map g.C.Consumer.state c.feed_at-2.new.members in
    let so_far = c.loop-got.invariant in
    feeding_still old now states c.args.place c.loop-got._got entry so_far

pub returns-in-Ok-Taken-feed_at-clause-cause : goal.returns-in-Ok-Taken-feed_at-clause-cause
returns-in-Ok-Taken-feed_at-clause-cause g c =
    record { later = c.loop-got.invariant.goes.disk.later; failed = λ is. cc is }

pub returns-in-Err-feed_at-clause-cause : goal.returns-in-Err-feed_at-clause-cause
returns-in-Err-feed_at-clause-cause g c =
    record { later = c.loop-got.invariant.goes.disk.later; failed = λ is. cc is }

pub returns-in-Err-feed_at-clause-goes : goal.returns-in-Err-feed_at-clause-goes
returns-in-Err-feed_at-clause-goes g c =
    let entry : Entry = record { key = c.args.key.now; value = c.args.value.now } in
    let old : Scene = scene_of g.C.Consumer.state g.P.Pool.state g.D.Disk.files g.D.Disk.faults c.args.self.now in
    let now : Scene = scene_of g.C.Consumer.state g.P.Pool.state g.D.Disk.files g.D.Disk.faults c.loop-got.self in
    let states : List State = map g.C.Consumer.state c.feed_at-2.new.members in
    let so_far = c.loop-got.invariant in
    let fails = feeding_fails now states c.args.place c.in-Err-feed_at.ensures.others c.in-Err-feed_at.ensures.feeds in
    goes_but_first old (with_states now states) c.args.place (pick_within old c.args.place c.requires.ready.between c.requires.ready.pick) (subst (λ (each : Scene). GoesOn old each) (sym fails) so_far.goes)

pub returns-in-Err-feed_at-clause-still : goal.returns-in-Err-feed_at-clause-still
returns-in-Err-feed_at-clause-still g c =
    let entry : Entry = record { key = c.args.key.now; value = c.args.value.now } in
    let old : Scene = scene_of g.C.Consumer.state g.P.Pool.state g.D.Disk.files g.D.Disk.faults c.args.self.now in
    let now : Scene = scene_of g.C.Consumer.state g.P.Pool.state g.D.Disk.files g.D.Disk.faults c.loop-got.self in
    let states : List State = map g.C.Consumer.state c.feed_at-2.new.members in
    let so_far = c.loop-got.invariant in
    feeding_still old now states c.args.place c.loop-got._got entry so_far

pub returns-in-Err-feed_at-clause-unfed : goal.returns-in-Err-feed_at-clause-unfed
returns-in-Err-feed_at-clause-unfed g c =
    let entry : Entry = record { key = c.args.key.now; value = c.args.value.now } in
    let old : Scene = scene_of g.C.Consumer.state g.P.Pool.state g.D.Disk.files g.D.Disk.faults c.args.self.now in
    let now : Scene = scene_of g.C.Consumer.state g.P.Pool.state g.D.Disk.files g.D.Disk.faults c.loop-got.self in
    let states : List State = map g.C.Consumer.state c.feed_at-2.new.members in
    let so_far = c.loop-got.invariant in
    let fails = feeding_fails now states c.args.place c.in-Err-feed_at.ensures.others c.in-Err-feed_at.ensures.feeds in
    subst (λ (each : Scene). AllSame old.stack.states each.stack.states) (sym fails) so_far.goes.same

pub unreachable-requires : goal.unreachable-requires
unreachable-requires g c =
    let entry : Entry = record { key = c.args.key.now; value = c.args.value.now } in
    let old : Scene = scene_of g.C.Consumer.state g.P.Pool.state g.D.Disk.files g.D.Disk.faults c.args.self.now in
    let now : Scene = scene_of g.C.Consumer.state g.P.Pool.state g.D.Disk.files g.D.Disk.faults c.loop-got.self in
    let states : List State = map g.C.Consumer.state c.feed_at-2.new.members in
    let so_far = c.loop-got.invariant in
    let needs = rw c.in-Ok-Need-feed_at.field-0-is at c.in-Ok-Need-feed_at.ensures.feeds in
    feeding_ends old now c.args.place _ _ c.loop-got._got entry (state_at states c.args.place) (omega arith) so_far needs
