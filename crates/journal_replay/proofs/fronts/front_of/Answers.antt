use Rattle.std.proofs.Common.{◌+◌, List, ℕ, ap, arith, sym, ◌∙◌}
use Rattle.eviction.specs.Victims.{evictable}
use Rattle.journal_replay.specs.declared.placed.Placed.{Placed}
use Rattle.journal_replay.specs.UseOrder.{candidates_of, entries_from, evictable_from}
use Rattle.journal_replay.proofs.Passed.{from_zero, length-candidates_of, next_is}
use Rattle.journal_replay.proofs.Walked.{room_for_one, walk_begins, walk_finds, walk_misses, walk_passes, walk_takes}
use Rattle.journal_replay.proofs.fronts.front_of.Goals as goal

pub loop-place-init : goal.loop-place-init
loop-place-init c =
    let es = c.args.order.now.placed.entries in
    walk_begins c.args.except c.args.need (candidates_of c.args.pins.now es) c.requires.some_need c.requires.small (evictable_from c.args.except c.args.pins.now 0 es)
    (ap (λ (l : List (ℕ × Placed)). evictable c.args.except (candidates_of c.args.pins.now l)) (from_zero es))

pub overflow_add-count : goal.overflow_add-count
overflow_add-count c =
    let es = c.args.order.now.placed.entries in
    let pins = c.args.pins.now in
    let block = c.candidate_of-block.result in
    let left = evictable_from c.args.except pins c.loop-place.from es in
    let rest = candidates_of pins (entries_from (c.in-Some.place + 1) es) in
    let next = next_is c.args.except pins left rest c.in-Some.placed block (c.in-Some.ensures.next pins) c.candidate_of-block.ensures in
    let room = room_for_one c.args.except c.args.need (candidates_of pins es) left rest block c.loop-place.count c.loop-place.bytes c.loop-place.invariant next (sym c.may_go.ensures ∙ c.if-may_go.true) in
    omega (arith, room.1, length-candidates_of pins es, c.len-count.ensures.len, c.len-count.ensures.small)

pub overflow_add-bytes : goal.overflow_add-bytes
overflow_add-bytes c =
    let es = c.args.order.now.placed.entries in
    let pins = c.args.pins.now in
    let block = c.candidate_of-block.result in
    let left = evictable_from c.args.except pins c.loop-place.from es in
    let rest = candidates_of pins (entries_from (c.in-Some.place + 1) es) in
    let next = next_is c.args.except pins left rest c.in-Some.placed block (c.in-Some.ensures.next pins) c.candidate_of-block.ensures in
    let room = room_for_one c.args.except c.args.need (candidates_of pins es) left rest block c.loop-place.count c.loop-place.bytes c.loop-place.invariant next (sym c.may_go.ensures ∙ c.if-may_go.true) in
    omega (arith, room.0)

pub returns-then-bytes-need : goal.returns-then-bytes-need
returns-then-bytes-need c =
    let es = c.args.order.now.placed.entries in
    let pins = c.args.pins.now in
    let block = c.candidate_of-block.result in
    let left = evictable_from c.args.except pins c.loop-place.from es in
    let rest = candidates_of pins (entries_from (c.in-Some.place + 1) es) in
    let next = next_is c.args.except pins left rest c.in-Some.placed block (c.in-Some.ensures.next pins) c.candidate_of-block.ensures in
    walk_finds c.args.except c.args.need (candidates_of pins es) left rest block c.loop-place.count c.loop-place.bytes c.loop-place.invariant next (sym c.may_go.ensures ∙ c.if-may_go.true) c.if-bytes-need.true

pub loop-place-preserved-else-bytes-need : goal.loop-place-preserved-else-bytes-need
loop-place-preserved-else-bytes-need c =
    let es = c.args.order.now.placed.entries in
    let pins = c.args.pins.now in
    let block = c.candidate_of-block.result in
    let left = evictable_from c.args.except pins c.loop-place.from es in
    let rest = candidates_of pins (entries_from (c.in-Some.place + 1) es) in
    let next = next_is c.args.except pins left rest c.in-Some.placed block (c.in-Some.ensures.next pins) c.candidate_of-block.ensures in
    walk_takes c.args.except c.args.need (candidates_of pins es) left rest block c.loop-place.count c.loop-place.bytes c.loop-place.invariant next (sym c.may_go.ensures ∙ c.if-may_go.true) c.if-bytes-need.false

pub loop-place-preserved : goal.loop-place-preserved
loop-place-preserved c =
    let es = c.args.order.now.placed.entries in
    let pins = c.args.pins.now in
    let block = c.candidate_of-block.result in
    let left = evictable_from c.args.except pins c.loop-place.from es in
    let rest = candidates_of pins (entries_from (c.in-Some.place + 1) es) in
    let next = next_is c.args.except pins left rest c.in-Some.placed block (c.in-Some.ensures.next pins) c.candidate_of-block.ensures in
    walk_passes c.args.except c.args.need (candidates_of pins es) left rest block c.loop-place.count c.loop-place.bytes c.loop-place.invariant next (sym c.may_go.ensures ∙ c.if-may_go.false)

pub returns : goal.returns
returns c =
    let es = c.args.order.now.placed.entries in
    let pins = c.args.pins.now in
    walk_misses c.args.except c.args.need (candidates_of pins es) (evictable_from c.args.except pins c.loop-place.from es) c.loop-place.count c.loop-place.bytes c.loop-place.invariant
    (c.in_default.ensures.next pins)
