use Rattle.std.proofs.Common.{◌+◌, ◌&&◌, Bool, List, ℕ, ap, arith, drop, map, sym, ◌∙◌}
use Rattle.eviction.specs.Victims.{evictable}
use Rattle.pool_ledger.specs.declared.entry.Entry.{Entry}
use Rattle.pool_ledger.specs.declared.entry.Event.TheVariants.{Begin}
use Rattle.journal_replay.specs.declared.placed.Placed.{Placed}
use Rattle.journal_replay.specs.Replays.{gone_of}
use Rattle.journal_replay.specs.UseOrder.{candidates_of, entries_from, evictable_from}
use Rattle.journal_replay.proofs.Passed.{from_zero, next_is}
use Rattle.journal_replay.proofs.Walked.{all_found, begin_with, first_of_evictable, next_goes, next_stays, not_all_gone}
use Rattle.journal_replay.proofs.fronts.go_first.Goals as goal

-- what a read past the end gives
abbrev none_there : Entry
none_there = record { worker = 0; event = Begin 0 }

pub loop-found-init : goal.loop-found-init
loop-found-init c =
    let es = c.args.order.now.placed.entries in (
      ap (λ (l : List (ℕ × Placed)). begin_with (map gone_of c.args.waiting.now) (evictable c.args.except (candidates_of c.args.pins.now l))) (sym (from_zero es)),
      omega arith,
    )

pub returns-in_default : goal.returns-in_default
returns-in_default c =
    let all = candidates_of c.args.pins.now c.args.order.now.placed.entries in
    sym (first_of_evictable c.args.except (map gone_of c.args.waiting.now) all
    ∙ c.loop-found.invariant.0
    ∙ not_all_gone c.args.except c.args.waiting.now c.loop-found.found none_there c.loop-found-test.true
    (evictable_from c.args.except c.args.pins.now c.loop-found.from c.args.order.now.placed.entries) (c.in_default.ensures.next c.args.pins.now))

pub returns-then-not-is_gone : goal.returns-then-not-is_gone
returns-then-not-is_gone c =
    let es = c.args.order.now.placed.entries in
    let pins = c.args.pins.now in
    let block = c.candidate_of-block.result in
    let left = evictable_from c.args.except pins c.loop-found.from es in
    let rest = candidates_of pins (entries_from (c.in-Some.place + 1) es) in
    let next = next_is c.args.except pins left rest c.in-Some.placed block (c.in-Some.ensures.next pins) c.candidate_of-block.ensures in
    let more = begin_with (map gone_of (drop (c.loop-found.found + 1) c.args.waiting.now)) (evictable c.args.except rest) in
    sym (first_of_evictable c.args.except (map gone_of c.args.waiting.now) (candidates_of pins es)
    ∙ c.loop-found.invariant.0
    ∙ next_goes c.args.except c.args.waiting.now c.loop-found.found none_there c.loop-found-test.true left rest block next (sym c.may_go.ensures ∙ c.if-may_go.true)
    ∙ ap (λ (t : Bool). t && more) (sym c.is_gone.ensures ∙ c.if-not-is_gone.true))

pub loop-found-preserved-then-may_go : goal.loop-found-preserved-then-may_go
loop-found-preserved-then-may_go c =
    let es = c.args.order.now.placed.entries in
    let pins = c.args.pins.now in
    let block = c.candidate_of-block.result in
    let left = evictable_from c.args.except pins c.loop-found.from es in
    let rest = candidates_of pins (entries_from (c.in-Some.place + 1) es) in
    let next = next_is c.args.except pins left rest c.in-Some.placed block (c.in-Some.ensures.next pins) c.candidate_of-block.ensures in
    let more = begin_with (map gone_of (drop (c.loop-found.found + 1) c.args.waiting.now)) (evictable c.args.except rest) in (
      c.loop-found.invariant.0
          ∙ next_goes c.args.except c.args.waiting.now c.loop-found.found none_there c.loop-found-test.true left rest block next (sym c.may_go.ensures ∙ c.if-may_go.true)
          ∙ ap (λ (t : Bool). t && more) (sym c.is_gone.ensures ∙ c.if-not-is_gone.false),
      omega (arith, c.loop-found-test.true),
    )

pub loop-found-preserved : goal.loop-found-preserved
loop-found-preserved c =
    let es = c.args.order.now.placed.entries in
    let pins = c.args.pins.now in
    let block = c.candidate_of-block.result in
    let left = evictable_from c.args.except pins c.loop-found.from es in
    let rest = candidates_of pins (entries_from (c.in-Some.place + 1) es) in
    let next = next_is c.args.except pins left rest c.in-Some.placed block (c.in-Some.ensures.next pins) c.candidate_of-block.ensures in
    (c.loop-found.invariant.0 ∙ next_stays c.args.except c.args.waiting.now c.loop-found.found none_there c.loop-found-test.true left rest block next (sym c.may_go.ensures ∙ c.if-may_go.false), c.loop-found.invariant.1)

pub returns : goal.returns
returns c =
    sym (first_of_evictable c.args.except (map gone_of c.args.waiting.now) (candidates_of c.args.pins.now c.args.order.now.placed.entries)
    ∙ c.loop-found.invariant.0
    ∙ all_found c.args.waiting.now c.loop-found.found (evictable_from c.args.except c.args.pins.now c.loop-found.from c.args.order.now.placed.entries) c.loop-found-test.false)
