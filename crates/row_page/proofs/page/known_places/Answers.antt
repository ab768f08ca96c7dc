use Rattle.std.proofs.Common.{◌≡◌, ◌+◌, ◌++◌, ◌∷◌, [], length, drop, sym, subst, ◌∙◌, arith, rules}
use Rattle.std.proofs.lemmas.List.{take_rest, drop-drop, length-drop}
use Rattle.row_page.specs.Grammar.{HasPieces, IsPieceThen}
use Rattle.row_page.specs.Reading.{rows_of}
use Rattle.row_page.proofs.Fronts.{front_length, one_front}
use Rattle.row_page.proofs.PageRows.{begins_with_row, page_is_empty, page_shown, rest_has_rows}
use Rattle.row_page.proofs.PagePlaces.{drop_front, no_places, walked_on}
use Rattle.row_page.proofs.page.known_places.Goals as goal

pub loop-at-init : goal.loop-at-init
loop-at-init c =
    rw c.in_ok-starts.ensures.items
    record { rest = c.requires; within = omega arith; places = λ rows h. record { rest = h; count = omega arith; places = no_places c.args.bytes.now rows } }

pub unreachable-requires : goal.unreachable-requires
unreachable-requires c =
    let front = begins_with_row (drop c.loop-at.at c.args.bytes.now) c.loop-at.invariant.rest (omega (arith, length-drop c.loop-at.at c.args.bytes.now, c.loop-at-test.true)) in
    c.in_default.ensures.none front.0 front.1 (rw take_rest front.2)

pub loop-at-preserved : goal.loop-at-preserved
loop-at-preserved c =
    let kept = c.loop-at.invariant in
    let bytes = c.args.bytes.now in
    let rest = drop c.loop-at.at bytes in
    let row = c.in-Some.encoding.now in
    let behind = c.in-Some.field-0-1.now in
    let found : IsPieceThen rest row behind = rw take_rest at c.in-Some.ensures.found in
    let front = begins_with_row rest kept.rest (omega (arith, length-drop c.loop-at.at bytes, c.loop-at-test.true)) in
    let same = one_front rest front.0 row front.1 behind front.2 found in
    let step = rest_has_rows rest row behind found (subst HasPieces same.0 front.3) in
    let onward : drop (c.loop-at.at + (4 + length row)) bytes ≡ behind = sym (drop-drop (4 + length row) c.loop-at.at bytes) ∙ drop_front rest row behind found in
    let pushed : c.push.new.self.items ≡ c.loop-at.starts.items ++ c.loop-at.at ∷ [] = search rules in
    record {
      rest = rw onward (step.1 kept.rest);
      within = omega (arith, kept.within, front_length rest row behind found, length-drop c.loop-at.at bytes);
      places = λ rows h. rw pushed (walked_on c.loop-at.starts.items c.loop-at.at (c.loop-at.at + (4 + length row)) bytes row behind rows (kept.places rows h) kept.within found onward);
    }

pub returns-clause-count : goal.returns-clause-count
returns-clause-count c =
    let page = page_shown c.args.bytes.now c.requires in
    let kept = c.loop-at.invariant.places (rows_of c.args.bytes.now) page in
    let empty = page_is_empty _ _ kept.rest (omega (arith, length-drop c.loop-at.at c.args.bytes.now, c.loop-at-test.false)) in
    omega (arith, kept.count, empty, length-drop (length c.loop-at.starts.items) (rows_of c.args.bytes.now))

pub returns-clause-places : goal.returns-clause-places
returns-clause-places c =
    let page = page_shown c.args.bytes.now c.requires in
    (c.loop-at.invariant.places (rows_of c.args.bytes.now) page).places
