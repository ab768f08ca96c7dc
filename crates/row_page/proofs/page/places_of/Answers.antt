use Rattle.std.proofs.Common.{◌≡◌, ◌+◌, ◌++◌, ◌∷◌, ◌↔◌, [], length, drop, sym, subst, ◌∙◌, arith, rules}
use Rattle.std.proofs.lemmas.List.{take_rest, drop-drop, length-drop, drop_all}
use Rattle.row_page.specs.Grammar.{HasPieces, HasRows, IsPieceThen}
use Rattle.row_page.specs.Reading.{rows_of}
use Rattle.row_page.proofs.Fronts.{front_length, one_front}
use Rattle.row_page.proofs.PageRows.{begins_with_row, page_is_empty, page_shown, rest_has_rows}
use Rattle.row_page.proofs.PagePlaces.{drop_front, no_places, walked_on}
use Rattle.row_page.proofs.page.places_of.Goals as goal

pub loop-at-init : goal.loop-at-init
loop-at-init c =
    rw c.new-starts.ensures.items
    record { rest = (λ h. h, λ h. h); within = omega arith; places = λ rows h. record { rest = h; count = omega arith; places = no_places c.args.bytes.now rows } }

pub returns-in_default-clause-none : goal.returns-in_default-clause-none
returns-in_default-clause-none c h =
    let front = begins_with_row (drop c.loop-at.at c.args.bytes.now) (c.loop-at.invariant.rest.1 h) (omega (arith, length-drop c.loop-at.at c.args.bytes.now, c.loop-at-test.true)) in
    c.in_default.ensures.none front.0 front.1 (rw take_rest front.2)

pub returns-then-not-are_pieces-clause-none : goal.returns-then-not-are_pieces-clause-none
returns-then-not-are_pieces-clause-none c h =
    let rest = drop c.loop-at.at c.args.bytes.now in
    let front = begins_with_row rest (c.loop-at.invariant.rest.1 h) (omega (arith, length-drop c.loop-at.at c.args.bytes.now, c.loop-at-test.true)) in
    let found : IsPieceThen rest c.in-Some.row.now c.in-Some.field-0-1.now = rw take_rest at c.in-Some.ensures.found in
    let same = one_front rest front.0 c.in-Some.row.now front.1 c.in-Some.field-0-1.now front.2 found in
    let yes = c.are_pieces.ensures.1 (subst HasPieces same.0 front.3) in
    absurd (search rules)

pub loop-at-preserved : goal.loop-at-preserved
loop-at-preserved c =
    let kept = c.loop-at.invariant in
    let bytes = c.args.bytes.now in
    let rest = drop c.loop-at.at bytes in
    let row = c.in-Some.row.now in
    let behind = c.in-Some.field-0-1.now in
    let found : IsPieceThen rest row behind = rw take_rest at c.in-Some.ensures.found in
    let fields : HasPieces row = c.are_pieces.ensures.0 (search rules) in
    let step = rest_has_rows rest row behind found fields in
    let onward : drop (c.loop-at.at + (4 + length row)) bytes ≡ behind = sym (drop-drop (4 + length row) c.loop-at.at bytes) ∙ drop_front rest row behind found in
    let pushed : c.push.new.self.items ≡ c.loop-at.starts.items ++ c.loop-at.at ∷ [] = search rules in
    let both : HasRows behind ↔ HasRows bytes = (λ h. kept.rest.0 (step.0 h), λ h. step.1 (kept.rest.1 h)) in
    record {
      rest = rw onward both;
      within = omega (arith, kept.within, front_length rest row behind found, length-drop c.loop-at.at bytes);
      places = λ rows h. rw pushed (walked_on c.loop-at.starts.items c.loop-at.at (c.loop-at.at + (4 + length row)) bytes row behind rows (kept.places rows h) kept.within found onward);
    }

pub returns-clause-page : goal.returns-clause-page
returns-clause-page c =
    c.loop-at.invariant.rest.0 ([], drop_all c.loop-at.at c.args.bytes.now (omega (arith, c.loop-at-test.false)))

pub returns-clause-count : goal.returns-clause-count
returns-clause-count c =
    let page = page_shown c.args.bytes.now (c.loop-at.invariant.rest.0 ([], drop_all c.loop-at.at c.args.bytes.now (omega (arith, c.loop-at-test.false)))) in
    let kept = c.loop-at.invariant.places (rows_of c.args.bytes.now) page in
    let empty = page_is_empty _ _ kept.rest (omega (arith, length-drop c.loop-at.at c.args.bytes.now, c.loop-at-test.false)) in
    omega (arith, kept.count, empty, length-drop (length c.loop-at.starts.items) (rows_of c.args.bytes.now))

pub returns-clause-places : goal.returns-clause-places
returns-clause-places c =
    let page = page_shown c.args.bytes.now (c.loop-at.invariant.rest.0 ([], drop_all c.loop-at.at c.args.bytes.now (omega (arith, c.loop-at-test.false)))) in
    (c.loop-at.invariant.places (rows_of c.args.bytes.now) page).places
