use Rattle.std.proofs.Common.{◌≡◌, ◌∙◌, length, sym, true≢false, arith, rules}
use Rattle.row_form.proofs.Walking.{all_walked, below_columns, first_walked, has_column, more_walked, there_stands}
use Rattle.row_form.proofs.form.is_landed.Goals as goal

pub loop-place-init : goal.loop-place-init
loop-place-init c =
    let eight : length c.in-Some.number.now ≡ 8 = search rules in
    first_walked c.args.numbers.now c.args.bytes.now c.in-Some.number.now c.in-Some.behind.now c.in-Some.ensures.found eight

pub returns-in_default-split_piece : goal.returns-in_default-split_piece
returns-in_default-split_piece c = (
  λ no. absurd (true≢false (sym no)),
  λ landed.
      absurd (has_column c.args.numbers.now c.args.bytes.now c.loop-place.rest.now c.loop-place.place c.args.columns c.loop-place.invariant
      c.loop-place-test.true c.in_default-split_piece.ensures.none landed),
)

pub returns-then-not-may_stand : goal.returns-then-not-may_stand
returns-then-not-may_stand c = (
  λ no. absurd (true≢false (sym no)),
  λ landed.
      let may = there_stands c.args.numbers.now c.args.bytes.now c.loop-place.rest.now c.in-Some-split_piece.field.now c.in-Some-split_piece.behind.now c.loop-place.place c.args.columns
      c.loop-place.invariant c.in-Some-split_piece.ensures.found landed in
      absurd (true≢false (sym (c.may_stand.ensures.1 may) ∙ c.if-not-may_stand.true)),
)

pub loop-place-preserved : goal.loop-place-preserved
loop-place-preserved c =
    more_walked c.args.numbers.now c.args.bytes.now c.loop-place.rest.now c.in-Some-split_piece.field.now c.in-Some-split_piece.behind.now c.loop-place.place
    c.loop-place.invariant c.in-Some-split_piece.ensures.found (c.may_stand.ensures.0 (search rules))

pub returns-then-is_empty : goal.returns-then-is_empty
returns-then-is_empty c =
    let whole : c.loop-place.place ≡ c.args.columns = omega (arith, c.loop-place-test.false, c.loop-place.auto.place-end) in
    let none : length c.loop-place.rest.now ≡ 0 = search rules in (
      λ yes. all_walked c.args.numbers.now c.args.bytes.now c.loop-place.rest.now c.args.columns (rw (← whole) c.loop-place.invariant) none (c.are_below.ensures.0 yes),
      λ landed. c.are_below.ensures.1 (below_columns c.args.numbers.now c.args.bytes.now c.args.columns landed),
    )
