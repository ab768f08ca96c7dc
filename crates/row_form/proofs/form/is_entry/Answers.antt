use Rattle.std.proofs.Common.{◌≡◌, ◌∙◌, length, refl, sym, true≢false, rules}
use Rattle.row_form.proofs.Walking.{ends_entry, has_value, is_entry}
use Rattle.row_form.proofs.form.is_entry.Goals as goal

pub returns-in_default-split_piece : goal.returns-in_default-split_piece
returns-in_default-split_piece c = (
  λ no. absurd (true≢false (sym no)),
  λ entry.
      absurd (has_value c.args.kind.now c.args.bytes.now c.in-Some.field-0-0.now c.in-Some.behind.now c.in-Some.ensures.found c.in_default-split_piece.ensures.none entry),
)

pub returns-then-is_empty : goal.returns-then-is_empty
returns-then-is_empty c =
    let none : length c.in-Some-split_piece.rest.now ≡ 0 = search rules in (
      λ yes. is_entry c.args.kind.now c.args.bytes.now c.in-Some.field-0-0.now c.in-Some.behind.now c.in-Some-split_piece.value.now c.in-Some-split_piece.rest.now
          c.in-Some.ensures.found c.in-Some-split_piece.ensures.found none (c.takes.ensures.0 yes),
      λ entry. c.takes.ensures.1 (ends_entry c.args.kind.now c.args.bytes.now c.in-Some.field-0-0.now c.in-Some.behind.now c.in-Some-split_piece.value.now c.in-Some-split_piece.rest.now
          c.in-Some.ensures.found c.in-Some-split_piece.ensures.found entry).1,
    )

pub returns-else-is_empty : goal.returns-else-is_empty
returns-else-is_empty c = (
  λ yes. absurd (true≢false (sym yes ∙ c.if-is_empty.false)),
  λ entry.
      let none = (ends_entry c.args.kind.now c.args.bytes.now c.in-Some.field-0-0.now c.in-Some.behind.now c.in-Some-split_piece.value.now c.in-Some-split_piece.rest.now
      c.in-Some.ensures.found c.in-Some-split_piece.ensures.found entry).0 in
      c.is_empty.ensures ∙ rw none refl,
)
