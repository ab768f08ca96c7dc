use Rattle.std.proofs.Common.{◌∙◌, ◌++◌, ◌∷◌, [], arith, refl, get_or, append_assoc}
use Rattle.std.proofs.lemmas.List.{append-nil}
use Rattle.aggregate.proofs.Spellings.{behind-behind, step-other, step-end, step-none, step-done, step-zero, step-wrong}
use Rattle.aggregate.proofs.field_key.take_spelled.Goals as goal

pub loop-at-preserved-then-byte-ne0 : goal.loop-at-preserved-then-byte-ne0
loop-at-preserved-then-byte-ne0 c =
    let inv = c.loop-at.invariant in
    let key = c.args.key.now in
    let one = step-other c.args.key.now c.loop-at.at c.loop-at-test.true c.if-byte-ne0.true in (
      omega arith,
      inv.1 ++ (get_or c.args.key.now c.loop-at.at 0 ∷ []),
      inv.2 ∙ rw one (behind-behind inv.1 _ c.loop-at.at 1 _),
      c.in_ok-push.ensures.items ∙ rw inv.3 (append_assoc c.args.into.now.items inv.1 _),
    )

pub returns-then-at-key-clause-none : goal.returns-then-at-key-clause-none
returns-then-at-key-clause-none c =
    let inv = c.loop-at.invariant in
    inv.2 ∙ rw (step-end c.args.key.now c.loop-at.at c.loop-at-test.true c.if-at-key.true c.if-byte-ne0.false) refl

pub returns-then-mark-eq0-clause-some : goal.returns-then-mark-eq0-clause-some
returns-then-mark-eq0-clause-some c =
    let inv = c.loop-at.invariant in
    (inv.1, inv.2 ∙ rw (step-done c.args.key.now c.loop-at.at (omega arith) c.if-byte-ne0.false c.if-mark-eq0.true, append-nil inv.1) refl, inv.3)

pub returns-then-mark-ne1-clause-none : goal.returns-then-mark-ne1-clause-none
returns-then-mark-ne1-clause-none c =
    let inv = c.loop-at.invariant in
    inv.2 ∙ rw (step-wrong c.args.key.now c.loop-at.at (omega arith) c.if-byte-ne0.false c.if-mark-eq0.false c.if-mark-ne1.true) refl

pub loop-at-preserved : goal.loop-at-preserved
loop-at-preserved c =
    let inv = c.loop-at.invariant in
    let two = step-zero c.args.key.now c.loop-at.at (omega arith) c.if-byte-ne0.false c.if-mark-ne1.false in (
      omega arith,
      inv.1 ++ (0 ∷ []),
      inv.2 ∙ rw two (behind-behind inv.1 _ c.loop-at.at 2 _),
      c.in_ok-push-2.ensures.items ∙ rw inv.3 (append_assoc c.args.into.now.items inv.1 _),
    )

pub returns-clause-none : goal.returns-clause-none
returns-clause-none c =
    let inv = c.loop-at.invariant in
    inv.2 ∙ rw (step-none c.args.key.now c.loop-at.at (omega arith)) refl
