use Rattle.std.proofs.Common.{◌<◌, length, rules}
use Rattle.row_page.proofs.Parts.{has_front, rest_has_pieces}
use Rattle.row_page.proofs.piece.are_pieces.Goals as goal

pub returns-in_default : goal.returns-in_default
returns-in_default c = (
  λ no. absurd cc,
  λ h.
      let some : 0 < length c.loop-rest.rest.now = search rules in
      let front = has_front c.loop-rest.rest.now (c.loop-rest.invariant.1 h) some in
      absurd (c.in_default.ensures.none front.0 front.1 front.2),
)

pub loop-rest-preserved : goal.loop-rest-preserved
loop-rest-preserved c =
    let step = rest_has_pieces c.loop-rest.rest.now c.in-Some.field-0-0.now c.in-Some.behind.now c.in-Some.ensures.found in
    (λ h. c.loop-rest.invariant.0 (step.0 h), λ h. step.1 (c.loop-rest.invariant.1 h))
