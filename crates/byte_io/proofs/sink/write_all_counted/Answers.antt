use Rattle.std.proofs.Common.{arith, ◌∙◌}
use Rattle.std.proofs.lemmas.List.{length-drop, take_rest}
use Rattle.byte_io.proofs.Known.{appends-piece}
use Rattle.byte_io.proofs.sink.write_all_counted.Goals as goal

pub loop-at-preserved : goal.loop-at-preserved
loop-at-preserved g c =
    let inv = c.loop-at.invariant in
    let e = c.in_ok-at.ensures in
    let bound = rw take_rest at e.bound in (
      omega (arith, length-drop c.loop-at.at c.args.bytes.now, bound),
      appends-piece _ _ _ c.loop-at.at c.in_ok-at.field-0 c.args.bytes.now inv.1 (rw take_rest at e.bytes),
      e.tells ∙ inv.2,
      (let h = e.cause.later in omega (arith, inv.3, h)),
    )
