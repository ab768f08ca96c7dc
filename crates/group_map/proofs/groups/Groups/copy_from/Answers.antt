use Rattle.std.proofs.Common.{◌≤◌, ◌∙◌, ◌++◌, ℕ, List, ap, length, arith}
use Rattle.group_map.proofs.Places.{copied_all, copied_more}
use Rattle.group_map.proofs.groups.Groups.copy_from.Goals as goal

pub loop-place-preserved : goal.loop-place-preserved
loop-place-preserved c =
    let groups = c.args.self.now in
    copied_more groups.width groups.keys.keys groups.values.items c.deref-in-loop-place.result.now c.deref.result.now c.loop-place.place _ c.index.result.now _ _ _
    c.index.ensures (c.deref.ensures.value ∙ c.in_ok-put.ensures ∙ ap (λ (bytes : List ℕ). bytes ++ c.index.result.now) c.clear.ensures.items) c.deref-in-loop-place.ensures.value (omega arith) c.in_ok-push.ensures.ok c.loop-place.invariant

pub returns : goal.returns
returns c =
    let groups = c.args.self.now in
    let past : length groups.keys.keys ≤ c.loop-place.place = omega (arith, c.loop-place-test.false, c.len-place-end.ensures.len) in
    copied_all groups.width groups.keys.keys groups.values.items c.loop-place.place _ _ past c.loop-place.invariant
