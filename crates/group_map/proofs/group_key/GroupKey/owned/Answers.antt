use Rattle.std.proofs.Common.{◌∙◌, ap, drop, rules, refl}
use Rattle.aggregate.specs.Fronts.{front_of}
use Rattle.group_map.proofs.KeyParts.{made_by, parts_of}
use Rattle.group_map.proofs.group_key.GroupKey.owned.Goals as goal

pub invariant_of-result : goal.invariant_of-result
invariant_of-result c =
    let rest = c.in_ok-rest.ensures ∙ ap (drop 8) c.behind-tail.ensures in
    parts_of c.front.result c.next.result _ _ c.args.bytes.now (λ k. search rules) c.front.ensures (c.next.ensures ∙ ap front_of c.behind-tail.ensures) refl rest

pub returns : goal.returns
returns c =
    let rest = c.in_ok-rest.ensures ∙ ap (drop 8) c.behind-tail.ensures in
    made_by c.front.result c.next.result _ _ c.args.bytes.now (λ k. search rules) c.front.ensures (c.next.ensures ∙ ap front_of c.behind-tail.ensures) refl rest
