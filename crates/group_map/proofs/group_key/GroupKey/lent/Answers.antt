use Rattle.std.proofs.Common.{◌∙◌, ap, drop, rules, refl}
use Rattle.aggregate.specs.Fronts.{front_of}
use Rattle.group_map.proofs.KeyParts.{made_by, parts_of}
use Rattle.group_map.proofs.group_key.GroupKey.lent.Goals as goal

pub invariant_of-result : goal.invariant_of-result
invariant_of-result c =
    parts_of c.front.result c.next.result _ c.behind.result.now c.args.bytes.now (λ k. search rules) c.front.ensures
    (c.next.ensures ∙ ap front_of c.behind-tail.ensures) refl (c.behind.ensures ∙ ap (drop 8) c.behind-tail.ensures)

pub returns : goal.returns
returns c =
    made_by c.front.result c.next.result _ c.behind.result.now c.args.bytes.now (λ k. search rules) c.front.ensures
    (c.next.ensures ∙ ap front_of c.behind-tail.ensures) refl (c.behind.ensures ∙ ap (drop 8) c.behind-tail.ensures)
