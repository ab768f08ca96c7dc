use Rattle.std.proofs.Common.{◌∙◌, length, sym, eqb-true}
use Rattle.group_map.proofs.KeyParts.{none_front}
use Rattle.group_map.proofs.group_key.next.Goals as goal

pub returns-then-is_empty : goal.returns-then-is_empty
returns-then-is_empty c =
    let bytes = c.args.tail.now in
    none_front bytes (eqb-true (length bytes) 0 (sym c.is_empty.ensures ∙ c.if-is_empty.true))
