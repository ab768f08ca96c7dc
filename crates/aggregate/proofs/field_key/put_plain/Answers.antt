use Rattle.std.proofs.Common.{◌≡◌, arith}
use Rattle.std.proofs.lemmas.Grind.{common_steps}
use Rattle.std.specs.List.{flat_map}
use Rattle.aggregate.specs.Spelling.{spelled_byte}
use Rattle.aggregate.proofs.Spellings.{plain-spelled}
use Rattle.aggregate.proofs.field_key.put_plain.Goals as goal

pub returns-clause-ok : goal.returns-clause-ok
returns-clause-ok c =
    let plain : flat_map spelled_byte c.args.field.now ≡ c.args.field.now = plain-spelled c.args.field.now c.requires in
    rw plain (grind (arith, common_steps))
