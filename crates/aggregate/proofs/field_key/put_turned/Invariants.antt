use Rattle.std.proofs.Common.{◌≡◌, ◌++◌, take}
use Rattle.std.specs.List.{flat_map}
use Rattle.aggregate.specs.Spelling.{spelled_byte, turned_if}
use Rattle.aggregate.proofs.field_key.put_turned.Given as goal

abbrev pub invariant-loop-byte : goal.invariant-loop-byte
invariant-loop-byte l = l.into.items ≡ l.fn.into.items ++ turned_if l.down (flat_map spelled_byte (take l.byte-index l.field))
