use Rattle.std.proofs.Common.{◌≡◌, ◌∙◌, ap, arith}
use Rattle.std.specs.Int.{w128, cast_unsigned}
use Rattle.std.proofs.lemmas.Int.{to_z-of_z}
use Rattle.aggregate.specs.Partial.{number_bytes}
use Rattle.aggregate.proofs.Halves.{half_written, halves_written}
use Rattle.aggregate.proofs.partial.write_number.Goals as goal

pub returns : goal.returns
unfolding number_bytes
returns c =
    let bits : c.cast_unsigned-bits.result ≡ cast_unsigned w128 c.args.n = c.cast_unsigned-bits.ensures ∙ ap (cast_unsigned w128) (to_z-of_z w128 c.args.n c.ranges.n) in
    halves_written c.args.into.now c.write_u64.new.buf c.write_u64-2.new.buf (cast_unsigned w128 c.args.n) c.requires
    (half_written c.args.into.now c.write_u64.new.buf _ _ (omega (arith, bits)) c.write_u64.ensures)
    (half_written _ c.write_u64-2.new.buf _ _ (omega (arith, bits)) c.write_u64-2.ensures)
