use Rattle.std.proofs.Common.{◌∙◌, rules, ap, sym, arith, drop}
use Rattle.std.specs.Int.{w128, cast_signed}
use Rattle.std.proofs.lemmas.Int.{to_z-of_z}
use Rattle.byteorder.specs.Numbers.{big_from-take}
use Rattle.aggregate.proofs.Halves.{big_number-halves}
use Rattle.aggregate.proofs.Numbers.{number-bytes}
use Rattle.aggregate.proofs.partial.read_number.Goals as goal

pub returns : goal.returns
returns c =
    to_z-of_z w128 c.cast_signed.result (search rules) ∙ c.cast_signed.ensures ∙ ap (cast_signed w128) (omega (arith, c.from-high.ensures, c.read_u64.ensures, c.from-low.ensures, c.read_u64-2.ensures, big_from-take 0 8 8 (drop 8 c.args.bytes.now) (omega arith)) ∙ sym (big_number-halves c.args.bytes.now)) ∙ sym (number-bytes c.args.bytes.now (λ k. search rules))
