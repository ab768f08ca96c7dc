use Rattle.std.proofs.Common.{◌≡◌, ◌∙◌, refl, ap, arith, drop, take, length-drop, rules}
use Rattle.std.proofs.lemmas.List.{take_all}
use Rattle.std.proofs.lemmas.Int.{to_z-of_z}
use Rattle.std.specs.Int.{w128}
use Rattle.aggregate.specs.Partial.{number_bytes}
use Rattle.aggregate.proofs.Adding.{added, there, sum_of}
use Rattle.aggregate.proofs.partial.add_bytes.Goals as goal

pub returns : goal.returns
returns c =
    let old = c.args.into.now in
    let from = c.args.from.now in
    let first : take 16 (drop 1 old) ≡ drop 1 old = take_all 16 (drop 1 old) (omega (arith, length-drop 1 old, c.requires.long)) in
    let second : take 16 (drop 1 from) ≡ drop 1 from = take_all 16 (drop 1 from) (omega (arith, length-drop 1 from, c.requires.alike)) in
    let sum : c.write_number.new.into ≡ number_bytes (sum_of old from) =
    c.write_number.ensures ∙ ap number_bytes (to_z-of_z w128 c.join-sum.result (search rules) ∙ c.join-sum.ensures ∙ rw (to_z-of_z w128 c.read_number.result (search rules), to_z-of_z w128 c.read_number-2.result (search rules), c.read_number.ensures, c.read_number-2.ensures, first, second) refl) in
    let flag : c.max.result ≡ there old from = search rules in
    added old from c.write_number.new.into c.max.result c.requires.into c.requires.from c.requires.long flag sum
