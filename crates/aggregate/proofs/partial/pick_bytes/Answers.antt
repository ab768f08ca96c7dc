use Rattle.std.proofs.Common.{◌≡◌, ◌∙◌, refl, ap, arith, drop, take, length-drop, rules}
use Rattle.std.proofs.lemmas.List.{take_all}
use Rattle.std.proofs.lemmas.Int.{to_z-of_z}
use Rattle.std.specs.Int.{w128}
use Rattle.aggregate.specs.Partial.{joined_number, number, number_bytes}
use Rattle.aggregate.proofs.Adding.{both_there, none_from, none_into}
use Rattle.aggregate.proofs.partial.pick_bytes.Goals as goal

pub returns-then-from-eq0 : goal.returns-then-from-eq0
returns-then-from-eq0 c = none_from c.args.agg c.args.into.now c.args.from.now c.requires.into c.requires.from (search rules)

pub returns-then-into-eq0 : goal.returns-then-into-eq0
returns-then-into-eq0 c = c.copy_from_slice.ensures.after ∙ none_into c.args.agg c.args.into.now c.args.from.now c.requires.into c.requires.from (search rules)

pub returns : goal.returns
returns c =
    let old = c.args.into.now in
    let from = c.args.from.now in
    let first : take 16 (drop 1 old) ≡ drop 1 old = take_all 16 (drop 1 old) (omega (arith, length-drop 1 old, c.requires.long)) in
    let second : take 16 (drop 1 from) ≡ drop 1 from = take_all 16 (drop 1 from) (omega (arith, length-drop 1 from, c.requires.alike)) in
    let tail : c.write_number.new.into ≡ number_bytes (joined_number c.args.agg (number (drop 1 old)) (number (drop 1 from))) =
    c.write_number.ensures ∙ ap number_bytes (to_z-of_z w128 c.join-joint.result (search rules) ∙ c.join-joint.ensures ∙ rw (to_z-of_z w128 c.read_number.result (search rules), to_z-of_z w128 c.read_number-2.result (search rules), c.read_number.ensures, c.read_number-2.ensures, first, second) refl) in
    both_there c.args.agg old from c.write_number.new.into c.requires.into c.requires.from (search rules) (search rules) tail
