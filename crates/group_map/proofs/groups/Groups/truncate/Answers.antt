use Rattle.std.proofs.Common.{ℕ, ◌∙◌, List, ap, arith, length, take}
use Rattle.group_map.specs.Pairs.{entries_by}
use Rattle.group_map.proofs.ByPlace.{length-entries_by, take-entries_by}
use Rattle.group_map.proofs.Widths.{upto_width}
use Rattle.group_map.proofs.groups.Groups.truncate.Goals as goal

pub overflow_mul-self : goal.overflow_mul-self
overflow_mul-self c =
    let groups = c.args.self.now in
    let count = length-entries_by groups.width groups.keys.keys groups.values.items in
    let le = upto_width groups.width c.args.len (length groups.keys.keys) (omega (arith, count, c.requires)) in
    omega (arith, le, groups.whole, groups.values.ok.0, groups.values.small)

pub returns-clause-kept : goal.returns-clause-kept
returns-clause-kept c =
    let groups = c.args.self.now in
    ap (λ (keys : List (List ℕ)). entries_by groups.width keys c.truncate-2.new.self.items) c.truncate.ensures.keys
    ∙ ap (λ (bytes : List ℕ). entries_by groups.width (take c.args.len groups.keys.keys) bytes) c.truncate-2.ensures.items
    ∙ take-entries_by groups.width groups.keys.keys groups.values.items c.args.len
