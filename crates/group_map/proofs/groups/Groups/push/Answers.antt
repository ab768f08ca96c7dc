use Rattle.std.proofs.Common.{◌≡◌, ℕ, ◌≤◌, ◌∙◌, List, [], ◌∷◌, ◌++◌, ap, arith, length}
use Rattle.group_map.proofs.Places.{new_last, pushed, pushed_short, pushed_whole}
use Rattle.group_map.proofs.groups.Groups.push.Goals as goal

pub invariant_of-self-in-Ok : goal.invariant_of-self-in-Ok
invariant_of-self-in-Ok c =
    let groups = c.args.self.now in
    let copy = c.in_ok-copy.copy in
    let key : copy ≡ c.args.key.now = c.in_ok-copy.ensures in
    let last : c.insert.new.self.keys ≡ groups.keys.keys ++ copy ∷ [] = c.in-Ok.ensures.keys ∙ new_last groups.width groups.keys.keys groups.values.items c.args.key.now copy key c.requires.new in
    record {
      whole = pushed_whole groups.width groups.keys.keys c.insert.new.self.keys groups.values.items c.extend_from_slice.new.self.items c.args.value.now copy last c.in_ok-extend_from_slice.ensures.items groups.whole c.requires.value;
      narrow = groups.narrow;
      short = pushed_short (λ (k : List ℕ). length k ≤ 131152) groups.keys.keys c.insert.new.self.keys copy last groups.short (let same = ap length key in omega (arith, same, c.requires.key_fits));
    }

pub returns-clause-ok : goal.returns-clause-ok
returns-clause-ok c =
    let groups = c.args.self.now in
    let copy = c.in_ok-copy.copy in
    let key : copy ≡ c.args.key.now = c.in_ok-copy.ensures in
    let last : c.insert.new.self.keys ≡ groups.keys.keys ++ copy ∷ [] = c.in-Ok.ensures.keys ∙ new_last groups.width groups.keys.keys groups.values.items c.args.key.now copy key c.requires.new in
    pushed groups.width groups.keys.keys c.insert.new.self.keys groups.values.items c.extend_from_slice.new.self.items c.args.key.now c.args.value.now copy key last c.in_ok-extend_from_slice.ensures.items groups.whole c.requires.value
