use Rattle.std.proofs.Common.{sym, ◌∙◌}
use Rattle.group_map.proofs.ByPlace.{length-entries_by}
use Rattle.group_map.proofs.groups.Groups.len.Goals as goal

pub returns : goal.returns
returns c =
    let groups = c.args.self.now in
    c.len.ensures.len ∙ sym (length-entries_by groups.width groups.keys.keys groups.values.items)
