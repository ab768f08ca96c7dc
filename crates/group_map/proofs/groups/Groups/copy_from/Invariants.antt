use Rattle.std.proofs.Common.{◌≡◌, ◌++◌, drop}
use Rattle.entry_list.specs.Lists.{entries_of_list}
use Rattle.group_map.specs.Pairs.{entries_of_groups}
use Rattle.group_map.proofs.groups.Groups.copy_from.Given as goal

abbrev pub invariant-loop-place : goal.invariant-loop-place
invariant-loop-place l = entries_of_list l.list ++ drop l.place (entries_of_groups l.self) ≡ drop l.first (entries_of_groups l.self)
