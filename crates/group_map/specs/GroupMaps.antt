-- What a map of groups means as a consumer.
-- This project's own.
use Rattle.std.specs.Prelude.{ℕ, ◌+◌, ◌/◌, List, ◌++◌, min}
use Rattle.aggregate.specs.Totals.{Entry}
use Rattle.consumer_trait.specs.States.{State}
use Rattle.consumer_trait.specs.Usages.{group_of, is_group, state_by}
use Rattle.entry_list.specs.Lists.{entries_of_list}
use Rattle.group_map.specs.declared.map.GroupMap.{GroupMap}
use Rattle.group_map.specs.Pairs.{entries_of_groups}

-- its entries: those in the order in which their keys came, and those that its spill has still to write, ascending
abbrev pub entries_in : GroupMap → List Entry
entries_in map = entries_of_groups map.groups ++ entries_of_list map.chunk

-- what callers know of it
abbrev pub state_of : GroupMap → State
state_of map = state_by (group_of map.aggs) (entries_in map) (entries_of_list map.chunk) map.usage 1024 is_group

-- how many of so many entries a spill writes that was told so many bytes: 8 bytes order one entry, and 1,024 are there
abbrev pub chunk_of : ℕ → ℕ → ℕ
chunk_of count told = min count ((1024 + told) / 8)
