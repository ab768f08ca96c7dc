use Rattle.std.proofs.Common.{List, ◌++◌, arith, length-append, rules}
use Rattle.aggregate.specs.Totals.{Entry}
use Rattle.entry_list.specs.Lists.{entries_of_list}
use Rattle.group_map.specs.Pairs.{entries_of_groups}
use Rattle.group_map.proofs.Taking.{least_charge}
use Rattle.group_map.proofs.Ending.{some_length}
use Rattle.group_map.proofs.map.GroupMap.ask.Goals as goal

pub overflow_mul-bytes : goal.overflow_mul-bytes
overflow_mul-bytes c =
    let map = c.args.self.now in
    let groups : List Entry = entries_of_groups map.groups in
    let chunk : List Entry = entries_of_list map.chunk in
    let least = least_charge (groups ++ chunk) in
    omega (arith, least, length-append groups chunk, map.charged, map.usage.covered, map.usage.small, c.len.ensures)

pub returns-clause-asks : goal.returns-clause-asks
returns-clause-asks c =
    let map = c.args.self.now in
    let groups : List Entry = entries_of_groups map.groups in
    let chunk : List Entry = entries_of_list map.chunk in
    let least = least_charge (groups ++ chunk) in
    record {
      first = search rules;
      before = search rules;
      some = let one = some_length groups c.requires.some in omega (arith, one, c.len.ensures);
      most = omega (arith, least, length-append groups chunk, map.charged, map.usage.covered, map.usage.small, c.len.ensures);
      same = search rules;
    }
