use Rattle.pool_laws.proofs.GroupsOfEntries.{groups_legal}
use Rattle.pool_laws.proofs.groups.groups_are_legal.Goals as goal

pub returns : goal.returns
returns c = groups_legal
