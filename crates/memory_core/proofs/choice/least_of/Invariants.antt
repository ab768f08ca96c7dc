use Rattle.std.proofs.Common.{◌≡◌, drop}
use Rattle.memory_core.specs.Choices.{least_in, least_from}
use Rattle.memory_core.proofs.choice.least_of.Given as goal

-- the one of the least part among the blocks so far and those that are left
abbrev pub invariant-loop-block : goal.invariant-loop-block
invariant-loop-block l = least_from l.dataset l.least (drop l.block-index l.list) ≡ least_in l.dataset l.list
