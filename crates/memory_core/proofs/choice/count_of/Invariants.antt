use Rattle.std.proofs.Common.{◌≡◌, ◌≤◌, take, count_by}
use Rattle.memory_core.specs.Choices.{may_go_of}
use Rattle.memory_core.proofs.choice.count_of.Given as goal

-- those among the blocks so far that may be removed
abbrev pub invariant-loop-block : goal.invariant-loop-block
invariant-loop-block l = (l.count ≡ count_by (may_go_of l.dataset) (take l.block-index l.list)) × (l.count ≤ l.block-index)
