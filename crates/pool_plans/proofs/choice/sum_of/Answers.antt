use Rattle.std.proofs.Common.{arith, false, ℕ}
use Rattle.pool_ledger.proofs.Fronts.{sizes_so_far}
use Rattle.eviction.specs.Victims.{is_evictable}
use Rattle.eviction.specs.declared.candidate.Candidate.{Candidate}
use Rattle.pool_plans.proofs.choice.sum_of.Goals as goal

-- what a read past the end gives
abbrev none_there : Candidate
none_there = record { dataset = 0; part = 0; size = 0; pinned = false }

abbrev size_of : Candidate → ℕ
size_of block = block.size

pub overflow_add-bytes : goal.overflow_add-bytes
overflow_add-bytes c =
    omega (arith, c.loop-block.invariant, c.requires.small, sizes_so_far size_of (is_evictable c.args.except) c.args.list.now c.loop-block.block-index none_there c.loop-block-test.true)
