use Rattle.std.proofs.Common.{arith, sym, ◌∙◌, false, ℕ}
use Rattle.std.proofs.lemmas.Grind.{common_steps}
use Rattle.pool_ledger.proofs.Fronts.{front_found, front_missing, sizes-take-mono, sizes_so_far}
use Rattle.eviction.specs.Victims.{is_evictable}
use Rattle.eviction.specs.declared.candidate.Candidate.{Candidate}
use Rattle.eviction.proofs.choice.victims.Goals as goal

-- what a read past the end gives
abbrev none_there : Candidate
none_there = record { dataset = 0; part = 0; size = 0; pinned = false }

abbrev size_of : Candidate → ℕ
size_of block = block.size

pub overflow_add-reached : goal.overflow_add-reached
overflow_add-reached c =
    omega (arith, c.loop-index.invariant, c.requires.small, sizes_so_far size_of (is_evictable c.args.except) c.args.list.now c.loop-index.index none_there c.loop-index-test.true)

pub returns-then-reached-need-clause-front : goal.returns-then-reached-need-clause-front
returns-then-reached-need-clause-front c =
    front_found size_of (is_evictable c.args.except) c.args.list.now c.loop-index.index none_there c.args.need c.loop-index-test.true (sym c.may_go.ensures ∙ c.if-may_go.true) (omega (arith, c.loop-index.invariant)) (omega (arith, c.loop-index.invariant, c.if-reached-need.true))

pub returns-then-reached-need-clause-least : goal.returns-then-reached-need-clause-least
returns-then-reached-need-clause-least c fewer below =
    omega (arith, c.loop-index.invariant, sizes-take-mono size_of (is_evictable c.args.except) c.args.list.now fewer c.loop-index.index (omega (arith, below)))

pub returns-clause-front : goal.returns-clause-front
returns-clause-front c =
    front_missing size_of (is_evictable c.args.except) c.args.list.now c.args.need (grind (arith, common_steps, c.loop-index.invariant, c.loop-index-test.false))
