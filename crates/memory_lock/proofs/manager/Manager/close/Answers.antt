use Rattle.std.proofs.Common.{◌≤◌, ◌∙◌, List, [], length, sym, ap, subst, arith}
use Rattle.std.proofs.lemmas.List.{nil_from_length}
use Rattle.pool_ledger.specs.Sizes.{Sizes}
use Rattle.turn_lock.specs.Passes.{WorkerView, CoversAll}
use Rattle.memory_lock.proofs.Crews.{IsJoined, as_many, joined_first, joined_more, joined_all, parts_all}
use Rattle.memory_lock.proofs.manager.Manager.close.Given as given
use Rattle.memory_lock.proofs.manager.Manager.close.Goals as goal
use Rattle.memory_lock.proofs.manager.Manager.close.Goals.{In_default-pop}

pub loop-worker-init : goal.loop-worker-init
loop-worker-init g c = joined_first c.args.self c.args.workers.items c.pop.new.self.items c.in-Some.all c.in-Some.ensures.items (as_many c.args.self _ c.args.workers.items c.requires.all)

pub loop-worker-preserved : goal.loop-worker-preserved
loop-worker-preserved g c =
    let sized = ap (λ (s : Sizes). s.workers) c.setup.ensures in
    let few : length c.args.workers.items ≤ 4294967296 = omega (arith, c.requires.all.0, sized, c.max-range.ensures.range.few_workers) in
    joined_more c.args.self c.args.workers.items c.loop-worker.workers.items c.pop-in-loop-worker.new.self.items c.in-Some-pop.worker c.loop-worker.all c.join.new.worker c.in-Some-pop.ensures.items few (as_many c.args.self _ c.args.workers.items c.requires.all) c.loop-worker.invariant
    c.join.ensures.worker c.join.ensures.this c.join.ensures.that

-- no worker is left
last : (g : given.Over) (c : In_default-pop g) → IsJoined c.args.self c.args.workers.items [] c.loop-worker.all
last g c = subst (λ (xs : List WorkerView). IsJoined c.args.self c.args.workers.items xs c.loop-worker.all) (nil_from_length c.loop-worker.workers.items (omega (arith, c.in_default-pop.ensures.cases))) c.loop-worker.invariant

pub close-locked-requires-clause-all : goal.close-locked-requires-clause-all
close-locked-requires-clause-all g c =
    subst (λ (p : WorkerView). CoversAll p.speaks p.spare) (sym c.into_pass.ensures) (joined_all c.args.self c.args.workers.items c.loop-worker.all (last g (goal.at.close-locked-requires-clause-all g c).In_default-pop))

pub returns-clause-whole : goal.returns-clause-whole
returns-clause-whole g c =
    parts_all c.args.self c.args.workers.items c.loop-worker.all c.close.result.0 (last g (goal.at.returns-clause-whole g c).In_default-pop)
    (ap (λ (p : WorkerView). p.seen) (sym c.into_pass.ensures) ∙ sym c.close-locked.ensures.history ∙ sym c.close.ensures.journal)
