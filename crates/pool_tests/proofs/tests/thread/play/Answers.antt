use Rattle.std.proofs.Common.{◌∙◌, ap, ℕ, subst, sym}
use Rattle.pool_ledger.specs.Sizes.{Sizes}
use Rattle.memory_lock.specs.Crew.{IsWorker}
use Rattle.pool_tests.specs.Seats.{IsIdle, at_rest}
use Rattle.pool_tests.proofs.Steady.{new_has_grown_none, new_is_idle, rested}
use Rattle.pool_tests.proofs.tests.thread.play.Goals as goal

pub play_script-played-requires-clause-idle : goal.play_script-played-requires-clause-idle
play_script-played-requires-clause-idle g c =
    let count = c.workers.ensures.value ∙ ap (λ (sizes : Sizes). sizes.workers) c.setup.ensures in
    subst (λ (n : ℕ). IsIdle c.args.manager.now c.workers.result n n c.args.worker) (sym c.number-number.ensures.value)
    (subst (λ (n : ℕ). IsIdle c.args.manager.now n c.args.worker.number c.args.worker.number c.args.worker) (sym count)
    (new_is_idle c.args.manager.now g.B.Basis.sizes.workers c.args.worker.number c.args.worker c.requires.worker c.requires.new))

pub play_script-played-requires-clause-none : goal.play_script-played-requires-clause-none
play_script-played-requires-clause-none g c = new_has_grown_none c.args.worker c.requires.new

pub returns : goal.returns
returns g c =
    let count = c.workers.ensures.value ∙ ap (λ (sizes : Sizes). sizes.workers) c.setup.ensures in
    rested c.args.manager.now g.B.Basis.sizes.workers c.args.worker.number c.play_script-played.new.worker c.number-number-2.ensures.rests
    (subst (λ (n : ℕ). IsWorker c.args.manager.now n c.args.worker.number (at_rest c.play_script-played.new.worker)) count
    (subst (λ (n : ℕ). IsWorker c.args.manager.now c.workers.result n (at_rest c.play_script-played.new.worker)) c.number-number.ensures.value c.play_script-played.ensures))
