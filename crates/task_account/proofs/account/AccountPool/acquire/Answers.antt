use Rattle.std.proofs.Common.{◌∙◌, refl, sym}
use Rattle.pool_ledger.specs.Sizes.{floor_of}
use Rattle.task_pool.specs.Workers.{own_entries, own_of}
use Rattle.task_account.proofs.FirstAsked.{acquire_asks}
use Rattle.task_account.proofs.Granted.{acquire_adds, acquire_grants}
use Rattle.task_account.proofs.Peaks.{added_peak, held_peaked}
use Rattle.task_account.proofs.account.AccountPool.acquire.Goals as goal

pub returns-clause-grants : goal.returns-clause-grants
returns-clause-grants g c =
    let self = c.args.self.now in
    acquire_grants c.acquire.result (floor_of g.B.Basis.sizes) self.task c.args.asked self.worker.now c.acquire.new.worker
    c.acquire.ensures.ok c.acquire.ensures.few c.acquire.ensures.grows c.acquire.ensures.holds c.acquire.ensures.floor

pub returns-clause-first : goal.returns-clause-first
returns-clause-first g c = acquire_asks c.acquire.result c.args.self.now.task c.args.asked c.args.self.now.worker.now c.acquire.new.worker c.acquire.ensures.ok

pub returns-clause-goes : goal.returns-clause-goes
returns-clause-goes g c =
    let self = c.args.self.now in
    let sees = c.acquire.ensures.sees in
    let adds = acquire_adds c.acquire.result self.worker.now.number self.task c.args.asked (own_entries self.worker.now) (own_entries c.acquire.new.worker) c.acquire.ensures.ok c.acquire.ensures.err in
    record {
      same_lock = refl;
      same_task = refl;
      lent = refl;
      at_work = record { lock_is = sees.lock_is ∙ c.requires.at_work.lock_is; has_task = c.acquire.ensures.its_task; peaked = held_peaked (own_of c.acquire.new.worker) self.task };
      floor = refl;
      peak = added_peak self.task self.worker.now c.acquire.new.worker adds;
      sees = record { lock_is = sees.lock_is; number_is = sees.number_is; speaks_is = sees.speaks_is; spare_is = sees.spare_is; begins = sees.begins };
      keeps_task = c.acquire.ensures.its_task ∙ sym c.requires.at_work.has_task;
      keeps_pin = c.acquire.ensures.pin;
      adds = adds;
    }
