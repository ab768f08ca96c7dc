use Rattle.std.proofs.Common.{◌≡◌, ◌∙◌, ◌<◌, ℕ, List, Option, Some, false, map, sym, subst, suc, refl, ap, arith, rules}
use Rattle.std.proofs.lemmas.Result.{err_from_is_err_and}
use Rattle.pool_ledger.specs.History.{was_begun}
use Rattle.memory_lock.specs.Workers.{own_of}
use Rattle.run_file.specs.declared.run.Run.{Run}
use Rattle.task_runner.specs.OneWorker.{DoesFirst, DoesOne, WorkerScene, scene_by}
use Rattle.task_runner.specs.PartAnswers.{HoldsPart, SaysPart}
use Rattle.task_runner.specs.PassViews.{PassView, parts_of, task_for}
use Rattle.task_runner.specs.Workers.{part_at}
use Rattle.task_runner.specs.Works.{MayWork}
use Rattle.task_runner.proofs.Advancing.{counts_all, first_more, first_none, part_first, part_is, part_next, some_more, sound_of, stays_trans}
use Rattle.task_runner.proofs.BegunTasks.{fresh_still}
use Rattle.task_runner.proofs.RanBenches.{ran_all, ran_fault}
use Rattle.task_runner.proofs.KeptRuns.{says_kept}
use Rattle.task_runner.proofs.worker.run_worker.Goals as goal

pub tasks-init : goal.tasks-init
tasks-init g c =
    let post = c.args.post.now in
    let start : WorkerScene = scene_by c.args.worker.now (map g.C.Consumer.state post.consumers.items) (g.D.Disk.files post.disk) (g.D.Disk.faults post.disk) in
    record {
      tasks = 0;
      first = subst (λ (answers : List (Option Run)). DoesFirst g.B.Basis.rows c.args.pass.now c.args.workers c.args.place start start 0 answers) (sym c.new-answers.ensures.items)
          (first_none g.B.Basis.rows c.args.pass.now c.args.workers c.args.place start c.requires.may.free);
      next = part_first c.args.workers c.args.place c.args.place refl c.requires.may.narrow;
    }

pub next_task-requires : goal.next_task-requires
next_task-requires g c =
    let size = ap (λ (view : PassView). parts_of view) c.pass.view_is in
    let pass = c.args.pass.now in
    let inside : c.tasks.part < parts_of pass = omega (arith, size, c.tasks-test.true) in
    let k = c.tasks.invariant.tasks in
    let first = c.tasks.invariant.first in
    let may = c.requires.may in
    let place = c.args.place in
    let start = g.D.Disk.files c.args.post.now.disk in
    let now = g.D.Disk.files c.tasks.post.disk in
    let is = part_is c.tasks.part (part_at c.args.workers place k) (parts_of pass) c.tasks.invariant.next inside may.pass_is.few in
    let below : part_at c.args.workers place k < parts_of pass = subst (λ (n : ℕ). n < parts_of pass) is inside in
    record {
      may = record {
        lock_is = first.stays.sees.lock_is ∙ may.lock_is;
        within = inside;
        owns = subst (λ (n : ℕ). g.B.Basis.owner (task_for pass n) ≡ Some c.tasks.worker.number) (sym is) (may.owns k below ∙ ap Some (sym first.stays.sees.number_is));
        free = first.stays.free;
        unpinned = first.stays.pin ∙ may.unpinned;
        fresh = subst (λ (n : ℕ). was_begun (own_of c.tasks.worker) (task_for pass n) ≡ false) (sym is)
            (fresh_still pass.first c.args.workers place k c.args.worker.now c.tasks.worker (omega (arith, may.known)) first.works (may.fresh k below));
        consumers = search rules;
        says = subst (λ (n : ℕ). SaysPart now g.B.Basis.rows pass n) (sym is) (says_kept start now g.B.Basis.rows pass (part_at c.args.workers place k) first.stays.disk.kept (may.says k below));
        pass_is = may.pass_is;
      };
    }

pub tasks-preserved : goal.tasks-preserved
tasks-preserved g c =
    let size = ap (λ (view : PassView). parts_of view) c.pass.view_is in
    let inside : c.tasks.part < parts_of c.args.pass.now = omega (arith, size, c.tasks-test.true) in
    let post = c.args.post.now in
    let start : WorkerScene = scene_by c.args.worker.now (map g.C.Consumer.state post.consumers.items) (g.D.Disk.files post.disk) (g.D.Disk.faults post.disk) in
    let mid = c.tasks.post in
    let now : WorkerScene = scene_by c.tasks.worker (map g.C.Consumer.state mid.consumers.items) (g.D.Disk.files mid.disk) (g.D.Disk.faults mid.disk) in
    let new = c.next_task.new.post in
    let after : WorkerScene = scene_by c.next_task.new.worker (map g.C.Consumer.state new.consumers.items) (g.D.Disk.files new.disk) (g.D.Disk.faults new.disk) in
    let pass = c.args.pass.now in
    let workers = c.args.workers in
    let place = c.args.place in
    let k = c.tasks.invariant.tasks in
    let found = c.in_ok-next_task.ensures.ran.does.0 in
    let part = part_at workers place k in
    let is = part_is c.tasks.part part (parts_of pass) c.tasks.invariant.next inside c.requires.may.pass_is.few in
    record {
      tasks = suc k;
      first = first_more g.B.Basis.rows pass workers place start now after k c.tasks.answers.items c.next_task.new.answers.items found c.tasks.invariant.first c.requires.may.pass_is.queries.some
          (subst (λ (n : ℕ). n < parts_of pass) is inside)
          (subst (λ (n : ℕ). DoesOne g.B.Basis.rows pass n now after found) is c.in_ok-next_task.ensures.ran.does.1) c.in_ok-next_task.ensures.ran.does.2;
      next = part_next workers place c.tasks.part c.saturating_add-part.result k (suc k) refl is c.saturating_add-part.ensures;
    }

pub returns-in_err-next_task : goal.returns-in_err-next_task
returns-in_err-next_task g c =
    let size = ap (λ (view : PassView). parts_of view) c.pass.view_is in
    let inside : c.tasks.part < parts_of c.args.pass.now = omega (arith, size, c.tasks-test.true) in
    let k = c.tasks.invariant.tasks in
    let pass = c.args.pass.now in
    let part = part_at c.args.workers c.args.place k in
    let old = c.args.post.now in
    let mid = c.tasks.post in
    let new = c.next_task.new.post in
    let start : WorkerScene = scene_by c.args.worker.now (map g.C.Consumer.state old.consumers.items) (g.D.Disk.files old.disk) (g.D.Disk.faults old.disk) in
    let now : WorkerScene = scene_by c.tasks.worker (map g.C.Consumer.state mid.consumers.items) (g.D.Disk.files mid.disk) (g.D.Disk.faults mid.disk) in
    let after : WorkerScene = scene_by c.next_task.new.worker (map g.C.Consumer.state new.consumers.items) (g.D.Disk.files new.disk) (g.D.Disk.faults new.disk) in
    let is = part_is c.tasks.part part (parts_of pass) c.tasks.invariant.next inside c.requires.may.pass_is.few in
    let below = subst (λ (n : ℕ). n < parts_of pass) is inside in
    let p = err_from_is_err_and c.from_residual.result c.from_residual.ensures.1 in
    let stays = stays_trans start now after c.tasks.invariant.first.stays c.next_task.ensures.ran.stays in
    record {
      ran = rw (p.1, p.2) (ran_fault g.B.Basis.sizes g.B.Basis.rows pass c.args.workers c.args.place start now after k c.tasks.answers.items c.in_err-next_task.field-0.0
          c.tasks.invariant.first stays
          (some_more g.B.Basis.rows pass c.args.workers c.args.place start now c.next_task.new.worker k c.tasks.answers.items c.tasks.invariant.first
          below (subst (λ (n : ℕ). MayWork (task_for pass n) c.tasks.worker c.next_task.new.worker) is c.next_task.ensures.ran.may_work))
          below
          (λ rows stands. sound_of (λ (nothing : Unit {0}). Unit {0}) (λ (nothing : Unit {0}). Unit {0}) c.in_err-next_task.field-0.0 (c.in_err-next_task.ensures.ran.sound rows (subst (λ (n : ℕ). HoldsPart now.files g.B.Basis.rows pass n rows) (sym is) stands)))
          (task_for pass c.tasks.part) c.in_err-next_task.ensures.ran.no_room c.in_err-next_task.ensures.ran.cause);
    }

pub returns : goal.returns
returns g c =
    let post = c.args.post.now in
    let start : WorkerScene = scene_by c.args.worker.now (map g.C.Consumer.state post.consumers.items) (g.D.Disk.files post.disk) (g.D.Disk.faults post.disk) in
    let mid = c.tasks.post in
    let now : WorkerScene = scene_by c.tasks.worker (map g.C.Consumer.state mid.consumers.items) (g.D.Disk.files mid.disk) (g.D.Disk.faults mid.disk) in
    let size = ap (λ (view : PassView). parts_of view) c.pass.view_is in
    let inv = c.tasks.invariant in
    record {
      ran = ran_all g.B.Basis.sizes g.B.Basis.rows c.args.pass.now c.args.workers c.args.place start now inv.tasks c.tasks.answers inv.first
          (counts_all g.B.Basis.rows c.args.pass.now c.args.workers c.args.place start now inv.tasks c.tasks.answers.items c.tasks.part inv.first c.requires.may.pass_is.few inv.next (omega (arith, size, c.tasks-test.false)));
    }
