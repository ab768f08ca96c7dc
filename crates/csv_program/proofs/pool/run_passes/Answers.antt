use Rattle.std.proofs.Common.{◌≡◌, ◌∙◌, ◌+◌, ◌*◌, ◌<◌, ◌≤◌, ℕ, List, Option, length, refl, sym, subst, arith}
use Rattle.std.specs.Global.{Vec}
use Rattle.std.specs.Prelude.{IfSome, slice_index_or}
use Rattle.run_file.specs.declared.run.Run.{Run}
use Rattle.job_plan.specs.Plans.{passes_in}
use Rattle.task_runner.specs.Pass.{states_at}
use Rattle.task_runner.specs.PassViews.{pass_with}
use Rattle.csv_program.specs.Cached.{EachTells, GoesBehind}
use Rattle.csv_program.specs.Charges.{EachCharges}
use Rattle.job_ending.specs.Removals.{free_from}
use Rattle.csv_program.specs.Doing.{AreBetween, EachBegins, EachRemoves, OwnsPass}
use Rattle.csv_program.specs.Passing.{ArePut, HavePass}
use Rattle.csv_program.specs.Posts.{post_files}
use Rattle.csv_program.specs.QueryResults.{HaveResults, totals_of_parts}
use Rattle.csv_program.proofs.CachedTasks.{each_later, each_more}
use Rattle.csv_program.proofs.Crews.{begun_cleared, between_cleared, between_more, owns_pass, sees_cleared}
use Rattle.csv_program.proofs.FedByPasses.{FeedsUpTo, feeds_all, feeds_none}
use Rattle.csv_program.proofs.Gathered.{HaveUpTo, all_put, have_all, have_none, parts_kept, says_kept}
use Rattle.csv_program.proofs.ChargedPasses.{each_charges_later, each_charges_more}
use Rattle.csv_program.proofs.RemovedLate.{free_behind, removes_behind}
use Rattle.csv_program.proofs.GoneBehind.{final_ended, goes_more}
use Rattle.csv_program.proofs.Leaving.{leaves_same, leaves_then, serve_still}
use Rattle.csv_program.proofs.Passed.{feeds_step, first_is, have_step, is_pass, next_is, next_least, sound_fault}
use Rattle.csv_program.proofs.pool.run_passes.Goals as goal

pub returns-in_default-clause-workers : goal.returns-in_default-clause-workers
returns-in_default-clause-workers g c =
    between_more g.B.Basis.owner c.args.executor.now.manager.now g.B.Basis.sizes.workers 0 (length (passes_in c.args.plan.now) * (length c.args.parts.now + 1)) c.args.workers.now.items (omega arith) c.requires.workers

-- ---- before the first pass

pub loop-number-init : goal.loop-number-init
loop-number-init g c = record {
  count = c.in-Ok.ensures.count ∙ c.query_count.ensures;
  there = λ k any below. subst (λ (answer : Option Run). IfSome answer (λ run. run.disk < g.B.Basis.sizes.workers)) (sym (c.in-Ok.ensures.none k any below)) tt;
  answer = λ rows holds. have_none (post_files g.D.Disk.files c.args.posts.now) c.args.plan.now (totals_of_parts c.args.plan.now (length c.args.parts.now) rows) c.in-Ok.answers.items;
  fed = λ rows holds w below. feeds_none (states_at g.C.Consumer.state c.args.posts.now.items w) c.args.plan.now (length c.args.parts.now) rows g.B.Basis.sizes.workers w;
  posts = leaves_same g.C.Consumer.state g.D.Disk.files g.D.Disk.faults g.B.Basis.sizes.workers c.args.posts.now;
  workers = between_more g.B.Basis.owner c.args.executor.now.manager.now g.B.Basis.sizes.workers 0 (0 * (length c.args.parts.now + 1)) c.args.workers.now.items (omega arith) c.requires.workers;
  charged = λ rows holds pass part any below within. absurd (omega (arith, below));
  told = λ pass part any below within. absurd (omega (arith, below));
  removes =
      let none : 0 ≡ 0 * (length c.args.parts.now + 1) = omega arith in
      subst (λ (limit : ℕ). EachRemoves (free_from c.args.plan.now (length c.args.parts.now)) g.B.Basis.sizes.workers limit c.args.workers.now.items) none c.requires.new;
  gone = λ any pass dataset below within. absurd (omega (arith, below));
  begun = λ w any below task low own. absurd (omega (arith, low));
}

-- ---- a pass

pub work-requires-clause-workers : goal.work-requires-clause-workers
work-requires-clause-workers g c κs within =
    let first = first_is c.args.plan.now (length c.args.parts.now) c.loop-number.number c.task.result c.requires.first c.task.ensures in
    subst (λ (limit : ℕ). AreBetween c.args.executor.now.manager.now g.B.Basis.owner g.B.Basis.sizes.workers limit c.loop-number.workers.items) (sym first) c.loop-number.invariant.workers

pub work-requires-clause-owner : goal.work-requires-clause-owner
work-requires-clause-owner g c κs within =
    let first = first_is c.args.plan.now (length c.args.parts.now) c.loop-number.number c.task.result c.requires.first c.task.ensures in
    let below : c.loop-number.number < length (passes_in c.args.plan.now) = omega (arith, c.loop-number-test.true, c.passes-number-end.ensures.count) in
    subst (OwnsPass g.B.Basis.owner g.B.Basis.sizes.workers (length c.args.parts.now)) (sym first)
    (owns_pass g.B.Basis.owner g.B.Basis.sizes.workers (length c.args.parts.now) (length (passes_in c.args.plan.now)) c.loop-number.number c.requires.owner below)

pub work-requires-clause-pass : goal.work-requires-clause-pass
work-requires-clause-pass g c κs within =
    let first = first_is c.args.plan.now (length c.args.parts.now) c.loop-number.number c.task.result c.requires.first c.task.ensures in
    let below : c.loop-number.number < length (passes_in c.args.plan.now) = omega (arith, c.loop-number-test.true, c.passes-number-end.ensures.count) in
    let most : length (passes_in c.args.plan.now) ≤ 8 = omega (arith, c.passes-number-end.ensures.few, c.passes-number-end.ensures.count) in
    is_pass c.args.plan.now c.loop-number.number c.dataset.result c.queries-queries.result.now c.args.parts.now c.args.part_rows c.task.result c.requires.passes below most
    c.dataset.ensures.there c.queries-queries.ensures.are c.queries-queries.ensures.fit first c.requires.few c.requires.short c.chain-chain.ensures.fits

pub work-requires-clause-said : goal.work-requires-clause-said
work-requires-clause-said g c κs within =
    says_kept (post_files g.D.Disk.files c.args.posts.now) (post_files g.D.Disk.files c.loop-number.posts) g.B.Basis.rows c.args.plan.now c.args.parts.now c.args.part_rows g.B.Basis.sizes.workers c.loop-number.invariant.posts.keeps c.requires.said

pub work-requires-clause-consumers : goal.work-requires-clause-consumers
work-requires-clause-consumers g c κs within =
    serve_still g.C.Consumer.state c.args.posts.now.items c.loop-number.posts.items c.loop-number.invariant.posts.same_posts c.loop-number.invariant.posts.consumers c.requires.consumers

pub returns-in-Err-clause-answer : goal.returns-in-Err-clause-answer
returns-in-Err-clause-answer g c rows holds =
    let plan = c.args.plan.now in
    let parts = c.args.parts.now in
    let after = post_files g.D.Disk.files c.work.new.posts in
    sound_fault (λ (answers : Vec (Option Run)). HavePass after (pass_with plan c.dataset.result c.queries-queries.result.now parts c.args.part_rows c.task.result) rows answers.items)
    (λ (answers : Vec (Option Run)). HaveResults after plan (totals_of_parts plan (length parts) rows) answers.items) c.in-Err.fault
    (c.in-Err.ensures.answer rows
    (parts_kept (post_files g.D.Disk.files c.args.posts.now) (post_files g.D.Disk.files c.loop-number.posts) g.B.Basis.rows plan parts c.args.part_rows g.B.Basis.sizes.workers rows c.loop-number.invariant.posts.keeps holds))

pub returns-in-Err-clause-posts : goal.returns-in-Err-clause-posts
returns-in-Err-clause-posts g c =
    leaves_then g.C.Consumer.state g.D.Disk.files g.D.Disk.faults g.B.Basis.sizes.workers c.args.posts.now c.loop-number.posts c.work.new.posts c.loop-number.invariant.posts c.work.ensures.posts

pub returns-in-Err-clause-workers : goal.returns-in-Err-clause-workers
returns-in-Err-clause-workers g c =
    let first = first_is c.args.plan.now (length c.args.parts.now) c.loop-number.number c.task.result c.requires.first c.task.ensures in
    let below : c.loop-number.number < length (passes_in c.args.plan.now) = omega (arith, c.loop-number-test.true, c.passes-number-end.ensures.count) in
    between_more g.B.Basis.owner c.args.executor.now.manager.now g.B.Basis.sizes.workers (c.task.result + length c.args.parts.now + 1) (length (passes_in c.args.plan.now) * (length c.args.parts.now + 1)) c.work.new.workers.items
    (next_least (length c.args.parts.now) c.loop-number.number (length (passes_in c.args.plan.now)) c.task.result first below) c.work.ensures.workers

pub returns-in_default-remove_blocks-clause-posts : goal.returns-in_default-remove_blocks-clause-posts
returns-in_default-remove_blocks-clause-posts g c =
    leaves_then g.C.Consumer.state g.D.Disk.files g.D.Disk.faults g.B.Basis.sizes.workers c.args.posts.now c.loop-number.posts c.work.new.posts c.loop-number.invariant.posts c.work.ensures.posts

pub returns-in_default-remove_blocks-clause-workers : goal.returns-in_default-remove_blocks-clause-workers
returns-in_default-remove_blocks-clause-workers g c =
    let count = g.B.Basis.sizes.workers in
    let lock = c.args.executor.now.manager.now in
    let limit = c.task.result + length c.args.parts.now + 1 in
    let first = first_is c.args.plan.now (length c.args.parts.now) c.loop-number.number c.task.result c.requires.first c.task.ensures in
    let below : c.loop-number.number < length (passes_in c.args.plan.now) = omega (arith, c.loop-number-test.true, c.passes-number-end.ensures.count) in
    between_more g.B.Basis.owner lock count limit (length (passes_in c.args.plan.now) * (length c.args.parts.now + 1)) c.remove_blocks.new.workers.items
    (next_least (length c.args.parts.now) c.loop-number.number (length (passes_in c.args.plan.now)) c.task.result first below)
    (between_cleared g.B.Basis.owner lock count limit c.removed.result.now c.work.new.workers.items c.remove_blocks.new.workers.items c.remove_blocks.ensures.workers c.remove_blocks.ensures.clears c.remove_blocks.ensures.others c.work.ensures.workers)

pub loop-number-preserved : goal.loop-number-preserved
loop-number-preserved g c =
    let workers = g.B.Basis.sizes.workers in
    let plan = c.args.plan.now in
    let parts = c.args.parts.now in
    let files = post_files g.D.Disk.files c.args.posts.now in
    let before = post_files g.D.Disk.files c.loop-number.posts in
    let after = post_files g.D.Disk.files c.work.new.posts in
    let number = c.loop-number.number in
    let old = c.loop-number.answers.items in
    let new = c.put_answers.new.answers.items in
    let found = c.in-Ok-work.found.items in
    let held = c.loop-number.invariant in
    let given = g.B.Basis.rows in
    let mids = c.work.new.workers.items in
    let news = c.remove_blocks.new.workers.items in
    let clears = c.remove_blocks.ensures.clears in
    let others = c.remove_blocks.ensures.others in
    let first = first_is plan (length parts) number c.task.result c.requires.first c.task.ensures in
    let next = next_is (length parts) number c.task.result first in
    let below : number < length (passes_in plan) = omega (arith, c.loop-number-test.true, c.passes-number-end.ensures.count) in
    let put : ArePut c.queries-queries.result.now found old new (length c.queries-queries.result.now) =
    subst (λ (list : List (Option Run)). ArePut c.queries-queries.result.now list old new (length c.queries-queries.result.now)) c.deref.ensures.value c.put_answers.ensures in
    record {
      count = put.count ∙ held.count;
      there = all_put (λ answer. IfSome answer (λ run. run.disk < workers)) c.queries-queries.result.now found old new c.in-Ok-work.ensures.count put held.there c.in-Ok-work.ensures.there;
      answer = λ rows holds.
          have_step before after plan number c.dataset.result c.queries-queries.result.now parts c.args.part_rows c.task.result rows found old new c.requires.passes below c.dataset.ensures.is c.queries-queries.ensures.are c.work.ensures.posts.keeps
          (c.in-Ok-work.ensures.answer rows (parts_kept files before given plan parts c.args.part_rows workers rows held.posts.keeps holds)) put (held.answer rows holds);
      fed = λ rows holds w known.
          feeds_step (states_at g.C.Consumer.state c.args.posts.now.items w) (states_at g.C.Consumer.state c.loop-number.posts.items w) (states_at g.C.Consumer.state c.work.new.posts.items w) before plan number
          c.dataset.result c.queries-queries.result.now parts c.args.part_rows c.task.result given workers w rows c.requires.passes below c.dataset.ensures.is c.queries-queries.ensures.are known (parts_kept files before given plan parts c.args.part_rows workers rows held.posts.keeps holds)
          (held.fed rows holds w known) (c.in-Ok-work.ensures.fed w known);
      posts = leaves_then g.C.Consumer.state g.D.Disk.files g.D.Disk.faults workers c.args.posts.now c.loop-number.posts c.work.new.posts held.posts c.work.ensures.posts;
      workers = between_cleared g.B.Basis.owner c.args.executor.now.manager.now workers ((number + 1) * (length parts + 1)) c.removed.result.now mids news c.remove_blocks.ensures.workers clears others
          (subst (λ (limit : ℕ). AreBetween c.args.executor.now.manager.now g.B.Basis.owner workers limit mids) next c.work.ensures.workers);
      charged = λ rows holds.
          each_charges_later (states_at g.C.Consumer.state c.args.posts.now.items) plan (length parts) rows workers (number + 1) mids news c.requires.some (sees_cleared c.removed.result.now workers mids news clears others)
          (each_charges_more (states_at g.C.Consumer.state c.args.posts.now.items) (states_at g.C.Consumer.state c.loop-number.posts.items) before given plan number c.dataset.result c.queries-queries.result.now parts c.args.part_rows c.task.result rows workers
          c.loop-number.workers.items mids c.requires.some c.dataset.ensures.is c.queries-queries.ensures.are first held.posts.consumers (parts_kept files before given plan parts c.args.part_rows workers rows held.posts.keeps holds) c.work.ensures.sees c.in-Ok-work.ensures.charged (held.charged rows holds));
      told = each_later plan workers (length parts) (number + 1) mids news c.requires.some (sees_cleared c.removed.result.now workers mids news clears others)
          (each_more plan (pass_with plan c.dataset.result c.queries-queries.result.now parts c.args.part_rows c.task.result) c.args.executor.now.manager.now workers number c.loop-number.workers.items mids c.requires.some
          refl c.dataset.ensures.is first c.work.ensures.workers.workers_are c.work.ensures.sees c.in-Ok-work.ensures.told held.told);
      removes = removes_behind (free_from plan (length parts)) workers ((number + 1) * (length parts + 1)) c.removed.result.now mids news
          (free_behind plan (length parts) number c.removed.result.now c.removed.ensures) clears others
          (subst (λ (limit : ℕ). EachRemoves (free_from plan (length parts)) workers limit mids) next
          (c.in-Ok-work.ensures.removes (free_from plan (length parts))
          (subst (λ (limit : ℕ). EachRemoves (free_from plan (length parts)) workers limit c.loop-number.workers.items) (sym first) held.removes)));
      gone = λ any.
          goes_more plan (length parts) number c.task.result c.removed.result.now (slice_index_or c.loop-number.workers.items 0 any) (slice_index_or mids 0 any) (slice_index_or news 0 any) c.removed.ensures first
          (c.work.ensures.sees 0 any (omega (arith, c.requires.some))) (clears any).sees
          (final_ended g.B.Basis.owner workers (length parts) c.task.result mids any c.requires.some
          (subst (OwnsPass g.B.Basis.owner workers (length parts)) (sym first) (owns_pass g.B.Basis.owner workers (length parts) (length (passes_in plan)) number c.requires.owner below))
          c.work.ensures.workers.does c.in-Ok-work.ensures.begun)
          (c.in-Ok-remove_blocks.ensures.gone any) (held.gone any);
      begun = begun_cleared g.B.Basis.owner workers ((number + 1) * (length parts + 1)) c.removed.result.now mids news clears others
          (subst (λ (limit : ℕ). EachBegins g.B.Basis.owner workers limit mids) next c.in-Ok-work.ensures.begun);
    }

-- ---- behind the last pass

pub returns-clause-answer : goal.returns-clause-answer
returns-clause-answer g c rows holds =
    let plan = c.args.plan.now in
    let totals = totals_of_parts plan (length c.args.parts.now) rows in
    let all : c.loop-number.number ≡ length (passes_in plan) = omega (arith, c.loop-number-test.false, c.loop-number.auto.number-end, c.passes-number-end.ensures.count) in
    have_all (post_files g.D.Disk.files c.loop-number.posts) plan totals c.loop-number.answers.items c.requires.passes
    (subst (λ (passes : ℕ). HaveUpTo (post_files g.D.Disk.files c.loop-number.posts) plan totals passes c.loop-number.answers.items) all (c.loop-number.invariant.answer rows holds))

pub returns-clause-fed : goal.returns-clause-fed
returns-clause-fed g c rows holds w below =
    let plan = c.args.plan.now in
    let states = states_at g.C.Consumer.state c.args.posts.now.items w in
    let after = states_at g.C.Consumer.state c.loop-number.posts.items w in
    let all : c.loop-number.number ≡ length (passes_in plan) = omega (arith, c.loop-number-test.false, c.loop-number.auto.number-end, c.passes-number-end.ensures.count) in
    feeds_all states after plan (length c.args.parts.now) rows g.B.Basis.sizes.workers w (omega (arith, c.requires.some)) c.requires.passes
    (subst (FeedsUpTo states after plan (length c.args.parts.now) rows g.B.Basis.sizes.workers w) all (c.loop-number.invariant.fed rows holds w below))

pub returns-clause-workers : goal.returns-clause-workers
returns-clause-workers g c =
    let all : c.loop-number.number ≡ length (passes_in c.args.plan.now) = omega (arith, c.loop-number-test.false, c.loop-number.auto.number-end, c.passes-number-end.ensures.count) in
    subst (λ (passes : ℕ). AreBetween c.args.executor.now.manager.now g.B.Basis.owner g.B.Basis.sizes.workers (passes * (length c.args.parts.now + 1)) c.loop-number.workers.items) all c.loop-number.invariant.workers

pub returns-clause-charged : goal.returns-clause-charged
returns-clause-charged g c rows holds =
    let all : c.loop-number.number ≡ length (passes_in c.args.plan.now) = omega (arith, c.loop-number-test.false, c.loop-number.auto.number-end, c.passes-number-end.ensures.count) in
    subst (λ (passes : ℕ). EachCharges (states_at g.C.Consumer.state c.args.posts.now.items) c.args.plan.now (length c.args.parts.now) rows g.B.Basis.sizes.workers passes c.loop-number.workers.items) all (c.loop-number.invariant.charged rows holds)

pub returns-clause-told : goal.returns-clause-told
returns-clause-told g c =
    let all : c.loop-number.number ≡ length (passes_in c.args.plan.now) = omega (arith, c.loop-number-test.false, c.loop-number.auto.number-end, c.passes-number-end.ensures.count) in
    subst (λ (passes : ℕ). EachTells c.args.plan.now g.B.Basis.sizes.workers (length c.args.parts.now) passes c.loop-number.workers.items) all c.loop-number.invariant.told

pub returns-clause-removes : goal.returns-clause-removes
returns-clause-removes g c =
    let all : c.loop-number.number ≡ length (passes_in c.args.plan.now) = omega (arith, c.loop-number-test.false, c.loop-number.auto.number-end, c.passes-number-end.ensures.count) in
    subst (λ (passes : ℕ). EachRemoves (free_from c.args.plan.now (length c.args.parts.now)) g.B.Basis.sizes.workers (passes * (length c.args.parts.now + 1)) c.loop-number.workers.items) all c.loop-number.invariant.removes

pub returns-clause-gone : goal.returns-clause-gone
returns-clause-gone g c any =
    let all : c.loop-number.number ≡ length (passes_in c.args.plan.now) = omega (arith, c.loop-number-test.false, c.loop-number.auto.number-end, c.passes-number-end.ensures.count) in
    subst (λ (passes : ℕ). GoesBehind c.args.plan.now (length c.args.parts.now) passes (slice_index_or c.loop-number.workers.items 0 any).seen) all (c.loop-number.invariant.gone any)
