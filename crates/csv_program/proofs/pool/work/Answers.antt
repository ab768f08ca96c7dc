use Rattle.std.proofs.Common.{◌≡◌, ◌∙◌, ◌+◌, ◌<◌, ℕ, length, List, Option, sym, ap, subst, arith}
use Rattle.std.specs.Prelude.{All, IfSome, slice_index_or}
use Rattle.std.specs.Global.{Vec}
use Rattle.std.proofs.lemmas.Bool.{eqb-true}
use Rattle.std.proofs.lemmas.Result.{IfOk-weaker}
use Rattle.turn_lock.specs.Passes.{WorkerView}
use Rattle.memory_lock.specs.Workers.{own_of}
use Rattle.run_file.specs.declared.run.Run.{Run}
use Rattle.consumer_trait.specs.States.{State}
use Rattle.task_memory.specs.RunLists.{lists_of}
use Rattle.task_runner.specs.Finals.{AreMergedTo}
use Rattle.task_runner.specs.Pass.{AnswerAllParts, FeedsParts, states_at}
use Rattle.task_runner.specs.PassViews.{PassView, parts_of, task_for}
use Rattle.task_runner.specs.Works.{ShowsNoRoom, Works}
use Rattle.csv_program.specs.Doing.{AreBetween, EachBegins}
use Rattle.csv_program.specs.Passing.{HavePass}
use Rattle.csv_program.specs.Posts.{post_files}
use Rattle.csv_program.proofs.CachedTasks.{by_part, parts_later}
use Rattle.csv_program.proofs.Crews.{begun_pass, between_more, between_passes, between_ran, fresh_each, may_do, own_final, sees_first, sees_then}
use Rattle.csv_program.proofs.Followed.{on_ok_more, room_more}
use Rattle.csv_program.proofs.ChargedPasses.{charged_by_part, charged_later}
use Rattle.csv_program.proofs.RemovedLate.{removes_pass}
use Rattle.csv_program.proofs.Worked.{fault_sound, first_tells, leaves_merged, leaves_rest, on_more, on_ok_all, result_none, result_of, states_alike, there_of}
use Rattle.csv_program.proofs.pool.work.Goals as goal

pub run_workers-requires-clause-may : goal.run_workers-requires-clause-may
run_workers-requires-clause-may g c κs within =
    may_do g.B.Basis.owner c.args.executor.now.manager.now g.B.Basis.sizes.workers c.args.pass.now c.args.workers.now.items c.requires.owner (omega (arith, c.requires.some)) c.requires.workers

pub run_workers-requires-clause-some : goal.run_workers-requires-clause-some
run_workers-requires-clause-some g c κs within = omega (arith, c.requires.some, c.requires.workers.workers_are.0)

pub run_workers-requires-clause-posts : goal.run_workers-requires-clause-posts
run_workers-requires-clause-posts g c κs within = omega (arith, c.requires.posts, c.requires.workers.workers_are.0)

pub run_workers-requires-clause-basis : goal.run_workers-requires-clause-basis
run_workers-requires-clause-basis g c κs within = rw c.requires.workers.workers_are.0 c.requires.said

pub returns-in-Err-clause-no_room : goal.returns-in-Err-clause-no_room
returns-in-Err-clause-no_room g c =
    let room = rw c.requires.workers.workers_are.0 at c.in-Err.ensures.no_room in
    room

pub finish-requires-clause-owner : goal.finish-requires-clause-owner
finish-requires-clause-owner g c = own_final g.B.Basis.owner g.B.Basis.sizes.workers (parts_of c.args.pass.now) c.args.pass.now.first c.requires.owner

pub finish-requires-clause-fresh : goal.finish-requires-clause-fresh
finish-requires-clause-fresh g c = λ any.
    let count = g.B.Basis.sizes.workers in
    let pass = c.args.pass.now in
    let mid : AreBetween c.args.executor.now.manager.now g.B.Basis.owner count (pass.first + parts_of pass) c.run_workers.new.workers.items =
    between_ran g.B.Basis.owner c.args.executor.now.manager.now count (parts_of pass) pass.first c.args.workers.now.items c.run_workers.new.workers.items (omega (arith, c.requires.some)) c.requires.owner c.requires.workers
    c.run_workers.ensures.workers c.run_workers.ensures.rests c.run_workers.ensures.sees c.run_workers.ensures.may_work c.run_workers.ensures.free c.run_workers.ensures.pins in
    fresh_each g.B.Basis.owner count (pass.first + parts_of pass) (task_for pass (parts_of pass)) c.run_workers.new.workers.items mid.does (omega arith) 0 any (omega (arith, c.requires.some))

pub finish-requires-clause-there : goal.finish-requires-clause-there
finish-requires-clause-there g c =
    let size : length c.args.workers.now.items ≡ g.B.Basis.sizes.workers = c.requires.workers.workers_are.0 in
    let there_by = rw size at c.in-Ok.ensures.there in
    on_more g.B.Basis.sizes.workers (length c.run_workers.new.posts.items) (lists_of c.in-Ok.lists.items) (omega (arith, c.requires.posts, c.run_workers.ensures.same_posts)) there_by

pub finish-requires-2-clause-owner : goal.finish-requires-2-clause-owner
finish-requires-2-clause-owner g c = own_final g.B.Basis.owner g.B.Basis.sizes.workers (parts_of c.args.pass.now) c.args.pass.now.first c.requires.owner

pub finish-requires-2-clause-fresh : goal.finish-requires-2-clause-fresh
finish-requires-2-clause-fresh g c = λ any.
    let count = g.B.Basis.sizes.workers in
    let pass = c.args.pass.now in
    let mid : AreBetween c.args.executor.now.manager.now g.B.Basis.owner count (pass.first + parts_of pass) c.run_workers.new.workers.items =
    between_ran g.B.Basis.owner c.args.executor.now.manager.now count (parts_of pass) pass.first c.args.workers.now.items c.run_workers.new.workers.items (omega (arith, c.requires.some)) c.requires.owner c.requires.workers
    c.run_workers.ensures.workers c.run_workers.ensures.rests c.run_workers.ensures.sees c.run_workers.ensures.may_work c.run_workers.ensures.free c.run_workers.ensures.pins in
    fresh_each g.B.Basis.owner count (pass.first + parts_of pass) (task_for pass (parts_of pass)) c.run_workers.new.workers.items mid.does (omega arith) 0 any (omega (arith, c.requires.some))

pub finish-requires-2-clause-there : goal.finish-requires-2-clause-there
finish-requires-2-clause-there g c =
    let size : length c.args.workers.now.items ≡ g.B.Basis.sizes.workers = c.requires.workers.workers_are.0 in
    let there_by = rw size at c.in-Ok.ensures.there in
    on_more g.B.Basis.sizes.workers (length c.run_workers.new.posts.items) (lists_of c.in-Ok.lists.items) (omega (arith, c.requires.posts, c.run_workers.ensures.same_posts)) there_by

-- ---- the workers failed

pub returns-in-Err-clause-answer : goal.returns-in-Err-clause-answer
returns-in-Err-clause-answer g c =
    let size : length c.args.workers.now.items ≡ g.B.Basis.sizes.workers = c.requires.workers.workers_are.0 in
    let answer_by = rw size at c.in-Err.ensures.answer in
    let files = post_files g.D.Disk.files c.run_workers.new.posts in
    λ rows holds. fault_sound {T = Vec (Vec Run)} {U = Vec (Option Run)} (λ lists. AnswerAllParts files c.args.pass.now rows (lists_of lists.items)) (λ answers. HavePass files c.args.pass.now rows answers.items)
    c.in-Err.fault (answer_by rows holds)

pub returns-in-Err-clause-posts : goal.returns-in-Err-clause-posts
returns-in-Err-clause-posts g c =
    let size : length c.args.workers.now.items ≡ g.B.Basis.sizes.workers = c.requires.workers.workers_are.0 in
    leaves_rest g.C.Consumer.state g.D.Disk.files g.D.Disk.faults g.B.Basis.sizes.workers c.args.posts.now c.run_workers.new.posts
    (λ place above. c.run_workers.ensures.others place (omega (arith, above, size))) c.run_workers.ensures.consumers c.run_workers.ensures.same_posts c.run_workers.ensures.files c.run_workers.ensures.later

pub returns-in-Err-clause-workers : goal.returns-in-Err-clause-workers
returns-in-Err-clause-workers g c =
    let count = g.B.Basis.sizes.workers in
    let pass = c.args.pass.now in
    between_more g.B.Basis.owner c.args.executor.now.manager.now count (pass.first + parts_of pass) (pass.first + parts_of pass + 1) c.run_workers.new.workers.items (omega arith)
    (between_ran g.B.Basis.owner c.args.executor.now.manager.now count (parts_of pass) pass.first c.args.workers.now.items c.run_workers.new.workers.items (omega (arith, c.requires.some)) c.requires.owner c.requires.workers
    c.run_workers.ensures.workers c.run_workers.ensures.rests c.run_workers.ensures.sees c.run_workers.ensures.may_work c.run_workers.ensures.free c.run_workers.ensures.pins)

-- ---- no partition

pub returns-in-Ok-finish-clause-answer : goal.returns-in-Ok-finish-clause-answer
returns-in-Ok-finish-clause-answer g c =
    let size = ap (λ (view : PassView). parts_of view) c.pass.view_is in
    let none : parts_of c.args.pass.now ≡ 0 = sym size ∙ eqb-true (length c.pass.inside.parts.now) 0 (sym c.is_empty.ensures ∙ c.if-is_empty.true) in
    λ rows holds. result_none (post_files g.D.Disk.files c.finish.new.posts) c.args.pass.now rows (lists_of c.in-Ok.lists.items) c.in-Ok-finish.answers.items none c.in-Ok.ensures.few c.in-Ok-finish.ensures.merged

pub returns-in-Ok-finish-clause-there : goal.returns-in-Ok-finish-clause-there
returns-in-Ok-finish-clause-there g c =
    let size : length c.args.workers.now.items ≡ g.B.Basis.sizes.workers = c.requires.workers.workers_are.0 in
    let there_by = rw size at c.in-Ok.ensures.there in
    there_of g.B.Basis.sizes.workers (lists_of c.in-Ok.lists.items) c.in-Ok-finish.answers.items c.requires.some there_by c.in-Ok-finish.ensures.merged

pub returns-in-Ok-finish-clause-fed : goal.returns-in-Ok-finish-clause-fed
returns-in-Ok-finish-clause-fed g c = λ worker below.
    let size : length c.args.workers.now.items ≡ g.B.Basis.sizes.workers = c.requires.workers.workers_are.0 in
    let fed_by = rw size at c.in-Ok.ensures.fed in
    subst (λ (states : List State). FeedsParts (states_at g.C.Consumer.state c.args.posts.now.items worker) states (post_files g.D.Disk.files c.args.posts.now worker) g.B.Basis.rows c.args.pass.now g.B.Basis.sizes.workers worker)
    (sym (states_alike g.C.Consumer.state c.finish.new.posts.items c.run_workers.new.posts.items c.finish.ensures.kept worker))
    (fed_by worker below)

pub returns-in-Ok-finish-clause-begun : goal.returns-in-Ok-finish-clause-begun
returns-in-Ok-finish-clause-begun g c =
    let size : length c.args.workers.now.items ≡ g.B.Basis.sizes.workers = c.requires.workers.workers_are.0 in
    let works_by = rw size at c.in-Ok.ensures.works in
    begun_pass g.B.Basis.owner c.args.executor.now.manager.now g.B.Basis.sizes.workers (parts_of c.args.pass.now) c.args.pass.now.first c.args.workers.now.items c.run_workers.new.workers.items c.finish.new.workers.items c.requires.owner
    c.requires.workers.workers_are
    (between_ran g.B.Basis.owner c.args.executor.now.manager.now g.B.Basis.sizes.workers (parts_of c.args.pass.now) c.args.pass.now.first c.args.workers.now.items c.run_workers.new.workers.items (omega (arith, c.requires.some)) c.requires.owner c.requires.workers
    c.run_workers.ensures.workers c.run_workers.ensures.rests c.run_workers.ensures.sees c.run_workers.ensures.may_work c.run_workers.ensures.free c.run_workers.ensures.pins).workers_are
    c.requires.begun works_by c.in-Ok-finish.ensures.works c.finish.ensures.others

pub returns-in-Ok-finish-clause-posts : goal.returns-in-Ok-finish-clause-posts
returns-in-Ok-finish-clause-posts g c =
    let size : length c.args.workers.now.items ≡ g.B.Basis.sizes.workers = c.requires.workers.workers_are.0 in
    let left = leaves_rest g.C.Consumer.state g.D.Disk.files g.D.Disk.faults g.B.Basis.sizes.workers c.args.posts.now c.run_workers.new.posts
    (λ place above. c.run_workers.ensures.others place (omega (arith, above, size))) c.run_workers.ensures.consumers c.run_workers.ensures.same_posts c.run_workers.ensures.files c.run_workers.ensures.later in
    leaves_merged g.C.Consumer.state g.D.Disk.files g.D.Disk.faults g.B.Basis.sizes.workers c.args.posts.now c.run_workers.new.posts c.finish.new.posts (lists_of c.in-Ok.lists.items) left
    c.finish.ensures.kept c.finish.ensures.same_posts c.in-Ok.ensures.made c.finish.ensures.tells c.finish.ensures.files c.finish.ensures.later

pub returns-in-Ok-finish-clause-workers : goal.returns-in-Ok-finish-clause-workers
returns-in-Ok-finish-clause-workers g c =
    let count = g.B.Basis.sizes.workers in
    let pass = c.args.pass.now in
    let mid : AreBetween c.args.executor.now.manager.now g.B.Basis.owner count (pass.first + parts_of pass) c.run_workers.new.workers.items =
    between_ran g.B.Basis.owner c.args.executor.now.manager.now count (parts_of pass) pass.first c.args.workers.now.items c.run_workers.new.workers.items (omega (arith, c.requires.some)) c.requires.owner c.requires.workers
    c.run_workers.ensures.workers c.run_workers.ensures.rests c.run_workers.ensures.sees c.run_workers.ensures.may_work c.run_workers.ensures.free c.run_workers.ensures.pins in
    between_passes g.B.Basis.owner c.args.executor.now.manager.now count (parts_of pass) pass.first c.run_workers.new.workers.items c.finish.new.workers.items c.requires.owner mid
    c.finish.ensures.workers c.finish.ensures.may_work c.finish.ensures.free c.finish.ensures.pin c.finish.ensures.others

pub returns-in-Err-finish-clause-posts : goal.returns-in-Err-finish-clause-posts
returns-in-Err-finish-clause-posts g c =
    let size : length c.args.workers.now.items ≡ g.B.Basis.sizes.workers = c.requires.workers.workers_are.0 in
    let left = leaves_rest g.C.Consumer.state g.D.Disk.files g.D.Disk.faults g.B.Basis.sizes.workers c.args.posts.now c.run_workers.new.posts
    (λ place above. c.run_workers.ensures.others place (omega (arith, above, size))) c.run_workers.ensures.consumers c.run_workers.ensures.same_posts c.run_workers.ensures.files c.run_workers.ensures.later in
    leaves_merged g.C.Consumer.state g.D.Disk.files g.D.Disk.faults g.B.Basis.sizes.workers c.args.posts.now c.run_workers.new.posts c.finish.new.posts (lists_of c.in-Ok.lists.items) left
    c.finish.ensures.kept c.finish.ensures.same_posts c.in-Ok.ensures.made c.finish.ensures.tells c.finish.ensures.files c.finish.ensures.later

pub returns-in-Err-finish-clause-workers : goal.returns-in-Err-finish-clause-workers
returns-in-Err-finish-clause-workers g c =
    let count = g.B.Basis.sizes.workers in
    let pass = c.args.pass.now in
    let mid : AreBetween c.args.executor.now.manager.now g.B.Basis.owner count (pass.first + parts_of pass) c.run_workers.new.workers.items =
    between_ran g.B.Basis.owner c.args.executor.now.manager.now count (parts_of pass) pass.first c.args.workers.now.items c.run_workers.new.workers.items (omega (arith, c.requires.some)) c.requires.owner c.requires.workers
    c.run_workers.ensures.workers c.run_workers.ensures.rests c.run_workers.ensures.sees c.run_workers.ensures.may_work c.run_workers.ensures.free c.run_workers.ensures.pins in
    between_passes g.B.Basis.owner c.args.executor.now.manager.now count (parts_of pass) pass.first c.run_workers.new.workers.items c.finish.new.workers.items c.requires.owner mid
    c.finish.ensures.workers c.finish.ensures.may_work c.finish.ensures.free c.finish.ensures.pin c.finish.ensures.others

-- ---- the final task

pub returns-clause-answer : goal.returns-clause-answer
returns-clause-answer g c =
    let size : length c.args.workers.now.items ≡ g.B.Basis.sizes.workers = c.requires.workers.workers_are.0 in
    let answer_by = rw size at c.in-Ok.ensures.answer in
    let files = g.D.Disk.files in
    let size = ap (λ (view : PassView). parts_of view) c.pass.view_is in
    let some : 0 < parts_of c.args.pass.now = grind (arith, size, c.is_empty.ensures, c.if-is_empty.false) in
    λ rows holds.
    result_of (post_files files c.run_workers.new.posts) c.args.pass.now rows (lists_of c.in-Ok.lists.items) (answer_by rows holds)
    (post_files files c.finish-2.new.posts) c.finish-2.result c.requires.told
    (λ entries. c.finish-2.ensures.answer entries
    (first_tells g.B.Basis.rows c.args.pass.now g.B.Basis.sizes.workers rows (post_files files c.args.posts.now) (post_files files c.run_workers.new.posts) (omega (arith, c.requires.some)) some c.run_workers.ensures.files holds))

pub returns-clause-there : goal.returns-clause-there
returns-clause-there g c =
    let size : length c.args.workers.now.items ≡ g.B.Basis.sizes.workers = c.requires.workers.workers_are.0 in
    let there_by = rw size at c.in-Ok.ensures.there in
    IfOk-weaker c.finish-2.result (λ answers. AreMergedTo (lists_of c.in-Ok.lists.items) answers.items) (λ answers. All (λ answer. IfSome answer (λ run. run.disk < g.B.Basis.sizes.workers)) answers.items)
    (λ answers merged. there_of g.B.Basis.sizes.workers (lists_of c.in-Ok.lists.items) answers.items c.requires.some there_by merged) c.finish-2.ensures.merged

pub returns-clause-fed : goal.returns-clause-fed
returns-clause-fed g c =
    let size : length c.args.workers.now.items ≡ g.B.Basis.sizes.workers = c.requires.workers.workers_are.0 in
    let fed_by = rw size at c.in-Ok.ensures.fed in
    on_ok_all c.finish-2.result
    (λ worker below.
    subst (λ (states : List State). FeedsParts (states_at g.C.Consumer.state c.args.posts.now.items worker) states (post_files g.D.Disk.files c.args.posts.now worker) g.B.Basis.rows c.args.pass.now g.B.Basis.sizes.workers worker)
    (sym (states_alike g.C.Consumer.state c.finish-2.new.posts.items c.run_workers.new.posts.items c.finish-2.ensures.kept worker))
    (fed_by worker below))

pub returns-clause-begun : goal.returns-clause-begun
returns-clause-begun g c =
    let size : length c.args.workers.now.items ≡ g.B.Basis.sizes.workers = c.requires.workers.workers_are.0 in
    let works_by = rw size at c.in-Ok.ensures.works in
    on_ok_more c.finish-2.result
    ((any : WorkerView) → Works (task_for c.args.pass.now (parts_of c.args.pass.now)) (slice_index_or c.run_workers.new.workers.items 0 any) (slice_index_or c.finish-2.new.workers.items 0 any))
    (EachBegins g.B.Basis.owner g.B.Basis.sizes.workers (c.args.pass.now.first + parts_of c.args.pass.now + 1) c.finish-2.new.workers.items)
    (λ works.
    begun_pass g.B.Basis.owner c.args.executor.now.manager.now g.B.Basis.sizes.workers (parts_of c.args.pass.now) c.args.pass.now.first c.args.workers.now.items c.run_workers.new.workers.items c.finish-2.new.workers.items c.requires.owner
    c.requires.workers.workers_are
    (between_ran g.B.Basis.owner c.args.executor.now.manager.now g.B.Basis.sizes.workers (parts_of c.args.pass.now) c.args.pass.now.first c.args.workers.now.items c.run_workers.new.workers.items (omega (arith, c.requires.some)) c.requires.owner c.requires.workers
    c.run_workers.ensures.workers c.run_workers.ensures.rests c.run_workers.ensures.sees c.run_workers.ensures.may_work c.run_workers.ensures.free c.run_workers.ensures.pins).workers_are
    c.requires.begun works_by works c.finish-2.ensures.others)
    c.finish-2.ensures.works

pub returns-clause-no_room : goal.returns-clause-no_room
returns-clause-no_room g c =
    room_more
    (λ asked held floor. (any : WorkerView) → ShowsNoRoom g.B.Basis.sizes (own_of (slice_index_or c.finish-2.new.workers.items 0 any)) (task_for c.args.pass.now (parts_of c.args.pass.now)) asked held floor)
    (λ asked held floor. (worker task : ℕ) × (worker < g.B.Basis.sizes.workers) × ((any : WorkerView) → ShowsNoRoom g.B.Basis.sizes (own_of (slice_index_or c.finish-2.new.workers.items worker any)) task asked held floor))
    c.finish-2.result
    (λ asked held floor shows. (0, task_for c.args.pass.now (parts_of c.args.pass.now), omega (arith, c.requires.some), shows))
    c.finish-2.ensures.no_room

pub returns-clause-posts : goal.returns-clause-posts
returns-clause-posts g c =
    let size : length c.args.workers.now.items ≡ g.B.Basis.sizes.workers = c.requires.workers.workers_are.0 in
    let left = leaves_rest g.C.Consumer.state g.D.Disk.files g.D.Disk.faults g.B.Basis.sizes.workers c.args.posts.now c.run_workers.new.posts
    (λ place above. c.run_workers.ensures.others place (omega (arith, above, size))) c.run_workers.ensures.consumers c.run_workers.ensures.same_posts c.run_workers.ensures.files c.run_workers.ensures.later in
    leaves_merged g.C.Consumer.state g.D.Disk.files g.D.Disk.faults g.B.Basis.sizes.workers c.args.posts.now c.run_workers.new.posts c.finish-2.new.posts (lists_of c.in-Ok.lists.items) left
    c.finish-2.ensures.kept c.finish-2.ensures.same_posts c.in-Ok.ensures.made c.finish-2.ensures.tells c.finish-2.ensures.files c.finish-2.ensures.later

pub returns-clause-workers : goal.returns-clause-workers
returns-clause-workers g c =
    let count = g.B.Basis.sizes.workers in
    let pass = c.args.pass.now in
    let mid : AreBetween c.args.executor.now.manager.now g.B.Basis.owner count (pass.first + parts_of pass) c.run_workers.new.workers.items =
    between_ran g.B.Basis.owner c.args.executor.now.manager.now count (parts_of pass) pass.first c.args.workers.now.items c.run_workers.new.workers.items (omega (arith, c.requires.some)) c.requires.owner c.requires.workers
    c.run_workers.ensures.workers c.run_workers.ensures.rests c.run_workers.ensures.sees c.run_workers.ensures.may_work c.run_workers.ensures.free c.run_workers.ensures.pins in
    between_passes g.B.Basis.owner c.args.executor.now.manager.now count (parts_of pass) pass.first c.run_workers.new.workers.items c.finish-2.new.workers.items c.requires.owner mid
    c.finish-2.ensures.workers c.finish-2.ensures.may_work c.finish-2.ensures.free c.finish-2.ensures.pin c.finish-2.ensures.others

pub returns-in-Ok-finish-clause-sees : goal.returns-in-Ok-finish-clause-sees
returns-in-Ok-finish-clause-sees g c =
    let size : length c.args.workers.now.items ≡ g.B.Basis.sizes.workers = c.requires.workers.workers_are.0 in
    sees_then g.B.Basis.sizes.workers c.args.workers.now.items c.run_workers.new.workers.items c.finish.new.workers.items (λ worker any below. c.run_workers.ensures.sees worker any (omega (arith, below, size)))
    (sees_first g.B.Basis.sizes.workers c.run_workers.new.workers.items c.finish.new.workers.items c.finish.ensures.sees c.finish.ensures.others)

pub returns-in-Err-finish-clause-sees : goal.returns-in-Err-finish-clause-sees
returns-in-Err-finish-clause-sees g c =
    let size : length c.args.workers.now.items ≡ g.B.Basis.sizes.workers = c.requires.workers.workers_are.0 in
    sees_then g.B.Basis.sizes.workers c.args.workers.now.items c.run_workers.new.workers.items c.finish.new.workers.items (λ worker any below. c.run_workers.ensures.sees worker any (omega (arith, below, size)))
    (sees_first g.B.Basis.sizes.workers c.run_workers.new.workers.items c.finish.new.workers.items c.finish.ensures.sees c.finish.ensures.others)

pub returns-clause-sees : goal.returns-clause-sees
returns-clause-sees g c =
    let size : length c.args.workers.now.items ≡ g.B.Basis.sizes.workers = c.requires.workers.workers_are.0 in
    sees_then g.B.Basis.sizes.workers c.args.workers.now.items c.run_workers.new.workers.items c.finish-2.new.workers.items (λ worker any below. c.run_workers.ensures.sees worker any (omega (arith, below, size)))
    (sees_first g.B.Basis.sizes.workers c.run_workers.new.workers.items c.finish-2.new.workers.items c.finish-2.ensures.sees c.finish-2.ensures.others)

pub returns-in-Ok-finish-clause-told : goal.returns-in-Ok-finish-clause-told
returns-in-Ok-finish-clause-told g c =
    let size : length c.args.workers.now.items ≡ g.B.Basis.sizes.workers = c.requires.workers.workers_are.0 in
    let told_by = rw size at c.in-Ok.ensures.told in
    let count = g.B.Basis.sizes.workers in
    let mids = c.run_workers.new.workers.items in
    let news = c.finish.new.workers.items in
    parts_later c.args.pass.now count mids news c.requires.some (sees_first count mids news c.finish.ensures.sees c.finish.ensures.others) (by_part c.args.pass.now count mids c.requires.some told_by)

pub returns-in-Ok-finish-clause-charged : goal.returns-in-Ok-finish-clause-charged
returns-in-Ok-finish-clause-charged g c =
    let count = g.B.Basis.sizes.workers in
    let mids = c.run_workers.new.workers.items in
    let news = c.finish.new.workers.items in
    let size : length c.args.workers.now.items ≡ count = c.requires.workers.workers_are.0 in
    let charged = rw size at c.in-Ok.ensures.charged in
    let states = states_at g.C.Consumer.state c.args.posts.now.items in
    let files = post_files g.D.Disk.files c.args.posts.now in
    charged_later states files g.B.Basis.rows c.args.pass.now count mids news c.requires.some (sees_first count mids news c.finish.ensures.sees c.finish.ensures.others)
    (charged_by_part states files g.B.Basis.rows c.args.pass.now count mids c.requires.some charged)

pub returns-clause-charged : goal.returns-clause-charged
returns-clause-charged g c =
    let count = g.B.Basis.sizes.workers in
    let mids = c.run_workers.new.workers.items in
    let news = c.finish-2.new.workers.items in
    let size : length c.args.workers.now.items ≡ count = c.requires.workers.workers_are.0 in
    let charged = rw size at c.in-Ok.ensures.charged in
    let states = states_at g.C.Consumer.state c.args.posts.now.items in
    let files = post_files g.D.Disk.files c.args.posts.now in
    on_ok_all c.finish-2.result
    (charged_later states files g.B.Basis.rows c.args.pass.now count mids news c.requires.some (sees_first count mids news c.finish-2.ensures.sees c.finish-2.ensures.others)
    (charged_by_part states files g.B.Basis.rows c.args.pass.now count mids c.requires.some charged))

pub returns-clause-told : goal.returns-clause-told
returns-clause-told g c =
    let size : length c.args.workers.now.items ≡ g.B.Basis.sizes.workers = c.requires.workers.workers_are.0 in
    let told_by = rw size at c.in-Ok.ensures.told in
    let count = g.B.Basis.sizes.workers in
    let mids = c.run_workers.new.workers.items in
    let news = c.finish-2.new.workers.items in
    on_ok_all c.finish-2.result
    (parts_later c.args.pass.now count mids news c.requires.some (sees_first count mids news c.finish-2.ensures.sees c.finish-2.ensures.others) (by_part c.args.pass.now count mids c.requires.some told_by))

pub returns-in-Ok-finish-clause-removes : goal.returns-in-Ok-finish-clause-removes
returns-in-Ok-finish-clause-removes g c =
    λ first did.
    removes_pass first c.args.executor.now.manager.now g.B.Basis.sizes.workers (parts_of c.args.pass.now) c.args.pass.now.first c.args.workers.now.items c.run_workers.new.workers.items c.finish.new.workers.items
    (omega (arith, c.requires.some)) c.requires.workers.workers_are
    (between_ran g.B.Basis.owner c.args.executor.now.manager.now g.B.Basis.sizes.workers (parts_of c.args.pass.now) c.args.pass.now.first c.args.workers.now.items c.run_workers.new.workers.items (omega (arith, c.requires.some)) c.requires.owner c.requires.workers
    c.run_workers.ensures.workers c.run_workers.ensures.rests c.run_workers.ensures.sees c.run_workers.ensures.may_work c.run_workers.ensures.free c.run_workers.ensures.pins).workers_are
    c.run_workers.ensures.may_work c.finish.ensures.may_work c.finish.ensures.others did

pub returns-clause-removes : goal.returns-clause-removes
returns-clause-removes g c =
    on_ok_all c.finish-2.result (λ first did.
    removes_pass first c.args.executor.now.manager.now g.B.Basis.sizes.workers (parts_of c.args.pass.now) c.args.pass.now.first c.args.workers.now.items c.run_workers.new.workers.items c.finish-2.new.workers.items
    (omega (arith, c.requires.some)) c.requires.workers.workers_are
    (between_ran g.B.Basis.owner c.args.executor.now.manager.now g.B.Basis.sizes.workers (parts_of c.args.pass.now) c.args.pass.now.first c.args.workers.now.items c.run_workers.new.workers.items (omega (arith, c.requires.some)) c.requires.owner c.requires.workers
    c.run_workers.ensures.workers c.run_workers.ensures.rests c.run_workers.ensures.sees c.run_workers.ensures.may_work c.run_workers.ensures.free c.run_workers.ensures.pins).workers_are
    c.run_workers.ensures.may_work c.finish-2.ensures.may_work c.finish-2.ensures.others did)
