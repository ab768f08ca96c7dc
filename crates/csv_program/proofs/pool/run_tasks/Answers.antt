use Rattle.std.proofs.Common.{◌≡◌, ◌+◌, ◌*◌, ◌<◌, ◌≤◌, ℕ, List, length, refl, sym, ap, subst, arith}
use Rattle.std.specs.Prelude.{OnOk, slice_index_or}
use Rattle.pool_ledger.specs.Sizes.{Sizes}
use Rattle.turn_lock.specs.Passes.{WorkerView}
use Rattle.memory_lock.specs.Crew.{new_worker}
use Rattle.memory_lock.specs.Workers.{own_of}
use Rattle.job_plan.specs.Plans.{passes_in}
use Rattle.task_runner.specs.Pass.{states_at}
use Rattle.task_runner.specs.Works.{ShowsNoRoom}
use Rattle.csv_program.specs.Cached.{EachTells, GoesBehind, TellsPasses}
use Rattle.csv_program.specs.Charges.{EachCharges, ChargesPlan}
use Rattle.csv_program.specs.Doing.{EachBegins, EachRemoves}
use Rattle.csv_program.specs.Feeds.{FeedsPlan}
use Rattle.csv_program.specs.Posts.{post_files}
use Rattle.csv_program.specs.QueryResults.{HoldsParts, SaysParts}
use Rattle.job_ending.specs.Removals.{RemovesLate, free_from}
use Rattle.job_ending.specs.Tasks.{BeginsAll, FollowsPlan, owner_of}
use Rattle.csv_program.specs.Shortage.{ShowsShort}
use Rattle.csv_program.proofs.CachedTasks.{journal_tells}
use Rattle.csv_program.proofs.Crews.{new_between}
use Rattle.csv_program.proofs.Followed.{begins_all, follows, on_ok_more, room_more, shows_short}
use Rattle.csv_program.proofs.ChargedPasses.{journal_charges}
use Rattle.csv_program.proofs.RemovedLate.{removes_late, removes_new}
use Rattle.csv_program.proofs.GoneBehind.{journal_goes}
use Rattle.csv_program.proofs.pool.run_tasks.Goals as goal

pub run_passes-answers-requires-clause-workers : goal.run_passes-answers-requires-clause-workers
run_passes-answers-requires-clause-workers g c κs within = new_between g.B.Basis.owner c.in-Ok.manager g.B.Basis.sizes.workers 0 c.in-Ok.workers.items c.in-Ok.ensures.workers c.in-Ok.ensures.fresh

pub run_passes-answers-requires-clause-said : goal.run_passes-answers-requires-clause-said
run_passes-answers-requires-clause-said g c κs within =
    let size : c.args.asked.now.pool.workers ≡ g.B.Basis.sizes.workers = ap (λ (s : Sizes). s.workers) c.requires.basis in
    subst (SaysParts (post_files g.D.Disk.files c.args.posts.now) g.B.Basis.rows c.args.plan.now c.args.parts.now c.args.asked.now.part_rows) size c.requires.said

pub returns-clause-told : goal.returns-clause-told
returns-clause-told g c =
    let partitions = length c.args.parts.now in
    let passes = length (passes_in c.args.plan.now) in
    let size : c.args.asked.now.pool.workers ≡ g.B.Basis.sizes.workers = ap (λ (s : Sizes). s.workers) c.requires.basis in
    let some : 1 ≤ g.B.Basis.sizes.workers = let range = c.max-range.ensures.range in omega (arith, size, range.some_worker) in
    on_ok_more c.run_passes-answers.result
    (EachTells c.args.plan.now g.B.Basis.sizes.workers partitions passes c.run_passes-answers.new.workers.items)
    (TellsPasses c.args.plan.now c.args.asked.now.pool.workers partitions passes c.close-journal.result.0)
    (λ told. subst (λ (n : ℕ). TellsPasses c.args.plan.now n partitions passes c.close-journal.result.0) (sym size)
    (journal_tells c.args.plan.now g.B.Basis.sizes.workers partitions passes c.in-Ok.manager c.run_passes-answers.new.workers.items (new_worker c.in-Ok.manager 0 0) c.close-journal.result.0
    some c.run_passes-answers.ensures.workers.workers_are c.close-journal.ensures.whole told))
    c.run_passes-answers.ensures.told

pub run_passes-answers-requires-clause-new : goal.run_passes-answers-requires-clause-new
run_passes-answers-requires-clause-new g c κs within =
    removes_new (free_from c.args.plan.now (length c.args.parts.now)) c.in-Ok.manager g.B.Basis.sizes.workers 0 c.in-Ok.workers.items c.in-Ok.ensures.workers c.in-Ok.ensures.fresh

pub returns-clause-removes : goal.returns-clause-removes
returns-clause-removes g c =
    let partitions = length c.args.parts.now in
    let passes = length (passes_in c.args.plan.now) in
    let size : c.args.asked.now.pool.workers ≡ g.B.Basis.sizes.workers = ap (λ (s : Sizes). s.workers) c.requires.basis in
    on_ok_more c.run_passes-answers.result
    (EachRemoves (free_from c.args.plan.now partitions) g.B.Basis.sizes.workers (passes * (partitions + 1)) c.run_passes-answers.new.workers.items)
    (RemovesLate c.args.plan.now c.args.asked.now.pool.workers partitions c.close-journal.result.0)
    (λ did. subst (λ (n : ℕ). RemovesLate c.args.plan.now n partitions c.close-journal.result.0) (sym size)
    (removes_late c.args.plan.now c.in-Ok.manager g.B.Basis.sizes.workers partitions (passes * (partitions + 1)) c.run_passes-answers.new.workers.items (new_worker c.in-Ok.manager 0 0) c.close-journal.result.0
    c.run_passes-answers.ensures.workers.workers_are c.close-journal.ensures.whole did))
    c.run_passes-answers.ensures.removes

pub returns-clause-gone : goal.returns-clause-gone
returns-clause-gone g c =
    let plan = c.args.plan.now in
    let partitions = length c.args.parts.now in
    let passes = length (passes_in plan) in
    let workers = c.run_passes-answers.new.workers.items in
    let any = new_worker c.in-Ok.manager 0 0 in
    let size : c.args.asked.now.pool.workers ≡ g.B.Basis.sizes.workers = ap (λ (s : Sizes). s.workers) c.requires.basis in
    let some : 1 ≤ g.B.Basis.sizes.workers = let range = c.max-range.ensures.range in omega (arith, size, range.some_worker) in
    on_ok_more c.run_passes-answers.result ((other : WorkerView) → GoesBehind plan partitions passes (slice_index_or workers 0 other).seen) (GoesBehind plan partitions passes c.close-journal.result.0)
    (λ goes. journal_goes plan partitions passes g.B.Basis.sizes.workers c.in-Ok.manager workers any c.close-journal.result.0 some c.run_passes-answers.ensures.workers.workers_are c.close-journal.ensures.whole (goes any))
    c.run_passes-answers.ensures.gone

pub returns-clause-charged : goal.returns-clause-charged
returns-clause-charged g c =
    let plan = c.args.plan.now in
    let parts = c.args.parts.now in
    let size : c.args.asked.now.pool.workers ≡ g.B.Basis.sizes.workers = ap (λ (s : Sizes). s.workers) c.requires.basis in
    let some : 1 ≤ g.B.Basis.sizes.workers = let range = c.max-range.ensures.range in omega (arith, size, range.some_worker) in
    let states = states_at g.C.Consumer.state c.args.posts.now.items in
    let workers = c.run_passes-answers.new.workers.items in
    let journal = c.close-journal.result.0 in
    subst (λ (n : ℕ). OnOk c.run_passes-answers.result ((rows : ℕ → List (List (List ℕ))) → HoldsParts (post_files g.D.Disk.files c.args.posts.now) g.B.Basis.rows plan parts c.args.asked.now.part_rows n rows
    → ChargesPlan states plan (length parts) rows n journal)) (sym size)
    (on_ok_more c.run_passes-answers.result
    ((rows : ℕ → List (List (List ℕ))) → HoldsParts (post_files g.D.Disk.files c.args.posts.now) g.B.Basis.rows plan parts c.args.asked.now.part_rows g.B.Basis.sizes.workers rows
    → EachCharges states plan (length parts) rows g.B.Basis.sizes.workers (length (passes_in plan)) workers)
    ((rows : ℕ → List (List (List ℕ))) → HoldsParts (post_files g.D.Disk.files c.args.posts.now) g.B.Basis.rows plan parts c.args.asked.now.part_rows g.B.Basis.sizes.workers rows
    → ChargesPlan states plan (length parts) rows g.B.Basis.sizes.workers journal)
    (λ held rows holds. journal_charges states plan (length parts) rows g.B.Basis.sizes.workers c.in-Ok.manager workers (new_worker c.in-Ok.manager 0 0) journal some
    c.run_passes-answers.ensures.workers.workers_are c.close-journal.ensures.whole (held rows holds))
    c.run_passes-answers.ensures.charged)

pub returns-clause-answer : goal.returns-clause-answer
returns-clause-answer g c rows holds =
    let size : c.args.asked.now.pool.workers ≡ g.B.Basis.sizes.workers = ap (λ (s : Sizes). s.workers) c.requires.basis in
    c.run_passes-answers.ensures.answer rows (subst (λ (n : ℕ). HoldsParts (post_files g.D.Disk.files c.args.posts.now) g.B.Basis.rows c.args.plan.now c.args.parts.now c.args.asked.now.part_rows n rows) size holds)

pub returns-clause-fed : goal.returns-clause-fed
returns-clause-fed g c =
    let plan = c.args.plan.now in
    let parts = c.args.parts.now in
    let size : c.args.asked.now.pool.workers ≡ g.B.Basis.sizes.workers = ap (λ (s : Sizes). s.workers) c.requires.basis in
    subst (λ (n : ℕ). OnOk c.run_passes-answers.result ((rows : ℕ → List (List (List ℕ))) → HoldsParts (post_files g.D.Disk.files c.args.posts.now) g.B.Basis.rows plan parts c.args.asked.now.part_rows n rows
    → (worker : ℕ) → worker < n → FeedsPlan (states_at g.C.Consumer.state c.args.posts.now.items worker) (states_at g.C.Consumer.state c.run_passes-answers.new.posts.items worker) plan (length parts) rows n worker))
    (sym size) c.run_passes-answers.ensures.fed

pub returns-clause-tasks : goal.returns-clause-tasks
returns-clause-tasks g c =
    let partitions = length c.args.parts.now in
    let passes = length (passes_in c.args.plan.now) in
    let size : c.args.asked.now.pool.workers ≡ g.B.Basis.sizes.workers = ap (λ (s : Sizes). s.workers) c.requires.basis in
    let owns : (task : ℕ) → g.B.Basis.owner task ≡ owner_of 0 0 g.B.Basis.sizes.workers partitions passes task = subst (λ (n : ℕ). (task : ℕ) → g.B.Basis.owner task ≡ owner_of 0 0 n partitions passes task) size c.requires.owner in
    let did = c.run_passes-answers.ensures.workers in
    let plan = follows g.B.Basis.sizes c.in-Ok.manager g.B.Basis.owner g.B.Basis.sizes.workers partitions passes (passes * (partitions + 1)) c.run_passes-answers.new.workers.items c.close-journal.result.0
    refl owns did.workers_are c.close-journal.ensures.whole c.close-journal.ensures.legal did.does in
    subst (λ (n : ℕ). FollowsPlan (owner_of 0 0 n partitions passes) c.close-journal.result.0) (sym size) plan

pub returns-clause-all : goal.returns-clause-all
returns-clause-all g c =
    let partitions = length c.args.parts.now in
    let passes = length (passes_in c.args.plan.now) in
    let size : c.args.asked.now.pool.workers ≡ g.B.Basis.sizes.workers = ap (λ (s : Sizes). s.workers) c.requires.basis in
    let some : 0 < g.B.Basis.sizes.workers = let range = c.max-range.ensures.range in omega (arith, size, range.some_worker) in
    let owns : (task : ℕ) → g.B.Basis.owner task ≡ owner_of 0 0 g.B.Basis.sizes.workers partitions passes task = subst (λ (n : ℕ). (task : ℕ) → g.B.Basis.owner task ≡ owner_of 0 0 n partitions passes task) size c.requires.owner in
    on_ok_more c.run_passes-answers.result
    (EachBegins g.B.Basis.owner g.B.Basis.sizes.workers (passes * (partitions + 1)) c.run_passes-answers.new.workers.items)
    (BeginsAll 0 partitions passes c.close-journal.result.0)
    (begins_all g.B.Basis.sizes c.in-Ok.manager g.B.Basis.owner g.B.Basis.sizes.workers partitions passes c.run_passes-answers.new.workers.items c.close-journal.result.0
    some owns c.run_passes-answers.ensures.workers.workers_are c.close-journal.ensures.whole
    (c.legal_journals_are_safe.ensures g.B.Basis.sizes c.close-journal.result.0
    (let range = c.max-range.ensures.range in let max = ap (λ (s : Sizes). s.maximum) c.requires.basis in let region = ap (λ (s : Sizes). s.region) c.requires.basis in omega (arith, max, region, range.region_fits))
    c.close-journal.ensures.legal))
    c.run_passes-answers.ensures.begun

pub returns-clause-no_room : goal.returns-clause-no_room
returns-clause-no_room g c =
    room_more
    (λ asked held floor. (worker task : ℕ) × (worker < g.B.Basis.sizes.workers) × ((any : WorkerView) → ShowsNoRoom g.B.Basis.sizes (own_of (slice_index_or c.run_passes-answers.new.workers.items worker any)) task asked held floor))
    (λ asked held floor. ShowsShort c.args.asked.now.pool c.close-journal.result.0 asked held floor)
    c.run_passes-answers.result
    (shows_short g.B.Basis.sizes c.args.asked.now.pool c.in-Ok.manager g.B.Basis.sizes.workers c.run_passes-answers.new.workers.items c.close-journal.result.0 c.requires.basis c.run_passes-answers.ensures.workers.workers_are c.close-journal.ensures.whole)
    c.run_passes-answers.ensures.no_room
