use Rattle.std.proofs.Common.{◌≡◌, length, map, refl, arith}
use Rattle.std.proofs.lemmas.Result.{IfOk-weaker}
use Rattle.task_runner.specs.AllWorkers.{Finished}
use Rattle.task_runner.specs.AtOnce.{AreAnswers}
use Rattle.task_runner.proofs.Able.{all_may}
use Rattle.task_runner.proofs.AllAtOnce.{cause_at_once, finished_at_once, lowest_at_once, names_at_once, reached_at_once, reached_idle, rests_at_once, room_at_once, sound_at_once}
use Rattle.task_runner.proofs.Reaching.{holds_of}
use Rattle.task_runner.proofs.each_worker.run_each.Goals as goal

pub returns-in_default-clause-reached : goal.returns-in_default-clause-reached
returns-in_default-clause-reached g c =
    reached_idle g.C.Consumer.state g.D.Disk.files g.D.Disk.faults (length c.args.workers.now.items) c.args.pass.now c.args.workers.now.items c.args.posts.now.items c.requires.may.free

pub returns-in_default-clause-rests : goal.returns-in_default-clause-rests
returns-in_default-clause-rests g c = c.requires.may.rests

pub run_at_once-requires-clause-may : goal.run_at_once-requires-clause-may
run_at_once-requires-clause-may g c κs within =
    let size : c.len-count.result ≡ length c.args.workers.now.items = omega (arith, c.len-count.ensures, c.args.workers.now.ok.0) in
    rw size (all_may g.C.Consumer.state g.D.Disk.files g.D.Disk.faults c.args.executor.now.manager.now g.B.Basis.owner (length c.args.workers.now.items) g.B.Basis.rows c.args.pass.now c.args.workers.now.items c.args.posts.now.items
    refl c.requires.posts c.requires.few_posts c.requires.pass c.requires.may c.requires.basis c.requires.consumers)

pub returns-clause-finished : goal.returns-clause-finished
returns-clause-finished g c =
    let size : c.len-count.result ≡ length c.args.workers.now.items = omega (arith, c.len-count.ensures, c.args.workers.now.ok.0) in
    let ran = rw size at c.run_at_once.ensures.ran in
    IfOk-weaker c.all_of.result (λ all. AreAnswers c.run_at_once.new.answers.items (map (λ answers. answers.items) all.items))
    (λ all. Finished g.C.Consumer.state g.D.Disk.files g.D.Disk.faults (length c.args.workers.now.items) (length c.args.workers.now.items) g.B.Basis.rows c.args.pass.now c.args.workers.now.items c.run_at_once.new.workers.items
    c.args.posts.now.items c.run_at_once.new.posts.items (map (λ answers. answers.items) all.items))
    (λ all are. finished_at_once g.C.Consumer.state g.D.Disk.files g.D.Disk.faults g.B.Basis.sizes (length c.args.workers.now.items) g.B.Basis.rows c.args.pass.now c.args.workers.now.items
    c.run_at_once.new.workers.items c.args.posts.now.items c.run_at_once.new.posts.items c.run_at_once.new.answers.items refl ran (map (λ answers. answers.items) all.items) are)
    c.all_of.ensures.all

pub returns-clause-reached : goal.returns-clause-reached
returns-clause-reached g c =
    let size : c.len-count.result ≡ length c.args.workers.now.items = omega (arith, c.len-count.ensures, c.args.workers.now.ok.0) in
    let ran = rw size at c.run_at_once.ensures.ran in
    reached_at_once g.C.Consumer.state g.D.Disk.files g.D.Disk.faults g.B.Basis.sizes (length c.args.workers.now.items) g.B.Basis.rows c.args.pass.now c.args.workers.now.items
    c.run_at_once.new.workers.items c.args.posts.now.items c.run_at_once.new.posts.items c.run_at_once.new.answers.items refl ran

pub returns-clause-sound : goal.returns-clause-sound
returns-clause-sound g c =
    let size : c.len-count.result ≡ length c.args.workers.now.items = omega (arith, c.len-count.ensures, c.args.workers.now.ok.0) in
    let ran = rw size at c.run_at_once.ensures.ran in
    λ rows holds.
    sound_at_once g.C.Consumer.state g.D.Disk.files g.D.Disk.faults g.B.Basis.sizes (length c.args.workers.now.items) g.B.Basis.rows c.args.pass.now c.args.workers.now.items
    c.run_at_once.new.workers.items c.args.posts.now.items c.run_at_once.new.posts.items c.run_at_once.new.answers.items refl ran
    c.all_of.result c.all_of.ensures.first rows
    (λ w below. holds_of g.D.Disk.files g.B.Basis.rows c.args.pass.now (length c.args.workers.now.items) w rows c.args.posts.now.items below holds)

pub returns-clause-no_room : goal.returns-clause-no_room
returns-clause-no_room g c =
    let size : c.len-count.result ≡ length c.args.workers.now.items = omega (arith, c.len-count.ensures, c.args.workers.now.ok.0) in
    let ran = rw size at c.run_at_once.ensures.ran in
    room_at_once g.C.Consumer.state g.D.Disk.files g.D.Disk.faults g.B.Basis.sizes (length c.args.workers.now.items) g.B.Basis.rows c.args.pass.now c.args.workers.now.items
    c.run_at_once.new.workers.items c.args.posts.now.items c.run_at_once.new.posts.items c.run_at_once.new.answers.items refl ran c.all_of.result c.all_of.ensures.first

pub returns-clause-names : goal.returns-clause-names
returns-clause-names g c =
    let size : c.len-count.result ≡ length c.args.workers.now.items = omega (arith, c.len-count.ensures, c.args.workers.now.ok.0) in
    let ran = rw size at c.run_at_once.ensures.ran in
    names_at_once g.C.Consumer.state g.D.Disk.files g.D.Disk.faults g.B.Basis.sizes (length c.args.workers.now.items) g.B.Basis.rows c.args.pass.now c.args.workers.now.items
    c.run_at_once.new.workers.items c.args.posts.now.items c.run_at_once.new.posts.items c.run_at_once.new.answers.items refl ran c.all_of.result c.all_of.ensures.first

pub returns-clause-rests : goal.returns-clause-rests
returns-clause-rests g c =
    let size : c.len-count.result ≡ length c.args.workers.now.items = omega (arith, c.len-count.ensures, c.args.workers.now.ok.0) in
    let ran = rw size at c.run_at_once.ensures.ran in
    rests_at_once g.C.Consumer.state g.D.Disk.files g.D.Disk.faults g.B.Basis.sizes (length c.args.workers.now.items) g.B.Basis.rows c.args.pass.now c.args.workers.now.items
    c.run_at_once.new.workers.items c.args.posts.now.items c.run_at_once.new.posts.items c.run_at_once.new.answers.items refl ran

pub returns-clause-cause : goal.returns-clause-cause
returns-clause-cause g c =
    let size : c.len-count.result ≡ length c.args.workers.now.items = omega (arith, c.len-count.ensures, c.args.workers.now.ok.0) in
    let ran = rw size at c.run_at_once.ensures.ran in
    cause_at_once g.C.Consumer.state g.D.Disk.files g.D.Disk.faults g.B.Basis.sizes (length c.args.workers.now.items) g.B.Basis.rows c.args.pass.now c.args.workers.now.items
    c.run_at_once.new.workers.items c.args.posts.now.items c.run_at_once.new.posts.items c.run_at_once.new.answers.items refl ran c.all_of.result c.all_of.ensures.first

pub returns-clause-lowest : goal.returns-clause-lowest
returns-clause-lowest g c =
    let size : c.len-count.result ≡ length c.args.workers.now.items = omega (arith, c.len-count.ensures, c.args.workers.now.ok.0) in
    let ran = rw size at c.run_at_once.ensures.ran in
    lowest_at_once g.C.Consumer.state g.D.Disk.files g.D.Disk.faults g.B.Basis.sizes (length c.args.workers.now.items) g.B.Basis.rows c.args.pass.now c.args.workers.now.items
    c.run_at_once.new.workers.items c.args.posts.now.items c.run_at_once.new.posts.items c.run_at_once.new.answers.items refl ran c.all_of.result c.all_of.ensures.first
