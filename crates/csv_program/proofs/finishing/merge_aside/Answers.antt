use Rattle.std.proofs.Common.{Option, sym, subst, arith}
use Rattle.std.specs.Global.{Vec}
use Rattle.std.specs.Prelude.{IsSome}
use Rattle.run_file.specs.declared.run.Run.{Run}
use Rattle.task_memory.specs.RunLists.{lists_of}
use Rattle.csv_program.specs.Posts.{post_faults, post_files}
use Rattle.csv_program.proofs.Aside.{cause_around, faults_alike, files_alike, lists_alike, merges_alike}
use Rattle.csv_program.proofs.Named.{final_named}
use Rattle.csv_program.proofs.StillThere.{others_around, tells_around}
use Rattle.csv_program.proofs.finishing.merge_aside.Goals as goal

pub returns-clause-answer : goal.returns-clause-answer
returns-clause-answer g c =
    let files = g.D.Disk.files in
    let taken = files_alike files c.take_consumers.new.posts c.args.posts.now c.take_consumers.ensures.disks in
    let given = files_alike files c.swap_consumers.new.posts c.run_final-answers.new.shelf c.swap_consumers.ensures.disks in
    λ entries tells have apart.
    merges_alike (post_files files c.run_final-answers.new.shelf) (post_files files c.swap_consumers.new.posts) c.args.pass.now entries c.run_final-answers.result given
    (c.run_final-answers.ensures.answer entries (subst IsSome (sym (taken 0)) tells)
    (lists_alike (post_files files c.args.posts.now) (post_files files c.take_consumers.new.posts) c.args.pass.now (lists_of c.args.lists.items) entries taken have) apart)

pub returns-clause-tells : goal.returns-clause-tells
returns-clause-tells g c =
    let files = g.D.Disk.files in
    let taken = files_alike files c.take_consumers.new.posts c.args.posts.now c.take_consumers.ensures.disks in
    let given = files_alike files c.swap_consumers.new.posts c.run_final-answers.new.shelf c.swap_consumers.ensures.disks in
    tells_around (post_files files c.args.posts.now) (post_files files c.take_consumers.new.posts) (post_files files c.run_final-answers.new.shelf) (post_files files c.swap_consumers.new.posts) taken given c.run_final-answers.ensures.shelf.tells

pub returns-clause-files : goal.returns-clause-files
returns-clause-files g c =
    let files = g.D.Disk.files in
    let taken = files_alike files c.take_consumers.new.posts c.args.posts.now c.take_consumers.ensures.disks in
    let given = files_alike files c.swap_consumers.new.posts c.run_final-answers.new.shelf c.swap_consumers.ensures.disks in
    others_around (post_files files c.args.posts.now) (post_files files c.take_consumers.new.posts) (post_files files c.run_final-answers.new.shelf) (post_files files c.swap_consumers.new.posts) (lists_of c.args.lists.items) taken given c.run_final-answers.ensures.others

pub returns-clause-later : goal.returns-clause-later
returns-clause-later g c =
    let faults = g.D.Disk.faults in
    λ place.
    let taken = faults_alike faults c.take_consumers.new.posts c.args.posts.now c.take_consumers.ensures.disks place in
    let given = faults_alike faults c.swap_consumers.new.posts c.run_final-answers.new.shelf c.swap_consumers.ensures.disks place in
    let later = c.run_final-answers.ensures.shelf.later place in
    omega (arith, taken, given, later)

pub returns-clause-named : goal.returns-clause-named
returns-clause-named g c = final_named (Vec (Option Run)) (λ disk. disk) (post_files g.D.Disk.files c.take_consumers.new.posts) (lists_of c.args.lists.items) c.run_final-answers.result c.run_final-answers.ensures.damaged

pub returns-clause-cause : goal.returns-clause-cause
returns-clause-cause g c =
    let faults = g.D.Disk.faults in
    let taken = faults_alike faults c.take_consumers.new.posts c.args.posts.now c.take_consumers.ensures.disks in
    let given = faults_alike faults c.swap_consumers.new.posts c.run_final-answers.new.shelf c.swap_consumers.ensures.disks in
    cause_around (post_faults faults c.args.posts.now) (post_faults faults c.take_consumers.new.posts) (post_faults faults c.run_final-answers.new.shelf) (post_faults faults c.swap_consumers.new.posts) c.run_final-answers.result
    (λ place. let same = taken place in omega (arith, same)) (λ place. let same = given place in omega (arith, same)) c.run_final-answers.ensures.cause
