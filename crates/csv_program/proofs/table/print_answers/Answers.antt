use Rattle.std.proofs.Common.{◌∙◌, sym, arith}
use Rattle.fault_count.specs.Faults.{Rose}
use Rattle.csv_program.specs.Posts.{post_faults, post_files}
use Rattle.csv_program.proofs.Gaining.{wanting_gains}
use Rattle.csv_program.proofs.PostDisks.{disk_fault_as, faults_same, files_same, rose_as}
use Rattle.csv_program.proofs.Printed.{results_kept}
use Rattle.csv_program.proofs.table.print_answers.Goals as goal

pub returns-clause-ending : goal.returns-clause-ending
returns-clause-ending g c totals has told =
    let same = files_same c.args.posts.now c.take_consumers.new.posts c.take_consumers.ensures.disks g.D.Disk.files in
    c.check_and_print-status.ensures.ending totals (results_kept (post_files g.D.Disk.files c.args.posts.now) (post_files g.D.Disk.files c.take_consumers.new.posts) c.args.plan.now c.args.answers.now totals same has) told

pub returns-clause-done : goal.returns-clause-done
returns-clause-done g c totals has done =
    let same = files_same c.args.posts.now c.take_consumers.new.posts c.take_consumers.ensures.disks g.D.Disk.files in
    c.check_and_print-status.ensures.done totals (results_kept (post_files g.D.Disk.files c.args.posts.now) (post_files g.D.Disk.files c.take_consumers.new.posts) c.args.plan.now c.args.answers.now totals same has) done

pub returns-clause-prefix : goal.returns-clause-prefix
returns-clause-prefix g c totals has cut =
    let same = files_same c.args.posts.now c.take_consumers.new.posts c.take_consumers.ensures.disks g.D.Disk.files in
    c.check_and_print-status.ensures.prefix totals (results_kept (post_files g.D.Disk.files c.args.posts.now) (post_files g.D.Disk.files c.take_consumers.new.posts) c.args.plan.now c.args.answers.now totals same has) cut

pub returns-clause-disk : goal.returns-clause-disk
returns-clause-disk g c =
    let faults = g.D.Disk.faults in
    let first = faults_same c.args.posts.now c.take_consumers.new.posts c.take_consumers.ensures.disks faults in
    let last = faults_same c.check_and_print-status.new.shelf c.swap_consumers.new.posts c.swap_consumers.ensures.disks faults in
    disk_fault_as c.check_and_print-status.result
    (λ post. Rose (post_faults faults c.take_consumers.new.posts post) (post_faults faults c.check_and_print-status.new.shelf post))
    (λ post. Rose (post_faults faults c.args.posts.now post) (post_faults faults c.swap_consumers.new.posts post))
    (λ post rose. rose_as _ _ _ _ (first post) (sym (last post)) rose) c.check_and_print-status.ensures.disk

pub returns-clause-files : goal.returns-clause-files
returns-clause-files g c place =
    let files = g.D.Disk.files in
    let first = files_same c.args.posts.now c.take_consumers.new.posts c.take_consumers.ensures.disks files place in
    let last = files_same c.check_and_print-status.new.shelf c.swap_consumers.new.posts c.swap_consumers.ensures.disks files place in
    last ∙ c.check_and_print-status.ensures.shelf.same place ∙ first

pub returns-clause-later : goal.returns-clause-later
returns-clause-later g c place =
    let faults = g.D.Disk.faults in
    let first = faults_same c.args.posts.now c.take_consumers.new.posts c.take_consumers.ensures.disks faults place in
    let last = faults_same c.check_and_print-status.new.shelf c.swap_consumers.new.posts c.swap_consumers.ensures.disks faults place in
    let later = c.check_and_print-status.ensures.shelf.later place in
    omega (arith, first, last, later)

pub returns-in_default-clause-gains : goal.returns-in_default-clause-gains
returns-in_default-clause-gains g c = wanting_gains c.args.kept.now.asked _ (g.J.Sink.written c.args.journal.now)
