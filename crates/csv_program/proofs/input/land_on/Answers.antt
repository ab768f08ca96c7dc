use Rattle.std.proofs.Common.{◌∙◌, ℕ, Option, sym, ap, subst, arith}
use Rattle.std.specs.Prelude.{IfErr, IfOk, is_some, option_map}
use Rattle.byte_io.specs.Rows.{rows_of}
use Rattle.spill_disk.specs.Files.{Files}
use Rattle.landing.specs.Landed.{HasCauseAmong, Lands}
use Rattle.csv_program.specs.Posts.{post_faults, post_files}
use Rattle.csv_program.proofs.LandedOn.{cause_as, lands_as}
use Rattle.csv_program.proofs.PostDisks.{faults_same, files_same}
use Rattle.csv_program.proofs.StillThere.{keeps_around}
use Rattle.csv_program.proofs.input.land_on.Goals as goal

pub returns-clause-lands : goal.returns-clause-lands
returns-clause-lands g c =
    let files = g.D.Disk.files in
    let last = files_same c.land-landed.new.shelf c.swap_consumers.new.posts c.swap_consumers.ensures.disks files in
    subst (λ (workers : ℕ). IfOk c.land-landed.result (λ landed. Lands (post_files files c.swap_consumers.new.posts) c.args.asked.now.job c.args.asked.now.max_rows c.args.asked.now.part_rows workers landed.plan landed.parts.items landed.rows
    (option_map rows_of (g.S.Source.left c.args.input.now)))) c.workers-workers.ensures.value
    (lands_as (post_files files c.land-landed.new.shelf) (post_files files c.swap_consumers.new.posts) last c.land-landed.result c.args.asked.now.job c.args.asked.now.max_rows c.args.asked.now.part_rows c.workers-workers.result
    (option_map rows_of (g.S.Source.left c.args.input.now)) c.land-landed.ensures.lands)

pub returns-clause-cause : goal.returns-clause-cause
returns-clause-cause g c =
    let faults = g.D.Disk.faults in
    let first = faults_same c.args.posts.now c.take_consumers.new.posts c.take_consumers.ensures.disks faults in
    let last = faults_same c.land-landed.new.shelf c.swap_consumers.new.posts c.swap_consumers.ensures.disks faults in
    subst (λ (workers : ℕ). IfErr c.land-landed.result (HasCauseAmong workers (post_faults faults c.args.posts.now) (post_faults faults c.swap_consumers.new.posts))) c.workers-workers.ensures.value
    (cause_as c.land-landed.result c.workers-workers.result (post_faults faults c.take_consumers.new.posts) (post_faults faults c.land-landed.new.shelf) (post_faults faults c.args.posts.now)
    (post_faults faults c.swap_consumers.new.posts) first (λ place. sym (last place)) c.land-landed.ensures.cause)

pub returns-clause-tells : goal.returns-clause-tells
returns-clause-tells g c place =
    let files = g.D.Disk.files in
    let first = files_same c.args.posts.now c.take_consumers.new.posts c.take_consumers.ensures.disks files place in
    let last = files_same c.land-landed.new.shelf c.swap_consumers.new.posts c.swap_consumers.ensures.disks files place in
    ap (λ (f : Option Files). is_some f) last ∙ c.land-landed.ensures.shelf.tells place ∙ ap (λ (f : Option Files). is_some f) first

pub returns-clause-files : goal.returns-clause-files
returns-clause-files g c =
    let files = g.D.Disk.files in
    let first = files_same c.args.posts.now c.take_consumers.new.posts c.take_consumers.ensures.disks files in
    let last = files_same c.land-landed.new.shelf c.swap_consumers.new.posts c.swap_consumers.ensures.disks files in
    keeps_around (post_files files c.args.posts.now) (post_files files c.take_consumers.new.posts) (post_files files c.land-landed.new.shelf) (post_files files c.swap_consumers.new.posts) first last c.land-landed.ensures.files

pub returns-clause-later : goal.returns-clause-later
returns-clause-later g c place =
    let faults = g.D.Disk.faults in
    let first = faults_same c.args.posts.now c.take_consumers.new.posts c.take_consumers.ensures.disks faults place in
    let last = faults_same c.land-landed.new.shelf c.swap_consumers.new.posts c.swap_consumers.ensures.disks faults place in
    let later = c.land-landed.ensures.shelf.later place in
    omega (arith, first, last, later)
