use Rattle.run_file.proofs.Wholes.{rows_stand, cause_inside, found_in}
use Rattle.run_file.proofs.whole.read_page.Goals as goal

pub returns-clause-rows : goal.returns-clause-rows
returns-clause-rows g c rows stands formed =
    c.page_of.ensures.rows rows (rows_stand (g.D.Disk.files c.args.disk.now) c.args.run.now c.args.form.now _ rows c.in_ok-bytes.ensures.read stands formed)

pub returns-clause-cause : goal.returns-clause-cause
returns-clause-cause g c = cause_inside _ _ _ c.page_of.result c.page_of.ensures.inside

pub returns-clause-why : goal.returns-clause-why
returns-clause-why g c = found_in (g.D.Disk.files c.args.disk.now) c.args.run.now c.args.form.now c.in_ok-bytes.bytes.items c.page_of.result c.in_ok-bytes.ensures.read c.page_of.ensures.why
