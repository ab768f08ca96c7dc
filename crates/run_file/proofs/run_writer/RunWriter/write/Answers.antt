use Rattle.std.proofs.Common.{ℕ, ◌+◌, max, ap, ◌∙◌}
use Rattle.run_file.specs.declared.run.Run.{Run}
use Rattle.run_file.specs.Runs.{CountsRows}
use Rattle.row_page.specs.Spelling.{page_bytes}
use Rattle.run_file.proofs.Filing.{nothing_appended, longer_file}
use Rattle.run_file.proofs.Writing.{counts_more}
use Rattle.run_file.proofs.run_writer.RunWriter.write.Goals as goal

pub returns-in_default-clause-err : goal.returns-in_default-clause-err
returns-in_default-clause-err g c =
    nothing_appended (g.D.Disk.files c.args.disk.now) c.args.self.now.file (page_bytes c.args.page.now.rows) c.requires.there

pub returns-in_default-checked_add-clause-err : goal.returns-in_default-checked_add-clause-err
returns-in_default-checked_add-clause-err g c =
    nothing_appended (g.D.Disk.files c.args.disk.now) c.args.self.now.file (page_bytes c.args.page.now.rows) c.requires.there

pub returns-in-Ok-clause-written : goal.returns-in-Ok-clause-written
returns-in-Ok-clause-written g c rows h =
    longer_file (g.D.Disk.files c.args.disk.now) (g.D.Disk.files c.append.new.self) c.self.inside.run.file c.bytes-bytes.result.now rows c.args.page.now.rows c.in-Ok.ensures.ok c.append.ensures.tells c.bytes-bytes.ensures.grammar (rw (← c.self.view_is) at h)

pub returns-in-Ok-clause-counts : goal.returns-in-Ok-clause-counts
returns-in-Ok-clause-counts g c rows h =
    let before : Run = c.self.inside.run in
    let after : Run = record { disk = before.disk; file = before.file; bytes = c.in-Some.total; count = c.in-Some-checked_add.count; greatest = c.max-greatest.result } in
    let counted : CountsRows before rows = rw (← c.self.view_is) at h in
    counts_more before after rows c.args.page.now.rows
    (c.in-Some.ensures.1 ∙ ap (λ (n : ℕ). before.bytes + n) c.bytes-bytes.ensures.length)
    (c.in-Some-checked_add.ensures.1 ∙ ap (λ (n : ℕ). before.count + n) c.rows.ensures)
    (c.max-greatest.ensures ∙ ap (λ (n : ℕ). max before.greatest n) c.greatest_of.ensures)
    counted
