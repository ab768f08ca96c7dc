use Rattle.std.proofs.Common.{◌∙◌}
use Rattle.block_store.proofs.Filing.{written, differs_written, differs_removed, begins, same_below}
use Rattle.block_store.proofs.copying.write_file.Goals as goal

pub returns-clause-ok : goal.returns-clause-ok
returns-clause-ok g c =
    let files = g.K.Disk.files in
    written (files c.args.disk.now) (files c.create.new.self) (files c.append.new.self) c.in_ok-file.file c.args.bytes.now c.in_ok-file.ensures.ok c.in_default.ensures.ok

pub returns-clause-same : goal.returns-clause-same
returns-clause-same g c =
    let files = g.K.Disk.files in
    same_below (files c.args.disk.now) (files c.append.new.self) c.in_ok-file.file (g.K.Disk.next_number c.args.disk.now)
    (differs_written (files c.args.disk.now) (files c.append.new.self) c.in_ok-file.file c.args.bytes.now
    (written (files c.args.disk.now) (files c.create.new.self) (files c.append.new.self) c.in_ok-file.file c.args.bytes.now c.in_ok-file.ensures.ok c.in_default.ensures.ok))
    (c.append.ensures.tells ∙ c.create.ensures.tells) c.in_ok-file.ensures.fresh

pub returns-in-Err-clause-err : goal.returns-in-Err-clause-err
returns-in-Err-clause-err g c =
    let files = g.K.Disk.files in
    begins (files c.args.disk.now) (files c.remove.new.self) c.in_ok-file.file
    (differs_removed (files c.args.disk.now) (files c.append.new.self) (files c.remove.new.self) c.in_ok-file.file c.remove.result
    (differs_written (files c.args.disk.now) (files c.append.new.self) c.in_ok-file.file c.in-Err.ensures.err.0
    (written (files c.args.disk.now) (files c.create.new.self) (files c.append.new.self) c.in_ok-file.file c.in-Err.ensures.err.0 c.in_ok-file.ensures.ok c.in-Err.ensures.err.3))
    c.remove.ensures.ok c.remove.ensures.err)

pub returns-in-Err-clause-same : goal.returns-in-Err-clause-same
returns-in-Err-clause-same g c =
    let files = g.K.Disk.files in
    same_below (files c.args.disk.now) (files c.remove.new.self) c.in_ok-file.file (g.K.Disk.next_number c.args.disk.now)
    (differs_removed (files c.args.disk.now) (files c.append.new.self) (files c.remove.new.self) c.in_ok-file.file c.remove.result
    (differs_written (files c.args.disk.now) (files c.append.new.self) c.in_ok-file.file c.in-Err.ensures.err.0
    (written (files c.args.disk.now) (files c.create.new.self) (files c.append.new.self) c.in_ok-file.file c.in-Err.ensures.err.0 c.in_ok-file.ensures.ok c.in-Err.ensures.err.3))
    c.remove.ensures.ok c.remove.ensures.err)
    (c.remove.ensures.tells ∙ c.append.ensures.tells ∙ c.create.ensures.tells) c.in_ok-file.ensures.fresh
