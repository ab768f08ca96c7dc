use Rattle.run_file.proofs.Filing.{empty_file}
use Rattle.run_file.proofs.run_writer.RunWriter.start.Goals as goal

pub returns-in-Ok-clause-empty : goal.returns-in-Ok-clause-empty
returns-in-Ok-clause-empty g c =
    empty_file (g.D.Disk.files c.args.disk.now) (g.D.Disk.files c.create.new.self) c.in-Ok.file c.in-Ok.ensures.ok c.create.ensures.tells
