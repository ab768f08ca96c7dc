use Rattle.pool_laws.proofs.Owning.{tells_growths, tells_task, tells_worker}
use Rattle.pool_laws.proofs.owners.own_entries_tell.Goals as goal

pub returns : goal.returns
returns c = record { worker = tells_worker; task = tells_task; growths = tells_growths }
