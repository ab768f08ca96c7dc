use Rattle.std.proofs.Common.{◌∙◌}
use Rattle.journal_replay.specs.Replays.{seen}
use Rattle.journal_replay.proofs.TurnsKept.{open_base}
use Rattle.journal_replay.proofs.turns.open_task.Goals as goal

pub returns : goal.returns
returns c = c.open_task.ensures ∙ open_base c.args.turns.now (seen c.args.turns.now) c.requires c.args.worker
