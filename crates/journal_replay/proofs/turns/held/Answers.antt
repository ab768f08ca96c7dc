use Rattle.std.proofs.Common.{◌∙◌}
use Rattle.journal_replay.specs.Replays.{seen}
use Rattle.journal_replay.proofs.TurnsKept.{held_base}
use Rattle.journal_replay.proofs.turns.held.Goals as goal

pub returns : goal.returns
returns c = c.held.ensures ∙ held_base c.args.turns.now (seen c.args.turns.now) c.requires c.args.task
