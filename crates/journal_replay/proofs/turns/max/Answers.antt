use Rattle.std.proofs.Common.{◌∙◌}
use Rattle.journal_replay.specs.Replays.{seen}
use Rattle.journal_replay.proofs.TurnsKept.{maximum_base}
use Rattle.journal_replay.proofs.turns.max.Goals as goal

pub returns-clause-max : goal.returns-clause-max
returns-clause-max c = c.max.ensures ∙ maximum_base c.args.turns.now (seen c.args.turns.now) c.requires
