use Rattle.std.proofs.Common.{◌∙◌}
use Rattle.journal_replay.specs.Replays.{history_of}
use Rattle.journal_replay.proofs.Noted.{pinned_is}
use Rattle.journal_replay.proofs.block_rules.is_kept.Goals as goal

pub returns : goal.returns
returns c =
    c.is_pinned.ensures ∙ pinned_is c.args.replay.now.tables.pins (history_of c.args.replay.now) c.requires.tables.pins c.args.dataset c.args.part
