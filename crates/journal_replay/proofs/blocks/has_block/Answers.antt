use Rattle.std.proofs.Common.{sym, ◌∙◌}
use Rattle.journal_replay.proofs.InUse.{any_blocks}
use Rattle.journal_replay.proofs.blocks.has_block.Goals as goal

pub returns : goal.returns
returns c = c.contains.ensures ∙ sym (any_blocks c.args.dataset c.args.part c.args.blocks.now.entries)
