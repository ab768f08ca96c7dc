use Rattle.std.proofs.Common.{ap, ◌∙◌}
use Rattle.std.specs.Option.{option_map}
use Rattle.journal_replay.specs.Tables.{resident_of}
use Rattle.journal_replay.proofs.InUse.{find_blocks}
use Rattle.journal_replay.proofs.blocks.block_at.Goals as goal

pub returns : goal.returns
returns c =
    ap (option_map (resident_of c.args.dataset c.args.part)) (c.copied.ensures ∙ c.peek.ensures)
    ∙ find_blocks c.args.dataset c.args.part c.args.blocks.now.entries c.len-count.ensures.valid.0
