use Rattle.std.proofs.Common.{ap, ◌∙◌}
use Rattle.lru.specs.LruCache.{LruCache}
use Rattle.journal_replay.specs.declared.block_name.BlockName.{BlockName}
use Rattle.journal_replay.specs.declared.blocks.Kept.{Kept}
use Rattle.journal_replay.specs.Tables.{blocks_in}
use Rattle.journal_replay.proofs.InUse.{used_blocks}
use Rattle.journal_replay.proofs.blocks.use_block.Goals as goal

pub returns-clause-blocks : goal.returns-clause-blocks
returns-clause-blocks c =
    ap (λ (l : LruCache BlockName Kept). blocks_in l.entries) c.promote.ensures.entries
    ∙ used_blocks c.args.dataset c.args.part c.args.blocks.now.entries c.len-count.ensures.valid.0
