use Rattle.std.proofs.Common.{ap, ◌∙◌, arith}
use Rattle.lru.specs.LruCache.{LruCache}
use Rattle.journal_replay.specs.declared.block_name.BlockName.{BlockName}
use Rattle.journal_replay.specs.declared.blocks.Kept.{Kept}
use Rattle.journal_replay.specs.Tables.{blocks_in}
use Rattle.journal_replay.proofs.InUse.{added_blocks}
use Rattle.journal_replay.proofs.blocks.add_block.Goals as goal

pub returns-clause-ok : goal.returns-clause-ok
returns-clause-ok c =
    ap (λ (l : LruCache BlockName Kept). blocks_in l.entries) c.in_ok-put.ensures.entries
    ∙ added_blocks c.args.blocks.now c.args.name c.args.kept c.requires.absent c.requires.unbounded (omega (arith, c.len-count.ensures.len, c.len-count.ensures.fits))
