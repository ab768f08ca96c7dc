-- What blocks have to give so that another one is admitted, in bytes.
-- After Spark: UnifiedMemoryManager.acquireStorageMemory. The limit of a block is this project's own.
use Rattle.std.specs.Prelude.{ℕ, ◌+◌, ◌-◌, nat_le, Bool, ◌&&◌, if◌then◌else◌}
use Rattle.pool_ledger.specs.Sizes.{Sizes, block_limit_of}
use Rattle.pool_ledger.specs.History.{History, exec, execution_free, maximum}
use Rattle.pool_ledger.specs.Blocks.{storage_free}
use Rattle.pool_ledger.specs.Answers.{borrowed_for}

-- whether a block of this size isn't refused at once: it is within the limit of a block, and within what tasks don't hold
abbrev pub may_fit : Sizes → History → ℕ → Bool
may_fit setup history size = nat_le size (block_limit_of setup) && nat_le size (maximum setup history - exec history)

-- the bytes that are still missing once storage has borrowed what execution has free
abbrev pub lacking_for : Sizes → History → ℕ → ℕ
lacking_for setup history size =
    let free = storage_free setup history in
    size - (free + borrowed_for size free (execution_free setup history))

-- the bytes that blocks have to give for a block of this size; 0 where it is refused at once
abbrev pub need_for : Sizes → History → ℕ → ℕ
need_for setup history size = if may_fit setup history size then lacking_for setup history size else 0
