use Rattle.pool_laws.proofs.NoBlocks.{stores_nothing, no_pending, may_always_attempt}
use Rattle.pool_laws.proofs.uncached.uncached_histories_store_nothing.Goals as goal

pub returns : goal.returns
returns c = record { stores = stores_nothing; whole = no_pending; attempts = may_always_attempt }
