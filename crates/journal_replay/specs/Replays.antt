-- What a replay has of a history: its entries, settled and waiting, and its tables.
-- This project's own.
use Rattle.std.specs.Prelude.{ℕ, ◌≡◌, ◌==◌, ◌^◌, ◌-◌, ◌++◌, Bool, true, Option, Some, None, is_some, length, map, reverse}
use Rattle.lru.specs.LruCache.{LruCache}
use Rattle.pool_ledger.specs.declared.entry.Entry.{Entry}
use Rattle.pool_ledger.specs.Sizes.{Sizes}
use Rattle.pool_ledger.specs.History.{History}
use Rattle.pool_ledger.specs.Blocks.{residents}
use Rattle.pool_ledger.specs.Legal.{Evicted, evicted_by, is_own_turn, pending, settled, IsPermitted}
use Rattle.journal_audit.specs.Rules.{is_waiting}
use Rattle.journal_replay.specs.declared.before.Before.{Before}
use Rattle.journal_replay.specs.declared.block_name.BlockName.{BlockName}
use Rattle.journal_replay.specs.declared.blocks.Kept.{Kept}
use Rattle.journal_replay.specs.declared.tables.Tables.{Tables}
use Rattle.journal_replay.specs.declared.turns.Turns.{Turns}
use Rattle.journal_replay.specs.declared.replay.Replay.{Replay}
use Rattle.journal_replay.specs.Tables.{blocks_in, TellsBegun, TellsBytes, TellsCopies, TellsPins}
use Rattle.journal_replay.specs.UseOrder.{residents_in, IsInOrder}

-- the entries so far, the newest first
abbrev pub seen : Turns → History
seen turns = reverse turns.waiting.items ++ turns.ledger.history

-- the block that an entry evicts
abbrev pub gone_of : Entry → Evicted
gone_of entry = evicted_by entry.event

-- whether it is this worker's turn, where evictions of a worker may wait
abbrev pub is_turn_of : Option ℕ → ℕ → Bool
is_turn_of None worker = true
is_turn_of (Some owner) worker = owner == worker

-- the blocks are those in memory after this history, and there is room for more
pub record TellsBlocks (blocks : LruCache BlockName Kept) (history : History) : Type 0 where
  pub in_order : blocks_in blocks.entries ≡ residents history
  pub unbounded : blocks.cap ≡ 2 ^ 64 - 1

-- the blocks in use order and their bytes are those after this history
pub record TellsBefore (before : Before) (history : History) : Type 0 where
  pub blocks : residents_in before.order.placed.entries ≡ residents history
  pub in_order : IsInOrder before.order (length history)
  pub bytes : TellsBytes before.bytes history

-- the entries are this history's: those of the ledger are settled, and the others are the evictions that wait
pub record TellsTurns (turns : Turns) (history : History) : Type 0 where
  pub same : seen turns ≡ history
  pub permitted : IsPermitted turns.ledger.setup history
  pub base_permitted : IsPermitted turns.ledger.setup turns.ledger.history
  pub base : settled history ≡ turns.ledger.history
  pub before : TellsBefore turns.before turns.ledger.history
  pub gone : pending history ≡ map gone_of turns.waiting.items
  pub waits : is_waiting history ≡ is_some turns.waits
  pub turn : (worker : ℕ) → is_own_turn history worker ≡ is_turn_of turns.waits worker

-- the tables are this history's
pub record TellsTables (tables : Tables) (history : History) : Type 0 where
  pub blocks : TellsBlocks tables.blocks history
  pub pins : TellsPins tables.pins history
  pub begun : TellsBegun tables.begun history
  pub copies : TellsCopies tables.copies history

-- the replay is this history's
pub record TellsHistory (replay : Replay) (history : History) : Type 0 where
  pub turns : TellsTurns replay.turns history
  pub tables : TellsTables replay.tables history

-- the sizes that the replay's pool started with
abbrev pub setup_of : Replay → Sizes
setup_of replay = replay.turns.ledger.setup

-- its entries so far, the newest first
abbrev pub history_of : Replay → History
history_of replay = seen replay.turns

-- the replay is that of its own entries
abbrev pub IsReplay : Replay → Type 0
IsReplay replay = TellsHistory replay (history_of replay)
