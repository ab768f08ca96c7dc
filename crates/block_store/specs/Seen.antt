-- What contracts see of a store.
-- This project's own.
use Rattle.std.specs.Prelude.{ℕ, List}
use Rattle.block_store.specs.declared.store.Store.{Store}
use Rattle.block_store.specs.declared.block_copy.BlockCopy.{BlockCopy}
use Rattle.block_store.specs.Stores.{HeldBlock}

-- the blocks in memory, the least recently used first
abbrev pub blocks_of : {K : Type 0} {g : _} → Store K g → List HeldBlock
blocks_of store = store.memory.blocks

-- for how many more blocks there is room
abbrev pub room_of : {K : Type 0} {g : _} → Store K g → ℕ
room_of store = store.memory.room

-- the copies, the oldest first
abbrev pub copies_of : {K : Type 0} {g : _} → Store K g → List BlockCopy
copies_of store = store.copies.list

-- the disk
abbrev pub disk_of : {K : Type 0} {g : _} → Store K g → K
disk_of store = store.disk
