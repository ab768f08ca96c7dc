-- What a store is once the list of its blocks was read.
-- This project's own.
use Rattle.std.specs.Prelude.{◌≡◌, ⊤}
use Rattle.std.specs.Borrow.{follows_so, MutBor, Fml, RattleType}
use mathlib.Core.Option.{none}
use Rattle.spill_disk.specs.declared.disk.Disk as disk
use Rattle.block_store.specs.declared.store.Store.{Store}
use Rattle.block_store.specs.contracts.store.Store.{the_row}
use Rattle.block_store.specs.Seen.{blocks_of, copies_of, disk_of, room_of}

module _ (K : RattleType) (g : disk.Ghosts K.Denot) where
  -- its blocks, its room, its copies and its disk are as before
  abbrev pub StaysAsItIs : MutBor (Store K.Denot g) → Fml
  StaysAsItIs store =
      follows_so (the_row K g) (the_row K g) store.ghost_name none (λ _ _. ⊤)
      (λ last. (blocks_of last ≡ blocks_of store.now) × (room_of last ≡ room_of store.now)
      × (copies_of last ≡ copies_of store.now) × (disk_of last ≡ disk_of store.now))
