-- A block that is found in memory has the name that was asked for.
use Rattle.std.proofs.Common.{◌≡◌, ℕ, List, Some}
use Rattle.block_store.specs.declared.block.Block.{Block}
use Rattle.block_store.specs.Stores.{HeldBlock, held_at, held_of}
use Rattle.block_store.proofs.UseOrder.{name_is}
use Rattle.memory_core.proofs.Stepping.{found_name}

pub hit_named : (dataset part was : ℕ) (block : Block) (blocks : List HeldBlock) → held_at blocks dataset part ≡ Some (held_of was block)
    → (block.dataset ≡ dataset) × (block.part ≡ part)
hit_named dataset part was block blocks value = name_is dataset part (held_of was block) (found_name dataset part blocks (held_of was block) value)
