use Rattle.std.proofs.Common.{◌≡◌, ◌+◌, ◌++◌, false, List, [], count_by}
use Rattle.std.specs.List.Sorted.{IsPermutation}
use Rattle.std.specs.List.{list_any}
use Rattle.pool_ledger.specs.Blocks.{Resident}
use Rattle.pool_ledger.specs.Legal.{pending}
use Rattle.memory_core.specs.Changes.{RemovesInTurn, may_be_removed, may_be_removed_below, removable_of}
use Rattle.memory_core.specs.Evictions.{KeepsStore}
use Rattle.memory_core.specs.Steady.{IsAmid}
use Rattle.memory_core.proofs.pool.Pool.remove.Given as goal

-- as many as the steps were removed, and each that is left has a later part
abbrev pub invariant-loop-step : goal.invariant-loop-step
invariant-loop-step g l = record {
  amid : IsAmid l.self.setup l.self.history l.self.cache;
  whole : pending l.self.history ≡ [];
  setup_is : l.self.setup ≡ l.fn.self.setup;
  counted : count_by (may_be_removed l.dataset) l.self.cache.blocks + l._step ≡ l.count;
  none_before : list_any (may_be_removed_below l.dataset l.from) l.self.cache.blocks ≡ false;
  removes : (gone : List Resident) × RemovesInTurn l.worker l.dataset 0 l.from gone l.fn.self.history l.fn.self.cache.blocks l.self.history l.self.cache.blocks
      × IsPermutation (gone ++ removable_of l.dataset l.self.cache.blocks) (removable_of l.dataset l.fn.self.cache.blocks);
  disk : KeepsStore l.fn.self.cache l.self.cache;
  room_left : l.self.spare + l._step ≡ l.fn.self.spare;
}
