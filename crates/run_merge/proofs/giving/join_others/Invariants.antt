use Rattle.std.proofs.Common.{◌≡◌, ℕ, List, false, length}
use Rattle.std.specs.Prelude.{Option}
use Rattle.aggregate.specs.declared.kind.Kind.TheVariants.{Group}
use Rattle.aggregate.specs.Totals.{Entry}
use Rattle.aggregate.specs.Values.{IsValueOf}
use Rattle.spill_disk.specs.Files.{Files}
use Rattle.run_merge.specs.Giving.{IsTaken}
use Rattle.run_merge.specs.Heads.{OnlyFalls}
use Rattle.run_merge.specs.Orders.{IsOrder}
use Rattle.run_merge.proofs.giving.join_others.Given as goal

abbrev pub invariant-others : goal.invariant-others
invariant-others l = record {
  order : IsOrder l.readers l.heads.items l.order;
  joins : (files : ℕ → Option Files) (entries : List Entry) →
      IsTaken files (Group l.aggs) l.readers l.fn.heads.items (record { key = l.key; value = l.fn.value }) entries →
      IsTaken files (Group l.aggs) l.readers l.heads.items (record { key = l.key; value = l.value }) entries;
  none : l.joined ≡ false → l.value ≡ l.fn.value;
  value : IsValueOf (Group l.aggs) l.value;
  falls : OnlyFalls l.fn.heads.items l.heads.items;
}

abbrev pub decreases-others : goal.decreases-others
decreases-others l = length l.order
