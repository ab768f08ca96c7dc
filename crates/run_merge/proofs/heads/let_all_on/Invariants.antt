use Rattle.std.proofs.Common.{◌≡◌, ◌<◌, ℕ, List, [], map, false, length, get_or}
use Rattle.aggregate.specs.declared.kind.Kind.{Kind}
use Rattle.run_file.specs.Readers.{run_of}
use Rattle.run_file.specs.Shelved.{files_on, LeavesFiles}
use Rattle.run_file.specs.Several.{AreOn}
use Rattle.run_merge.specs.Heads.{EachReader, has_head, AreAtEntries, AreFronts, AreOfKind}
use Rattle.run_merge.specs.Merging.{AreLeft, left_by, rows_ahead}
use Rattle.run_merge.specs.Orders.{IsOrder}
use Rattle.run_merge.proofs.heads.let_all_on.Given as goal

abbrev pub invariant-loop-i : goal.invariant-loop-i
invariant-loop-i g l = record {
  heads : length l.heads.items ≡ length l.readers.items;
  whole : length l.readers.items ≡ length l.fn.readers.items;
  there : AreOn (g.H.Shelf.count_of l.shelf) (map run_of l.readers.items);
  as_many : length l.fronts.items ≡ length l.readers.items;
  fronts : AreFronts l.readers.items l.heads.items l.fronts.items;
  order : IsOrder l.readers.items l.heads.items l.order;
  gives : (lists : List (List (List (List ℕ)))) →
      AreLeft (files_on g.H.Shelf.disk_of g.D.Disk.files l.fn.shelf) false l.fn.readers.items l.fn.heads.items lists →
      AreLeft (files_on g.H.Shelf.disk_of g.D.Disk.files l.shelf) false l.readers.items l.heads.items lists
      × ((k : ℕ) → k < l.i → has_head l.heads.items k ≡ false → get_or lists k [] ≡ []);
  end : EachReader l.readers.items (λ k reader. k < l.i → has_head l.heads.items k ≡ false → rows_ahead reader ≡ 0);
  left : left_by l.readers.items l.heads.items ≡ left_by l.fn.readers.items l.fn.heads.items;
  kinds : (kind : Kind) → AreOfKind kind l.fn.readers.items → AreOfKind kind l.readers.items;
  stand : (kind : Kind) → AreOfKind kind l.fn.readers.items →
      AreAtEntries kind l.fn.readers.items l.fn.heads.items →
      AreAtEntries kind l.readers.items l.heads.items;
  runs : map run_of l.readers.items ≡ map run_of l.fn.readers.items;
  shelf : LeavesFiles g.H.Shelf.count_of g.H.Shelf.named g.H.Shelf.disk_of g.D.Disk.files g.D.Disk.faults l.fn.shelf l.shelf;
}
