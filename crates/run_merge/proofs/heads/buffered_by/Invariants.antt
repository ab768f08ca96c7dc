use Rattle.std.proofs.Common.{◌≡◌, ◌≤◌, ◌*◌, ◌^◌, map, take}
use Rattle.std.specs.Prelude.{sum_by}
use Rattle.run_file.specs.Readers.{run_of}
use Rattle.run_merge.specs.Merging.{kept_by}
use Rattle.run_merge.proofs.heads.buffered_by.Given as goal

abbrev pub invariant-loop-i : goal.invariant-loop-i
invariant-loop-i l = record {
  count : l.total ≡ kept_by (take l.i l.readers);
  bound : l.total ≤ sum_by (λ run. run.greatest) (map run_of (take l.i l.readers));
  small : l.total ≤ l.i * 2 ^ 33;
}
