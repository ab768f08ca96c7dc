use Rattle.std.proofs.Common.{◌≡◌, ◌+◌, drop}
use Rattle.job_text.specs.Columns.{place_of, dataset_names}
use Rattle.job_text.proofs.datasets.number_of.Given as goal

-- none of the datasets before `i` has the name
abbrev pub invariant-loop-i : goal.invariant-loop-i
invariant-loop-i l = record {
  place : place_of (dataset_names l.list) l.fn.name ≡ l.i + place_of (dataset_names (drop l.i l.list)) l.fn.name;
}
