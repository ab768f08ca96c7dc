use Rattle.std.proofs.Common.{◌≡◌, ◌+◌, length, take}
use Rattle.std.specs.List.{sum_by}
use Rattle.csv.specs.Records.{fields_of}
use Rattle.landing.proofs.length.is_long.Given as goal

abbrev pub invariant-loop-i : goal.invariant-loop-i
invariant-loop-i l = l.left + sum_by length (take l.i (fields_of l.row)) ≡ 65536
