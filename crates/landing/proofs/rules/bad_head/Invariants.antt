use Rattle.std.proofs.Common.{◌≡◌, drop}
use Rattle.csv.specs.Records.{fields_of}
use Rattle.landing.specs.Checks.{bad_place}
use Rattle.landing.proofs.rules.bad_head.Given as goal

abbrev pub invariant-loop-head : goal.invariant-loop-head
invariant-loop-head l = bad_place l.heads (fields_of l.row) ≡ bad_place (drop l.head-index l.heads) (fields_of l.row)
