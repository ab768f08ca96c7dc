use Rattle.std.proofs.Common.{◌≡◌, ◌∷◌, [], get_or, map, take, w64}
use Rattle.std.specs.Int.{to_be_bytes}
use Rattle.csv.specs.Records.{fields_of}
use Rattle.job_plan.specs.Plans.{places_in}
use Rattle.job_plan.specs.Rows.{AreBytes}
use Rattle.landing.proofs.rules.make_row.Given as goal

abbrev pub invariant-loop-place : goal.invariant-loop-place
invariant-loop-place l = record {
  so_far : l.landed ≡ to_be_bytes w64 l.n ∷ map (λ p. get_or (fields_of l.row) p []) (take l.place-index (places_in l.rules.plan));
  bytes : AreBytes l.landed;
}
