use Rattle.std.proofs.Common.{◌≡◌, drop}
use Rattle.std.specs.List.{position_from}
use Rattle.std.specs.Str.{bytes_eq}
use Rattle.csv.specs.Records.{fields_of}
use Rattle.job_plan.specs.Columns.{place}
use Rattle.job_plan.proofs.columns.place_of.Given as goal

abbrev pub invariant-loop-i : goal.invariant-loop-i
invariant-loop-i l =
    place l.name (fields_of l.header) ≡ position_from (λ f. bytes_eq f l.name) l.i (drop l.i (fields_of l.header))
