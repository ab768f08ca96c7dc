use Rattle.std.proofs.Common.{◌≡◌, false}
use Rattle.std.specs.List.{list_any}
use Rattle.job_plan.specs.Telling.{leaves_i64, value_partials}
use Rattle.result_table.proofs.wide.has_wide.Given as goal

abbrev pub invariant-loop-place : goal.invariant-loop-place
invariant-loop-place l = list_any leaves_i64 (value_partials l.place l.value) ≡ false
