use Rattle.std.proofs.Common.{◌≡◌, false, map}
use Rattle.std.specs.List.{list_any}
use Rattle.job_plan.specs.Telling.{leaves_i64, told_field, value_partials}
use Rattle.result_table.specs.Table.{PutsFields}
use Rattle.result_table.proofs.row_fields.put_numbers.Given as goal

abbrev pub invariant-loop-place : goal.invariant-loop-place
invariant-loop-place l = record {
  puts : PutsFields l.initial.writer l.writer (map told_field (value_partials l.place l.value));
  narrow : list_any leaves_i64 (value_partials l.place l.value) ≡ false;
}
