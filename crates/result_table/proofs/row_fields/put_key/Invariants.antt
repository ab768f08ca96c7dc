use Rattle.std.proofs.Common.{ℕ, List}
use Rattle.result_table.specs.Table.{PutsFields}
use Rattle.result_table.proofs.KeyFields.{Taken}
use Rattle.result_table.proofs.row_fields.put_key.Given as goal

abbrev pub invariant-loop-column : goal.invariant-loop-column
invariant-loop-column l = record {
  fields : List (List ℕ);
  taken : Taken l.key l.at l._column fields;
  puts : PutsFields l.initial.writer l.writer fields;
}
