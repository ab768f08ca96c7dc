use Rattle.std.proofs.Common.{◌≡◌, ◌+◌, ◌≤◌, ◌++◌, ℕ, List, length}
use Rattle.row_page.specs.Grammar.{ArePieces, HasPieces}
use Rattle.result_table.specs.Table.{PutsFields}
use Rattle.result_table.proofs.row_fields.put_pieces.Given as goal

abbrev pub invariant-loop-rest : goal.invariant-loop-rest
invariant-loop-rest l = record {
  fields : List (List ℕ);
  several : length fields ≡ l.count;
  puts : PutsFields l.initial.writer l.writer fields;
  behind : (others : List (List ℕ)) → ArePieces l.rest others → ArePieces l.bytes (fields ++ others);
  left : HasPieces l.bytes → HasPieces l.rest;
  fits : l.count + length l.rest ≤ length l.bytes;
}

abbrev pub decreases-loop-rest : goal.decreases-loop-rest
decreases-loop-rest l = length l.rest
