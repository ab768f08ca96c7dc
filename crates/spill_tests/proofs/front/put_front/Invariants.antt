use Rattle.std.proofs.Common.{◌≡◌, take, map}
use Rattle.row_page.specs.Pages.{page_room}
use Rattle.spill_tests.specs.Rows.{fields_of_row}
use Rattle.spill_tests.proofs.front.put_front.Given as goal

abbrev pub invariant-loop-i : goal.invariant-loop-i
invariant-loop-i l = record {
  room : l.out.room ≡ page_room;
  are : l.out.rows ≡ map fields_of_row (take l.i l.rows);
}
