use Rattle.std.proofs.Common.{◌-◌, ◌≤◌, List, ℕ, length, drop}
use Rattle.row_page.specs.Grammar.{HasRows, IsPage}
use Rattle.row_page.proofs.PagePlaces.{Walked}
use Rattle.row_page.proofs.page.known_places.Given as goal

abbrev pub invariant-loop-at : goal.invariant-loop-at
invariant-loop-at l = record {
  rest : HasRows (drop l.at l.bytes);
  within : l.at ≤ length l.bytes;
  places : (rows : List (List (List ℕ))) → IsPage l.bytes rows → Walked l.starts.items l.at l.bytes rows;
}

abbrev pub decreases-loop-at : goal.decreases-loop-at
decreases-loop-at l = length l.bytes - l.at
