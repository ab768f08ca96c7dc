-- Runs that are on disks of a shelf, and one more of them.
use Rattle.std.proofs.Common.{ℕ, ◌<◌, List, [], ◌∷◌, ◌++◌}
use Rattle.run_file.specs.declared.run.Run.{Run}
use Rattle.run_file.specs.Several.{AreOn}

pub are_on_more : (count : ℕ) (runs : List Run) (run : Run) → AreOn count runs → run.disk < count → AreOn count (runs ++ run ∷ [])
are_on_more count [] run on here = (here, tt)
are_on_more count (first ∷ runs) run on here = (on.0, are_on_more count runs run on.1 here)
