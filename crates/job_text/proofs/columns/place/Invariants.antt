use Rattle.std.proofs.Common.{◌≡◌, ◌+◌, ◌++◌, take, drop}
use Rattle.job_text.specs.Columns.{place_of, with_name}
use Rattle.job_text.proofs.columns.place.Given as goal

-- none of the names before `i` is the name
abbrev pub invariant-loop-i : goal.invariant-loop-i
invariant-loop-i l = record {
  place : place_of l.list l.fn.name ≡ l.i + place_of (drop l.i l.list) l.fn.name;
  names : with_name l.list l.fn.name ≡ take l.i l.list ++ with_name (drop l.i l.list) l.fn.name;
}
