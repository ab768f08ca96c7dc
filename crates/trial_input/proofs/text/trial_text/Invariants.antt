use Rattle.std.proofs.Common.{◌≡◌, ◌++◌, codes}
use Rattle.std.specs.List.{flat_map}
use Rattle.trial_input.specs.Generator.{line_of, number_of_row, numbers_of}
use Rattle.trial_input.proofs.text.trial_text.Given as goal

-- the lines of the first rows are there, and the number is that of the last one
abbrev pub invariant-loop-row : goal.invariant-loop-row
invariant-loop-row l = record {
  number : l.number ≡ number_of_row l._row;
  text : l.text.items ≡ codes "key,price\n" ++ flat_map line_of (numbers_of l._row);
}
