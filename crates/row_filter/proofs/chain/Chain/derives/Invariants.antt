use Rattle.std.proofs.Common.{◌≡◌, ◌≤◌, length}
use Rattle.row_filter.specs.Chains.{links_of}
use Rattle.row_filter.specs.Lines.{derives}
use Rattle.row_filter.proofs.chain.Chain.derives.Given as goal

-- the dataset that is reached derives from the other one exactly where the first does
abbrev pub invariant-loop-at : goal.invariant-loop-at
invariant-loop-at l = record {
  there : l.at ≤ length (links_of l.fn.self);
  same : derives (links_of l.fn.self) l.at l.from ≡ derives (links_of l.fn.self) l.fn.dataset l.from;
}

-- each step leads to a dataset with a lower number
abbrev pub decreases-loop-at : goal.decreases-loop-at
decreases-loop-at l = l.at
