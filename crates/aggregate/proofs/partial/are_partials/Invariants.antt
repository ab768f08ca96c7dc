use Rattle.std.proofs.Common.{ℕ, ◌<◌, get_or}
use Rattle.aggregate.specs.declared.agg_list.Agg.TheVariants.{Count}
use Rattle.aggregate.specs.Values.{IsPartial}
use Rattle.aggregate.proofs.Combining.{slot}
use Rattle.aggregate.proofs.partial.are_partials.Given as goal

-- those before are partial values
abbrev pub invariant-loop-i : goal.invariant-loop-i
invariant-loop-i l = (k : ℕ) → k < l.i → IsPartial (get_or l.aggs k Count) (slot k l.value)
