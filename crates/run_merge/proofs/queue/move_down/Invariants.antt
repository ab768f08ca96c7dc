use Rattle.std.proofs.Common.{◌≡◌, ℕ, ◌+◌, ◌≤◌, ◌<◌, length, get_or}
use Rattle.run_merge.proofs.queue.move_down.Given as goal

abbrev pub invariant-loop-i : goal.invariant-loop-i
invariant-loop-i l = record {
  whole : length l.places ≡ length l.fn.places;
  moved : (k d : ℕ) → l.to ≤ k → k < l.i → get_or l.places k d ≡ get_or l.fn.places (k + 1) d;
  behind : (k d : ℕ) → l.i ≤ k → get_or l.places k d ≡ get_or l.fn.places k d;
}
