-- The leasts of consumers, got one by one.
use Rattle.std.proofs.Common.{◌≡◌, ℕ, ◌+◌, ◌<◌, List, length, slice_index, take, arith}
use Rattle.std.proofs.lemmas.List.Sums.{sum_by_more, sum_by_more_le}
use Rattle.consumer_trait.specs.States.{State}
use Rattle.consumer_trait.specs.Members.{state_at}
use Rattle.task_pool.specs.Accounts.{Held}
use Rattle.task_memory.specs.Feeding.{IsTooLittle}
use Rattle.task_memory.specs.Leasts.{IsLeastLacking, leasts_of}

-- one more place adds its consumer's least
pub leasts_more : (picks : List ℕ) (states : List State) (j : ℕ) → j < length picks → leasts_of (take (j + 1) picks) states ≡ leasts_of (take j picks) states + (state_at states (slice_index picks j)).least
leasts_more picks states j within = sum_by_more (λ i. (state_at states i).least) picks j 0 within

-- where a least isn't got, that least with what the task holds is within all leasts
pub lacks_least : (old new : Held) (picks : List ℕ) (states : List State) (j least asked : ℕ) → j < length picks → least ≡ (state_at states (slice_index picks j)).least → old.held ≡ leasts_of (take j picks) states → IsTooLittle old new least asked → IsLeastLacking new (leasts_of picks states) asked
lacks_least old new picks states j least asked within same holds lacks =
    let most = sum_by_more_le (λ i. (state_at states i).least) picks j 0 within in
    record {
      few = omega (arith, most, same, holds, lacks.same, lacks.gave_back);
      short = record { granted = lacks.short.granted; got = lacks.short.got; short = lacks.short.short; less = omega (arith, lacks.short.less, lacks.same) };
      floored = omega (arith, lacks.floored, lacks.same);
    }
