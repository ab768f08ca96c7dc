-- Worked examples of tasks: the definitions give these answers.
use Rattle.std.proofs.Common.{◌≡◌, true, false, Some, None, [], ◌∷◌, refl}
use Rattle.pool_ledger.specs.History.{History, held, active, is_active, execution_pool, storage_pool, execution_free}
use Rattle.pool_ledger.specs.Answers.{growth, answer, moment, least_share, greatest_share}
use Rattle.pool_ledger.proofs.Examples.{two_workers, begin, attempt, release, end}

-- two workers each have a task
abbrev both_begun : History
both_begun = begin 1 1 ∷ begin 0 0 ∷ []

-- an ask for 500 takes 200 that storage doesn't use, and is granted whole
takes_unused_storage : ((growth two_workers both_begun 500).moved ≡ 200) × (answer two_workers both_begun 0 500 ≡ Some 500)
takes_unused_storage = (refl, refl)

abbrev large_first : History
large_first = attempt 0 0 500 200 0 (Some 500) ∷ both_begun

pools_after_large_first : (execution_pool two_workers large_first ≡ 500) × (storage_pool two_workers large_first ≡ 100)
pools_after_large_first = (refl, refl)

-- the other task would be left with less than half an equal part of the execution pool, and waits
short_of_half_waits : ((growth two_workers large_first 200).moved ≡ 100) × (least_share (moment two_workers large_first 1 200) ≡ 150) × (answer two_workers large_first 1 200 ≡ None)
short_of_half_waits = (refl, refl, refl)

-- what moved stays moved after the wait, and the waiting task is active
abbrev second_waits : History
second_waits = attempt 1 1 200 100 0 None ∷ large_first

wait_keeps_what_moved : (execution_pool two_workers second_waits ≡ 600) × (execution_free two_workers second_waits ≡ 100) × (active second_waits ≡ 2)
wait_keeps_what_moved = (refl, refl, refl)

-- the first task holds more than its fair share of 300: it is granted nothing, and doesn't wait
past_fair_share_is_granted_nothing : (greatest_share (moment two_workers second_waits 0 50) ≡ 300) × (answer two_workers second_waits 0 50 ≡ Some 0)
past_fair_share_is_granted_nothing = (refl, refl)

-- after a release the waiting task is granted what it asks
abbrev first_releases : History
first_releases = release 0 0 100 ∷ attempt 0 0 50 0 0 (Some 0) ∷ second_waits

released_bytes_are_granted : ((growth two_workers first_releases 200).moved ≡ 0) × (answer two_workers first_releases 1 200 ≡ Some 200)
released_bytes_are_granted = (refl, refl)

-- A task that releases all isn't active until it asks again

takes_part_of_storage : ((growth two_workers both_begun 400).moved ≡ 100) × (answer two_workers both_begun 0 400 ≡ Some 400)
takes_part_of_storage = (refl, refl)

abbrev all_released : History
all_released = release 0 0 400 ∷ attempt 0 0 400 100 0 (Some 400) ∷ both_begun

released_all_is_idle : (held all_released 0 ≡ 0) × (is_active all_released 0 ≡ false)
released_all_is_idle = (refl, refl)

alone_takes_the_pool : ((growth two_workers all_released 600).moved ≡ 200) × (answer two_workers all_released 1 600 ≡ Some 600)
alone_takes_the_pool = (refl, refl)

abbrev other_holds_all : History
other_holds_all = attempt 1 1 600 200 0 (Some 600) ∷ all_released

nothing_left_waits : (least_share (moment two_workers other_holds_all 0 100) ≡ 150) × (answer two_workers other_holds_all 0 100 ≡ None)
nothing_left_waits = (refl, refl)

abbrev first_waits : History
first_waits = attempt 0 0 100 0 0 None ∷ other_holds_all

-- a task that waits with nothing is active, and a release of nothing ends that
waiting_with_nothing_is_active : (is_active first_waits 0 ≡ true) × (is_active (release 0 0 0 ∷ first_waits) 0 ≡ false)
waiting_with_nothing_is_active = (refl, refl)

-- an end that frees less than was held leaves the rest held
ended_short_still_holds : (held (end 1 1 400 ∷ other_holds_all) 1 ≡ 200) × (is_active (end 1 1 400 ∷ other_holds_all) 1 ≡ true)
ended_short_still_holds = (refl, refl)
