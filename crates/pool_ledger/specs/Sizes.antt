-- The sizes of a pool, in bytes, with products and quotients rounded down.
-- After Spark: UnifiedMemoryManager and the Tuning Guide's memory fractions. `floor_of` and `block_limit_of` are this project's own.
use Rattle.std.specs.Prelude.{ℕ, ◌+◌, ◌-◌, ◌*◌, ◌/◌, ◌^◌, ◌≤◌}

-- what a pool starts with: the bytes of both pools together, the bytes that storage starts with, and the number of workers
pub record Sizes : Type 0 where
  pub maximum : ℕ
  pub region : ℕ
  pub workers : ℕ

-- a share of an amount in bytes; the share is in thousandths
abbrev pub thousandths : ℕ → ℕ → ℕ
thousandths amount share = amount * share / 1000

-- one and a half times the reserve, in bytes, rounded up: a smaller heap is refused
abbrev pub smallest_heap : ℕ → ℕ
smallest_heap reserved = reserved + (reserved + 1) / 2

-- the sizes for a heap and a reserve in bytes, two fractions in thousandths and a number of workers
abbrev pub sizes_of : ℕ → ℕ → ℕ → ℕ → ℕ → Sizes
sizes_of heap reserved fraction storage workers =
    let maximum = thousandths (heap - reserved) fraction in
    record { maximum = maximum; region = thousandths maximum storage; workers = workers }

-- the bytes up to which no ask is granted short: half an equal share of the pool that execution starts with
abbrev pub floor_of : Sizes → ℕ
floor_of setup = (setup.maximum - setup.region) / (2 * setup.workers)

-- the bytes of the largest block that is admitted
abbrev pub block_limit_of : Sizes → ℕ
block_limit_of setup = setup.region / setup.workers

-- the sizes that a setup can have
pub record IsInRange (maximum region workers : ℕ) : Type 0 where
  pub region_fits : region ≤ maximum
  pub maximum_small : maximum ≤ 2 ^ 40
  pub some_worker : 1 ≤ workers
  pub few_workers : workers ≤ 16
