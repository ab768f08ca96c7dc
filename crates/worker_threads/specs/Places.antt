-- What was done at each place of two lists, and what was answered there.
-- This project's own.
use Rattle.std.specs.Prelude.{◌≡◌, ℕ, ◌+◌, ◌≤◌, ◌<◌, List, Option, Some, length, slice_get}

-- at a place, with what both lists have there before and after, and with the answer
pub record AtPlace {W P A : Type 0} (R : ℕ → W → W → P → P → A → Type 0) (place : ℕ) (worker worker' : Option W) (post post' : Option P) (answer : Option A) : Type 0 where
  pub one : W
  pub one_is : worker ≡ Some one
  pub one_after : W
  pub one_left : worker' ≡ Some one_after
  pub other : P
  pub other_is : post ≡ Some other
  pub other_after : P
  pub other_left : post' ≡ Some other_after
  pub told : A
  pub told_is : answer ≡ Some told
  pub did : R place one one_after other other_after told

-- at each place of the workers, counted from `base`; posts behind them are as they were
pub record AtEachPlace {W P A : Type 0} (R : ℕ → W → W → P → P → A → Type 0) (base : ℕ) (workers workers' : List W) (posts posts' : List P) (answers : List A) : Type 0 where
  pub same_workers : length workers' ≡ length workers
  pub same_posts : length posts' ≡ length posts
  pub all_answered : length answers ≡ length workers
  pub others : (place : ℕ) → length workers ≤ place → slice_get posts' place ≡ slice_get posts place
  pub each : (k : ℕ) → k < length workers
      → AtPlace R (base + k) (slice_get workers k) (slice_get workers' k) (slice_get posts k) (slice_get posts' k) (slice_get answers k)
