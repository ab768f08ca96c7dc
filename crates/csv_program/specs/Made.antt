-- The consumers of a post, while they are made.
-- This project's own.
use Rattle.std.specs.Prelude.{◌≡◌, ℕ, ◌≤◌, ◌<◌, true, List, length}
use Rattle.aggregate.specs.declared.agg_list.Agg.{Agg}
use Rattle.aggregate.specs.declared.kind.Kind.TheVariants.{Group, Order}
use Rattle.consumer_trait.specs.States.{State}
use Rattle.consumer_trait.specs.Members.{state_at}

-- so many were made: the first eight group, and those behind them order
pub record AreMadeConsumers (states : List State) (made : ℕ) : Type 0 where
  pub count : length states ≡ made
  pub group : (i : ℕ) (aggs : List Agg) → i < made → i < 8 → (state_at states i).serves (Group aggs) ≡ true
  pub order : (i : ℕ) → i < made → 8 ≤ i → (state_at states i).serves Order ≡ true
