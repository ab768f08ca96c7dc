-- What a spiller means as a consumer.
-- This project's own.
use Rattle.std.specs.Prelude.{ℕ, take}
use Rattle.consumer_trait.specs.States.{State}
use Rattle.consumer_trait.specs.Usages.{is_order, order_if, state_by}
use Rattle.spill_tests.specs.declared.spiller.PartSpiller.{PartSpiller}
use Rattle.spill_tests.specs.Rows.{entries_of_rows}

-- what callers know of it
abbrev pub state_of : PartSpiller → State
state_of spiller = state_by (order_if spiller.ready) (entries_of_rows spiller.rows.items) (take spiller.todo (entries_of_rows spiller.rows.items)) spiller.usage spiller.least is_order

-- the numbers that its spills keep to: the bytes that they ask for, the entries that they write in all and on a page,
-- and the bytes that they give back first
pub record Told : Type 0 where
  pub asks : ℕ
  pub most : ℕ
  pub part : ℕ
  pub early : ℕ

-- what it was told
abbrev pub was_told : PartSpiller → Told
was_told spiller = record { asks = spiller.asks; most = spiller.most; part = spiller.part; early = spiller.early }
