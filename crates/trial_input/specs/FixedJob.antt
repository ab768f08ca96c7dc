-- The job of a trial, which is the same for each: groups and an order over two datasets, and groups over all rows.
-- This project's own.
use Rattle.std.specs.Prelude.{ℕ, true, List, [], ◌∷◌, Some, None, codes, ℤ, pos}
use Rattle.aggregate.specs.declared.agg_list.Agg.{Agg}
use Rattle.aggregate.specs.declared.agg_list.Agg.TheVariants.{Count, Sum, Min, Max}
use Rattle.pool_ledger.specs.declared.entry.Level.TheVariants.{Disk}
use Rattle.row_filter.specs.declared.filter.Comparison.TheVariants.{AtLeast}
use Rattle.row_filter.specs.declared.filter.Constant.TheVariants.{Number}
use Rattle.row_filter.specs.declared.filter.Filter.{Filter}
use Rattle.row_filter.specs.declared.filter.Filter.TheVariants.{Test}
use Rattle.job_text.specs.declared.job.Dataset.{Dataset}
use Rattle.job_text.specs.declared.job.Job.{Job}
use Rattle.job_text.specs.declared.job.Part.{Part}
use Rattle.job_text.specs.declared.job.Query.{Query}
use Rattle.job_text.specs.declared.job.Shape.TheVariants.{Group, Order}

-- its text, as it is printed
abbrev pub job_text : List ℕ
job_text =
    codes "let pos = input where price >= 0 keep disk; let high = pos where price >= 500; group key: count, sum price from pos; order number price down: key, price from pos; group key: min price, max price from high; group key: count"

-- the columns in the order of the text
abbrev pub price : ℕ
price = 0

-- the column that the text names second
abbrev pub key : ℕ
key = 1

-- ---- the datasets: the input is 0

-- the rows with at least this price
abbrev pub priced_from : ℤ → Filter
priced_from least = Test price AtLeast (Number least)

-- of the input the rows with a price of at least 0, kept on disk
abbrev pub pos_dataset : Dataset
pos_dataset = record { name = codes "pos"; parent = 0; filter = Some (priced_from (pos 0)); level = Some Disk }

-- of those the rows with a price of at least 500, not kept
abbrev pub high_dataset : Dataset
high_dataset = record { name = codes "high"; parent = 1; filter = Some (priced_from (pos 500)); level = None }

-- ---- the queries

-- how many rows a group has
abbrev pub counts : Part
counts = record { agg = Count; column = None }

-- an aggregate over the prices of a group's rows
abbrev pub of_price : Agg → Part
of_price agg = record { agg = agg; column = Some price }

-- `group key: count, sum price from pos`
abbrev pub sums_query : Query
sums_query = record { dataset = 1; shape = Group (key ∷ []) (counts ∷ of_price Sum ∷ []) }

-- `order number price down: key, price from pos`
abbrev pub order_query : Query
order_query = record {
  dataset = 1;
  shape = Order (record { column = price; number = true; down = true } ∷ []) (key ∷ price ∷ []);
}

-- `group key: min price, max price from high`
abbrev pub limits_query : Query
limits_query = record { dataset = 2; shape = Group (key ∷ []) (of_price Min ∷ of_price Max ∷ []) }

-- `group key: count`
abbrev pub keys_query : Query
keys_query = record { dataset = 0; shape = Group (key ∷ []) (counts ∷ []) }

-- the job
abbrev pub trial_job : Job
trial_job = record {
  names = codes "price" ∷ codes "key" ∷ [];
  datasets = pos_dataset ∷ high_dataset ∷ [];
  queries = sums_query ∷ order_query ∷ limits_query ∷ keys_query ∷ [];
}
