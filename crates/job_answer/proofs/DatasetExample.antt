-- A worked answer over datasets: two queries over the paid orders, and two over datasets of which one is made from the other.
use Rattle.std.proofs.Common.{◌≡◌, ◌∙◌, ◌++◌, true, cond, Bool, List, [], ◌∷◌, ℕ, Option, Some, None, codes, map, refl, ap, ℤ, pos}
use Rattle.std.specs.Prelude.{◌&&◌}
use Rattle.std.specs.Fmt.{digits}
use Rattle.std.specs.List.{filter}
use Rattle.csv.specs.Writing.{escaped, fields_text, is_blank}
use Rattle.aggregate.specs.declared.agg_list.Agg.TheVariants.{Count, Sum, Max}
use Rattle.row_filter.specs.declared.filter.Comparison.TheVariants as tests
use Rattle.row_filter.specs.declared.filter.Constant.TheVariants as constants
use Rattle.row_filter.specs.declared.filter.Filter.TheVariants as filters
use Rattle.row_filter.specs.Meaning.{order_to}
use Rattle.row_filter.specs.Meaning as meaning
use Rattle.row_filter.proofs.Meanings.{keeps-test}
use Rattle.job_text.specs.declared.job.Dataset.{Dataset}
use Rattle.job_text.specs.declared.job.Job.{Job}
use Rattle.job_text.specs.declared.job.Part.{Part}
use Rattle.job_text.specs.declared.job.Query.{Query}
use Rattle.job_text.specs.declared.job.Shape.TheVariants.{Group, Order}
use Rattle.job_plan.specs.Columns.{Fields}
use Rattle.job_plan.specs.Plans.{heading_of}
use Rattle.job_plan.specs.Telling.{told_field}
use Rattle.job_answer.specs.Answer.{field_of, group_of, groups}
use Rattle.job_answer.specs.Derived.{derived, is_in}
use Rattle.job_answer.specs.Output.{output, shape_table, table_rows, text_of}
use Rattle.job_answer.proofs.Classes.{entries-classes}
use Rattle.job_answer.proofs.Groups.{tell}

-- ---- four orders, with their numbers, regions and amounts

abbrev head : Fields
head = codes "order_id" ∷ codes "region" ∷ codes "amount" ∷ []

abbrev order : List ℕ → List ℕ → List ℕ → Fields
order id region amount = id ∷ region ∷ amount ∷ []

abbrev first : Fields
first = order (codes "1001") (codes "North") (codes "250")

abbrev second : Fields
second = order (codes "1002") (codes "South") (codes "-40")

abbrev third : Fields
third = order (codes "1003") (codes "North") (codes "75")

abbrev fourth : Fields
fourth = order (codes "1004") (codes "East, upper") (codes "75")

abbrev orders : List Fields
orders = first ∷ second ∷ third ∷ fourth ∷ []

-- ---- the job: columns are named in the order of its text

-- those with an amount above 0, and of these the ones with at least 100
abbrev paid : Dataset
paid = record { name = codes "paid"; parent = 0; filter = Some (filters.Test 0 tests.Greater (constants.Number (pos 0))); level = None }

abbrev high : Dataset
high = record { name = codes "high"; parent = 1; filter = Some (filters.Test 0 tests.AtLeast (constants.Number (pos 100))); level = None }

abbrev parts : List Part
parts = record { agg = Count; column = None } ∷ record { agg = Sum; column = Some 0 } ∷ record { agg = Max; column = Some 0 } ∷ []

-- `group region: count, sum amount, max amount`
abbrev by_region : ℕ → Query
by_region dataset = record { dataset = dataset; shape = Group (1 ∷ []) parts }

-- `order number amount down: order_id, amount`
abbrev by_amount : ℕ → Query
by_amount dataset = record { dataset = dataset; shape = Order (record { column = 0; number = true; down = true } ∷ []) (2 ∷ 0 ∷ []) }

abbrev job_of : List Query → Job
job_of queries = record { names = codes "amount" ∷ codes "region" ∷ codes "order_id" ∷ []; datasets = paid ∷ high ∷ []; queries = queries }

-- the table by region of the paid orders
abbrev regions : List Fields
regions =
    (codes "region" ∷ codes "count" ∷ codes "sum_amount" ∷ codes "max_amount" ∷ [])
    ∷ (codes "East, upper" ∷ codes "1" ∷ codes "75" ∷ codes "75" ∷ [])
    ∷ (codes "North" ∷ codes "2" ∷ codes "325" ∷ codes "250" ∷ [])
    ∷ []

-- its text: a field with a comma stands in quotes
abbrev regions_text : List ℕ
regions_text = codes "region,count,sum_amount,max_amount" ++ 10 ∷ codes "\"East, upper\",1,75,75" ++ 10 ∷ codes "North,2,325,250" ++ 10 ∷ []

filter-same : (p q : Fields → Bool) → ((row : Fields) → p row ≡ q row) → (rows : List Fields) → filter p rows ≡ filter q rows
filter-same p q same [] = refl
filter-same p q same (row ∷ rows) =
    ap (λ (b : Bool). cond b (row ∷ filter p rows) (filter p rows)) (same row) ∙ ap (λ (rest : List Fields). cond (q row) (row ∷ rest) rest) (filter-same p q same rows)

module _ (queries : List Query) where
  -- ---- the rows of its datasets

  abbrev above_none : Fields → Bool
  above_none row = meaning.comparison_holds tests.Greater (order_to (field_of (job_of queries) head row 0) (constants.Number (pos 0)))

  abbrev a_hundred : Fields → Bool
  a_hundred row = meaning.comparison_holds tests.AtLeast (order_to (field_of (job_of queries) head row 0) (constants.Number (pos 100)))

  paid-in : (row : Fields) → is_in (job_of queries) head 1 row ≡ (above_none row && true)
  paid-in row = ap (λ (b : Bool). b && true) (keeps-test (field_of (job_of queries) head row) 0 tests.Greater (constants.Number (pos 0)))

  high-in : (row : Fields) → is_in (job_of queries) head 2 row ≡ (a_hundred row && (above_none row && true))
  high-in row =
      ap (λ (b : Bool). b && is_in (job_of queries) head 1 row) (keeps-test (field_of (job_of queries) head row) 0 tests.AtLeast (constants.Number (pos 100)))
      ∙ ap (λ (b : Bool). a_hundred row && b) (paid-in row)

  paid_rows : derived (job_of queries) head 1 orders ≡ first ∷ third ∷ fourth ∷ []
  paid_rows = filter-same (is_in (job_of queries) head 1) (λ row. above_none row && true) paid-in orders

  high_rows : derived (job_of queries) head 2 orders ≡ first ∷ []
  high_rows = filter-same (is_in (job_of queries) head 2) (λ row. a_hundred row && (above_none row && true)) high-in orders

  -- ---- tables

  paid_groups : groups (job_of queries) head (1 ∷ []) parts (first ∷ third ∷ fourth ∷ [])
      ≡ (codes "East, upper" ∷ [], Some (pos 1) ∷ Some (pos 75) ∷ Some (pos 75) ∷ [])
      ∷ (codes "North" ∷ [], Some (pos 2) ∷ Some (pos 325) ∷ Some (pos 250) ∷ []) ∷ []
  paid_groups = entries-classes (group_of (job_of queries) head (1 ∷ [])) (tell (job_of queries) head (1 ∷ []) parts (first ∷ third ∷ fourth ∷ [])) (first ∷ third ∷ fourth ∷ []) ∙ refl

  paid_regions : table_rows (job_of queries) head orders (by_region 1) ≡ regions
  unfolding digits
  paid_regions =
      ap (λ (rows : List Fields). shape_table (job_of queries) head rows (Group (1 ∷ []) parts)) paid_rows
      ∙ ap (λ (found : List (Fields × List (Option ℤ))). heading_of (job_of queries).names (Group (1 ∷ []) parts) ∷ map (λ group. group.0 ++ map told_field group.1) found) paid_groups

  paid_amounts : table_rows (job_of queries) head orders (by_amount 1)
      ≡ (codes "order_id" ∷ codes "amount" ∷ []) ∷ (codes "1001" ∷ codes "250" ∷ []) ∷ (codes "1003" ∷ codes "75" ∷ []) ∷ (codes "1004" ∷ codes "75" ∷ []) ∷ []
  paid_amounts = ap (λ (rows : List Fields). shape_table (job_of queries) head rows (by_amount 1).shape) paid_rows

  high_amounts : table_rows (job_of queries) head orders (by_amount 2) ≡ (codes "order_id" ∷ codes "amount" ∷ []) ∷ (codes "1001" ∷ codes "250" ∷ []) ∷ []
  high_amounts = ap (λ (rows : List Fields). shape_table (job_of queries) head rows (by_amount 2).shape) high_rows

-- ---- what is printed

-- over one dataset: the regions of the paid orders, a blank line, and these orders by amount; of two equal ones the earlier is first
paid_twice : output (job_of (by_region 1 ∷ by_amount 1 ∷ [])) head orders
    ≡ regions_text ++ 10 ∷ codes "order_id,amount" ++ 10 ∷ codes "1001,250" ++ 10 ∷ codes "1003,75" ++ 10 ∷ codes "1004,75" ++ 10 ∷ []
unfolding output escaped fields_text is_blank
paid_twice =
    let queries = by_region 1 ∷ by_amount 1 ∷ [] in
    ap (λ (table : List Fields). text_of table ++ 10 ∷ text_of (table_rows (job_of queries) head orders (by_amount 1))) (paid_regions queries)
    ∙ ap (λ (table : List Fields). text_of regions ++ 10 ∷ text_of table) (paid_amounts queries)

-- with a filter between the two: the regions of the paid orders, and the high ones of these by amount
paid_and_high : output (job_of (by_region 1 ∷ by_amount 2 ∷ [])) head orders
    ≡ regions_text ++ 10 ∷ codes "order_id,amount" ++ 10 ∷ codes "1001,250" ++ 10 ∷ []
unfolding output escaped fields_text is_blank
paid_and_high =
    let queries = by_region 1 ∷ by_amount 2 ∷ [] in
    ap (λ (table : List Fields). text_of table ++ 10 ∷ text_of (table_rows (job_of queries) head orders (by_amount 2))) (paid_regions queries)
    ∙ ap (λ (table : List Fields). text_of regions ++ 10 ∷ text_of table) (high_amounts queries)
