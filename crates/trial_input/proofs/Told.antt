-- The lines of a trial are told by the tables that its run prints.
use Rattle.std.proofs.Common.{◌≡◌, ℕ, suc, ◌+◌, ◌*◌, ◌≤◌, ◌<◌, ◌^◌, ◌∙◌, List, [], ◌∷◌, ◌++◌, length, map, Option, ℤ, pos, unsigned_abs, unwrap_or, refl, sym, ap, subst, arith, length-append}
use Rattle.std.specs.Prelude.{◌+ℤ◌}
use Rattle.std.specs.Fmt.{signed_decimal}
use Rattle.std.specs.List.{AllByRecursion, fold, sum_by}
use Rattle.std.specs.Ordering.{is_eq}
use Rattle.std.specs.declared.cmp.Ordering.{Ordering}
use Rattle.std.specs.declared.cmp.Ordering.TheVariants.{Less, Equal, Greater}
use Rattle.std.proofs.lemmas.Bool.{lt-ltb}
use Rattle.std.proofs.lemmas.Int.{ints}
use Rattle.std.proofs.lemmas.List.{length-map}
use Rattle.std.proofs.lemmas.List.FromFn.{length-map-range_with_len}
use Rattle.std.proofs.lemmas.List.Sums.{sum_by-cons}
use Rattle.csv.specs.Reading.{default_config, records, strip_bom}
use Rattle.csv.specs.Writing.{fields_text, is_blank}
use Rattle.aggregate.specs.declared.agg_list.Agg.TheVariants.{Sum, Min, Max}
use Rattle.byte_io.specs.Rows.{rows_of}
use Rattle.job_text.specs.declared.job.Part.{Part}
use Rattle.job_text.specs.declared.job.Query.{Query}
use Rattle.job_text.specs.declared.job.Shape.TheVariants.{Group}
use Rattle.job_plan.specs.Columns.{Fields}
use Rattle.job_plan.specs.Plans.{heading_of}
use Rattle.job_plan.specs.Telling.{told_field}
use Rattle.job_answer.specs.Answer.{field_of, fields_cmp, group_of, members, told_of, value_at}
use Rattle.job_answer.specs.Derived.{derived, is_in}
use Rattle.job_answer.specs.Output.{output, shape_rows, table_rows}
use Rattle.job_answer.proofs.Classes.{Class, all-groups, class_at, classes, insert_class}
use Rattle.trial_input.specs.FixedJob.{counts, key, keys_query, limits_query, of_price, order_query, price, sums_query, trial_job}
use Rattle.trial_input.specs.Generator.{heading, number_of_row, numbers_of, row_of, trial_rows}
use Rattle.trial_input.specs.Lines.{count_of, counted, group_count, lines_with, trial_lines, trial_output}
use Rattle.trial_input.specs.Tallies.{count_in, within_u64, tally_of}
use Rattle.trial_input.specs.declared.tally.Tally.{Tally}
use Rattle.trial_input.proofs.Decimals.{signed-spells}
use Rattle.trial_input.proofs.ReadBack.{HasFields, all_rows, no_mark, tables_read, text_of_tables}
use Rattle.trial_input.proofs.Sums.{by_key, groups-are, kept-few, tell}
use Rattle.trial_input.proofs.Tables.{AreWide, four-tables, later}

-- ---- a table of groups

-- a group as a row
abbrev told_row : Fields × List (Option ℤ) → Fields
told_row group = group.0 ++ map told_field group.1

-- the rows by their groups
abbrev AreKeyed : List Class → Type 0
AreKeyed cs = AllByRecursion (λ c. length c.group ≡ 1) cs

module _ (parts : List Part) (rows : List Fields) where
  abbrev told_group : Class → Fields × List (Option ℤ)
  told_group c = (c.group, tell parts rows c.group)

  abbrev group_rows : List Class → List Fields
  group_rows cs = map told_row (map told_group cs)

  all-keyed : AreKeyed (classes (by_key parts rows) rows)
  all-keyed = all-groups (by_key parts rows) (λ group. length group ≡ 1) (λ row. refl) rows

  shape-rows : shape_rows trial_job heading rows (Group (key ∷ []) parts) ≡ group_rows (classes (by_key parts rows) rows)
  shape-rows = ap (map told_row) (groups-are parts rows)

  groups-wide : (cs : List Class) → AreKeyed cs → AreWide (1 + length parts) (group_rows cs)
  groups-wide [] keyed = tt
  groups-wide (c ∷ cs) keyed =
      let told = tell parts rows c.group in
      let size : length told ≡ length parts = length-map parts (told_of trial_job heading (members trial_job heading (key ∷ []) rows c.group)) in
      (omega (arith, length-append c.group (map told_field told), length-map told told_field, size, keyed.0), groups-wide cs keyed.1)

  shape-wide : AreWide (1 + length parts) (shape_rows trial_job heading rows (Group (key ∷ []) parts))
  shape-wide = subst (AreWide (1 + length parts)) (sym shape-rows) (groups-wide (classes (by_key parts rows) rows) all-keyed)

-- ---- there are at most as many groups as rows

module _ (g : Fields → Fields) where
  class-few : (row : Fields) (c : Class) (cs others : List Class) (o : Ordering) → length others ≤ length cs + 1 → length (class_at g o row c cs others) ≤ length cs + 2
  class-few row c cs others Less few = omega arith
  class-few row c cs others Equal few = omega arith
  class-few row c cs others Greater few = omega arith

  insert-few : (row : Fields) (cs : List Class) → length (insert_class g row cs) ≤ length cs + 1
  insert-few row [] = omega arith
  insert-few row (c ∷ cs) = omega (arith, class-few row c cs (insert_class g row cs) (fields_cmp (g row) c.group) (insert-few row cs))

  classes-few : (rows : List Fields) → length (classes g rows) ≤ length rows
  classes-few [] = omega arith
  classes-few (row ∷ rows) = omega (arith, insert-few row (classes g rows), classes-few rows)

-- ---- the counts of the first table

count-read : (group : Fields) (n : ℕ) (more : Fields) → length group ≡ 1 → n < 2 ^ 63 → count_in (group ++ signed_decimal (pos n) ∷ more) ≡ n
count-read [] n more one small = absurd (omega (arith, one))
count-read (k ∷ []) n more one small = ap (λ (o : Option ℤ). unsigned_abs (unwrap_or o (pos 0))) (signed-spells (pos n) (lt-ltb n (2 ^ 63) small)).number
count-read (k ∷ j ∷ others) n more one small = absurd (omega (arith, one))

-- what the first query tells
abbrev summed : List Part
summed = counts ∷ of_price Sum ∷ []

module _ (rows : List Fields) (few : length rows ≤ 1000000) where
  abbrev in_group : Class → List Fields
  in_group c = members trial_job heading (key ∷ []) rows c.group

  -- how many rows a group has
  abbrev size_of : Class → ℕ
  size_of c = length (map (λ row. value_at trial_job heading row 0) (in_group c))

  size-few : (c : Class) → size_of c ≤ 1000000
  size-few c = omega (arith, length-map (in_group c) (λ row. value_at trial_job heading row 0), kept-few (λ row. is_eq (fields_cmp (group_of trial_job heading (key ∷ []) row) c.group)) rows, few)

  row-count : (c : Class) → length c.group ≡ 1 → count_in (told_row (told_group summed rows c)) ≡ size_of c
  row-count c one = count-read c.group (size_of c) _ one (omega (arith, size-few c))

  counts-few : (cs : List Class) → AreKeyed cs → sum_by count_in (group_rows summed rows cs) ≤ length cs * 1000000
  counts-few [] keyed = omega arith
  counts-few (c ∷ cs) keyed =
      omega (arith, sum_by-cons count_in (told_row (told_group summed rows c)) (group_rows summed rows cs), row-count c keyed.0, size-few c, counts-few cs keyed.1)

  counts-told : (cs : List Class) (n : ℕ) → AreKeyed cs
      → fold ◌+ℤ◌ (pos n) (map count_of (map (told_group summed rows) cs)) ≡ pos (n + sum_by count_in (group_rows summed rows cs))
  counts-told [] n keyed = ap pos (omega arith)
  counts-told (c ∷ cs) n keyed =
      let next : pos n +ℤ pos (size_of c) ≡ pos (n + size_of c) = omega (arith, ints) in
      ap (λ (z : ℤ). fold ◌+ℤ◌ z (map count_of (map (told_group summed rows) cs))) next
      ∙ counts-told cs (n + size_of c) keyed.1
      ∙ ap pos (omega (arith, sum_by-cons count_in (told_row (told_group summed rows c)) (group_rows summed rows cs), row-count c keyed.0))

-- ---- the tables of a run

order-wide : (rows : List Fields) → AreWide 2 (map (λ row. map (field_of trial_job heading row) (key ∷ price ∷ [])) rows)
order-wide [] = tt
order-wide (row ∷ rows) = (refl, order-wide rows)

wide-fields : (width : ℕ) (rows : List Fields) → AreWide (suc width) rows → AllByRecursion HasFields rows
wide-fields width [] wide = tt
wide-fields width ([] ∷ rows) wide = absurd (omega (arith, wide.0))
wide-fields width ((field ∷ fields) ∷ rows) wide = (tt, wide-fields width rows wide.1)

module _ (rows : List Fields) where
  abbrev table : Query → List Fields
  table query = table_rows trial_job heading rows query

  abbrev head : Query → Fields
  head query = heading_of trial_job.names query.shape

  abbrev answer : Query → List Fields
  answer query = shape_rows trial_job heading (derived trial_job heading query.dataset rows) query.shape

  abbrev tables : List (List Fields)
  tables = table sums_query ∷ table order_query ∷ table limits_query ∷ table keys_query ∷ []

  output-tables : output trial_job heading rows ≡ text_of_tables tables
  unfolding output
  output-tables = refl

  begins-plain : strip_bom (text_of_tables tables) ≡ text_of_tables tables
  unfolding fields_text is_blank
  begins-plain = no_mark _

  sums-wide : AreWide 3 (answer sums_query)
  sums-wide = shape-wide (counts ∷ of_price Sum ∷ []) (derived trial_job heading 1 rows)

  limits-wide : AreWide 3 (answer limits_query)
  limits-wide = shape-wide (of_price Min ∷ of_price Max ∷ []) (derived trial_job heading 2 rows)

  keys-wide : AreWide 2 (answer keys_query)
  keys-wide = shape-wide (counts ∷ []) (derived trial_job heading 0 rows)

  ordered-wide : AreWide 2 (answer order_query)
  ordered-wide = order-wide _

  all-fields : AllByRecursion (AllByRecursion HasFields) tables
  all-fields = (
    (tt, wide-fields 2 (answer sums_query) sums-wide),
    (
      (tt, wide-fields 1 (answer order_query) ordered-wide),
      ((tt, wide-fields 2 (answer limits_query) limits-wide), ((tt, wide-fields 1 (answer keys_query) keys-wide), tt)),
    ),
  )

  output-read : rows_of (output trial_job heading rows) ≡ all_rows tables
  output-read = ap rows_of output-tables ∙ ap (records default_config) begins-plain ∙ tables_read tables all-fields

  output-tally : tally_of (rows_of (output trial_job heading rows)) ≡ later 4 2 (length (answer keys_query)) (within_u64 (sum_by count_in (answer sums_query)))
  output-tally =
      ap tally_of output-read
      ∙ four-tables (head sums_query) (head order_query) (head limits_query) (head keys_query) (answer sums_query) (answer order_query) (answer limits_query) (answer keys_query) refl refl refl refl sums-wide ordered-wide limits-wide keys-wide

-- ---- the lines

-- the tally tells the numbers of the lines
pub record IsTold (rows : ℕ) (tally : Tally) : Type 0 where
  pub groups : tally.rows ≡ group_count rows
  pub counted : pos tally.counted ≡ counted rows

keys-few : (rows : List Fields) → length (shape_rows trial_job heading rows (Group (key ∷ []) (counts ∷ []))) ≤ length rows
keys-few rows =
    let g = by_key (counts ∷ []) rows in
    omega (
      arith,
      ap length (shape-rows (counts ∷ []) rows),
      length-map (map (told_group (counts ∷ []) rows) (classes g rows)) told_row,
      length-map (classes g rows) (told_group (counts ∷ []) rows),
      classes-few g rows,
    )

pub told : (rows : ℕ) → rows ≤ 1000000 → IsTold rows (tally_of (rows_of (trial_output rows)))
told rows few =
    let input = trial_rows rows in
    let count : length (numbers_of rows) ≡ rows = length-map-range_with_len number_of_row 1 rows in
    let all : length input ≡ rows = length-map (numbers_of rows) row_of ∙ count in
    let over = λ (dataset : ℕ). derived trial_job heading dataset input in
    let within : length (over 1) ≤ 1000000 = omega (arith, kept-few (is_in trial_job heading 1) input, all) in
    let keys : length (answer input keys_query) ≤ 1000000 = omega (arith, keys-few (over 0), kept-few (is_in trial_job heading 0) input, all) in
    let cs = classes (by_key summed (over 1)) (over 1) in
    let keyed = all-keyed summed (over 1) in
    let sums : answer input sums_query ≡ group_rows summed (over 1) cs = shape-rows summed (over 1) in
    let sum : ℕ = sum_by count_in (group_rows summed (over 1) cs) in
    let small : sum ≤ 1000000 * 1000000 = omega (arith, counts-few (over 1) within cs keyed, classes-few (by_key summed (over 1)) (over 1)) in
    let same : sum_by count_in (answer input sums_query) ≡ sum = ap (sum_by count_in) sums in
    record {
      groups = ap (λ (tally : Tally). tally.rows) (output-tally input) ∙ omega arith;
      counted = ap (λ (tally : Tally). pos tally.counted) (output-tally input) ∙ ap pos (omega (arith, same, small)) ∙ sym (counts-told (over 1) within cs 0 keyed)
          ∙ sym (ap (λ (groups : List (Fields × List (Option ℤ))). fold ◌+ℤ◌ (pos 0) (map count_of groups)) (groups-are summed (over 1)));
    }

pub lines-told : (rows : ℕ) (tally : Tally) → IsTold rows tally → lines_with rows tally.rows (pos tally.counted) ≡ trial_lines rows
lines-told rows tally is =
    ap (λ (n : ℕ). lines_with rows n (pos tally.counted)) is.groups ∙ ap (λ (z : ℤ). lines_with rows (group_count rows) z) is.counted
