-- The text of a trial is read as its rows, and the job's checks pass them.
use Rattle.std.proofs.Common.{◌≡◌, ℕ, ◌+◌, ◌≤◌, ◌∙◌, Bool, true, false, List, [], ◌∷◌, ◌++◌, length, map, codes, Option, None, Some, refl, sym, ap, arith, inl, inr}
use Rattle.std.specs.Prelude.{◌||◌, not, cond, if◌then◌else◌, nat_lt, option_map, pos}
use Rattle.std.specs.Fmt.{signed_decimal}
use Rattle.std.specs.List.{AllByRecursion, filter, flat_map, range_with_len}
use Rattle.std.proofs.lemmas.Bool.{cases_Bool, ltb-true}
use Rattle.std.proofs.lemmas.List.{append-nil}
use Rattle.std.proofs.lemmas.List.FromFn.{length-map-range_with_len}
use Rattle.csv.specs.Reading.{default_config, records}
use Rattle.csv.specs.Writing.{fields_text, is_blank}
use Rattle.row_form.specs.Numbers.{may_be}
use Rattle.row_form.specs.declared.number_list.NumberPlace.{NumberPlace}
use Rattle.row_filter.specs.declared.filter.Comparison.{Comparison}
use Rattle.row_filter.specs.declared.filter.Comparison.TheVariants.{AtLeast}
use Rattle.row_filter.specs.declared.filter.Constant.{Constant}
use Rattle.row_filter.specs.declared.filter.Constant.TheVariants.{Number}
use Rattle.row_filter.specs.declared.filter.Filter.TheFolds.{fold-roll-Filter}
use Rattle.row_filter.specs.declared.filter.Filter.TheOpen as layers
use Rattle.row_filter.specs.declared.filter.Filter.TheVariants as filters
use Rattle.row_filter.specs.declared.filter.Filter.TheVariants.{rolls-Test}
use Rattle.job_plan.specs.Columns.{filter_numbers, filter_numbers_step, is_number_place, kept, strict_columns, test_numbers, told_columns}
use Rattle.byte_io.specs.Rows.{rows_of}
use Rattle.landing.specs.Checks.{bad_place, checked, checked_rows, first_of_two, first_refusal, head_at, is_too_long, number_heads, refusal_of}
use Rattle.landing.specs.declared.fault.LandFault.{LandFault}
use Rattle.landing.specs.declared.fault.LandFault.TheVariants as fault
use Rattle.trial_input.specs.FixedJob.{price, trial_job}
use Rattle.trial_input.specs.Generator.{heading, key_of, line_of, number_of_row, numbers_of, price_of, row_of}
use Rattle.trial_input.specs.Laws.{TrialsAreGood}
use Rattle.trial_input.proofs.Numbers.{key-within, lines-text, price-spelled, price-within}
use Rattle.trial_input.proofs.ReadBack.{HasFields, no_mark, tables_read, text_of_tables}

-- ---- the text is read as the rows

text-table : (numbers : List ℕ) → codes "key,price\n" ++ flat_map line_of numbers ≡ text_of_tables ((heading ∷ map row_of numbers) ∷ [])
unfolding fields_text is_blank
text-table numbers = ap (λ (lines : List ℕ). codes "key,price\n" ++ lines) (lines-text numbers)

have-fields : (numbers : List ℕ) → AllByRecursion HasFields (map row_of numbers)
have-fields [] = tt
have-fields (number ∷ numbers) = (tt, have-fields numbers)

pub rows-read : (numbers : List ℕ) → rows_of (codes "key,price\n" ++ flat_map line_of numbers) ≡ heading ∷ map row_of numbers
rows-read numbers =
    ap (records default_config) (no_mark (codes "ey,price\n" ++ flat_map line_of numbers) ∙ text-table numbers)
    ∙ tables_read ((heading ∷ map row_of numbers) ∷ []) ((tt, have-fields numbers), tt)
    ∙ append-nil (heading ∷ map row_of numbers)

-- ---- the number column is the price, which stands second and is no value column

numbers-test : (column : ℕ) (test : Comparison) (constant : Constant) → filter_numbers (filters.Test column test constant) ≡ test_numbers column constant
numbers-test column test constant = ap filter_numbers (sym (rolls-Test column test constant)) ∙ fold-roll-Filter (List ℕ) filter_numbers_step (layers.Test column test constant)

abbrev price_head : NumberPlace
price_head = record { column = 1; value = false }

-- the number column at a place, where only a number may stand in these columns
abbrev place_among : List ℕ → ℕ → NumberPlace
place_among columns k = record { column = k; value = not (is_number_place trial_job heading columns k) }

-- two datasets compare prices with a number, and a query orders by them
strict : strict_columns trial_job ≡ price ∷ price ∷ price ∷ []
strict = rw (numbers-test price AtLeast (Number (pos 0)), numbers-test price AtLeast (Number (pos 500))) refl

heads : number_heads trial_job heading ≡ price_head ∷ []
heads =
    ap (λ (columns : List ℕ). map (head_at (kept trial_job.names heading)) (map (place_among columns) (filter (is_number_place trial_job heading (columns ++ told_columns trial_job)) (range_with_len 0 (length (kept trial_job.names heading))))))
    strict

-- ---- no row is refused

within-passes : (most n : ℕ) → n ≤ most → nat_lt most n ≡ false
within-passes most n few = elim (cases_Bool (nat_lt most n)) [
  | inl more ↦ absurd (omega (arith, ltb-true most n more))
  | inr none ↦ none
]

short-passes : (a b : ℕ) → a ≤ 4 → b ≤ 5 → nat_lt 65536 (0 + a + b) ≡ false
short-passes a b few also = within-passes 65536 (0 + a + b) (omega arith)

row-short : (number : ℕ) → is_too_long (row_of number) ≡ false
row-short number = short-passes (length (key_of number)) (length (signed_decimal (price_of number))) (key-within number) (price-within number)

-- neither is it one too many, nor too long, nor without a number
none_of : (many long good : Bool) (why also : LandFault) (n : ℕ) → many ≡ false → long ≡ false → good ≡ true
    → (if many then Some why else (if long then Some also else option_map (fault.BadNumber n) (option_map (λ (head : NumberPlace). head.column) (cond (not good) (Some price_head) None)))) ≡ None
none_of many long good why also n e f g = rw (e, f, g) refl

row-passes : (number max_rows n : ℕ) → n ≤ max_rows → refusal_of trial_job heading max_rows n (row_of number) ≡ None
row-passes number max_rows n few =
    ap (λ (places : List NumberPlace). if nat_lt max_rows n then Some fault.TooManyRows else (if is_too_long (row_of number) then Some (fault.RowTooLong n)
    else option_map (fault.BadNumber n) (bad_place places (row_of number)))) heads
    ∙ none_of (nat_lt max_rows n) (is_too_long (row_of number)) (may_be price_head (signed_decimal (price_of number))) fault.TooManyRows (fault.RowTooLong n) n
    (within-passes max_rows n few) (row-short number) (ap (λ (is : Bool). is || false) (price-spelled number).is)

rows-pass : (numbers : List ℕ) (max_rows n : ℕ) → n + length numbers ≤ max_rows + 1 → first_refusal trial_job heading max_rows n (map row_of numbers) ≡ None
unfolding first_refusal
rows-pass [] max_rows n few = refl
rows-pass (number ∷ numbers) max_rows n few =
    ap (λ (why : Option LandFault). first_of_two why (first_refusal trial_job heading max_rows (n + 1) (map row_of numbers))) (row-passes number max_rows n (omega arith))
    ∙ rows-pass numbers max_rows (n + 1) (omega arith)

pub trials-good : TrialsAreGood
trials-good rows max_rows some few enough =
    let numbers = numbers_of rows in
    let count : length numbers ≡ rows = length-map-range_with_len number_of_row 1 rows in
    ap (checked trial_job max_rows) (rows-read numbers)
    ∙ ap (checked_rows heading (map row_of numbers)) (rows-pass numbers max_rows 1 (omega (arith, count)))
