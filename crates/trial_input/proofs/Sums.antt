-- What the job of a trial tells of its groups is never too wide.
use Rattle.std.proofs.Common.{◌≡◌, ℕ, ◌+◌, ◌*◌, ◌≤◌, ◌∙◌, Bool, false, List, [], ◌∷◌, length, map, IfSome, Option, Some, None, ℤ, unsigned_abs, unwrap_or, refl, sym, ap, subst, arith, inl, inr}
use Rattle.std.specs.Prelude.{◌+ℤ◌, not, option_map}
use Rattle.std.specs.Option.{option_or}
use Rattle.aggregate.specs.Spelling.{spelled}
use Rattle.job_text.specs.declared.job.Shape.TheVariants.{Group}
use Rattle.std.specs.Int.{int_max, int_min}
use Rattle.std.specs.List.{AllByRecursion, filter, find, flat_map, fold, list_any}
use Rattle.std.proofs.lemmas.Bool.{cases_Bool}
use Rattle.std.proofs.lemmas.Int.{clamps, ints}
use Rattle.std.proofs.lemmas.List.{length-map}
use Rattle.std.proofs.lemmas.List.FromFn.{length-map-range_with_len}
use Rattle.std.proofs.lemmas.List.Sums.{count_by-le-length, length-filter}
use Rattle.aggregate.specs.declared.agg_list.Agg.{Agg}
use Rattle.aggregate.specs.declared.agg_list.Agg.TheVariants.{Count, Sum, Min, Max}
use Rattle.aggregate.specs.Partial.{present}
use Rattle.job_text.specs.declared.job.Part.{Part}
use Rattle.job_text.specs.declared.job.Query.{Query}
use Rattle.job_plan.specs.Columns.{Fields}
use Rattle.job_plan.specs.Telling.{leaves_i64}
use Rattle.job_answer.specs.Answer.{aggregated, greatest, group_of, groups, least, members, summed, told_of, value_at}
use Rattle.job_answer.specs.Derived.{derived, is_in}
use Rattle.job_answer.specs.Output.{shape_wide, wide_from, wide_key}
use Rattle.job_answer.proofs.Aggregates.{present-few}
use Rattle.job_answer.proofs.Classes.{Class, classes, entries-classes}
use Rattle.trial_input.specs.FixedJob.{counts, key, of_price, price, trial_job}
use Rattle.trial_input.specs.Generator.{heading, number_of_row, numbers_of, price_of, row_of, trial_rows}
use Rattle.trial_input.specs.Laws.{TrialsFit}
use Rattle.trial_input.proofs.Decimals.{small-fits}
use Rattle.trial_input.proofs.Numbers.{price-small, price-spelled}

-- ---- lists of numbers within a thousand of zero

abbrev IsSmall : ℤ → Type 0
IsSmall z = unsigned_abs z ≤ 1000

sum-small : (ns : List ℤ) (start : ℤ) → AllByRecursion IsSmall ns → unsigned_abs (fold ◌+ℤ◌ start ns) ≤ unsigned_abs start + 1000 * length ns
sum-small [] start all = omega arith
sum-small (n ∷ ns) start all =
    let first : unsigned_abs n ≤ 1000 = all.0 in
    let joined : unsigned_abs (start +ℤ n) ≤ unsigned_abs start + 1000 = omega (arith, ints) in
    let later = sum-small ns (start +ℤ n) all.1 in
    omega arith

min-small : (ns : List ℤ) (start : ℤ) → IsSmall start → AllByRecursion IsSmall ns → IsSmall (fold int_min start ns)
min-small [] start small all = small
min-small (n ∷ ns) start small all =
    let first : unsigned_abs n ≤ 1000 = all.0 in
    min-small ns (int_min start n) (omega (arith, ints, clamps)) all.1

max-small : (ns : List ℤ) (start : ℤ) → IsSmall start → AllByRecursion IsSmall ns → IsSmall (fold int_max start ns)
max-small [] start small all = small
max-small (n ∷ ns) start small all =
    let first : unsigned_abs n ≤ 1000 = all.0 in
    max-small ns (int_max start n) (omega (arith, ints, clamps)) all.1

-- no farther from zero than so many of them can take it
abbrev IsNear : ℕ → ℤ → Type 0
IsNear count z = unsigned_abs z ≤ 1000 + 1000 * count

summed-near : (ns : List ℤ) (count : ℕ) → length ns ≤ count → AllByRecursion IsSmall ns → IfSome (summed ns) (IsNear count)
summed-near [] count few all = tt
summed-near (n ∷ ns) count few all = let first : unsigned_abs n ≤ 1000 = all.0 in omega (arith, sum-small ns n all.1)

least-near : (ns : List ℤ) (count : ℕ) → AllByRecursion IsSmall ns → IfSome (least ns) (IsNear count)
least-near [] count all = tt
least-near (n ∷ ns) count all = omega (arith, min-small ns n all.0 all.1)

greatest-near : (ns : List ℤ) (count : ℕ) → AllByRecursion IsSmall ns → IfSome (greatest ns) (IsNear count)
greatest-near [] count all = tt
greatest-near (n ∷ ns) count all = omega (arith, max-small ns n all.0 all.1)

-- ---- lists of values, of which each is missing or such a number

abbrev IsSmallValue : Option ℤ → Type 0
IsSmallValue o = IfSome o IsSmall

present-small : (os : List (Option ℤ)) → AllByRecursion IsSmallValue os → AllByRecursion IsSmall (present os)
present-small [] all = tt
present-small (None ∷ os) all = present-small os all.1
present-small (Some n ∷ os) all = (all.0, present-small os all.1)

aggregated-near : (agg : Agg) (os : List (Option ℤ)) → AllByRecursion IsSmallValue os → IfSome (aggregated agg os) (IsNear (length os))
aggregated-near Count os all = omega (arith, ints)
aggregated-near Sum os all = summed-near (present os) (length os) (present-few os) (present-small os all)
aggregated-near Min os all = least-near (present os) (length os) (present-small os all)
aggregated-near Max os all = greatest-near (present os) (length os) (present-small os all)

-- what is near stays within `i64`
near-stays : (o : Option ℤ) (count : ℕ) → count ≤ 1000000 → IfSome o (IsNear count) → leaves_i64 o ≡ false
near-stays None count few near = refl
near-stays (Some z) count few near =
    let close : unsigned_abs z ≤ 1000 + 1000 * count = near in
    ap not (small-fits z (omega arith))

-- ---- the prices of rows

-- the price of a row
abbrev value_in : Fields → Option ℤ
value_in row = value_at trial_job heading row price

prices-small : (numbers : List ℕ) → AllByRecursion (λ row. IsSmallValue (value_in row)) (map row_of numbers)
prices-small [] = tt
prices-small (number ∷ numbers) =
    let known : value_in (row_of number) ≡ Some (price_of number) = (price-spelled number).number in
    (rw known (price-small number), prices-small numbers)

kept-small : (P : Fields → Type 0) (test : Fields → Bool) (rows : List Fields) → AllByRecursion P rows → AllByRecursion P (filter test rows)
kept-small P test [] all = tt
kept-small P test (row ∷ rows) all = elim (cases_Bool (test row)) [
  | inl kept ↦ rw kept (all.0, kept-small P test rows all.1)
  | inr left ↦ rw left (kept-small P test rows all.1)
]

map-small : (rows : List Fields) → AllByRecursion (λ row. IsSmallValue (value_in row)) rows → AllByRecursion IsSmallValue (map value_in rows)
map-small [] all = tt
map-small (row ∷ rows) all = (all.0, map-small rows all.1)

pub kept-few : (test : Fields → Bool) (rows : List Fields) → length (filter test rows) ≤ length rows
kept-few test rows = omega (arith, length-filter test rows, count_by-le-length test rows)

-- ---- what is told of a group

abbrev AreFew : List Fields → Type 0
AreFew rows = (length rows ≤ 1000000) × AllByRecursion (λ row. IsSmallValue (value_in row)) rows

kept-few_small : (test : Fields → Bool) (rows : List Fields) → AreFew rows → AreFew (filter test rows)
kept-few_small test rows few = (omega (arith, kept-few test rows, few.0), kept-small (λ row. IsSmallValue (value_in row)) test rows few.1)

-- the part is the count, or of the price
abbrev IsOfPrice : Part → Type 0
IsOfPrice part = unwrap_or part.column 0 ≡ price

told-stays : (part : Part) (rows : List Fields) → IsOfPrice part → AreFew rows → leaves_i64 (told_of trial_job heading rows part) ≡ false
told-stays part rows of few =
    let os = map value_in rows in
    let size : length os ≡ length rows = length-map rows value_in in
    let stays : leaves_i64 (aggregated part.agg os) ≡ false =
    near-stays (aggregated part.agg os) (length os) (omega (arith, size, few.0)) (aggregated-near part.agg os (map-small rows few.1)) in
    subst (λ (column : ℕ). leaves_i64 (aggregated part.agg (map (λ row. value_at trial_job heading row column) rows)) ≡ false) (sym of) stays

tells-stay : (parts : List Part) (rows : List Fields) → AllByRecursion IsOfPrice parts → AreFew rows
    → list_any leaves_i64 (map (told_of trial_job heading rows) parts) ≡ false
tells-stay [] rows of few = refl
tells-stay (part ∷ parts) rows of few = rw (told-stays part rows of.0 few) (tells-stay parts rows of.1 few)

-- ---- groups

abbrev Told : Type 0
Told = Fields × List (Option ℤ)

module _ (parts : List Part) (rows : List Fields) where
  abbrev pub by_key : Fields → Fields
  by_key = group_of trial_job heading (key ∷ [])

  -- what is told of a group
  abbrev pub tell : Fields → List (Option ℤ)
  tell group = map (told_of trial_job heading (members trial_job heading (key ∷ []) rows group)) parts

  pub groups-are : groups trial_job heading (key ∷ []) parts rows ≡ map (λ c. (c.group, tell c.group)) (classes by_key rows)
  groups-are = entries-classes by_key tell rows

  none-wide : (cs : List Class) → AllByRecursion IsOfPrice parts → AreFew rows
      → find (λ (group : Told). list_any leaves_i64 group.1) (map (λ c. (c.group, tell c.group)) cs) ≡ None
  none-wide [] of few = refl
  none-wide (c ∷ cs) of few =
      rw (tells-stay parts (members trial_job heading (key ∷ []) rows c.group) of (kept-few_small _ rows few)) (none-wide cs of few)

  groups-fit : AllByRecursion IsOfPrice parts → AreFew rows
      → find (λ (group : Told). list_any leaves_i64 group.1) (groups trial_job heading (key ∷ []) parts rows) ≡ None
  groups-fit of few = ap (find (λ (group : Told). list_any leaves_i64 group.1)) groups-are ∙ none-wide (classes by_key rows) of few

-- ---- the job

trial-few : (rows : ℕ) → rows ≤ 1000000 → AreFew (trial_rows rows)
trial-few rows few =
    let count : length (numbers_of rows) ≡ rows = length-map-range_with_len number_of_row 1 rows in
    (omega (arith, length-map (numbers_of rows) row_of, count), prices-small (numbers_of rows))

derived-few : (dataset rows : ℕ) → rows ≤ 1000000 → AreFew (derived trial_job heading dataset (trial_rows rows))
derived-few dataset rows few = kept-few_small (is_in trial_job heading dataset) (trial_rows rows) (trial-few rows few)

-- no query has a group that is too wide
wide-none : (rows : List Fields) (queries : List Query) (n : ℕ) → AllByRecursion (λ query. wide_key trial_job heading rows query ≡ None) queries
    → wide_from trial_job heading rows n queries ≡ None
wide-none rows [] n none = refl
wide-none rows (query ∷ queries) n none =
    ap (λ (found : Option (List ℕ)). option_or (option_map (λ key. (n, key)) found) (wide_from trial_job heading rows (n + 1) queries)) none.0
    ∙ wide-none rows queries (n + 1) none.1

group-none : (parts : List Part) (rows : List Fields) → AllByRecursion IsOfPrice parts → AreFew rows → shape_wide trial_job heading rows (Group (key ∷ []) parts) ≡ None
group-none parts rows of few = ap (option_map (λ (group : Told). flat_map spelled group.0)) (groups-fit parts rows of few)

pub trials-fit : TrialsFit
trials-fit rows few =
    let over = λ (dataset : ℕ). derived trial_job heading dataset (trial_rows rows) in
    let sums = group-none (counts ∷ of_price Sum ∷ []) (over 1) (refl, (refl, tt)) (derived-few 1 rows few) in
    let limits = group-none (of_price Min ∷ of_price Max ∷ []) (over 2) (refl, (refl, tt)) (derived-few 2 rows few) in
    let keys = group-none (counts ∷ []) (over 0) (refl, tt) (derived-few 0 rows few) in
    wide-none (trial_rows rows) trial_job.queries 0 (sums, (refl, (limits, (keys, tt))))
