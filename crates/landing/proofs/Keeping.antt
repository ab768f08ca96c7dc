-- Rows that pass the checks: what their landed rows are.
use Rattle.std.proofs.Common.{◌≡◌, ◌≤◌, ◌<◌, ◌+◌, ◌*◌, ◌^◌, ◌∷◌, ◌∙◌, [], ℕ, zero, suc, List, Option, Some, None, Bool, true, false, length, take, map, refl, sym, ap, subst, inl, inr, arith, get_or, w64, add-one}
use Rattle.std.specs.Prelude.{◌||◌, ◌==◌, not, nat_lt, option_map, All}
use Rattle.std.specs.List.{find, filter, list_any, range_with_len, sum_by}
use Rattle.std.specs.Int.{to_be_bytes}
use Rattle.std.proofs.lemmas.Bool.{cases_Bool, ltb-false, eqb-true}
use Rattle.std.proofs.lemmas.List.{get_or-map, length-map, length-take-le}
use Rattle.std.proofs.lemmas.List.Elements.{All-cons, All-map, All-nil}
use Rattle.std.proofs.lemmas.List.Filters.{length-filter_both, sum_by-filter_both}
use Rattle.std.proofs.lemmas.List.FromFn.{length-range_with_len}
use Rattle.std.proofs.lemmas.List.Sums.{sum_by-cons, sum_by_more_le}
use Rattle.std.proofs.lemmas.Simd.{pick_l_whole}
use Rattle.row_page.specs.Spelling.{row_length}
use Rattle.row_form.specs.Forms.{HasForm, IsNumberAt}
use Rattle.row_form.specs.Numbers.{may_be}
use Rattle.row_form.specs.declared.number_list.NumberPlace.{NumberPlace}
use Rattle.row_form.specs.declared.form.Form.{Form}
use Rattle.row_form.specs.declared.form.Form.TheVariants.{Landed}
use Rattle.job_text.specs.declared.job.Job.{Job}
use Rattle.job_plan.specs.Columns.{Fields, is_number_place, kept, number_columns, number_place, number_places, stands_at}
use Rattle.job_plan.specs.Entries.{field_bytes}
use Rattle.job_plan.specs.Plans.{form_in, places_in}
use Rattle.job_plan.specs.Rows.{landed_row}
use Rattle.landing.specs.Checks.{bad_place, head_at, is_too_long, number_heads}
use Rattle.landing.specs.Ruling.{IsRuled, refusal_by, refusal_in}
use Rattle.landing.specs.declared.fault.LandFault.TheVariants as fault
use Rattle.landing.specs.declared.rules.Rules.{Rules}

-- ---- numbers in a range that pass a test

pub filter_below : (test : ℕ → Bool) (a n top : ℕ) → a + n ≤ top → All (λ k. k < top) (filter test (range_with_len a n))
filter_below test a zero top h = All-nil (λ (k : ℕ). k < top)
filter_below test a (suc n) top h = elim (cases_Bool (test a)) [
  | inl passed ↦ rw passed (All-cons (λ (k : ℕ). k < top) a (filter test (range_with_len (a + 1) n)) (omega arith) (filter_below test (a + 1) n top (omega arith)))
  | inr failed ↦ rw failed (filter_below test (a + 1) n top (omega arith))
]

filter_few : (test : ℕ → Bool) (n : ℕ) → length (filter test (range_with_len 0 n)) ≤ n
filter_few test n = omega (arith, length-filter_both test (λ x. not (test x)) (λ x. refl) (range_with_len 0 n), length-range_with_len 0 n)

filter_sum : (test : ℕ → Bool) (f : ℕ → ℕ) (xs : List ℕ) → sum_by f (filter test xs) ≤ sum_by f xs
filter_sum test f xs = omega (arith, sum_by-filter_both test (λ x. not (test x)) (λ x. refl) f xs)

-- ---- lengths of fields

sum_map : (row : Fields) (places : List ℕ) → sum_by length (map (λ p. get_or row p []) places) ≡ sum_by (λ p. length (get_or row p [])) places
sum_map row [] = refl
sum_map row (p ∷ places) =
    sum_by-cons length (get_or row p []) (map (λ q. get_or row q []) places)
    ∙ ap (λ (n : ℕ). length (get_or row p []) + n) (sum_map row places)
    ∙ sym (sum_by-cons (λ (q : ℕ). length (get_or row q [])) p places)

-- fields at distinct places have no more bytes than all
kept_sum : (test : ℕ → Bool) (row : Fields) → sum_by length (map (λ p. get_or row p []) (filter test (range_with_len 0 (length row)))) ≤ sum_by length row
kept_sum test row =
    let all : sum_by length (map (λ p. get_or row p []) (range_with_len 0 (length row))) ≡ sum_by length row = ap (sum_by length) (pick_l_whole [] row (length row) refl) in
    omega (arith, all, sum_map row (filter test (range_with_len 0 (length row))), sum_map row (range_with_len 0 (length row)), filter_sum test (λ p. length (get_or row p [])) (range_with_len 0 (length row)))

pub row_total : (fields : Fields) → row_length fields ≡ 4 * length fields + sum_by length fields
row_total [] = refl
row_total (field ∷ fields) =
    omega (arith, sum_by-cons (λ (f : List ℕ). 4 + length f) field fields, sum_by-cons length field fields, row_total fields)

-- ---- what a row that passes has

or_parts : (a b : Bool) → (a || b) ≡ false → (a ≡ false) × (b ≡ false)
or_parts false b e = (refl, e)
or_parts true b e = cc e

not_parts : (a : Bool) → not a ≡ false → a ≡ true
not_parts true e = refl
not_parts false e = cc e

none_mapped : {A B : Type 0} (f : A → B) (o : Option A) → option_map f o ≡ None → o ≡ None
none_mapped f None e = refl
none_mapped f (Some x) e = cc e

pub record Passes (heads : List NumberPlace) (count max_rows n : ℕ) (row : Fields) : Type 0 where
  pub few : n ≤ max_rows
  pub fields : length row ≤ 1024
  pub bytes : sum_by length row ≤ 65536
  pub several : length row ≡ count
  pub numbers : bad_place heads row ≡ None

pub passes : (heads : List NumberPlace) (count max_rows n : ℕ) (row : Fields) → refusal_by heads count max_rows n row ≡ None → Passes heads count max_rows n row
passes heads count max_rows n row e = elim (cases_Bool (nat_lt max_rows n)) [
  | inl many ↦ absurd (let h = rw many at e in cc h)
  | inr few ↦ elim (cases_Bool (is_too_long row)) [
    | inl long ↦ absurd (let h = rw (few, long) at e in cc h)
    | inr short ↦ elim (cases_Bool (not (length row == count))) [
      | inl ragged ↦ absurd (let h = rw (few, short, ragged) at e in cc h)
      | inr even ↦
          let parts = or_parts (nat_lt 1024 (length row)) (nat_lt 65536 (sum_by length row)) short in
          let h = rw (few, short, even) at e in
          record {
            few = ltb-false max_rows n few;
            fields = ltb-false 1024 (length row) parts.0;
            bytes = ltb-false 65536 (sum_by length row) parts.1;
            several = eqb-true (length row) count (not_parts (length row == count) even);
            numbers = none_mapped (fault.BadNumber n) (bad_place heads row) h;
          }
    ]
  ]
]

find_none : {X : Type 0} (test : X → Bool) (xs : List X) → find test xs ≡ None → (i : ℕ) (d : X) → i < length xs → test (get_or xs i d) ≡ false
find_none test [] e i d lt = absurd (omega arith)
find_none test (x ∷ xs) e zero d lt = elim (cases_Bool (test x)) [
  | inl passed ↦ absurd (let h = rw passed at e in cc h)
  | inr failed ↦ failed
]
find_none test (x ∷ xs) e (suc i) d lt = elim (cases_Bool (test x)) [
  | inl passed ↦ absurd (let h = rw passed at e in cc h)
  | inr failed ↦ find_none test xs (rw failed at e) i d (omega arith)
]

-- ---- its landed row

-- the number columns are among the kept ones
pub numbers_within : (job : Job) (header : Fields) → All (λ place. place.column < length (kept job.names header)) (number_places job header)
numbers_within job header =
    let columns = length (kept job.names header) in
    All-map (λ (place : NumberPlace). place.column < columns) (number_place job header) (filter (is_number_place job header (number_columns job)) (range_with_len 0 columns))
    (filter_below (is_number_place job header (number_columns job)) 0 columns columns (omega arith))

-- the field of each number column may stand there
numbers_kept : (places : List ℕ) (numbers : List NumberPlace) (first : List ℕ) (row : Fields) → All (λ place. place.column < length places) numbers
    → bad_place (map (head_at places) numbers) row ≡ None
    → All (IsNumberAt (length places) (first ∷ map (λ p. get_or row p []) places)) numbers
numbers_kept places numbers first row within none i d lt =
    let place = get_or numbers i d in
    let head = head_at places place in
    let below : place.column < length places = within i d lt in
    let there : i < length (map (head_at places) numbers) = omega (arith, length-map numbers (head_at places)) in
    let at : get_or (map (head_at places) numbers) i d ≡ head = get_or-map (head_at places) numbers i d d lt in
    let found = find_none (λ (h : NumberPlace). not (may_be h (get_or row h.column []))) (map (head_at places) numbers)
    (none_mapped (λ (h : NumberPlace). h.column) (find (λ (h : NumberPlace). not (may_be h (get_or row h.column []))) (map (head_at places) numbers)) none) i d there in
    let field : get_or (map (λ p. get_or row p []) places) place.column [] ≡ get_or row (get_or places place.column 0) [] = get_or-map (λ p. get_or row p []) places place.column 0 [] below in
    (below, rw add-one (ap (may_be place) field ∙ not_parts (may_be head (get_or row head.column [])) (rw at at found)))

-- landed rows of a form are of it, are short, and have few fields
pub record IsKept (form : Form) (places : List ℕ) (n : ℕ) (row : Fields) : Type 0 where
  pub has_form : HasForm form (landed_row places n row)
  pub short : field_bytes (landed_row places n row) ≤ 65536
  pub few : length places ≤ 1024

kept_by : (job : Job) (header : Fields) (form : Form) (places : List ℕ) (heads : List NumberPlace) (count max_rows n : ℕ) (row : Fields)
    → form ≡ Landed (length (kept job.names header)) (number_places job header) → places ≡ kept job.names header → heads ≡ number_heads job header → count ≡ length header → length header ≤ 1024
    → Passes heads count max_rows n row → IsKept form places n row
kept_by job header form places heads count max_rows n row form_is places_are heads_are count_is few p =
    let columns = kept job.names header in
    let numbers = number_places job header in
    let test = λ (q : ℕ). list_any (stands_at header q) job.names in
    let same : length row ≡ length header = p.several ∙ count_is in
    let several : length (map (λ q. get_or row q []) columns) ≡ length columns = length-map columns (λ q. get_or row q []) in
    let sum : sum_by length (map (λ q. get_or row q []) (filter test (range_with_len 0 (length header)))) ≤ sum_by length row =
    subst (λ (m : ℕ). sum_by length (map (λ q. get_or row q []) (filter test (range_with_len 0 m))) ≤ sum_by length row) same (kept_sum test row) in
    record {
      has_form = rw (form_is, places_are) (omega (arith, several), refl, numbers_kept columns numbers (to_be_bytes w64 n) row (numbers_within job header) (rw heads_are at p.numbers));
      short = rw places_are (omega (arith, sum, p.bytes));
      few = rw places_are (omega (arith, filter_few test (length header), few));
    }

pub is_kept : (rules : Rules) (n : ℕ) (row : Fields) → IsRuled rules → refusal_in rules n row ≡ None → IsKept (form_in rules.plan) (places_in rules.plan) n row
is_kept rules n row ruled e =
    let are = ruled.are in
    kept_by ruled.job ruled.header (form_in rules.plan) (places_in rules.plan) rules.heads.items rules.count rules.max_rows n row are.planned.form are.planned.places are.heads are.count are.few
    (passes rules.heads.items rules.count rules.max_rows n row e)

-- there is room for each field that is put to it
pub row_fits : (form : Form) (places : List ℕ) (n : ℕ) (row : Fields) (i : ℕ) → IsKept form places n row → i < length places
    → row_length (to_be_bytes w64 n ∷ map (λ p. get_or row p []) (take i places)) + (4 + length (get_or row (get_or places i 0) [])) < 2 ^ 31
row_fits form places n row i k lt =
    let some = map (λ p. get_or row p []) (take i places) in
    let all = map (λ p. get_or row p []) places in
    let head = sum_by-cons (λ (f : List ℕ). 4 + length f) (to_be_bytes w64 n) some in
    let part : sum_by length some + length (get_or row (get_or places i 0) []) ≤ sum_by length all =
    rw (sum_map row (take i places), sum_map row places) (sum_by_more_le (λ p. length (get_or row p [])) places i 0 lt) in
    let count : length some ≡ i = length-map (take i places) (λ p. get_or row p []) ∙ length-take-le i places (omega arith) in
    omega (arith, head, part, count, row_total some, k.short, k.few)
