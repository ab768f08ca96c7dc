-- A job's column stands among the kept ones, and a landed row has its field there.
use Rattle.std.proofs.Common.{◌≡◌, ◌+◌, ◌<◌, ◌∙◌, ℕ, zero, suc, Bool, true, false, List, [], ◌∷◌, Option, Some, None, map, length, slice_index_or, is_some, unwrap_or, refl, sym, ap, arith, inl, inr, eqb-true}
use Rattle.std.specs.Prelude.{◌==◌}
use Rattle.std.specs.List.{filter, list_any, position_from, range_with_len}
use Rattle.std.specs.Option.{option_map_or}
use Rattle.std.specs.Str.{bytes_eq}
use Rattle.std.proofs.lemmas.Bool.{cases_Bool, true≢false}
use Rattle.std.proofs.lemmas.List.{get_or-map}
use Rattle.std.proofs.lemmas.List.FromFn.{get_or-range_with_len, length-range_with_len}
use Rattle.std.proofs.lemmas.List.Folds.{list_any_at}
use Rattle.std.proofs.lemmas.Slice.Eq.{bytes_eq-Decides}
use Rattle.job_text.specs.declared.job.Job.{Job}
use Rattle.job_plan.specs.Columns.{Fields, kept, kept_place, missing, name_of, place, place_of, stands_at}
use Rattle.job_plan.specs.Entries.{field}
use Rattle.job_plan.specs.Rows.{landed_row}
use Rattle.job_answer.specs.Answer.{field_of}

-- ---- the first element that passes a test

position-found : {K : Type 0} (t : K → Bool) (i : ℕ) (xs : List K) → list_any t xs ≡ true
    → (k : ℕ) × (position_from t i xs ≡ Some (i + k)) × (k < length xs) × ((d : K) → t (slice_index_or xs k d) ≡ true)
position-found t i [] h = absurd (true≢false (sym h))
position-found t i (x ∷ xs) h = elim (cases_Bool (t x)) [
  | inl here ↦ (0, rw here (ap Some (omega arith)), omega arith, λ d. here)
  | inr past ↦
      let more = position-found t (i + 1) xs (rw past at h) in
      (suc more.0, rw past (more.1 ∙ ap Some (omega arith)), omega arith, more.3)
]

position-stands : {K : Type 0} (t : K → Bool) (i : ℕ) (xs : List K) (p : ℕ) → position_from t i xs ≡ Some p
    → (k : ℕ) × (p ≡ i + k) × (k < length xs) × ((d : K) → t (slice_index_or xs k d) ≡ true)
position-stands t i [] p h = cc h
position-stands t i (x ∷ xs) p h = elim (cases_Bool (t x)) [
  | inl here ↦
      let same : Some i ≡ Some p = rw here at h in
      let first : i ≡ p = cc same in
      (0, omega arith, omega arith, λ d. here)
  | inr past ↦
      let more = position-stands t (i + 1) xs p (rw past at h) in
      (suc more.0, omega arith, omega arith, more.3)
]

any-filter : {K : Type 0} (t s : K → Bool) (xs : List K) (k : ℕ) (d : K) → k < length xs → t (slice_index_or xs k d) ≡ true → s (slice_index_or xs k d) ≡ true
    → list_any t (filter s xs) ≡ true
any-filter t s [] k d within passes stays = absurd (omega arith)
any-filter t s (x ∷ xs) zero d within passes stays = rw (stays, passes) refl
any-filter t s (x ∷ xs) (suc k) d within passes stays =
    let more = any-filter t s xs k d (omega arith) passes stays in
    elim (cases_Bool (s x)) [
      | inl here ↦ elim (cases_Bool (t x)) [
        | inl first ↦ rw (here, first) refl
        | inr later ↦ rw (here, later) more
      ]
      | inr past ↦ rw past more
    ]

-- ---- a column's place in the header

some-value : {A : Type 0} (o : Option A) → is_some o ≡ true → (x : A) × (o ≡ Some x)
some-value None h = absurd (true≢false (sym h))
some-value (Some x) h = (x, refl)

name-found : (names : List (List ℕ)) (header : Fields) (column : ℕ) → missing names header ≡ None → column < length names
    → is_some (place (slice_index_or names column []) header) ≡ true
name-found [] header column h within = absurd (omega arith)
name-found (name ∷ names) header zero h within = elim (cases_Bool (is_some (place name header))) [
  | inl known ↦ known
  | inr lacking ↦ let none : Some name ≡ None = rw lacking at h in cc
]
name-found (name ∷ names) header (suc column) h within = elim (cases_Bool (is_some (place name header))) [
  | inl known ↦ name-found names header column (rw known at h) (omega arith)
  | inr lacking ↦ let none : Some name ≡ None = rw lacking at h in cc
]

name-stands : (name : List ℕ) (header : Fields) (p : ℕ) → place name header ≡ Some p → (p < length header) × (slice_index_or header p [] ≡ name)
name-stands name header p h =
    let there = position-stands (λ field. bytes_eq field name) 0 header p h in
    let same : p ≡ there.0 = omega arith in
    rw same (there.2, (bytes_eq-Decides (slice_index_or header there.0 []) name).0 (there.3 []))

-- the place of one of a job's columns, where the header lacks none
place-is : (job : Job) (header : Fields) (column : ℕ) → missing job.names header ≡ None → column < length job.names
    → place (name_of job column) header ≡ Some (place_of job header column)
place-is job header column found named =
    let there = some-value (place (name_of job column) header) (name-found job.names header column found named) in
    there.1 ∙ ap Some (sym (ap (λ (o : Option ℕ). unwrap_or o 0) there.1))

-- ---- among the kept ones

pub same-number : (n : ℕ) → (n == n) ≡ true
same-number n = grind arith

kept-has : (job : Job) (header : Fields) (column : ℕ) → missing job.names header ≡ None → column < length job.names
    → list_any (λ p. p == place_of job header column) (kept job.names header) ≡ true
kept-has job header column found named =
    let at = place_of job header column in
    let is = place-is job header column found named in
    let stands = name-stands (name_of job column) header at is in
    let all = range_with_len 0 (length header) in
    let here : slice_index_or all at 0 ≡ at = get_or-range_with_len 0 (length header) at 0 stands.0 ∙ (omega arith) in
    let within : at < length all = omega (arith, length-range_with_len 0 (length header)) in
    let test : stands_at header at (name_of job column) ≡ true = ap (λ (o : Option ℕ). option_map_or (λ q. q == at) o false) is ∙ same-number at in
    let stays : list_any (stands_at header at) job.names ≡ true = list_any_at (stands_at header at) job.names column [] named test in
    any-filter (λ p. p == at) (λ p. list_any (stands_at header p) job.names) all at 0 within
    (ap (λ (p : ℕ). p == at) here ∙ same-number at)
    (ap (λ (p : ℕ). list_any (stands_at header p) job.names) here ∙ stays)

-- where a column stands among the kept ones
pub record IsKept (job : Job) (header : Fields) (column : ℕ) : Type 0 where
  pub within : kept_place job header column < length (kept job.names header)
  pub there : (d : ℕ) → slice_index_or (kept job.names header) (kept_place job header column) d ≡ place_of job header column

pub column-kept : (job : Job) (header : Fields) (column : ℕ) → missing job.names header ≡ None → column < length job.names → IsKept job header column
column-kept job header column found named =
    let at = place_of job header column in
    let has = position-found (λ p. p == at) 0 (kept job.names header) (kept-has job header column found named) in
    let same : kept_place job header column ≡ has.0 = ap (λ (o : Option ℕ). unwrap_or o 0) has.1 ∙ (omega arith) in
    record {
      within = rw same has.2;
      there = λ d. ap (λ (k : ℕ). slice_index_or (kept job.names header) k d) same ∙ eqb-true _ _ (has.3 d);
    }

-- the field of a column among the kept ones
pub field-kept : (job : Job) (header : Fields) (column : ℕ) (row : Fields) → IsKept job header column
    → slice_index_or (map (λ p. slice_index_or row p []) (kept job.names header)) (kept_place job header column) [] ≡ field_of job header row column
field-kept job header column row is =
    get_or-map (λ p. slice_index_or row p []) (kept job.names header) (kept_place job header column) 0 [] is.within
    ∙ ap (λ (p : ℕ). slice_index_or row p []) (is.there 0)

-- the same in a landed row
pub field-landed : (job : Job) (header : Fields) (column n : ℕ) (row : Fields) → IsKept job header column
    → field (landed_row (kept job.names header) n row) (kept_place job header column) ≡ field_of job header row column
field-landed job header column n row is =
    let next : kept_place job header column + 1 ≡ suc (kept_place job header column) = omega arith in
    ap (λ (k : ℕ). slice_index_or (landed_row (kept job.names header) n row) k []) next ∙ field-kept job header column row is
