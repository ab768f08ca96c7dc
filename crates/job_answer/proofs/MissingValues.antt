-- A value of a landed row is missing exactly where its field is empty.
use Rattle.std.proofs.Common.{◌≡◌, ◌<◌, ◌∙◌, ◌++◌, ℕ, Bool, true, false, List, [], ◌∷◌, Option, Some, None, IfSome, IsTrue, map, length, slice_index_or, refl, ap, subst, arith, inl, inr, eqb-true}
use Rattle.std.specs.Prelude.{◌==◌, ◌&&◌, option_to_list}
use Rattle.std.specs.List.{AllByRecursion, Contains, filter, flat_map, list_any, range_with_len}
use Rattle.std.proofs.lemmas.Bool.{cases_Bool}
use Rattle.std.proofs.lemmas.List.Elements.{All-contains, All-from_recursion, Contains-append_right, recursion_from_All}
use Rattle.std.proofs.lemmas.List.Folds.{list_any_at}
use Rattle.std.proofs.lemmas.List.FromFn.{get_or-range_with_len, length-range_with_len}
use Rattle.row_form.specs.Forms.{HasForm, IsNumberAt}
use Rattle.row_form.specs.Numbers.{is_number, may_be, number}
use Rattle.row_form.specs.declared.form.Form.{Form}
use Rattle.row_form.specs.declared.form.Form.TheVariants.{Landed}
use Rattle.row_form.specs.declared.number_list.NumberPlace.{NumberPlace}
use Rattle.job_text.specs.Jobs.{IsAggregate, IsQuery, IsShape}
use Rattle.job_text.specs.declared.job.Job.{Job}
use Rattle.job_text.specs.declared.job.Part.{Part}
use Rattle.job_text.specs.declared.job.Query.{Query}
use Rattle.job_text.specs.declared.job.Shape.{Shape}
use Rattle.job_text.specs.declared.job.Shape.TheVariants.{Group, Order}
use Rattle.job_plan.specs.Columns.{Fields, is_number_place, kept, kept_place, number_columns, number_place, number_places, strict_columns, told_columns, told_in}
use Rattle.job_plan.specs.Entries.{field}
use Rattle.job_plan.specs.Plans.{places_in}
use Rattle.job_plan.specs.Rows.{landed_row}
use Rattle.job_answer.specs.Answer.{field_of}
use Rattle.job_answer.specs.MissingValues.{MissingIsEmpty}
use Rattle.job_answer.proofs.KeptFields.{column-kept, field-landed, same-number}

-- ---- one field

no-length : (field : List ℕ) → (length field == 0) ≡ true → field ≡ []
no-length [] is = refl
no-length (b ∷ bytes) is = let none = eqb-true (length (b ∷ bytes)) 0 is in absurd (omega arith)

second : (a b : Bool) → (a && b) ≡ true → b ≡ true
second true b is = is
second false b is = absurd (cc is)

field-missing : (place : NumberPlace) (field : List ℕ) → IsTrue (may_be place field) → number field ≡ None → field ≡ []
field-missing place field may none = elim (cases_Bool (is_number field)) [
  | inl known ↦ absurd (let some = rw known at none in cc)
  | inr other ↦ no-length field (second place.value (length field == 0) (rw other at may))
]

-- ---- the columns that queries tell are named

named-column : (names : ℕ) (column : Option ℕ) (rest : List ℕ) → IfSome column (λ k. k < names) → AllByRecursion (λ k. k < names) rest
    → AllByRecursion (λ k. k < names) (option_to_list column ++ rest)
named-column names None rest is all = all
named-column names (Some column) rest is all = (is, all)

named-parts : (names : ℕ) (parts : List Part) → AllByRecursion (IsAggregate names) parts
    → AllByRecursion (λ k. k < names) (flat_map (λ part. option_to_list part.column) parts)
named-parts names [] all = tt
named-parts names (part ∷ parts) all =
    named-column names part.column (flat_map (λ part. option_to_list part.column) parts) all.0.named (named-parts names parts all.1)

named-shape : (names : ℕ) (shape : Shape) → IsShape names shape → AllByRecursion (λ k. k < names) (told_in shape)
named-shape names (Group columns parts) is = named-parts names parts (recursion_from_All (IsAggregate names) parts is.2)
named-shape names (Order keys columns) is = tt

all-append : (P : ℕ → Type 0) (ks js : List ℕ) → AllByRecursion P ks → AllByRecursion P js → AllByRecursion P (ks ++ js)
all-append P [] js all more = more
all-append P (k ∷ ks) js all more = (all.0, all-append P ks js all.1 more)

named-queries : (names datasets : ℕ) (queries : List Query) → AllByRecursion (IsQuery names datasets) queries
    → AllByRecursion (λ k. k < names) (flat_map (λ query. told_in query.shape) queries)
named-queries names datasets [] all = tt
named-queries names datasets (query ∷ queries) all =
    all-append (λ k. k < names) (told_in query.shape) (flat_map (λ query. told_in query.shape) queries) (named-shape names query.shape all.0.shape)
    (named-queries names datasets queries all.1)

-- ---- each stands among the number columns of a landed row

-- what is true of all that is made of the kept ones is true of what is made of each that is kept
kept-places : (make : ℕ → NumberPlace) (keep : ℕ → Bool) (P : NumberPlace → Type 0) (ks : List ℕ) → AllByRecursion P (map make (filter keep ks))
    → AllByRecursion (λ k. keep k ≡ true → P (make k)) ks
kept-places make keep P [] all = tt
kept-places make keep P (k ∷ ks) all = elim (cases_Bool (keep k)) [
  | inl kept ↦ let both : P (make k) × AllByRecursion P (map make (filter keep ks)) = rw kept at all in ((λ is. both.0), kept-places make keep P ks both.1)
  | inr left ↦ let later : AllByRecursion P (map make (filter keep ks)) = rw left at all in ((λ is. absurd (let none = rw left at is in cc)), kept-places make keep P ks later)
]

any-contains : (test : ℕ → Bool) (ks : List ℕ) (k : ℕ) → Contains ks k → test k ≡ true → list_any test ks ≡ true
any-contains test ks k (i, within, there) is = list_any_at test ks i k within (ap test there ∙ is)

number-there : (job : Job) (header : Fields) (row : Fields) (column : ℕ) → kept_place job header column < length (kept job.names header)
    → HasForm (Landed (length (kept job.names header)) (number_places job header)) row → Contains (told_columns job) column
    → IsNumberAt (length (kept job.names header)) row (number_place job header (kept_place job header column))
number-there job header row column inside formed told =
    let k = kept_place job header column in
    let many = length (kept job.names header) in
    let P = IsNumberAt many row in
    let keep = is_number_place job header (number_columns job) in
    let make = number_place job header in
    let all = range_with_len 0 many in
    let each : AllByRecursion (λ j. keep j ≡ true → P (make j)) all = kept-places make keep P all (recursion_from_All P (number_places job header) formed.2) in
    let within : k < length all = omega (arith, length-range_with_len 0 many) in
    let here : slice_index_or all k 0 ≡ k = get_or-range_with_len 0 many k 0 inside ∙ (omega arith) in
    let at : keep k ≡ true → P (make k) = subst (λ (j : ℕ). keep j ≡ true → P (make j)) here (All-from_recursion (λ j. keep j ≡ true → P (make j)) all each k 0 within) in
    at
    (any-contains (λ c. kept_place job header c == k) (number_columns job) column (Contains-append_right (strict_columns job) (told_columns job) column told) (same-number k))

pub missing-empty : MissingIsEmpty
missing-empty job header plan n row column whole made formed told =
    let names = length job.names in
    let named : column < names =
    All-contains (λ k. k < names) (told_columns job) column
    (All-from_recursion (λ k. k < names) (told_columns job)
    (named-queries names (length job.datasets) job.queries (recursion_from_All (IsQuery names (length job.datasets)) job.queries whole.queries))) told in
    let is = column-kept job header column made.found named in
    let landed = landed_row (kept job.names header) n row in
    let form = subst (λ (form : Form). HasForm form (landed_row (places_in plan) n row)) made.form formed in
    let there =
    number-there job header landed column is.within
    (subst (λ (places : List ℕ). HasForm (Landed (length (kept job.names header)) (number_places job header)) (landed_row places n row)) made.places form) told in
    let place = number_place job header (kept_place job header column) in
    let may : IsTrue (may_be place (field_of job header row column)) = subst (λ (f : List ℕ). IsTrue (may_be place f)) (field-landed job header column n row is) there.1 in
    (field-missing place (field_of job header row column) may, λ empty. ap number empty)
