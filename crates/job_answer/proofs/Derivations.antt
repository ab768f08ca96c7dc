-- A dataset's rows are those of the dataset that it is made from which its filter keeps; and the input's are all.
use Rattle.std.proofs.Common.{◌≡◌, ◌+◌, ◌≤◌, ◌<◌, ◌∙◌, ℕ, zero, suc, Bool, true, false, cond, List, [], ◌∷◌, length, slice_index_or, refl, ap, arith}
use Rattle.std.specs.Prelude.{◌&&◌, slice_get}
use Rattle.std.specs.List.{filter, list_all}
use Rattle.std.specs.Option.{option_map_or}
use Rattle.job_text.specs.Jobs.{IsJob}
use Rattle.job_text.specs.declared.job.Dataset.{Dataset}
use Rattle.job_text.specs.declared.job.Job.{Job}
use Rattle.job_plan.specs.Columns.{Fields}
use Rattle.job_answer.specs.Derivation.{DatasetsFilterParents, InputHasAll}
use Rattle.job_answer.specs.Derived.{derived_each, is_in, line_of, line_within, parent_of, passes}
use Rattle.job_answer.specs.Numbered.{Numbered}

-- ---- each dataset is made from one with a lower number

earlier-at : (n : ℕ) (datasets : List Dataset) (place : ℕ) → ((k : ℕ) (d : Dataset) → k < length datasets → (slice_index_or datasets k d).parent ≤ n + k)
    → option_map_or (λ (made : Dataset). made.parent) (slice_get datasets place) 0 ≤ n + place
earlier-at n [] place earlier = omega arith
earlier-at n (made ∷ datasets) zero earlier = earlier 0 made (omega arith)
earlier-at n (made ∷ datasets) (suc place) earlier =
    let more = earlier-at (n + 1) datasets place (λ k d within. let here = earlier (suc k) d (omega arith) in omega arith) in
    omega arith

pub parent-below : (job : Job) → IsJob job → (before : ℕ) → parent_of job (suc before) ≤ before
parent-below job whole before =
    let most = earlier-at 0 job.datasets before (λ k d within. let here = whole.datasets.earlier k d within in omega arith) in
    omega arith

-- ---- its line goes on with that one's

module _ (job : Job) (below : (before : ℕ) → parent_of job (suc before) ≤ before) where
  line-steps : (steps others dataset : ℕ) → dataset ≤ steps → dataset ≤ others → line_within (parent_of job) steps dataset ≡ line_within (parent_of job) others dataset
  line-steps zero zero dataset within enough = refl
  line-steps zero (suc others) zero within enough = refl
  line-steps zero (suc others) (suc before) within enough = absurd (omega arith)
  line-steps (suc steps) zero zero within enough = refl
  line-steps (suc steps) zero (suc before) within enough = absurd (omega arith)
  line-steps (suc steps) (suc others) zero within enough = refl
  line-steps (suc steps) (suc others) (suc before) within enough =
      let most = below before in
      ap (λ (rest : List ℕ). suc before ∷ rest) (line-steps steps others (parent_of job (suc before)) (omega arith) (omega arith))

  pub line-made : (before : ℕ) → line_of job (suc before) ≡ suc before ∷ line_of job (parent_of job (suc before))
  line-made before =
      let most = below before in
      ap (λ (rest : List ℕ). suc before ∷ rest) (line-steps before (parent_of job (suc before)) (parent_of job (suc before)) most (omega arith))

-- ---- rows

filter-all : {X : Type 0} (xs : List X) → filter (λ (x : X). true) xs ≡ xs
filter-all [] = refl
filter-all {X} (x ∷ xs) = ap (λ (rest : List X). x ∷ rest) (filter-all xs)

pub input-has-all : InputHasAll
input-has-all job header rows = filter-all rows

pub each-has-all : (job : Job) (header : Fields) (input : List Numbered) → derived_each job header 0 input ≡ input
each-has-all job header input = filter-all input

and-true : (b : Bool) → (b && true) ≡ b
and-true true = refl
and-true false = refl

and-false : (b : Bool) → (b && false) ≡ false
and-false true = refl
and-false false = refl

both-kept : {X : Type 0} (p : X → Bool) (b : Bool) (x : X) (rest : List X) → cond (p x && b) (x ∷ filter p rest) (filter p rest) ≡ filter p (cond b (x ∷ rest) rest)
both-kept p true x rest = ap (λ (kept : Bool). cond kept (x ∷ filter p rest) (filter p rest)) (and-true (p x))
both-kept p false x rest = ap (λ (kept : Bool). cond kept (x ∷ filter p rest) (filter p rest)) (and-false (p x))

filter-filter : {X : Type 0} (p q : X → Bool) (xs : List X) → filter (λ x. p x && q x) xs ≡ filter p (filter q xs)
filter-filter p q [] = refl
filter-filter {X} p q (x ∷ xs) =
    ap (λ (rest : List X). cond (p x && q x) (x ∷ rest) rest) (filter-filter p q xs) ∙ both-kept p (q x) x (filter q xs)

pub filter-parents : DatasetsFilterParents
filter-parents job header zero rows whole made = absurd (omega arith)
filter-parents job header (suc before) rows whole made =
    let p = λ (row : Fields). passes job header row (suc before) in
    let q = is_in job header (parent_of job (suc before)) in
    ap (λ (line : List ℕ). filter (λ row. list_all (passes job header row) line) rows) (line-made job (parent-below job whole) before)
    ∙ filter-filter p q rows
