-- A name keeps its place while names are added.
use Rattle.std.proofs.Common.{◌≡◌, ◌≢◌, ℕ, suc, ◌+◌, ◌<◌, ◌≤◌, true, false, List, [], ◌∷◌, ◌++◌, length, get_or, refl, sym, ap, ◌∙◌, arith, inl, inr}
use Rattle.std.specs.Prelude.{All}
use Rattle.std.specs.Str.{bytes_eq}
use Rattle.std.proofs.lemmas.Bool.{cases_Bool, lt-ltb, le-ltb, ltb-true, ltb-false, true≢false}
use Rattle.std.proofs.lemmas.List.Elements.{All-nil, All-cons}
use Rattle.std.proofs.lemmas.Slice.Eq.{bytes_eq-Decides}
use Rattle.job_text.specs.Columns.{place_of, is_among, with_name, with_names}
use Rattle.job_text.specs.Jobs.{IsDistinct}
use Rattle.job_text.proofs.Fresh.{length-with_name, place_below, name_at}
use Rattle.job_text.proofs.Growing.{All-with_name, distinct-with_name}

-- the name is one of these
abbrev pub Knows : List (List ℕ) → List ℕ → Type 0
Knows names name = place_of names name < length names

module _ (first : List ℕ) (names : List (List ℕ)) (name : List ℕ) where
  place_first : bytes_eq first name ≡ true → place_of (first ∷ names) name ≡ 0
  place_first e = rw e refl

  place_later : bytes_eq first name ≡ false → place_of (first ∷ names) name ≡ place_of names name + 1
  place_later e = rw e refl

  with_first : bytes_eq first name ≡ true → with_name (first ∷ names) name ≡ first ∷ names
  with_first e = rw e refl

  with_later : bytes_eq first name ≡ false → with_name (first ∷ names) name ≡ first ∷ with_name names name
  with_later e = rw e refl

-- a name that stands among some stands at its place whatever follows
pub place_of-append : (names more : List (List ℕ)) (name : List ℕ) → Knows names name → place_of (names ++ more) name ≡ place_of names name
place_of-append [] more name lt = absurd (omega arith)
place_of-append (first ∷ names) more name lt = elim (cases_Bool (bytes_eq first name)) [
  | inl e ↦ place_first first (names ++ more) name e ∙ sym (place_first first names name e)
  | inr e ↦
      place_later first (names ++ more) name e
      ∙ ap (λ (n : ℕ). n + 1) (place_of-append names more name (omega (arith, lt, place_later first names name e))) ∙ sym (place_later first names name e)
]

-- what isn't among some isn't one of them
pub not_among : (names : List (List ℕ)) (name : List ℕ) → is_among names name ≡ false → All (λ other. other ≢ name) names
not_among [] name h = All-nil (λ other. other ≢ name)
not_among (first ∷ names) name h = elim (cases_Bool (bytes_eq first name)) [
  | inl e ↦ absurd (true≢false (sym (lt-ltb (place_of (first ∷ names) name) (length (first ∷ names)) (omega (arith, place_first first names name e))) ∙ h))
  | inr e ↦ All-cons (λ other. other ≢ name) first names (λ same. true≢false (sym ((bytes_eq-Decides first name).1 same) ∙ e))
      (not_among names name (le-ltb (place_of names name) (length names) (omega (arith, place_later first names name e, ltb-false (place_of (first ∷ names) name) (length (first ∷ names)) h))))
]

pub among_is : (names : List (List ℕ)) (name : List ℕ) → is_among names name ≡ true → Knows names name
among_is names name h = ltb-true (place_of names name) (length names) h

-- ---- one name more

place_of-with_name : (names : List (List ℕ)) (name : List ℕ) → place_of (with_name names name) name ≡ place_of names name
place_of-with_name [] name = place_first name [] name ((bytes_eq-Decides name name).1 refl)
place_of-with_name (first ∷ names) name = elim (cases_Bool (bytes_eq first name)) [
  | inl e ↦ ap (λ (l : List (List ℕ)). place_of l name) (with_first first names name e)
  | inr e ↦
      ap (λ (l : List (List ℕ)). place_of l name) (with_later first names name e) ∙ place_later first (with_name names name) name e
      ∙ ap (λ (n : ℕ). n + 1) (place_of-with_name names name) ∙ sym (place_later first names name e)
]

place_kept : (names : List (List ℕ)) (other name : List ℕ) → Knows names name → place_of (with_name names other) name ≡ place_of names name
place_kept [] other name lt = absurd (omega arith)
place_kept (first ∷ names) other name lt = elim (cases_Bool (bytes_eq first other)) [
  | inl f ↦ ap (λ (l : List (List ℕ)). place_of l name) (with_first first names other f)
  | inr f ↦ ap (λ (l : List (List ℕ)). place_of l name) (with_later first names other f) ∙ elim (cases_Bool (bytes_eq first name)) [
    | inl e ↦ place_first first (with_name names other) name e ∙ sym (place_first first names name e)
    | inr e ↦
        place_later first (with_name names other) name e
        ∙ ap (λ (n : ℕ). n + 1) (place_kept names other name (omega (arith, lt, place_later first names name e))) ∙ sym (place_later first names name e)
  ]
]

-- ---- more names

place_after : (later : List (List ℕ)) (names : List (List ℕ)) (name : List ℕ) → Knows names name → place_of (with_names names later) name ≡ place_of names name
place_after [] names name lt = refl
place_after (other ∷ later) names name lt =
    place_after later (with_name names other) name (omega (arith, lt, place_kept names other name lt, length-with_name names other)) ∙ place_kept names other name lt

length-with_names : (later : List (List ℕ)) (names : List (List ℕ)) → length names ≤ length (with_names names later)
length-with_names [] names = omega arith
length-with_names (other ∷ later) names = omega (arith, length-with_name names other, length-with_names later (with_name names other))

known_now : (names : List (List ℕ)) (name : List ℕ) → Knows (with_name names name) name
known_now names name = omega (arith, place_of-with_name names name, place_below names name)

-- the place where a name is added is its place from then on
pub place_now : (names : List (List ℕ)) (name : List ℕ) (later : List (List ℕ)) → place_of names name ≡ place_of (with_names (with_name names name) later) name
place_now names name later = sym (place_after later (with_name names name) name (known_now names name) ∙ place_of-with_name names name)

pub known : (names : List (List ℕ)) (name : List ℕ) (later : List (List ℕ)) → Knows (with_names (with_name names name) later) name
known names name later =
    omega (arith, known_now names name, place_after later (with_name names name) name (known_now names name), length-with_names later (with_name names name))

pub all_known : (more : List (List ℕ)) (names : List (List ℕ)) → All (Knows (with_names names more)) more
all_known [] names = All-nil (Knows names)
all_known (name ∷ more) names = All-cons (Knows (with_names (with_name names name) more)) name more (known names name more) (all_known more (with_name names name))

pub with_names-append : (one two : List (List ℕ)) (names : List (List ℕ)) → with_names names (one ++ two) ≡ with_names (with_names names one) two
with_names-append [] two names = refl
with_names-append (name ∷ one) two names = with_names-append one two (with_name names name)

-- two names at one place are one
pub same_name : (names : List (List ℕ)) (one other : List ℕ) → Knows names one → Knows names other → place_of names one ≡ place_of names other → one ≡ other
same_name names one other k l e = sym (name_at names one k) ∙ ap (λ (p : ℕ). get_or names p []) e ∙ name_at names other l

pub All-with_names : (P : List ℕ → Type 0) (more : List (List ℕ)) (names : List (List ℕ)) → All P names → All P more → All P (with_names names more)
All-with_names P [] names h is = h
All-with_names P (name ∷ more) names h is = All-with_names P more (with_name names name) (All-with_name P names name h (is 0 [] (omega arith))) (λ k d lt. is (suc k) d (omega (arith, lt)))

pub distinct-with_names : (more : List (List ℕ)) (names : List (List ℕ)) → IsDistinct names → IsDistinct (with_names names more)
distinct-with_names [] names h = h
distinct-with_names (name ∷ more) names h = distinct-with_names more (with_name names name) (distinct-with_name names name h)
