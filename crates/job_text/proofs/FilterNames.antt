-- What a filter's tokens do to the names, and what reaches a state.
use Rattle.std.proofs.Common.{◌≡◌, ℕ, zero, suc, ◌<◌, ◌≤◌, true, false, List, [], ◌∷◌, ◌++◌, length, get_or, Option, Some, None, refl, arith, inl, inr}
use Rattle.std.specs.Prelude.{IfSome, option_and_then, if◌then◌else◌, Bool}
use Rattle.std.specs.Str.{bytes_eq}
use Rattle.std.proofs.lemmas.Bool.{cases_Bool}
use Rattle.std.proofs.lemmas.Slice.Eq.{bytes_eq-Decides}
use Rattle.job_text.specs.declared.token.Token.{Token}
use Rattle.job_text.specs.declared.token.Token.TheVariants.{Fixed, Word, Quoted, Text, Whole}
use Rattle.job_text.specs.declared.filter_state.FilterAt.{FilterAt}
use Rattle.job_text.specs.declared.filter_state.FilterAt.TheVariants as at
use Rattle.job_text.specs.declared.filter_state.FilterState.{FilterState}
use Rattle.job_text.specs.Columns.{place_of, with_name, with_names, is_short}
use Rattle.job_text.specs.Jobs.{IsDistinct}
use Rattle.job_text.specs.FilterStep.{filter_step, filter_steps, filter_mark, filter_column, filter_whole, same_names}
use Rattle.job_text.proofs.FilterViable.{FilterFits, filter_fits}

-- ---- one name at most

-- the names, with at most one more
abbrev pub OneNameMore : List (List ℕ) → List (List ℕ) → Type 0
OneNameMore names next = (more : List (List ℕ)) × (length more ≤ 1) × (with_names names more ≡ next)

no_name : (names : List (List ℕ)) (o : Option FilterState) → IfSome (same_names names o) (λ next. OneNameMore names next.0)
no_name names None = tt
no_name names (Some next) = ([], omega arith, refl)

one_if : (names : List (List ℕ)) (b : Bool) (next : List (List ℕ) × FilterState) → OneNameMore names next.0 → IfSome (if b then Some next else None) (λ next. OneNameMore names next.0)
one_if names true next h = h
one_if names false next h = tt

one_name : (names : List (List ℕ)) (s : FilterState) (place : FilterAt) (name : List ℕ) → IfSome (filter_column names s place name) (λ next. OneNameMore names next.0)
one_name names s at.Unit name = one_if names (is_short name) (with_name names name, record s { at = at.Test (place_of names name) }) (name ∷ [], omega arith, refl)
one_name names s (at.Test column) name = tt
one_name names s (at.Constant column test) name = tt
one_name names s at.Behind name = tt

pub filter_one_name : (names : List (List ℕ)) (s : FilterState) (t : Token) → IfSome (filter_step names s t) (λ next. OneNameMore names next.0)
unfolding filter_step
filter_one_name names s (Fixed mark) = no_name names (filter_mark s s.at mark)
filter_one_name names s (Word name) = one_name names s s.at name
filter_one_name names s (Quoted name) = one_name names s s.at name
filter_one_name names s (Text text) = no_name names _
filter_one_name names s (Whole number) = no_name names (filter_whole s s.at number)

-- ---- many tokens

on_next : (ts : List Token) (o : Option (List (List ℕ) × FilterState)) → ((next : List (List ℕ) × FilterState) → FilterFits next.1 → IfSome (filter_steps next.0 next.1 ts) (λ last. FilterFits last.1))
    → IfSome o (λ next. FilterFits next.1) → IfSome (option_and_then (λ next. filter_steps next.0 next.1 ts) o) (λ last. FilterFits last.1)
on_next ts None again h = tt
on_next ts (Some next) again h = again next h

pub steps_fit_filter : (ts : List Token) (names : List (List ℕ)) (s : FilterState) → FilterFits s → IfSome (filter_steps names s ts) (λ last. FilterFits last.1)
unfolding filter_steps
steps_fit_filter [] names s h = h
steps_fit_filter (t ∷ ts) names s h = on_next ts (filter_step names s t) (λ next f. steps_fit_filter ts next.0 next.1 f) (filter_fits names s t)

after : List Token → Option (List (List ℕ) × FilterState) → Option (List (List ℕ) × FilterState)
after us o = option_and_then (λ next. filter_steps next.0 next.1 us) o

on_append : (o : Option (List (List ℕ) × FilterState)) (ts us : List Token) → ((next : List (List ℕ) × FilterState) → filter_steps next.0 next.1 (ts ++ us) ≡ after us (filter_steps next.0 next.1 ts))
    → after (ts ++ us) o ≡ after us (after ts o)
unfolding after
on_append None ts us h = refl
on_append (Some next) ts us h = h next

pub filter_steps-append : (ts us : List Token) (names : List (List ℕ)) (s : FilterState) → filter_steps names s (ts ++ us) ≡ option_and_then (λ next. filter_steps next.0 next.1 us) (filter_steps names s ts)
unfolding after filter_steps
filter_steps-append [] us names s = refl
filter_steps-append (t ∷ ts) us names s = on_append (filter_step names s t) ts us (λ next. filter_steps-append ts us next.0 next.1)

-- ---- in distinct names each stands at its place

pub distinct_place : (names : List (List ℕ)) (c : ℕ) → IsDistinct names → c < length names → place_of names (get_or names c []) ≡ c
distinct_place [] c h lt = absurd (omega arith)
distinct_place (first ∷ names) zero h lt = rw ((bytes_eq-Decides first first).1 refl) refl
distinct_place (first ∷ names) (suc c) h lt = elim (cases_Bool (bytes_eq first (get_or names c []))) [
  | inl e ↦ absurd (h 0 (suc c) [] (omega arith) lt ((bytes_eq-Decides first (get_or names c [])).0 e))
  | inr e ↦ rw e (omega (arith, distinct_place names c (λ i j d less within. h (suc i) (suc j) d (omega (arith, less)) (omega (arith, within))) (omega (arith, lt))))
]
