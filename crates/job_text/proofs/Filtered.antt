-- A filter is read in a dataset as it is read by itself.
use Rattle.std.proofs.Common.{◌≡◌, ℕ, List, [], ◌∷◌, ◌++◌, Option, Some, None, refl, ap, ◌∙◌, sym}
use Rattle.std.specs.Prelude.{option_and_then}
use Rattle.job_text.specs.declared.mark.Mark.TheVariants as marks
use Rattle.job_text.specs.declared.token.Token.{Token}
use Rattle.job_text.specs.declared.token.Token.TheVariants.{Fixed, Word, Quoted, Text, Whole}
use Rattle.job_text.specs.declared.filter_state.FilterAt.{FilterAt}
use Rattle.job_text.specs.declared.filter_state.FilterAt.TheVariants as filter_places
use Rattle.job_text.specs.declared.filter_state.FilterState.{FilterState}
use Rattle.job_text.specs.declared.job.Query.{Query}
use Rattle.job_text.specs.declared.job.Dataset.{Dataset}
use Rattle.job_text.specs.declared.state.At.TheVariants as at
use Rattle.job_text.specs.declared.state.Read.{Read}
use Rattle.job_text.specs.FilterStep.{filter_step, filter_steps, filter_mark, same_names}
use Rattle.job_text.specs.Step.{step, in_filter, filtered}
use Rattle.job_text.specs.Begins.{steps}
use Rattle.job_text.proofs.Fitting.{put}

-- a filter refuses what may stand behind it
refuses_keep : (s : FilterState) (place : FilterAt) → filter_mark s place marks.Keep ≡ None
refuses_keep s filter_places.Unit = refl
refuses_keep s (filter_places.Test column) = refl
refuses_keep s (filter_places.Constant column test) = refl
refuses_keep s filter_places.Behind = refl

refuses_semicolon : (s : FilterState) (place : FilterAt) → filter_mark s place marks.Semicolon ≡ None
refuses_semicolon s filter_places.Unit = refl
refuses_semicolon s (filter_places.Test column) = refl
refuses_semicolon s (filter_places.Constant column test) = refl
refuses_semicolon s filter_places.Behind = refl

no_keep : (names : List (List ℕ)) (s : FilterState) → filter_step names s (Fixed marks.Keep) ≡ None
unfolding filter_step
no_keep names s = ap (same_names names) (refuses_keep s s.at)

no_semicolon : (names : List (List ℕ)) (s : FilterState) → filter_step names s (Fixed marks.Semicolon) ≡ None
unfolding filter_step
no_semicolon names s = ap (same_names names) (refuses_semicolon s s.at)

nothing_taken : (next : List (List ℕ) × FilterState) → let none : Option (List (List ℕ) × FilterState) = None in none ≡ Some next → ⊥
nothing_taken next e = cc

module _ (r : Read) (name : List ℕ) (parent : ℕ) where
  pub taken_in : (s : FilterState) (t : Token) (next : List (List ℕ) × FilterState) → filter_step r.names s t ≡ Some next → in_filter r name parent s t ≡ Some (record { read = record r { names = next.0 }; at = at.Filter name parent next.1 })
  taken_in s (Fixed marks.Keep) next e = absurd (nothing_taken next (sym (no_keep r.names s) ∙ e))
  taken_in s (Fixed marks.Semicolon) next e = absurd (nothing_taken next (sym (no_semicolon r.names s) ∙ e))
  taken_in s t next e = ap (filtered r name parent) e

module _ (datasets : List Dataset) (queries : List Query) (name : List ℕ) (parent : ℕ) where
  pub step_in : (names : List (List ℕ)) (s : FilterState) (t : Token) → step (put names datasets queries (at.Filter name parent s)) t ≡ in_filter (record { names = names; datasets = datasets; queries = queries }) name parent s t
  unfolding step
  step_in names s (Fixed mark) = refl
  step_in names s (Word word) = refl
  step_in names s (Quoted column) = refl
  step_in names s (Text text) = refl
  step_in names s (Whole value) = refl

  one_step : (names : List (List ℕ)) (s : FilterState) (t : Token) (ts : List Token) (next : List (List ℕ) × FilterState) → filter_step names s t ≡ Some next
      → steps (put names datasets queries (at.Filter name parent s)) (t ∷ ts) ≡ steps (put next.0 datasets queries (at.Filter name parent next.1)) ts
  unfolding steps
  one_step names s t ts next e = ap (option_and_then (λ next. steps next ts)) (step_in names s t ∙ taken_in (record { names = names; datasets = datasets; queries = queries }) name parent s t next e)

  same_end : (names final : List (List ℕ)) (s last : FilterState) (rest : List Token) → (let one : Option (List (List ℕ) × FilterState) = Some (names, s) in one ≡ Some (final, last))
      → steps (put names datasets queries (at.Filter name parent s)) rest ≡ steps (put final datasets queries (at.Filter name parent last)) rest
  same_end names final s last rest e = ap (λ (p : List (List ℕ) × FilterState). steps (put p.0 datasets queries (at.Filter name parent p.1)) rest) (pair_is (names, s) (final, last) e)
    where
      pair_is : (one other : List (List ℕ) × FilterState) → (let a : Option (List (List ℕ) × FilterState) = Some one in a ≡ Some other) → one ≡ other
      pair_is one other e = cc

  -- the tokens of a filter, and others behind them
  pub filter_goes : (ts : List Token) (names final : List (List ℕ)) (s last : FilterState) (rest : List Token) → filter_steps names s ts ≡ Some (final, last)
      → steps (put names datasets queries (at.Filter name parent s)) (ts ++ rest) ≡ steps (put final datasets queries (at.Filter name parent last)) rest
  unfolding filter_steps
  filter_goes [] names final s last rest e = same_end names final s last rest e
  filter_goes (t ∷ ts) names final s last rest e = on (filter_step names s t) refl e (λ next r. filter_goes ts next.0 final next.1 last rest r)
    where
      on : (o : Option (List (List ℕ) × FilterState)) → filter_step names s t ≡ o → option_and_then (λ next. filter_steps next.0 next.1 ts) o ≡ Some (final, last)
          → ((next : List (List ℕ) × FilterState) → filter_steps next.0 next.1 ts ≡ Some (final, last) → steps (put next.0 datasets queries (at.Filter name parent next.1)) (ts ++ rest) ≡ steps (put final datasets queries (at.Filter name parent last)) rest)
          → steps (put names datasets queries (at.Filter name parent s)) (t ∷ (ts ++ rest)) ≡ steps (put final datasets queries (at.Filter name parent last)) rest
      on None es r go = absurd (nothing_taken (final, last) r)
      on (Some next) es r go = one_step names s t (ts ++ rest) next es ∙ go next r
