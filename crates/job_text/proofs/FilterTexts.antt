-- A filter that is printed token by token is its printed tokens.
use Rattle.std.proofs.Common.{◌≡◌, ℕ, zero, suc, ◌+◌, ◌<◌, Bool, true, false, List, [], ◌∷◌, ◌++◌, length, take, get_or, refl, sym, ap, subst, ◌∙◌, arith}
use Rattle.std.specs.Prelude.{All}
use Rattle.row_filter.specs.declared.filter.Comparison.{Comparison}
use Rattle.row_filter.specs.declared.filter.Constant.{Constant}
use Rattle.row_filter.specs.declared.filter.Filter.{Filter}
use Rattle.row_filter.specs.declared.filter.Filter.TheVariants as filters
use Rattle.job_text.specs.declared.mark.Mark.{Mark}
use Rattle.job_text.specs.declared.mark.Mark.TheVariants as marks
use Rattle.job_text.specs.declared.token.Token.{Token}
use Rattle.job_text.specs.declared.token.Token.TheVariants.{Fixed}
use Rattle.job_text.specs.Grammar.{optional}
use Rattle.job_text.specs.Printing.{place_tokens, sign_before}
use Rattle.job_text.specs.Sheets.{Sheet, with_token, with_tokens}
use Rattle.job_text.specs.FilterForms.{FilterForm, filter_places, list_places}
use Rattle.job_text.specs.FilterPrinting.{PrintedFilter, printed_filter, printed_in, enclosed, list_tokens, test_mark, constant_token}
use Rattle.job_text.proofs.Texts.{with_tokens-one, with_tokens-cons, with_tokens-nil, with_tokens-append, three_lists, item_written}
use Rattle.job_text.proofs.FilterEquations.{form-test, printed-test, printed-and, printed-or, printed-not}
use Rattle.job_text.proofs.FilterPrinted.{separated-map}
use Rattle.job_text.proofs.FilterItems.{All-left, All-right}

-- ---- columns are among the names

pub test_named : (n column : ℕ) (test : Comparison) (constant : Constant) → All (λ c. c < n) (filter_places (filters.Test column test constant)) → column < n
test_named n column test constant h = (subst (λ (k : FilterForm). All (λ c. c < n) k.columns) (form-test column test constant) h) 0 0 (omega arith)

nth_named : (n : ℕ) (fs : List Filter) (i : ℕ) (d : Filter) → i < length fs → All (λ c. c < n) (list_places fs) → All (λ c. c < n) (filter_places (get_or fs i d))
nth_named n [] i d lt h = absurd (omega arith)
nth_named n (f ∷ fs) zero d lt h = All-left (λ c. c < n) (filter_places f) (list_places fs) h
nth_named n (f ∷ fs) (suc i) d lt h = nth_named n fs i d (omega (arith, lt)) (All-right (λ c. c < n) (filter_places f) (list_places fs) h)

pub item_named : (n : ℕ) (fs : List Filter) (i : ℕ) (f : Filter) → i < length fs → f ≡ get_or fs i f → All (λ c. c < n) (list_places fs) → All (λ c. c < n) (filter_places f)
item_named n fs i f lt e h = subst (λ (g : Filter). All (λ c. c < n) (filter_places g)) (sym e) (nth_named n fs i f lt h)

-- ---- tokens

bare_in : (as_unit : Bool) (ts : List Token) → printed_in as_unit (record { plain = ts; unit = ts }) ≡ ts
bare_in true ts = refl
bare_in false ts = refl

module _ (names : List (List ℕ)) (as_unit : Bool) (s : Sheet) where
  pub test_text : (column : ℕ) (test : Comparison) (constant : Constant)
      → with_token (with_token (with_tokens s (place_tokens names column)) (Fixed (test_mark test))) (constant_token constant) ≡ with_tokens s (printed_in as_unit (printed_filter names (filters.Test column test constant)))
  test_text column test constant =
      let ts : List Token = Fixed (test_mark test) ∷ constant_token constant ∷ [] in
      let front : Sheet = with_tokens s (place_tokens names column) in
      sym (with_tokens-append (place_tokens names column) ts s ∙ with_tokens-cons front (Fixed (test_mark test)) (constant_token constant ∷ []) ∙ with_tokens-one (with_token front (Fixed (test_mark test))) (constant_token constant))
      ∙ ap (with_tokens s) (sym (ap (printed_in as_unit) (printed-test names column test constant) ∙ bare_in as_unit (place_tokens names column ++ ts)))

  pub not_text : (f : Filter) → with_tokens (with_token s (Fixed marks.Not)) (printed_filter names f).unit ≡ with_tokens s (printed_in as_unit (printed_filter names (filters.Not f)))
  not_text f =
      let ts : List Token = Fixed marks.Not ∷ (printed_filter names f).unit in
      sym (with_tokens-cons s (Fixed marks.Not) (printed_filter names f).unit)
      ∙ ap (with_tokens s) (sym (ap (printed_in as_unit) (printed-not names f) ∙ bare_in as_unit ts))

enclosed_text : (as_unit : Bool) (s : Sheet) (ts : List Token) → with_tokens (with_tokens (with_tokens s (optional as_unit marks.Open)) ts) (optional as_unit marks.Close) ≡ with_tokens s (printed_in as_unit (enclosed ts))
enclosed_text true s ts = three_lists s (Fixed marks.Open ∷ []) ts (Fixed marks.Close ∷ [])
enclosed_text false s ts = with_tokens-nil (with_tokens (with_tokens s []) ts) ∙ ap (λ (o : Sheet). with_tokens o ts) (with_tokens-nil s)

module _ (names : List (List ℕ)) (as_unit : Bool) (s : Sheet) (fs : List Filter) where
  pub and_text : with_tokens (with_tokens (with_tokens s (optional as_unit marks.Open)) (list_tokens names marks.And true fs)) (optional as_unit marks.Close) ≡ with_tokens s (printed_in as_unit (printed_filter names (filters.And fs)))
  and_text =
      enclosed_text as_unit s (list_tokens names marks.And true fs)
      ∙ ap (with_tokens s) (sym (ap (printed_in as_unit) (printed-and names fs) ∙ ap (λ (ts : List Token). printed_in as_unit (enclosed ts)) (separated-map marks.And (λ (p : PrintedFilter). p.unit) (printed_filter names) fs)))

  pub or_text : with_tokens (with_tokens (with_tokens s (optional as_unit marks.Open)) (list_tokens names marks.Or false fs)) (optional as_unit marks.Close) ≡ with_tokens s (printed_in as_unit (printed_filter names (filters.Or fs)))
  or_text =
      enclosed_text as_unit s (list_tokens names marks.Or false fs)
      ∙ ap (with_tokens s) (sym (ap (printed_in as_unit) (printed-or names fs) ∙ ap (λ (ts : List Token). printed_in as_unit (enclosed ts)) (separated-map marks.Or (λ (p : PrintedFilter). p.plain) (printed_filter names) fs)))

-- ---- lists

-- an item behind those before it
pub nth_written : (names : List (List ℕ)) (sign : Mark) (as_units : Bool) (s : Sheet) (fs : List Filter) (i : ℕ) (f : Filter) → i < length fs → f ≡ get_or fs i f
    → with_tokens (with_tokens (with_tokens s (list_tokens names sign as_units (take i fs))) (sign_before i sign)) (printed_in as_units (printed_filter names f)) ≡ with_tokens s (list_tokens names sign as_units (take (i + 1) fs))
nth_written names sign as_units s fs i f lt e =
    let before : Sheet = with_tokens (with_tokens s (list_tokens names sign as_units (take i fs))) (sign_before i sign) in
    ap (λ (g : Filter). with_tokens before (printed_in as_units (printed_filter names g))) e
    ∙ item_written sign (λ (g : Filter). printed_in as_units (printed_filter names g)) s fs i f lt
