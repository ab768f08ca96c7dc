-- A row has a filter's columns exactly where it has those of the filters in it.
use Rattle.std.proofs.Common.{ℕ, ◌+◌, ◌<◌, List, [], ◌∷◌, ◌++◌, length, sym, subst, arith}
use Rattle.std.specs.Prelude.{All}
use Rattle.std.specs.List.{flat_map}
use Rattle.std.proofs.lemmas.List.{length-append, get_or_append_left, get_or-append-add}
use Rattle.std.proofs.lemmas.List.Elements.{All-append, All-cons, All-head, All-nil, All-tail}
use Rattle.row_filter.specs.declared.filter.Comparison.{Comparison}
use Rattle.row_filter.specs.declared.filter.Constant.{Constant}
use Rattle.row_filter.specs.declared.filter.Filter.{Filter}
use Rattle.row_filter.specs.declared.filter.Filter.TheVariants as filters
use Rattle.row_filter.specs.Meaning.{columns_of}
use Rattle.row_filter.specs.Rows.{HasTestedColumns}
use Rattle.row_filter.proofs.Meanings.{columns-test, columns-and, columns-or, columns-not}

pub All-left : {X : Type 0} (P : X → Type 0) (xs ys : List X) → All P (xs ++ ys) → All P xs
All-left P xs ys h k d lt = subst P (get_or_append_left xs ys d k lt) (h k d (omega (arith, lt, length-append xs ys)))

pub All-right : {X : Type 0} (P : X → Type 0) (xs ys : List X) → All P (xs ++ ys) → All P ys
All-right P xs ys h k d lt = subst P (get_or-append-add xs ys k d) (h (length xs + k) d (omega (arith, lt, length-append xs ys)))

module _ (fields : ℕ) where
  abbrev Within : ℕ → Type 0
  Within column = column + 1 < fields

  pub test_covered : (column : ℕ) (test : Comparison) (constant : Constant) → HasTestedColumns fields (filters.Test column test constant) → column + 1 < fields
  test_covered column test constant h = (subst (λ columns. All Within columns) (columns-test column test constant) h) 0 0 (omega arith)

  pub covered_test : (column : ℕ) (test : Comparison) (constant : Constant) → column + 1 < fields → HasTestedColumns fields (filters.Test column test constant)
  covered_test column test constant h = subst (λ columns. All Within columns) (sym (columns-test column test constant)) (All-cons Within column [] h (All-nil Within))

  each_covered : (fs : List Filter) → All Within (flat_map columns_of fs) → All (HasTestedColumns fields) fs
  each_covered [] h = All-nil (HasTestedColumns fields)
  each_covered (f ∷ fs) h = All-cons (HasTestedColumns fields) f fs (All-left Within (columns_of f) (flat_map columns_of fs) h)
      (each_covered fs (All-right Within (columns_of f) (flat_map columns_of fs) h))

  covered_each : (fs : List Filter) → All (HasTestedColumns fields) fs → All Within (flat_map columns_of fs)
  covered_each [] h = All-nil Within
  covered_each (f ∷ fs) h = All-append Within (columns_of f) (flat_map columns_of fs) (All-head (HasTestedColumns fields) f fs h)
      (covered_each fs (All-tail (HasTestedColumns fields) f fs h))

  pub and_covered : (fs : List Filter) → HasTestedColumns fields (filters.And fs) → All (HasTestedColumns fields) fs
  and_covered fs h = each_covered fs (subst (λ columns. All Within columns) (columns-and fs) h)

  pub covered_and : (fs : List Filter) → All (HasTestedColumns fields) fs → HasTestedColumns fields (filters.And fs)
  covered_and fs h = subst (λ columns. All Within columns) (sym (columns-and fs)) (covered_each fs h)

  pub or_covered : (fs : List Filter) → HasTestedColumns fields (filters.Or fs) → All (HasTestedColumns fields) fs
  or_covered fs h = each_covered fs (subst (λ columns. All Within columns) (columns-or fs) h)

  pub covered_or : (fs : List Filter) → All (HasTestedColumns fields) fs → HasTestedColumns fields (filters.Or fs)
  covered_or fs h = subst (λ columns. All Within columns) (sym (columns-or fs)) (covered_each fs h)

  pub not_covered : (f : Filter) → HasTestedColumns fields (filters.Not f) → HasTestedColumns fields f
  not_covered f h = subst (λ columns. All Within columns) (columns-not f) h

  pub covered_not : (f : Filter) → HasTestedColumns fields f → HasTestedColumns fields (filters.Not f)
  covered_not f h = subst (λ columns. All Within columns) (sym (columns-not f)) h
