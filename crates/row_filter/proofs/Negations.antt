-- The laws of `and`, `or` and `not`.
use Rattle.std.proofs.Common.{◌≡◌, ℕ, Bool, true, false, not, ◌&&◌, ◌||◌, List, [], ◌∷◌, map, refl, sym, ap, ◌∙◌}
use Rattle.std.specs.List.{list_all, list_any}
use Rattle.row_filter.specs.declared.filter.Filter.{Filter}
use Rattle.row_filter.specs.declared.filter.Filter.TheVariants as filters
use Rattle.row_filter.specs.Meaning.{keeps}
use Rattle.row_filter.proofs.Meanings.{keeps-and, keeps-or, keeps-not}

not-not : (b : Bool) → not (not b) ≡ b
not-not true = refl
not-not false = refl

not-and : (a b : Bool) → not (a && b) ≡ (not a || not b)
not-and true b = refl
not-and false b = refl

not-or : (a b : Bool) → not (a || b) ≡ (not a && not b)
not-or true b = refl
not-or false b = refl

module _ (field_at : ℕ → List ℕ) where
  pub not_twice : (f : Filter) → keeps field_at (filters.Not (filters.Not f)) ≡ keeps field_at f
  not_twice f = keeps-not field_at (filters.Not f) ∙ ap not (keeps-not field_at f) ∙ not-not (keeps field_at f)

  some_negated : (fs : List Filter) → not (list_all (keeps field_at) fs) ≡ list_any (keeps field_at) (map filters.Not fs)
  some_negated [] = refl
  some_negated (f ∷ fs) = not-and (keeps field_at f) (list_all (keeps field_at) fs)
      ∙ ap (λ rest. not (keeps field_at f) || rest) (some_negated fs)
      ∙ ap (λ first. first || list_any (keeps field_at) (map filters.Not fs)) (sym (keeps-not field_at f))

  all_negated : (fs : List Filter) → not (list_any (keeps field_at) fs) ≡ list_all (keeps field_at) (map filters.Not fs)
  all_negated [] = refl
  all_negated (f ∷ fs) = not-or (keeps field_at f) (list_any (keeps field_at) fs)
      ∙ ap (λ rest. not (keeps field_at f) && rest) (all_negated fs)
      ∙ ap (λ first. first && list_all (keeps field_at) (map filters.Not fs)) (sym (keeps-not field_at f))

  pub not_all : (fs : List Filter) → keeps field_at (filters.Not (filters.And fs)) ≡ keeps field_at (filters.Or (map filters.Not fs))
  not_all fs = keeps-not field_at (filters.And fs) ∙ ap not (keeps-and field_at fs) ∙ some_negated fs ∙ sym (keeps-or field_at (map filters.Not fs))

  pub not_some : (fs : List Filter) → keeps field_at (filters.Not (filters.Or fs)) ≡ keeps field_at (filters.And (map filters.Not fs))
  not_some fs = keeps-not field_at (filters.Or fs) ∙ ap not (keeps-or field_at fs) ∙ all_negated fs ∙ sym (keeps-and field_at (map filters.Not fs))
