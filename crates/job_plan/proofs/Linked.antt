-- The datasets of a job over the kept columns: how they are made, in which order, and which columns they compare with numbers.
use Rattle.std.proofs.Common.{◌≡◌, ◌<◌, ◌≤◌, ◌+◌, ◌∙◌, ℕ, List, [], ◌∷◌, ◌++◌, Option, Some, None, map, get_or, refl, sym, ap, arith, subst}
use Rattle.std.specs.Prelude.{All, IfSome, option_map, slice_get}
use Rattle.std.specs.List.{flat_map}
use Rattle.std.proofs.lemmas.List.{map-append}
use Rattle.std.proofs.lemmas.List.Elements.{All-map}
use Rattle.std.proofs.lemmas.Option.{get_or_from_slice_get, same_Some, slice_get-map, slice_get_within}
use Rattle.row_filter.specs.Lines.{AreOrdered}
use Rattle.row_filter.specs.Meaning.{columns_of}
use Rattle.row_filter.specs.Moved.{moved_filter}
use Rattle.row_filter.specs.Rows.{HasTestedColumns}
use Rattle.row_filter.specs.declared.chain.Link.{Link}
use Rattle.row_filter.specs.declared.filter.Filter.{Filter}
use Rattle.job_text.specs.FilterForms.{IsFilter}
use Rattle.job_text.specs.Jobs.{AreGoodDatasets}
use Rattle.job_text.specs.declared.job.Dataset.{Dataset}
use Rattle.job_plan.specs.Columns.{numbers_for}
use Rattle.job_plan.specs.Moved.{link_over}
use Rattle.job_plan.proofs.MovedFilters.{covers_moved, moved_alike, numbers_moved, places_columns}
use Rattle.job_plan.proofs.Moving.{map_same}

columns_named : (names : ℕ) (f : Filter) → IsFilter names f → All (λ column. column < names) (columns_of f)
columns_named names f is = subst (All (λ (column : ℕ). column < names)) (places_columns f) is.named

-- ---- datasets are made alike where their filters' columns are moved alike

abbrev with_filter : Dataset → Option Filter → Link
with_filter d filter = record { parent = d.parent; filter = filter; level = d.level }

module _ (move other : ℕ → ℕ) (names : ℕ) (alike : (column : ℕ) → column < names → move column ≡ other column) where
  own_alike : (filter : Option Filter) → IfSome filter (IsFilter names) → option_map (moved_filter move) filter ≡ option_map (moved_filter other) filter
  own_alike None is = refl
  own_alike (Some f) is = ap Some (moved_alike move other f (λ i d lt. alike (get_or (columns_of f) i d) (columns_named names f is i d lt)))

  pub links_alike : (datasets : List Dataset) → AreGoodDatasets names datasets → map (link_over move) datasets ≡ map (link_over other) datasets
  links_alike datasets made = map_same (link_over move) (link_over other) datasets
      (λ i d lt. (let at : Dataset = get_or datasets i d in ap (with_filter at) (own_alike at.filter (made.filters i d lt))))

-- ---- each is made from one before it

pub links_ordered : (move : ℕ → ℕ) (names : ℕ) (datasets : List Dataset) → AreGoodDatasets names datasets → AreOrdered (map (link_over move) datasets)
links_ordered move names datasets made place link is = by (slice_get datasets place) refl
  where
    by : (found : Option Dataset) → slice_get datasets place ≡ found → link.parent ≤ place
    by None none =
        let no : None ≡ Some link = ap (option_map (link_over move)) (sym none) ∙ sym (slice_get-map (link_over move) datasets place) ∙ is in
        absurd cc
    by (Some d) found =
        let same : Some (link_over move d) ≡ Some link = ap (option_map (link_over move)) (sym found) ∙ sym (slice_get-map (link_over move) datasets place) ∙ is in
        let parent : link.parent ≡ d.parent = ap (λ (l : Link). l.parent) (sym (same_Some (link_over move d) link same)) in
        let earlier : (get_or datasets place d).parent ≤ place = made.earlier place d (slice_get_within datasets place d found) in
        let at : (get_or datasets place d).parent ≡ d.parent = ap (λ (x : Dataset). x.parent) (get_or_from_slice_get datasets place d d found) in
        omega (arith, parent, earlier, at)

-- ---- by filters over the columns

own_covered : (move : ℕ → ℕ) (names columns : ℕ) → ((column : ℕ) → column < names → move column < columns) → (filter : Option Filter)
    → IfSome filter (IsFilter names) → IfSome (option_map (moved_filter move) filter) (HasTestedColumns (columns + 1))
own_covered move names columns within None is = tt
own_covered move names columns within (Some f) is = covers_moved move names columns within f (columns_named names f is)

pub links_covered : (move : ℕ → ℕ) (names columns : ℕ) → ((column : ℕ) → column < names → move column < columns) → (datasets : List Dataset) → AreGoodDatasets names datasets
    → All (λ link. IfSome link.filter (HasTestedColumns (columns + 1))) (map (link_over move) datasets)
links_covered move names columns within datasets made =
    All-map (λ (link : Link). IfSome link.filter (HasTestedColumns (columns + 1))) (link_over move) datasets
    (λ i d lt. own_covered move names columns within (get_or datasets i d).filter (made.filters i d lt))

-- ---- whose columns that are compared with numbers are moved with them

own_numbers : (move : ℕ → ℕ) (filter : Option Filter) → numbers_for (option_map (moved_filter move) filter) ≡ map move (numbers_for filter)
own_numbers move None = refl
own_numbers move (Some f) = numbers_moved move f

pub links_numbers : (move : ℕ → ℕ) (datasets : List Dataset)
    → flat_map (λ (link : Link). numbers_for link.filter) (map (link_over move) datasets) ≡ map move (flat_map (λ (d : Dataset). numbers_for d.filter) datasets)
links_numbers move [] = refl
links_numbers move (d ∷ datasets) =
    ap (λ (front : List ℕ). front ++ flat_map (λ (link : Link). numbers_for link.filter) (map (link_over move) datasets)) (own_numbers move d.filter)
    ∙ ap (λ (back : List ℕ). map move (numbers_for d.filter) ++ back) (links_numbers move datasets)
    ∙ sym (map-append move (numbers_for d.filter) (flat_map (λ (x : Dataset). numbers_for x.filter) datasets))
