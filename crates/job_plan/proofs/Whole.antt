-- The plan of a job over a header, from the places of its names.
use Rattle.std.proofs.Common.{◌≡◌, ◌≢◌, ◌<◌, ◌≤◌, ◌+◌, ◌∙◌, ◌++◌, ℕ, List, [], ◌∷◌, Option, Some, None, true, length, map, get_or, take, refl, sym, ap, inl, inr, arith, subst, slice_index}
use Rattle.std.specs.Prelude.{◌==◌, All, Bool, not, nat_lt, slice_index_or, unwrap_or}
use Rattle.std.specs.List.{filter, flat_map, list_any, range_with_len}
use Rattle.std.specs.Str.{bytes_eq}
use Rattle.std.proofs.lemmas.Bool.{cases_Bool, eqb-true, ltb-true, ltb-false}
use Rattle.std.proofs.lemmas.Bool.Decides.{nat_tests}
use Rattle.std.proofs.lemmas.List.{get_or-map, length-map, map-append, map_more, map_push}
use Rattle.std.proofs.lemmas.List.Elements.{All-map, All-push, All-same, filter_passes}
use Rattle.std.proofs.lemmas.List.Folds.{flat_map-map, list_any_at}
use Rattle.std.proofs.lemmas.List.FromFn.{get_or-range_with_len, length-range_with_len}
use Rattle.std.proofs.lemmas.Slice.Eq.{bytes_eq-Decides}
use Rattle.row_form.specs.declared.number_list.NumberPlace.{NumberPlace}
use Rattle.job_text.specs.Jobs.{IsJob, IsShape}
use Rattle.job_text.specs.declared.job.Dataset.{Dataset}
use Rattle.job_text.specs.declared.job.Job.{Job}
use Rattle.job_text.specs.declared.job.Query.{Query}
use Rattle.job_text.specs.declared.job.Shape.{Shape}
use Rattle.job_text.specs.declared.job.Shape.TheVariants.{Group, Order}
use Rattle.job_plan.specs.Columns.{Fields, kept, kept_place, linked, name_of, is_number_place, number_columns, number_place, number_places, numbers_for, ordered_in, over_kept, place, stands_at, strict_columns, told_columns, told_in}
use Rattle.job_plan.specs.Entries.{kind_of}
use Rattle.job_plan.specs.Making.{AreFound, ArePlannedOf, IsPlannedOf, ascending, name_for, place_by, place_in, places_over, strict_over, told_over}
use Rattle.job_plan.specs.Moved.{link_over, moved}
use Rattle.job_plan.specs.Planning.{IsPlanned}
use Rattle.job_plan.specs.Plans.{no_shape}
use Rattle.job_plan.specs.declared.planned.Planned.{Planned}
use Rattle.job_plan.proofs.Firsts.{any_of_kept, any_of_map, filter_same, first_at, first_of_any}
use Rattle.job_plan.proofs.Linked.{links_alike, links_numbers}
use Rattle.job_plan.proofs.Moving.{map_same, moved-same, ordered-moved, shape-moved, told-moved}

-- ---- one more query

list_more : {Y : Type 0} (f : Planned → Y) (g : Query → Y) (ps : List Planned) (p : Planned) (qs : List Query) (i : ℕ) (q : Query)
    → i < length qs → q ≡ get_or qs i q → map f ps ≡ map g (take i qs) → f p ≡ g q → map f (ps ++ p ∷ []) ≡ map g (take (i + 1) qs)
list_more f g ps p qs i q lt e h same =
    map_push f ps p ∙ rw (h, same, ap g e) refl ∙ sym (map_more g qs i q lt)

pub planned_more : (names : List (List ℕ)) (places : List ℕ) (qs : List Query) (ps : List Planned) (i : ℕ) (q : Query) (p : Planned)
    → i < length qs → q ≡ get_or qs i q → ArePlannedOf names places (take i qs) ps → IsPlannedOf names places q p
    → ArePlannedOf names places (take (i + 1) qs) (ps ++ p ∷ [])
planned_more names places qs ps i q p lt e h is = record {
  datasets = list_more (λ (x : Planned). x.dataset) _ ps p qs i q lt e h.datasets is.dataset;
  shapes = list_more (λ (x : Planned). x.shape) _ ps p qs i q lt e h.shapes is.shape;
  over = list_more (λ (x : Planned). x.kept) _ ps p qs i q lt e h.over is.over;
  kinds = All-push (λ (x : Planned). x.kind ≡ kind_of x.kept) ps p h.kinds is.kind;
  headings = list_more (λ (x : Planned). x.heading) _ ps p qs i q lt e h.headings is.heading;
}

-- ---- kept places

same-test : (n : ℕ) → (n == n) ≡ true
same-test n = grind (arith, nat_tests)

any_found : (header : Fields) (names : List (List ℕ)) (places : List ℕ) (p : ℕ) → AreFound names header places → list_any (λ q. q == p) places ≡ list_any (stands_at header p) names
any_found header [] [] p h = refl
any_found header (name ∷ names) [] p h = cc h
any_found header [] (q ∷ places) p h = cc h
any_found header (name ∷ names) (q ∷ places) p h =
    let here : place name header ≡ Some q = cc h in
    let more : AreFound names header places = cc h in
    rw (here, any_found header names places p more) refl

pub kept_is : (header : Fields) (names : List (List ℕ)) (places : List ℕ) → AreFound names header places → ascending places (length header) ≡ kept names header
kept_is header names places h =
    filter_same (λ p. list_any (λ q. q == p) places) (λ p. list_any (stands_at header p) names) (range_with_len 0 (length header)) (λ p. any_found header names places p h)

over-moved : (job : Job) (header : Fields) (s : Shape) → over_kept job header s ≡ moved (kept_place job header) s
over-moved job header (Group columns parts) = refl
over-moved job header (Order keys columns) = refl

-- columns that a shape has are moved with it, and so are those of queries
module _ (columns_in : Shape → List ℕ) (g : ℕ → ℕ) (one : (s : Shape) → columns_in (moved g s) ≡ map g (columns_in s)) where
  flat-moved : (qs : List Query) → flat_map (λ (q : Query). columns_in (moved g q.shape)) qs ≡ map g (flat_map (λ (q : Query). columns_in q.shape) qs)
  flat-moved [] = refl
  flat-moved (q ∷ qs) = rw (one q.shape, flat-moved qs) (sym (map-append g (columns_in q.shape) (flat_map (λ (x : Query). columns_in x.shape) qs)))

-- the number columns among so many places, by their columns before they are moved
abbrev place_at : ℕ → Bool → NumberPlace
place_at k value = record { column = k; value = value }

strict-same : (g : ℕ → ℕ) (columns : List ℕ) (k : ℕ) → list_any (λ q. q == k) (map g columns) ≡ list_any (λ c. g c == k) columns
strict-same g columns k = any_of_map (λ q. q == k) g columns

module _ (job : Job) (header : Fields) (places : List ℕ) (is : IsJob job) (found : AreFound job.names header places) where
  abbrev pub the-kept : List ℕ
  the-kept = kept job.names header

  abbrev pub count : ℕ
  count = length job.names

  long : length places ≡ count
  long = sym (length-map places Some) ∙ ap length found ∙ length-map job.names (λ name. place name header)

  found_at : (c : ℕ) → c < count → place (name_of job c) header ≡ Some (get_or places c 0)
  found_at c lt =
      let inside : c < length places = omega (arith, long) in
      sym (get_or-map (λ name. place name header) job.names c [] None lt) ∙ sym (ap (λ list. get_or list c None) found) ∙ get_or-map Some places c 0 None inside

  -- the kept place of a name's column, and what stands there
  kept_at : (c : ℕ) → c < count → (k : ℕ) × (kept_place job header c ≡ k) × (k < length the-kept) × (get_or the-kept k 0 ≡ get_or places c 0)
  kept_at c lt =
      let q = get_or places c 0 in
      let here : q < length header = (first_at (λ f. bytes_eq f (name_of job c)) header q [] (found_at c lt)).0 in
      let at : get_or (range_with_len 0 (length header)) q 0 ≡ q = get_or-range_with_len 0 (length header) q 0 here ∙ omega arith in
      let stands : stands_at header q (name_of job c) ≡ true = rw (found_at c lt) (same-test q) in
      let passes : list_any (stands_at header q) job.names ≡ true = list_any_at (stands_at header q) job.names c [] lt stands in
      let inside : q < length (range_with_len 0 (length header)) = omega (arith, length-range_with_len 0 (length header)) in
      let any : list_any (λ p. p == q) the-kept ≡ true =
      any_of_kept (λ p. p == q) (λ p. list_any (stands_at header p) job.names) (range_with_len 0 (length header)) q 0 inside (rw at passes) (rw at (same-test q)) in
      let first = first_of_any (λ p. p == q) 0 the-kept any in
      let same = first_at (λ p. p == q) the-kept first.0 0 first.1 in
      (first.0, rw (found_at c lt, first.1) refl, same.0, eqb-true (get_or the-kept first.0 0) q same.1)

  pub kept_within : (c : ℕ) → c < count → kept_place job header c < length the-kept
  kept_within c lt = let k = kept_at c lt in rw k.1 k.2

  same-name : (a b : ℕ) → a < count → b < count → kept_place job header a ≡ kept_place job header b → name_of job a ≡ name_of job b
  same-name a b la lb e =
      let ka = kept_at a la in
      let kb = kept_at b lb in
      let at : get_or places a 0 ≡ get_or places b 0 = sym ka.3 ∙ ap (λ k. get_or the-kept k 0) (sym ka.1 ∙ e ∙ kb.1) ∙ kb.3 in
      let na = (first_at (λ f. bytes_eq f (name_of job a)) header (get_or places a 0) [] (found_at a la)).1 in
      let nb = (first_at (λ f. bytes_eq f (name_of job b)) header (get_or places b 0) [] (found_at b lb)).1 in
      sym ((bytes_eq-Decides (get_or header (get_or places a 0) []) (name_of job a)).0 na)
      ∙ ap (λ p. get_or header p []) at
      ∙ (bytes_eq-Decides (get_or header (get_or places b 0) []) (name_of job b)).0 nb

  pub kept_apart : (a b : ℕ) → a < count → b < count → a ≢ b → kept_place job header a ≢ kept_place job header b
  kept_apart a b la lb ne e = elim (cases_Bool (nat_lt a b)) [
    | inl before ↦ is.distinct a b [] (ltb-true a b before) lb (same-name a b la lb e)
    | inr behind ↦
        let le : b ≤ a = ltb-false a b behind in
        is.distinct b a [] (omega arith) la (same-name b a lb la (sym e))
  ]

  index_is : (c : ℕ) → c < count → slice_index (map (place_in the-kept) places) c ≡ kept_place job header c
  index_is c lt =
      let inside : c < length places = omega (arith, long) in
      get_or-map (place_in the-kept) places c 0 0 inside ∙ rw (found_at c lt) refl

  abbrev pub indexes : List ℕ
  indexes = map (place_in the-kept) places

  -- the same, as it was told of lists that are these
  pub told_of : (names : List (List ℕ)) (k k' ix ix' : List ℕ) (qs : List Query) (ps : List Planned) → names ≡ job.names → k ≡ the-kept → k' ≡ k
      → ix ≡ map (place_in k') places → ix' ≡ ix → qs ≡ job.queries → ArePlannedOf names ix' qs ps → ArePlannedOf job.names indexes job.queries ps
  told_of names k k' ix ix' qs ps n e e' i i' q h =
      let at : ix' ≡ indexes = i' ∙ i ∙ ap (λ list. map (place_in list) places) (e' ∙ e) in
      subst (λ (list : List (List ℕ)). ArePlannedOf list indexes job.queries ps) n
      (subst (λ (list : List ℕ). ArePlannedOf names list job.queries ps) at
      (subst (λ (list : List Query). ArePlannedOf names ix' list ps) q h))

  pub over_is : (ps : List Planned) → ArePlannedOf job.names indexes job.queries ps → map (λ (p : Planned). p.kept) ps ≡ map (λ (q : Query). over_kept job header q.shape) job.queries
  over_is ps h =
      h.over ∙ map_same (λ (q : Query). moved (slice_index indexes) q.shape) (λ (q : Query). over_kept job header q.shape) job.queries
      (λ i d lt. moved-same (slice_index indexes) (kept_place job header) count index_is (get_or job.queries i d).shape (is.queries i d lt).shape
      ∙ sym (over-moved job header (get_or job.queries i d).shape))

  pub planned_is : (ps : List Planned) → ArePlannedOf job.names indexes job.queries ps → All (IsPlanned (length the-kept)) ps
  planned_is ps h i d lt =
      let shapes : All (IsShape (length the-kept)) (map (λ (q : Query). over_kept job header q.shape) job.queries) =
      All-map (IsShape (length the-kept)) (λ (q : Query). over_kept job header q.shape) job.queries
      (λ j e in_queries. subst (λ (s : Shape). IsShape (length the-kept) s) (sym (over-moved job header (get_or job.queries j e).shape))
      (shape-moved (kept_place job header) count (length the-kept) kept_within kept_apart (get_or job.queries j e).shape (is.queries j e in_queries).shape)) in
      let all : All (IsShape (length the-kept)) (map (λ (p : Planned). p.kept) ps) = All-same (IsShape (length the-kept)) _ _ (over_is ps h) shapes in
      let inside : i < length (map (λ (p : Planned). p.kept) ps) = omega (arith, length-map ps (λ (p : Planned). p.kept)) in
      record {
        shape = subst (λ (s : Shape). IsShape (length the-kept) s) (get_or-map (λ (p : Planned). p.kept) ps i d no_shape lt) (all i no_shape inside);
        kind = h.kinds i d lt;
      }

  pub links_are : map (link_over (slice_index indexes)) job.datasets ≡ linked job header
  links_are = links_alike (slice_index indexes) (kept_place job header) count index_is job.datasets is.datasets

  queries_are : (columns_in : Shape → List ℕ) (one : (s : Shape) → columns_in (moved (kept_place job header) s) ≡ map (kept_place job header) (columns_in s))
      (ps : List Planned) → ArePlannedOf job.names indexes job.queries ps
      → flat_map (λ (p : Planned). columns_in p.kept) ps ≡ map (kept_place job header) (flat_map (λ (q : Query). columns_in q.shape) job.queries)
  queries_are columns_in one ps h =
      sym (flat_map-map columns_in (λ (p : Planned). p.kept) ps) ∙ ap (flat_map columns_in) (over_is ps h)
      ∙ ap (flat_map columns_in) (map_same (λ (q : Query). over_kept job header q.shape) (λ (q : Query). moved (kept_place job header) q.shape) job.queries (λ i d lt. over-moved job header (get_or job.queries i d).shape))
      ∙ flat_map-map columns_in (λ (q : Query). moved (kept_place job header) q.shape) job.queries ∙ flat-moved columns_in (kept_place job header) one job.queries

  strict_is : (ps : List Planned) → ArePlannedOf job.names indexes job.queries ps
      → strict_over (linked job header) ps ≡ map (kept_place job header) (strict_columns job)
  strict_is ps h =
      let filters = flat_map (λ (d : Dataset). numbers_for d.filter) job.datasets in
      ap (λ (front : List ℕ). front ++ flat_map (λ (p : Planned). ordered_in p.kept) ps) (links_numbers (kept_place job header) job.datasets)
      ∙ ap (λ (back : List ℕ). map (kept_place job header) filters ++ back) (queries_are ordered_in (ordered-moved (kept_place job header)) ps h)
      ∙ sym (map-append (kept_place job header) filters (flat_map (λ (q : Query). ordered_in q.shape) job.queries))

  -- the number columns of the plan are the job's, and so is which of them are value columns
  pub numbers_is : (ps : List Planned) → ArePlannedOf job.names indexes job.queries ps
      → places_over (linked job header) ps (length the-kept) ≡ number_places job header
  numbers_is ps h =
      let move = kept_place job header in
      let strict = strict_is ps h in
      let told = queries_are told_in (told-moved move) ps h in
      let all : strict_over (linked job header) ps ++ told_over ps ≡ map move (number_columns job) =
      ap (λ (front : List ℕ). front ++ told_over ps) strict ∙ ap (λ (back : List ℕ). map move (strict_columns job) ++ back) told
      ∙ sym (map-append move (strict_columns job) (told_columns job)) in
      let at : ascending (strict_over (linked job header) ps ++ told_over ps) (length the-kept)
      ≡ filter (is_number_place job header (number_columns job)) (range_with_len 0 (length the-kept)) =
      ap (λ list. ascending list (length the-kept)) all
      ∙ filter_same (λ k. list_any (λ q. q == k) (map move (number_columns job))) (is_number_place job header (number_columns job))
      (range_with_len 0 (length the-kept)) (strict-same move (number_columns job)) in
      let same : (k : ℕ) → place_by (strict_over (linked job header) ps) k ≡ number_place job header k =
      λ k. ap (λ (b : Bool). place_at k (not b)) (ap (list_any (λ q. q == k)) strict ∙ strict-same move (strict_columns job) k) in
      ap (map (place_by (strict_over (linked job header) ps))) at
      ∙ map_same (place_by (strict_over (linked job header) ps)) (number_place job header) (filter (is_number_place job header (number_columns job)) (range_with_len 0 (length the-kept)))
      (λ i d lt. same (get_or (filter (is_number_place job header (number_columns job)) (range_with_len 0 (length the-kept))) i d))

  -- the name that stands at a kept place is the header's field there
  name_stands : (p : ℕ) → list_any (stands_at header p) job.names ≡ true → name_for job.names places p ≡ get_or header p []
  name_stands p stands =
      let any : list_any (λ q. q == p) places ≡ true = any_found header job.names places p found ∙ stands in
      let first = first_of_any (λ q. q == p) 0 places any in
      let at = first_at (λ q. q == p) places first.0 0 first.1 in
      let same : get_or places first.0 0 ≡ p = eqb-true (get_or places first.0 0) p at.1 in
      let lt : first.0 < count = omega (arith, at.0, long) in
      let field = (first_at (λ f. bytes_eq f (name_of job first.0)) header (get_or places first.0 0) [] (found_at first.0 lt)).1 in
      let name : get_or header p [] ≡ name_of job first.0 =
      subst (λ (q : ℕ). get_or header q [] ≡ name_of job first.0) same ((bytes_eq-Decides (get_or header (get_or places first.0 0) []) (name_of job first.0)).0 field) in
      ap (λ (o : Option ℕ). get_or job.names (unwrap_or o 0) []) first.1 ∙ sym name

  pub names_are : map (name_for job.names places) the-kept ≡ map (λ p. slice_index_or header p []) the-kept
  names_are = map_same (name_for job.names places) (λ p. slice_index_or header p []) the-kept
      (λ i d lt. name_stands (get_or the-kept i d) (filter_passes (λ p. list_any (stands_at header p) job.names) (range_with_len 0 (length header)) i d lt))

  pub asked_there : (n : ℕ) (ps : List Planned) → n ≡ length job.datasets → ArePlannedOf job.names indexes job.queries ps → All (λ (d : ℕ). d ≤ n) (map (λ (p : Planned). p.dataset) ps)
  asked_there n ps same h =
      subst (All (λ (d : ℕ). d ≤ n)) (sym h.datasets) (All-map (λ (d : ℕ). d ≤ n) (λ (q : Query). q.dataset) job.queries
      (λ i d lt. (let below : (get_or job.queries i d).dataset ≤ length job.datasets = (is.queries i d lt).dataset in omega arith)))
