-- What is written by the rules means a job that has what each job has.
use Rattle.std.proofs.Common.{◌≡◌, ◌≢◌, ℕ, zero, suc, ◌+◌, ◌<◌, ◌≤◌, List, [], ◌∷◌, ◌++◌, length, get_or, Option, Some, None, ℤ, true, refl, sym, ap, subst, ◌∙◌, append_assoc, arith}
use Rattle.std.specs.Prelude.{All, IfSome, map, flat_map}
use Rattle.std.specs.Option.{option_map, option_map_or}
use Rattle.std.proofs.lemmas.List.{length-map, map-append, length-append}
use Rattle.std.proofs.lemmas.List.Elements.{All-nil, All-cons, All-append, All-head, All-tail, All-map, All-weaker}
use Rattle.std.proofs.lemmas.List.{append-nil}
use Rattle.std.proofs.lemmas.List.Quantifiers.{all_pairs_push}
use Rattle.job_text.specs.declared.job.Dataset.{Dataset}
use Rattle.job_text.specs.Columns.{with_names}
use Rattle.job_text.specs.Jobs.{IsDistinct, IsShape, IsQuery, AreGoodDatasets, IsJob, shape_places, dataset_places}
use Rattle.job_text.specs.Grammar.{WrittenJob, WrittenSource, WrittenFilter, WrittenDataset, where_written, source_written, keep_written, dataset_written, query_written, job_written, separated, ended_by}
use Rattle.job_text.specs.Rules.{IsFilterRight, IsSourceRight, AreDatasets, IsQueryRight, IsRight, dataset_uses, filter_uses, names_written, query_names, job_names}
use Rattle.job_text.specs.Meaning.{source_meant, from_meant, dataset_meant, shape_meant, query_meant, job_meant}
use Rattle.job_text.specs.Grammar.{input, by_name}
use Rattle.aggregate.specs.Partial.{fits_i64}
use Rattle.job_text.specs.declared.mark.Mark.TheVariants as marks
use Rattle.job_text.specs.declared.token.Token.{Token}
use Rattle.job_text.specs.declared.token.Token.TheVariants.{Fixed, Word, Whole}
use Rattle.job_text.specs.Scan.{is_plain}
use Rattle.job_text.specs.FilterForms.{filter_places, IsFilter}
use Rattle.job_text.proofs.FilterFine.{written_filter}
use Rattle.job_text.proofs.FilterShort.{filter_short}
use Rattle.job_text.proofs.Ranged.{IsOfText}
use Rattle.job_text.proofs.Named.{Knows, place_of-append, not_among, among_is, all_known, All-with_names, distinct-with_names}
use Rattle.job_text.proofs.MeantShapes.{All-left, All-right, All-items, All-flat, short_list, shape_is, flat_back, shape_back, shape_short}

-- ---- datasets

all_short : (names before : List (List ℕ)) (datasets : List WrittenDataset) → AreDatasets names before datasets → All (λ dataset. length dataset.name ≤ 64) datasets
all_short names before [] h = All-nil (λ dataset. length dataset.name ≤ 64)
all_short names before (dataset ∷ datasets) h = All-cons (λ dataset. length dataset.name ≤ 64) dataset datasets h.0.short (all_short names (before ++ dataset.name ∷ []) datasets h.1)

all_right : (names before : List (List ℕ)) (datasets : List WrittenDataset) → AreDatasets names before datasets → All (λ dataset. IfSome dataset.filter (IsFilterRight names)) datasets
all_right names before [] h = All-nil (λ dataset. IfSome dataset.filter (IsFilterRight names))
all_right names before (dataset ∷ datasets) h =
    All-cons (λ dataset. IfSome dataset.filter (IsFilterRight names)) dataset datasets h.0.filter (all_right names (before ++ dataset.name ∷ []) datasets h.1)

all_new : (names before : List (List ℕ)) (datasets : List WrittenDataset) → IsDistinct before → AreDatasets names before datasets → IsDistinct (before ++ names_written datasets)
all_new names before [] d h = subst IsDistinct (sym (append-nil before)) d
all_new names before (dataset ∷ datasets) d h =
    subst IsDistinct (append_assoc before (dataset.name ∷ []) (names_written datasets))
    (all_new names (before ++ dataset.name ∷ []) datasets (all_pairs_push (λ earlier later. earlier ≢ later) before dataset.name d (not_among before dataset.name h.0.new)) h.1)

-- a source that is named keeps its number when more datasets follow
pub source_same : (before more : List (List ℕ)) (source : WrittenSource) → IsSourceRight before source → source_meant (before ++ more) source ≡ source_meant before source
source_same before more input h = refl
source_same before more (by_name name) h = ap (λ (n : ℕ). n + 1) (place_of-append before more name (among_is before name h))

source_before : (before : List (List ℕ)) (source : WrittenSource) → IsSourceRight before source → source_meant before source ≤ length before
source_before before input h = omega arith
source_before before (by_name name) h = omega (arith, among_is before name h)

module _ (all : List (List ℕ)) where
  pub names_meant : (datasets : List WrittenDataset) → map (λ dataset. dataset.name) (map (dataset_meant all) datasets) ≡ names_written datasets
  names_meant [] = refl
  names_meant (dataset ∷ datasets) = ap (λ (l : List (List ℕ)). dataset.name ∷ l) (names_meant datasets)

  all_earlier : (names before : List (List ℕ)) (datasets : List WrittenDataset) → AreDatasets names before datasets → all ≡ before ++ names_written datasets → (place : ℕ) (d : Dataset) → place < length datasets → (get_or (map (dataset_meant all) datasets) place d).parent ≤ length before + place
  all_earlier names before [] h e place d lt = absurd (omega (arith, lt))
  all_earlier names before (dataset ∷ datasets) h e zero d lt =
      omega (arith, source_before before dataset.source h.0.source, source_same before (names_written (dataset ∷ datasets)) dataset.source h.0.source, ap (λ (l : List (List ℕ)). source_meant l dataset.source) e)
  all_earlier names before (dataset ∷ datasets) h e (suc place) d lt =
      let rest = all_earlier names (before ++ dataset.name ∷ []) datasets h.1 (e ∙ sym (append_assoc before (dataset.name ∷ []) (names_written datasets))) place d (omega (arith, lt)) in
      omega (arith, rest, length-append before (dataset.name ∷ []))

-- ---- the tokens of filters

-- the tokens of a dataset are those of a text
pub record IsDatasetOfText (dataset : WrittenDataset) : Type 0 where
  pub plain : is_plain dataset.name ≡ true
  pub filter : IfSome dataset.filter (λ filter. All IsOfText filter.tokens)

where_of_text : (filter : Option WrittenFilter) → All IsOfText (where_written filter) → IfSome filter (λ filter. All IsOfText filter.tokens)
where_of_text None h = tt
where_of_text (Some filter) h = All-tail IsOfText (Fixed marks.Where) filter.tokens h

dataset_of_text : (dataset : WrittenDataset) → All IsOfText (dataset_written dataset) → IsDatasetOfText dataset
dataset_of_text dataset h =
    let source = source_written dataset.source in
    let front : List Token = Fixed marks.Let ∷ Word dataset.name ∷ Fixed marks.Equal ∷ source in
    let back = All-left IsOfText (front ++ where_written dataset.filter) (keep_written dataset.level) h in
    record {
      plain = All-head IsOfText (Word dataset.name) (Fixed marks.Equal ∷ source) (All-tail IsOfText (Fixed marks.Let) (Word dataset.name ∷ Fixed marks.Equal ∷ source) (All-left IsOfText front (where_written dataset.filter) back));
      filter = where_of_text dataset.filter (All-right IsOfText front (where_written dataset.filter) back);
    }

datasets_of_text : (datasets : List WrittenDataset) → All IsOfText (ended_by marks.Semicolon dataset_written datasets) → All IsDatasetOfText datasets
datasets_of_text [] h = All-nil IsDatasetOfText
datasets_of_text (dataset ∷ datasets) h =
    let more = ended_by marks.Semicolon dataset_written datasets in
    All-cons IsDatasetOfText dataset datasets (dataset_of_text dataset (All-left IsOfText (dataset_written dataset) (Fixed marks.Semicolon ∷ more) h))
    (datasets_of_text datasets (All-tail IsOfText (Fixed marks.Semicolon) more (All-right IsOfText (dataset_written dataset) (Fixed marks.Semicolon ∷ more) h)))

ranged : (value : ℤ) → IsOfText (Whole (Some value)) → fits_i64 value ≡ true
ranged value h = h

-- ---- filters

module _ (names : List (List ℕ)) where
  filter_fine : (filter : Option WrittenFilter) → IfSome filter (IsFilterRight names) → IfSome filter (λ filter. All IsOfText filter.tokens) → All (Knows names) (filter_uses filter)
      → IfSome (option_map (λ filter. filter.means) filter) (IsFilter (length names)) × (map (λ place. get_or names place []) (option_map_or filter_places (option_map (λ filter. filter.means) filter) []) ≡ filter_uses filter)
  filter_fine None right of k = (tt, refl)
  filter_fine (Some filter) right of k = written_filter IsOfText ranged names filter.tokens filter.used filter.means right of k

  datasets_fine : (all : List (List ℕ)) (datasets : List WrittenDataset) → All (λ dataset. IfSome dataset.filter (IsFilterRight names)) datasets → All IsDatasetOfText datasets → All (Knows names) (flat_map dataset_uses datasets)
      → All (λ dataset. IfSome dataset.filter (IsFilter (length names))) (map (dataset_meant all) datasets) × (map (λ place. get_or names place []) (flat_map dataset_places (map (dataset_meant all) datasets)) ≡ flat_map dataset_uses datasets)
  datasets_fine all [] right of k = (All-nil (λ dataset. IfSome dataset.filter (IsFilter (length names))), refl)
  datasets_fine all (dataset ∷ datasets) right of k =
      let places = flat_map dataset_places (map (dataset_meant all) datasets) in
      let here = filter_fine dataset.filter (All-head (λ dataset. IfSome dataset.filter (IsFilterRight names)) dataset datasets right) (All-head IsDatasetOfText dataset datasets of).filter (All-left (Knows names) (dataset_uses dataset) (flat_map dataset_uses datasets) k) in
      let rest = datasets_fine all datasets (All-tail (λ dataset. IfSome dataset.filter (IsFilterRight names)) dataset datasets right) (All-tail IsDatasetOfText dataset datasets of) (All-right (Knows names) (dataset_uses dataset) (flat_map dataset_uses datasets) k) in (
        All-cons (λ dataset. IfSome dataset.filter (IsFilter (length names))) (dataset_meant all dataset) (map (dataset_meant all) datasets) here.0 rest.0,
        map-append (λ place. get_or names place []) (dataset_places (dataset_meant all dataset)) places
            ∙ ap (λ (l : List (List ℕ)). l ++ map (λ place. get_or names place []) places) here.1 ∙ ap (λ (l : List (List ℕ)). dataset_uses dataset ++ l) rest.1,
      )

uses_short : (names : List (List ℕ)) (filter : Option WrittenFilter) → IfSome filter (IsFilterRight names) → All (λ name. length name ≤ 1024) (filter_uses filter)
uses_short names None h = All-nil (λ name. length name ≤ 1024)
uses_short names (Some filter) h = filter_short names filter.tokens filter.used filter.means h

datasets_made : (names : List (List ℕ)) (datasets : List WrittenDataset) → length datasets ≤ 8 → AreDatasets names [] datasets → All IsDatasetOfText datasets → All (Knows names) (flat_map dataset_uses datasets)
    → AreGoodDatasets (length names) (map (dataset_meant (names_written datasets)) datasets)
datasets_made names datasets few h of k =
    let all = names_written datasets in
    record {
      few = omega (arith, few, length-map datasets (dataset_meant all));
      short = All-map (λ dataset. length dataset.name ≤ 64) (dataset_meant all) datasets (all_short names [] datasets h);
      plain = All-map (λ dataset. is_plain dataset.name ≡ true) (dataset_meant all) datasets (λ i d lt. (of i d lt).plain);
      new = subst IsDistinct (sym (names_meant all datasets)) (all_new names [] datasets (λ i j d less within. absurd (omega arith)) h);
      filters = (datasets_fine names all datasets (all_right names [] datasets h) of k).0;
      earlier = λ place d lt.
          let le = all_earlier all names [] datasets h refl place d (omega (arith, lt, length-map datasets (dataset_meant all))) in omega (arith, le);
    }

from_within : (all : List (List ℕ)) (source : Option WrittenSource) → IfSome source (IsSourceRight all) → from_meant all source ≤ length all
from_within all None h = omega arith
from_within all (Some source) h = source_before all source h

-- ---- the whole job

module _ (job : WrittenJob) (h : IsRight job) where
  queries_known : All (Knows (with_names [] (job_names job))) (flat_map query_names job.queries)
  queries_known = All-right (Knows (with_names [] (job_names job))) (flat_map dataset_uses job.datasets) (flat_map query_names job.queries) (all_known (job_names job) [])

  -- the names of a job are short
  pub names_short : All (λ name. length name ≤ 1024) (with_names [] (job_names job))
  names_short =
      let names = with_names [] (job_names job) in
      All-with_names (λ name. length name ≤ 1024) (job_names job) [] (All-nil (λ name. length name ≤ 1024))
      (All-append (λ name. length name ≤ 1024) (flat_map dataset_uses job.datasets) (flat_map query_names job.queries)
      (All-flat (λ name. length name ≤ 1024) dataset_uses job.datasets (All-weaker (λ dataset. IfSome dataset.filter (IsFilterRight names)) (λ dataset. All (λ name. length name ≤ 1024) (dataset_uses dataset)) (λ dataset r. uses_short names dataset.filter r) job.datasets (all_right names [] job.datasets h.datasets)))
      (All-flat (λ name. length name ≤ 1024) query_names job.queries (All-weaker (IsQueryRight (names_written job.datasets)) (λ query. All (λ name. length name ≤ 1024) (query_names query)) (λ query s. shape_short query.shape s.shape) job.queries h.queries)))

  -- and so are its shapes
  pub shapes_are : All (λ query. IsShape (length (with_names [] (job_names job))) (shape_meant (with_names [] (job_names job)) query.shape)) job.queries
  shapes_are =
      let names = with_names [] (job_names job) in
      let shapes = All-items (Knows names) query_names job.queries queries_known in
      λ i d lt. shape_is names (get_or job.queries i d).shape (h.queries i d lt).shape (shapes i d lt)

pub job_is : (job : WrittenJob) → IsRight job → All IsOfText (job_written job) → IsJob (job_meant job)
job_is job h of =
    let names = with_names [] (job_names job) in
    let all = names_written job.datasets in
    let made = ended_by marks.Semicolon dataset_written job.datasets in
    let of_text = datasets_of_text job.datasets (All-left IsOfText made (separated marks.Semicolon query_written job.queries) of) in
    let k = All-left (Knows names) (flat_map dataset_uses job.datasets) (flat_map query_names job.queries) (all_known (job_names job) []) in
    let queries = map (query_meant names all) job.queries in
    let datasets = map (dataset_meant all) job.datasets in
    record {
      names = names_short job h;
      first = ap (with_names []) (map-append (λ place. get_or names place []) (flat_map dataset_places datasets) (flat_map (λ query. shape_places query.shape) queries)
          ∙ ap (λ (l : List (List ℕ)). l ++ map (λ place. get_or names place []) (flat_map (λ query. shape_places query.shape) queries)) (datasets_fine names all job.datasets (all_right names [] job.datasets h.datasets) of_text k).1
          ∙ ap (λ (l : List (List ℕ)). flat_map dataset_uses job.datasets ++ l) (flat_back names (query_meant names all) (λ query. shape_places query.shape) query_names (λ query k. shape_back names query.shape k) job.queries (queries_known job h)));
      distinct = distinct-with_names (job_names job) [] (λ i j d less within. absurd (omega arith));
      datasets = datasets_made names job.datasets h.few h.datasets of_text k;
      several = short_list (query_meant names all) job.queries h.several;
      queries = All-map (IsQuery (length names) (length datasets)) (query_meant names all) job.queries (λ i d lt.
          let query = get_or job.queries i d in
          record {
            dataset = omega (arith, from_within all query.source (h.queries i d lt).source, length-map job.datasets (λ dataset. dataset.name), length-map job.datasets (dataset_meant all));
            shape = shapes_are job h i d lt;
          });
    }
