-- The printed tokens of a job are written as it.
use Rattle.std.proofs.Common.{◌≡◌, ◌≢◌, ℕ, zero, suc, ◌+◌, ◌<◌, ◌≤◌, true, false, List, [], ◌∷◌, ◌++◌, length, get_or, Option, Some, None, refl, sym, ap, subst, ◌∙◌, append_assoc, arith, inl, inr}
use Rattle.std.specs.Prelude.{All, IfSome, map, flat_map}
use Rattle.std.specs.Option.{option_map}
use Rattle.std.specs.Str.{bytes_eq}
use Rattle.std.proofs.lemmas.Bool.{lt-ltb, le-ltb, cases_Bool, false_from_ne_true}
use Rattle.std.proofs.lemmas.Slice.Eq.{bytes_eq-Decides}
use Rattle.std.proofs.lemmas.List.{length-map, length-append, map-append, get_or_append_left}
use Rattle.std.proofs.lemmas.List.Elements.{All-head, All-tail, All-map}
use Rattle.row_filter.specs.declared.filter.Filter.{Filter}
use Rattle.job_text.specs.declared.mark.Mark.TheVariants as marks
use Rattle.job_text.specs.declared.token.Token.{Token}
use Rattle.job_text.specs.declared.job.Dataset.{Dataset}
use Rattle.job_text.specs.declared.job.Job.{Job}
use Rattle.job_text.specs.declared.job.Query.{Query}
use Rattle.job_text.specs.declared.job.Shape.{Shape}
use Rattle.job_text.specs.Columns.{place_of, is_among, dataset_names, with_names}
use Rattle.job_text.specs.FilterForms.{IsFilter}
use Rattle.job_text.specs.Jobs.{IsDistinct, IsShape, IsJob, shape_places, dataset_places, columns_named}
use Rattle.job_text.specs.Grammar.{WrittenJob, dataset_written, query_written, job_written, separated, ended_by}
use Rattle.job_text.specs.Rules.{IsSourceRight, IsFilterRight, AreDatasets, IsQueryRight, IsRight, names_written, query_names, dataset_uses, job_names}
use Rattle.job_text.specs.Meaning.{shape_meant, source_meant, from_meant, dataset_meant, query_meant, job_meant}
use Rattle.job_text.specs.JobPrinting.{dataset_tokens, query_tokens, job_tokens}
use Rattle.job_text.specs.Begins.{job_of}
use Rattle.job_text.proofs.FilterNames.{distinct_place}
use Rattle.job_text.proofs.FilterPrinted.{printed_written}
use Rattle.job_text.proofs.MeantShapes.{short_list}
use Rattle.job_text.proofs.Named.{Knows}
use Rattle.job_text.proofs.WrittenQueries.{before_is}
use Rattle.job_text.proofs.Written.{written_read}
use Rattle.job_text.proofs.PrintedShapes.{separated_by, ended_as, map_map, map_back, flat_names, shape_for, shape_names_are, filter_for, source_for, from_for, dataset_for, query_for, dataset_spelled, query_spelled, uses_are, shape_back, shape_right}

-- ---- names of datasets

first_known : (first : List ℕ) (names : List (List ℕ)) → Knows (first ∷ names) first
first_known first names = rw ((bytes_eq-Decides first first).1 refl) (omega arith)

place_present : (names : List (List ℕ)) (place : ℕ) → place < length names → Knows names (get_or names place [])
place_present [] place lt = absurd (omega (arith, lt))
place_present (first ∷ names) zero lt = first_known first names
place_present (first ∷ names) (suc place) lt = elim (cases_Bool (bytes_eq first (get_or names place []))) [
  | inl e ↦ rw e (omega arith)
  | inr e ↦ rw e (omega (arith, place_present names place (omega (arith, lt))))
]

among_none : (names : List (List ℕ)) (name : List ℕ) → All (λ other. other ≢ name) names → is_among names name ≡ false
among_none names name h = le-ltb (place_of names name) (length names) (far names h)
  where
    far : (names : List (List ℕ)) → All (λ other. other ≢ name) names → length names ≤ place_of names name
    far [] h = omega arith
    far (first ∷ names) h =
        let differs : bytes_eq first name ≡ false = false_from_ne_true (bytes_eq first name) (λ t. h 0 [] (omega arith) ((bytes_eq-Decides first name).0 t)) in
        rw differs (omega (arith, far names (All-tail (λ other. other ≢ name) first names h)))

module _ (names : List (List ℕ)) (distinct : IsDistinct names) (short : All (λ name. length name ≤ 1024) names) where
  filter_right : (filter : Option Filter) → IfSome filter (IsFilter (length names)) → IfSome (option_map (filter_for names) filter) (IsFilterRight names)
  filter_right None h = tt
  filter_right (Some filter) h = printed_written names (λ c lt. distinct_place names c distinct lt) (λ c lt. short c [] lt) filter h

  source_right : (before after : List (List ℕ)) (number : ℕ) → number ≤ length before → IsSourceRight before (source_for names (before ++ after) number)
  source_right before after zero le = tt
  source_right before after (suc place) le =
      subst (λ (n : List ℕ). is_among before n ≡ true) (sym (get_or_append_left before after [] place (omega (arith, le))))
      (lt-ltb (place_of before (get_or before place [])) (length before) (place_present before place (omega (arith, le))))

  datasets_right : (all before : List (List ℕ)) (datasets : List Dataset) → all ≡ before ++ dataset_names datasets → IsDistinct all → All (λ dataset. length dataset.name ≤ 64) datasets
      → All (λ dataset. IfSome dataset.filter (IsFilter (length names))) datasets → ((place : ℕ) (d : Dataset) → place < length datasets → (get_or datasets place d).parent ≤ length before + place)
      → AreDatasets names before (map (dataset_for names all) datasets)
  datasets_right all before [] e d s f earlier = tt
  datasets_right all before (dataset ∷ datasets) e d s f earlier =
      let le : dataset.parent ≤ length before = omega (arith, earlier 0 dataset (omega arith)) in (
        record {
          short = All-head (λ dataset. length dataset.name ≤ 64) dataset datasets s;
          new = among_none before dataset.name (before_is before (dataset_names datasets) dataset.name (subst IsDistinct e d));
          source = subst (λ (l : List (List ℕ)). IsSourceRight before (source_for names l dataset.parent)) (sym e) (source_right before (dataset.name ∷ dataset_names datasets) dataset.parent le);
          filter = filter_right dataset.filter (All-head (λ dataset. IfSome dataset.filter (IsFilter (length names))) dataset datasets f);
        },
        datasets_right all (before ++ dataset.name ∷ []) datasets (e ∙ sym (append_assoc before (dataset.name ∷ []) (dataset_names datasets))) d (All-tail (λ dataset. length dataset.name ≤ 64) dataset datasets s)
            (All-tail (λ dataset. IfSome dataset.filter (IsFilter (length names))) dataset datasets f)
            (λ place d lt. omega (arith, earlier (suc place) d (omega (arith, lt)), length-append before (dataset.name ∷ []))),
      )

  source_back : (all : List (List ℕ)) (number : ℕ) → IsDistinct all → number ≤ length all → source_meant all (source_for names all number) ≡ number
  source_back all zero d le = refl
  source_back all (suc place) d le = omega (arith, distinct_place all place d (omega (arith, le)))

  from_back : (all : List (List ℕ)) (number : ℕ) → IsDistinct all → number ≤ length all → from_meant all (from_for names all number) ≡ number
  from_back all zero d le = refl
  from_back all (suc place) d le = omega (arith, distinct_place all place d (omega (arith, le)))

  from_right : (all : List (List ℕ)) (number : ℕ) → number ≤ length all → IfSome (from_for names all number) (IsSourceRight all)
  from_right all zero le = tt
  from_right all (suc place) le = lt-ltb (place_of all (get_or all place [])) (length all) (place_present all place (omega (arith, le)))

  filter_back : (filter : Option Filter) → option_map (λ written. written.means) (option_map (filter_for names) filter) ≡ filter
  filter_back None = refl
  filter_back (Some filter) = refl

  dataset_back : (all : List (List ℕ)) (dataset : Dataset) → IsDistinct all → dataset.parent ≤ length all → dataset_meant all (dataset_for names all dataset) ≡ dataset
  dataset_back all dataset d le =
      ap (λ (n : ℕ). record { name = dataset.name; parent = n; filter = option_map (λ written. written.means) (option_map (filter_for names) dataset.filter); level = dataset.level }) (source_back all dataset.parent d le)
      ∙ ap (λ (f : Option Filter). record { name = dataset.name; parent = dataset.parent; filter = f; level = dataset.level }) (filter_back dataset.filter)

  query_back : (all : List (List ℕ)) (query : Query) → IsDistinct all → query.dataset ≤ length all → IsShape (length names) query.shape → query_meant names all (query_for names all query) ≡ query
  query_back all query d le h =
      ap (λ (n : ℕ). record { dataset = n; shape = shape_meant names (shape_for names query.shape) }) (from_back all query.dataset d le) ∙ ap (λ (s : Shape). record { dataset = query.dataset; shape = s }) (shape_back names distinct short query.shape h)

-- ---- the whole job

module _ (job : Job) (h : IsJob job) where
  abbrev all : List (List ℕ)
  all = dataset_names job.datasets

  abbrev job_for : WrittenJob
  job_for = record { datasets = map (dataset_for job.names (dataset_names job.datasets)) job.datasets; queries = map (query_for job.names (dataset_names job.datasets)) job.queries }

  length-all : length (dataset_names job.datasets) ≡ length job.datasets
  length-all = length-map job.datasets (λ dataset. dataset.name)

  parent_within : (k : ℕ) (d : Dataset) → k < length job.datasets → (get_or job.datasets k d).parent ≤ length (dataset_names job.datasets)
  parent_within k d lt = omega (arith, h.datasets.earlier k d lt, lt, length-all)

  job_spelled : job_tokens job ≡ job_written job_for
  job_spelled =
      ap (λ (l : List Token). l ++ separated marks.Semicolon (query_tokens job.names all) job.queries) (ended_as marks.Semicolon (dataset_for job.names all) (dataset_tokens job.names all) dataset_written job.datasets (λ k d lt. dataset_spelled job.names all (get_or job.datasets k d)))
      ∙ ap (λ (l : List Token). ended_by marks.Semicolon dataset_written (map (dataset_for job.names all) job.datasets) ++ l)
      (separated_by marks.Semicolon (query_for job.names all) (query_tokens job.names all) query_written job.queries (λ k d lt. query_spelled job.names all (get_or job.queries k d) (h.queries k d lt).shape))

  names_named : job_names job_for ≡ columns_named job
  names_named =
      ap (λ (l : List (List ℕ)). l ++ flat_map query_names (map (query_for job.names all) job.queries)) (flat_names job.names (dataset_for job.names all) dataset_uses dataset_places job.datasets (λ k d lt. uses_are job.names (get_or job.datasets k d) all))
      ∙ ap (λ (l : List (List ℕ)). map (λ place. get_or job.names place []) (flat_map dataset_places job.datasets) ++ l)
      (flat_names job.names (query_for job.names all) query_names (λ query. shape_places query.shape) job.queries (λ k d lt. shape_names_are job.names (get_or job.queries k d).shape (h.queries k d lt).shape))
      ∙ sym (map-append (λ place. get_or job.names place []) (flat_map dataset_places job.datasets) (flat_map (λ query. shape_places query.shape) job.queries))

  names_are : with_names [] (job_names job_for) ≡ job.names
  names_are = ap (with_names []) names_named ∙ h.first

  all_are : names_written (map (dataset_for job.names all) job.datasets) ≡ all
  all_are = map_map (dataset_for job.names all) (λ dataset. dataset.name) job.datasets

  job_right : IsRight job_for
  job_right = record {
    few = omega (arith, h.datasets.few, length-map job.datasets (dataset_for job.names all));
    datasets = subst (λ (l : List (List ℕ)). AreDatasets l [] (map (dataset_for job.names all) job.datasets)) (sym names_are)
        (datasets_right job.names h.distinct h.names all [] job.datasets refl h.datasets.new h.datasets.short h.datasets.filters (λ place d lt. omega (arith, h.datasets.earlier place d lt)));
    several = short_list (query_for job.names all) job.queries h.several;
    queries = subst (λ (l : List (List ℕ)). All (IsQueryRight l) (map (query_for job.names all) job.queries)) (sym all_are)
        (All-map (IsQueryRight all) (query_for job.names all) job.queries (λ k d lt. record {
          shape = shape_right job.names h.distinct h.names (get_or job.queries k d).shape (h.queries k d lt).shape;
          source = from_right job.names h.distinct h.names all (get_or job.queries k d).dataset (omega (arith, (h.queries k d lt).dataset, length-all));
        }));
  }

  job_back : job_meant job_for ≡ job
  job_back =
      ap (λ (l : List (List ℕ)). record { names = l; datasets = map (dataset_meant (names_written (map (dataset_for job.names all) job.datasets))) (map (dataset_for job.names all) job.datasets); queries = map (query_meant l (names_written (map (dataset_for job.names all) job.datasets))) (map (query_for job.names all) job.queries) }) names_are
      ∙ ap (λ (l : List (List ℕ)). record { names = job.names; datasets = map (dataset_meant l) (map (dataset_for job.names all) job.datasets); queries = map (query_meant job.names l) (map (query_for job.names all) job.queries) }) all_are
      ∙ ap (λ (l : List Dataset). record { names = job.names; datasets = l; queries = map (query_meant job.names all) (map (query_for job.names all) job.queries) })
      (map_back (dataset_for job.names all) (dataset_meant all) job.datasets (λ k d lt. dataset_back job.names h.distinct h.names all (get_or job.datasets k d) h.datasets.new (parent_within k d lt)))
      ∙ ap (λ (l : List Query). record { names = job.names; datasets = job.datasets; queries = l })
      (map_back (query_for job.names all) (query_meant job.names all) job.queries (λ k d lt. query_back job.names h.distinct h.names all (get_or job.queries k d) h.datasets.new (omega (arith, (h.queries k d lt).dataset, length-all)) (h.queries k d lt).shape))

  -- the printed tokens are read as the job
  pub printed_read : job_of (job_tokens job) ≡ Some job
  printed_read = ap job_of job_spelled ∙ written_read job_for job_right ∙ ap (λ (j : Job). Some j) job_back
