-- What is written as the grammar has it is read.
use Rattle.std.proofs.Common.{◌≡◌, ℕ, ◌+◌, ◌<◌, ◌≤◌, List, [], ◌∷◌, ◌++◌, length, Option, Some, None, refl, sym, ap, subst, ◌∙◌, append_assoc, arith}
use Rattle.std.specs.Prelude.{All, IfSome, map, flat_map}
use Rattle.std.proofs.lemmas.Bool.{lt-ltb, le-leb}
use Rattle.std.proofs.lemmas.List.{append-nil, length-append, map-append}
use Rattle.job_text.specs.declared.mark.Mark.{Mark}
use Rattle.job_text.specs.declared.mark.Mark.TheVariants as marks
use Rattle.job_text.specs.declared.token.Token.{Token}
use Rattle.job_text.specs.declared.token.Token.TheVariants.{Fixed, Word}
use Rattle.job_text.specs.declared.job.Query.{Query}
use Rattle.job_text.specs.declared.job.Dataset.{Dataset}
use Rattle.pool_ledger.specs.declared.entry.Level.{Level}
use Rattle.pool_ledger.specs.declared.entry.Level.TheVariants as levels
use Rattle.job_text.specs.declared.state.At.{At}
use Rattle.job_text.specs.declared.state.At.TheVariants as at
use Rattle.job_text.specs.declared.state.State.{State}
use Rattle.job_text.specs.Columns.{place_of, dataset_names, with_names}
use Rattle.job_text.specs.Step.{step, start, made_from, after_word, filter_ended, after_mark}
use Rattle.job_text.specs.Begins.{steps, job_at, job_of}
use Rattle.job_text.specs.Jobs.{IsShape}
use Rattle.job_text.specs.Grammar.{WrittenShape, WrittenSource, WrittenFilter, WrittenDataset, where_written, WrittenQuery, WrittenJob, ended_by, source_written, keep_written, dataset_written, shape_written, from_written, query_written, job_written, separated}
use Rattle.job_text.specs.Rules.{IsFilterRight, filter_uses, dataset_uses, IsSourceRight, IsDatasetRight, AreDatasets, IsQueryRight, IsRight, names_written, query_names, job_names}
use Rattle.job_text.specs.Meaning.{source_meant, dataset_meant, shape_meant, query_meant, job_meant}
use Rattle.job_text.specs.Grammar.{group, order, input, by_name}
use Rattle.std.specs.Option.{option_map}
use Rattle.row_filter.specs.declared.filter.Filter.{Filter}
use Rattle.job_text.specs.declared.filter_state.FilterState.{FilterState}
use Rattle.job_text.specs.FilterStep.{filter_start, filter_steps, filter_at}
use Rattle.job_text.proofs.FilterWritten.{written_read as filter_written}
use Rattle.job_text.proofs.Filtered.{filter_goes}
use Rattle.job_text.proofs.Meant.{names_meant, source_same, names_short, shapes_are}
use Rattle.job_text.proofs.Named.{with_names-append}
use Rattle.job_text.proofs.Fitting.{put}
use Rattle.job_text.proofs.WrittenQueries.{step_then, ends, queries_read}

-- ---- datasets

-- where a dataset may come a query may come
query_starts : (now : List (List ℕ)) (datasets : List Dataset) (queries : List Query) (shape : WrittenShape) (rest : List Token) → steps (put now datasets queries at.Start) (shape_written shape ++ rest) ≡ steps (put now datasets queries at.Query) (shape_written shape ++ rest)
unfolding steps step
query_starts now datasets queries (group columns aggs) rest = refl
query_starts now datasets queries (order keys columns) rest = refl

queries_start : (now : List (List ℕ)) (datasets : List Dataset) (done : List Query) (query : WrittenQuery) (queries : List WrittenQuery)
    → steps (put now datasets done at.Start) (separated marks.Semicolon query_written (query ∷ queries)) ≡ steps (put now datasets done at.Query) (separated marks.Semicolon query_written (query ∷ queries))
queries_start now datasets done query [] = query_starts now datasets done query.shape (from_written query.source)
queries_start now datasets done query (other ∷ queries) =
    let more = Fixed marks.Semicolon ∷ separated marks.Semicolon query_written (other ∷ queries) in
    ap (steps (put now datasets done at.Start)) (append_assoc (shape_written query.shape) (from_written query.source) more)
    ∙ query_starts now datasets done query.shape (from_written query.source ++ more)
    ∙ ap (steps (put now datasets done at.Query)) (sym (append_assoc (shape_written query.shape) (from_written query.source) more))

module _ (now : List (List ℕ)) (done : List Dataset) where
  mark_read : (place : At) (mark : Mark) (next : State) (rest : List Token) → after_mark (record { names = now; datasets = done; queries = [] }) place mark ≡ Some next → steps (put now done [] place) (Fixed mark ∷ rest) ≡ steps next rest
  unfolding step
  mark_read place mark next rest e = step_then _ _ (Fixed mark) rest e

  word_read : (place : At) (name : List ℕ) (next : State) (rest : List Token) → after_word (record { names = now; datasets = done; queries = [] }) place name ≡ Some next → steps (put now done [] place) (Word name ∷ rest) ≡ steps next rest
  unfolding step
  word_read place name next rest e = step_then _ _ (Word name) rest e

  parent_read : (name : List ℕ) (source : WrittenSource) (rest : List Token) → IsSourceRight (dataset_names done) source
      → steps (put now done [] (at.DatasetSource name)) (source_written source ++ rest) ≡ steps (put now done [] (at.Made (made_from name (source_meant (dataset_names done) source) None))) rest
  parent_read name input rest h = mark_read (at.DatasetSource name) marks.Input (put now done [] (at.Made (made_from name 0 None))) rest refl
  parent_read name (by_name source) rest h = word_read (at.DatasetSource name) source (put now done [] (at.Made (made_from name (place_of (dataset_names done) source + 1) None))) rest (rw h refl)

  -- behind what may be the end of a dataset
  level_read : (place : At) (dataset : Dataset) (level : Option Level) (rest : List Token) → dataset.level ≡ None
      → after_mark (record { names = now; datasets = done; queries = [] }) place marks.Keep ≡ Some (put now done [] (at.Level dataset))
      → after_mark (record { names = now; datasets = done; queries = [] }) place marks.Semicolon ≡ Some (put now (done ++ dataset ∷ []) [] at.Start)
      → steps (put now done [] place) (keep_written level ++ Fixed marks.Semicolon ∷ rest) ≡ steps (put now (done ++ record dataset { level = level } ∷ []) [] at.Start) rest
  level_read place dataset None rest none keep ends =
      mark_read place marks.Semicolon (put now (done ++ dataset ∷ []) [] at.Start) rest ends
      ∙ ap (λ (l : Option Level). steps (put now (done ++ record dataset { level = l } ∷ []) [] at.Start) rest) none
  level_read place dataset (Some levels.Memory) rest none keep ends =
      mark_read place marks.Keep (put now done [] (at.Level dataset)) (Fixed marks.Memory ∷ Fixed marks.Semicolon ∷ rest) keep
      ∙ mark_read (at.Level dataset) marks.Memory (put now done [] (at.Kept (record dataset { level = Some levels.Memory }))) (Fixed marks.Semicolon ∷ rest) refl
      ∙ mark_read (at.Kept (record dataset { level = Some levels.Memory })) marks.Semicolon (put now (done ++ record dataset { level = Some levels.Memory } ∷ []) [] at.Start) rest refl
  level_read place dataset (Some levels.Disk) rest none keep ends =
      mark_read place marks.Keep (put now done [] (at.Level dataset)) (Fixed marks.Disk ∷ Fixed marks.Semicolon ∷ rest) keep
      ∙ mark_read (at.Level dataset) marks.Disk (put now done [] (at.Kept (record dataset { level = Some levels.Disk }))) (Fixed marks.Semicolon ∷ rest) refl
      ∙ mark_read (at.Kept (record dataset { level = Some levels.Disk })) marks.Semicolon (put now (done ++ record dataset { level = Some levels.Disk } ∷ []) [] at.Start) rest refl

-- a filter, and what may end its dataset
filter_read : (now later : List (List ℕ)) (done : List Dataset) (name : List ℕ) (parent : ℕ) (filter : WrittenFilter) (level : Option Level) (rest : List Token) → IsFilterRight (with_names (with_names now filter.used) later) filter
    → steps (put now done [] (at.Made (made_from name parent None))) ((Fixed marks.Where ∷ filter.tokens) ++ (keep_written level ++ Fixed marks.Semicolon ∷ rest))
    ≡ steps (put (with_names now filter.used) (done ++ record { name = name; parent = parent; filter = Some filter.means; level = level } ∷ []) [] at.Start) rest
unfolding filter_steps
filter_read now later done name parent filter level rest h =
    let read = filter_written now filter.used later filter.tokens filter.means h in
    let next = with_names now filter.used in
    let dataset = made_from name parent (Some filter.means) in
    let back : List Token = keep_written level ++ Fixed marks.Semicolon ∷ rest in
    mark_read now done (at.Made (made_from name parent None)) marks.Where (put now done [] (at.Filter name parent filter_start)) (filter.tokens ++ back) refl
    ∙ filter_goes done [] name parent filter.tokens now next filter_start read.last back (whole read.last (read.reads []))
    ∙ level_read next done (at.Filter name parent read.last) dataset level rest refl (ends marks.Keep read.last read.is) (ends_here read.last read.is)
  where
    whole : (last : FilterState) → filter_steps now filter_start (filter.tokens ++ []) ≡ filter_steps (with_names now filter.used) last [] → filter_steps now filter_start filter.tokens ≡ Some (with_names now filter.used, last)
    whole last e = ap (filter_steps now filter_start) (sym (append-nil filter.tokens)) ∙ e

    ends : (mark : Mark) (last : FilterState) → filter_at last ≡ Some filter.means → filter_ended (record { names = with_names now filter.used; datasets = done; queries = [] }) name parent (filter_at last) mark ≡ filter_ended (record { names = with_names now filter.used; datasets = done; queries = [] }) name parent (Some filter.means) mark
    ends mark last e = ap (λ (o : Option Filter). filter_ended (record { names = with_names now filter.used; datasets = done; queries = [] }) name parent o mark) e

    ends_here : (last : FilterState) → filter_at last ≡ Some filter.means → filter_ended (record { names = with_names now filter.used; datasets = done; queries = [] }) name parent (filter_at last) marks.Semicolon ≡ Some (put (with_names now filter.used) (done ++ made_from name parent (Some filter.means) ∷ []) [] at.Start)
    ends_here last e = ends marks.Semicolon last e

where_read : (now later : List (List ℕ)) (done : List Dataset) (name : List ℕ) (parent : ℕ) (filter : Option WrittenFilter) (level : Option Level) (rest : List Token)
    → IfSome filter (IsFilterRight (with_names (with_names now (filter_uses filter)) later))
    → steps (put now done [] (at.Made (made_from name parent None))) (where_written filter ++ (keep_written level ++ Fixed marks.Semicolon ∷ rest))
    ≡ steps (put (with_names now (filter_uses filter)) (done ++ record { name = name; parent = parent; filter = option_map (λ filter. filter.means) filter; level = level } ∷ []) [] at.Start) rest
where_read now later done name parent None level rest h = level_read now done (at.Made (made_from name parent None)) (made_from name parent None) level rest refl refl refl
where_read now later done name parent (Some filter) level rest h = filter_read now later done name parent filter level rest h

dataset_read : (now later : List (List ℕ)) (done : List Dataset) (dataset : WrittenDataset) (rest : List Token) → IsDatasetRight (with_names (with_names now (dataset_uses dataset)) later) (dataset_names done) dataset → length done < 8
    → steps (put now done [] at.Start) (dataset_written dataset ++ Fixed marks.Semicolon ∷ rest) ≡ steps (put (with_names now (dataset_uses dataset)) (done ++ dataset_meant (dataset_names done) dataset ∷ []) [] at.Start) rest
dataset_read now later done dataset rest h few =
    let name = dataset.name in
    let source = source_written dataset.source in
    let filter = where_written dataset.filter in
    let level = keep_written dataset.level in
    let parent = source_meant (dataset_names done) dataset.source in
    let last : List Token = Fixed marks.Semicolon ∷ rest in
    let back : List Token = ((source ++ filter) ++ level) ++ last in
    mark_read now done at.Start marks.Let (put now done [] at.DatasetName) (Word name ∷ Fixed marks.Equal ∷ back) (rw (lt-ltb (length done) 8 few) refl)
    ∙ word_read now done at.DatasetName name (put now done [] (at.DatasetEquals name)) (Fixed marks.Equal ∷ back) (rw (le-leb (length name) 64 h.short, h.new) refl)
    ∙ mark_read now done (at.DatasetEquals name) marks.Equal (put now done [] (at.DatasetSource name)) back refl
    ∙ ap (steps (put now done [] (at.DatasetSource name))) (append_assoc (source ++ filter) level last ∙ append_assoc source filter (level ++ last))
    ∙ parent_read now done name dataset.source (filter ++ (level ++ last)) h.source
    ∙ where_read now later done name parent dataset.filter dataset.level rest h.filter

datasets_read : (now later all : List (List ℕ)) (done : List Dataset) (datasets : List WrittenDataset) (rest : List Token) → all ≡ dataset_names done ++ names_written datasets
    → AreDatasets (with_names (with_names now (flat_map dataset_uses datasets)) later) (dataset_names done) datasets → length done + length datasets ≤ 8
    → steps (put now done [] at.Start) (ended_by marks.Semicolon dataset_written datasets ++ rest) ≡ steps (put (with_names now (flat_map dataset_uses datasets)) (done ++ map (dataset_meant all) datasets) [] at.Start) rest
datasets_read now later all done [] rest e h few = ap (λ (l : List Dataset). steps (put now l [] at.Start) rest) (sym (append-nil done))
datasets_read now later all done (dataset ∷ datasets) rest e h few =
    let more = ended_by marks.Semicolon dataset_written datasets in
    let one = dataset_meant all dataset in
    let next : List Dataset = done ++ one ∷ [] in
    let uses = dataset_uses dataset in
    let others = flat_map dataset_uses datasets in
    let names : dataset_names next ≡ dataset_names done ++ dataset.name ∷ [] = map-append (λ dataset. dataset.name) done (one ∷ []) in
    let parent : source_meant (dataset_names done) dataset.source ≡ source_meant all dataset.source =
    sym (source_same (dataset_names done) (names_written (dataset ∷ datasets)) dataset.source h.0.source) ∙ ap (λ (l : List (List ℕ)). source_meant l dataset.source) (sym e) in
    let split : with_names now (uses ++ others) ≡ with_names (with_names now uses) others = with_names-append uses others now in
    let all_split : with_names (with_names now (uses ++ others)) later ≡ with_names (with_names now uses) (others ++ later) = ap (λ (l : List (List ℕ)). with_names l later) split ∙ sym (with_names-append others later (with_names now uses)) in
    ap (steps (put now done [] at.Start)) (append_assoc (dataset_written dataset) (Fixed marks.Semicolon ∷ more) rest)
    ∙ dataset_read now (others ++ later) done dataset (more ++ rest) (subst (λ (l : List (List ℕ)). IsDatasetRight l (dataset_names done) dataset) all_split h.0) (omega (arith, few))
    ∙ ap (λ (n : ℕ). steps (put (with_names now uses) (done ++ record { name = dataset.name; parent = n; filter = option_map (λ filter. filter.means) dataset.filter; level = dataset.level } ∷ []) [] at.Start) (more ++ rest)) parent
    ∙ datasets_read (with_names now uses) later all next datasets rest (e ∙ sym (append_assoc (dataset_names done) (dataset.name ∷ []) (names_written datasets)) ∙ ap (λ (l : List (List ℕ)). l ++ names_written datasets) (sym names))
    (subst (λ (l : List (List ℕ)). AreDatasets l (dataset_names next) datasets) (ap (λ (l : List (List ℕ)). with_names l later) split)
    (subst (λ (l : List (List ℕ)). AreDatasets (with_names (with_names now (uses ++ others)) later) l datasets) (sym names) h.1)) (omega (arith, few, length-append done (one ∷ [])))
    ∙ ap (λ (l : List (List ℕ)). steps (put l (next ++ map (dataset_meant all) datasets) [] at.Start) rest) (sym split)
    ∙ ap (λ (l : List Dataset). steps (put (with_names now (uses ++ others)) l [] at.Start) rest) (append_assoc done (one ∷ []) (map (dataset_meant all) datasets))

pub written_read : (job : WrittenJob) → IsRight job → job_of (job_written job) ≡ Some (job_meant job)
written_read job right = by job.queries refl
  where
    by : (queries : List WrittenQuery) → job.queries ≡ queries → job_of (job_written job) ≡ Some (job_meant job)
    by [] e = absurd (omega (arith, right.several.some, ap length e))
    by (query ∷ queries) e =
        let made = flat_map dataset_uses job.datasets in
        let rest = flat_map query_names job.queries in
        let names = with_names [] (job_names job) in
        let split : names ≡ with_names (with_names [] made) rest = with_names-append made rest [] in
        let all = names_written job.datasets in
        let datasets = map (dataset_meant all) job.datasets in
        let same : dataset_names datasets ≡ all = names_meant all job.datasets in
        ap (λ (l : List WrittenQuery). job_at (steps start (ended_by marks.Semicolon dataset_written job.datasets ++ separated marks.Semicolon query_written l))) e
        ∙ ap job_at (datasets_read [] rest all [] job.datasets (separated marks.Semicolon query_written (query ∷ queries)) refl (subst (λ (l : List (List ℕ)). AreDatasets l [] job.datasets) split right.datasets) (omega (arith, right.few)))
        ∙ ap job_at (queries_start (with_names [] made) datasets [] query queries)
        ∙ queries_read names (names_short job right) datasets (with_names [] made) [] query queries (ap (λ (l : List WrittenQuery). with_names (with_names [] made) (flat_map query_names l)) (sym e) ∙ sym split)
        (subst (All (λ query. IsShape (length names) (shape_meant names query.shape))) e (shapes_are job right))
        (subst (λ (l : List WrittenQuery). All (IsQueryRight (dataset_names datasets)) l) e (subst (λ (l : List (List ℕ)). All (IsQueryRight l) job.queries) (sym same) right.queries))
        (omega (arith, right.several.few, ap length e))
        ∙ ap (λ (l : List WrittenQuery). Some (record { names = names; datasets = datasets; queries = map (query_meant names (dataset_names datasets)) l })) (sym e)
        ∙ ap (λ (l : List (List ℕ)). Some (record { names = names; datasets = datasets; queries = map (query_meant names l) job.queries })) same
