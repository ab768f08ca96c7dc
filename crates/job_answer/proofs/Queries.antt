-- Each query of a plan tells its answer, since each shape does.
use Rattle.std.proofs.Common.{◌≡◌, ◌<◌, ◌∙◌, ℕ, List, [], ◌∷◌, None, All, map, length, slice_index_or, refl, sym, ap, arith, subst}
use Rattle.std.specs.Prelude.{option_map}
use Rattle.std.specs.List.{AllByRecursion}
use Rattle.std.proofs.lemmas.List.{get_or-map, length-map}
use Rattle.std.proofs.lemmas.List.Elements.{All-from_recursion, recursion_from_All}
use Rattle.aggregate.specs.Totals.{Entry, total}
use Rattle.job_text.specs.Jobs.{IsQuery, IsShape}
use Rattle.job_text.specs.declared.job.Job.{Job}
use Rattle.job_text.specs.declared.job.Query.{Query}
use Rattle.job_text.specs.declared.job.Shape.{Shape}
use Rattle.job_text.specs.declared.job.Shape.TheVariants.{Group, Order}
use Rattle.job_plan.specs.Columns.{Fields, kept, missing, over_kept}
use Rattle.job_plan.specs.Entries.{entry_of, kind_of}
use Rattle.job_plan.specs.Plans.{IsPlanOf, heading_at, heading_of, kept_at, kept_in, no_shape, places_in, shape_at}
use Rattle.job_plan.specs.Rows.{AreBytes, landed_rows}
use Rattle.job_plan.specs.Telling.{IsTold, row_of}
use Rattle.job_plan.specs.declared.query_plan.Plan.{Plan}
use Rattle.job_answer.specs.Derived.{derived, derived_each, is_in}
use Rattle.job_answer.specs.Laws.{IsOverEach, IsOverInput, TellsAnswer, TellsTable, TotalsTellAnswers, TotalsTellQueries, TotalsTellTables, input_of, query_at, totals_each, wide_total}
use Rattle.job_answer.specs.Numbered.{AreNumbered, Numbered, landed_each, numbered, rows_in}
use Rattle.job_answer.specs.OneShape.{GroupsTell, IsShort, OrdersTell, TellsShape}
use Rattle.job_answer.specs.Output.{shape_table, shape_wide}
use Rattle.job_answer.proofs.Derivations.{each-has-all}
use Rattle.job_answer.proofs.NumberedRows.{are-numbered, filter-landed, filter-numbered, landed-numbered, rows-filter, rows-numbered}
use Rattle.job_answer.proofs.PlainQueries.{query-over_input}

-- the shapes of a job's queries
abbrev shapes_of : Job → List Shape
shapes_of job = map (λ query. query.shape) job.queries

queries-map : {X : Type 0} (f : Shape → X) (queries : List Query) → map (λ query. f query.shape) queries ≡ map f (map (λ query. query.shape) queries)
queries-map f [] = refl
queries-map f (query ∷ queries) = ap (λ (xs : List _). f query.shape ∷ xs) (queries-map f queries)

shapes-sound : (names datasets : ℕ) (queries : List Query) → AllByRecursion (IsQuery names datasets) queries → AllByRecursion (IsShape names) (map (λ query. query.shape) queries)
shapes-sound names datasets [] all = tt
shapes-sound names datasets (query ∷ queries) all = (all.0.shape, shapes-sound names datasets queries all.1)

-- what is made of each shape stands at the query's place
at-query : {X : Type 0} (job : Job) (f : Shape → X) (made : List X) (query : ℕ) (none : X) → made ≡ map (λ q. f q.shape) job.queries → query < length (shapes_of job)
    → slice_index_or made query none ≡ f (slice_index_or (shapes_of job) query no_shape)
at-query {X} job f made query none is within =
    ap (λ (xs : List X). slice_index_or xs query none) (is ∙ queries-map f job.queries) ∙ get_or-map f (shapes_of job) query no_shape none within

count-shapes : (job : Job) (header : Fields) (plan : Plan) → IsPlanOf job header plan → length (kept_in plan) ≡ length (shapes_of job)
count-shapes job header plan made = ap length (made.over ∙ queries-map (over_kept job header) job.queries) ∙ length-map (shapes_of job) (over_kept job header)

-- ---- over any rows with their numbers

-- each shape tells its answer
shape-tells : GroupsTell → OrdersTell → (job : Job) (header : Fields) (input : List Numbered) (shape : Shape) → missing job.names header ≡ None → IsShape (length job.names) shape → AreNumbered input
    → AllByRecursion AreBytes (landed_each (kept job.names header) input) → AllByRecursion IsShort (landed_each (kept job.names header) input) → TellsShape job header input shape
shape-tells groups orders job header input (Group columns parts) found sound numbers bytes short = groups job header input columns parts found sound numbers.few
shape-tells groups orders job header input (Order keys columns) found sound numbers bytes short = orders job header input keys columns found sound numbers bytes short

-- the same of what a plan has for it
abbrev totals_from : Shape → List ℕ → List Numbered → List Entry
totals_from over places input = total (kind_of over) (map (entry_of over) (landed_each places input))

record TellsFrom (job : Job) (header : Fields) (input : List Numbered) (heading : Fields) (over : Shape) (places : List ℕ) (shape : Shape) : Type 0 where
  table : heading ∷ map (row_of over) (totals_from over places input) ≡ shape_table job header (rows_in input) shape
  wide : option_map (λ entry. entry.key) (wide_total over (totals_from over places input)) ≡ shape_wide job header (rows_in input) shape
  told : shape_wide job header (rows_in input) shape ≡ None → All (IsTold over) (totals_from over places input)

tells-from : (job : Job) (header : Fields) (input : List Numbered) (heading : Fields) (over : Shape) (places : List ℕ) (shape : Shape)
    → heading ≡ heading_of job.names shape → over ≡ over_kept job header shape → places ≡ kept job.names header → TellsShape job header input shape
    → TellsFrom job header input heading over places shape
tells-from job header input heading over places shape same-heading same-over same-places tells =
    rw (same-heading, same-over, same-places)
    (record { table = ap (λ (t : List Fields). heading_of job.names shape ∷ t) tells.table; wide = tells.wide; told = tells.told })

pub tables-tell : GroupsTell → OrdersTell → TotalsTellTables
tables-tell groups orders job header plan input query over within =
    let shape = slice_index_or (shapes_of job) query no_shape in
    let count = count-shapes job header plan over.made in
    let inside : query < length (shapes_of job) = omega arith in
    let same : shape_at plan query ≡ shape = ap (λ (shapes : List Shape). slice_index_or shapes query no_shape) over.made.shapes in
    let sound : IsShape (length job.names) shape =
    All-from_recursion (IsShape (length job.names)) (shapes_of job)
    (shapes-sound (length job.names) (length job.datasets) job.queries (recursion_from_All (IsQuery (length job.names) (length job.datasets)) job.queries over.whole.queries)) query no_shape inside in
    let bytes = subst (λ (places : List ℕ). AllByRecursion AreBytes (landed_each places input)) over.made.places over.bytes in
    let short = subst (λ (places : List ℕ). AllByRecursion IsShort (landed_each places input)) over.made.places over.short in
    let tells = shape-tells groups orders job header input shape over.made.found sound over.numbers bytes short in
    let from = tells-from job header input (heading_at plan query) (kept_at plan query) (places_in plan) shape
    (at-query job (heading_of job.names) _ query [] over.made.headings inside)
    (at-query job (over_kept job header) (kept_in plan) query no_shape over.made.over inside)
    over.made.places tells in
    record {
      table = rw same from.table;
      wide = rw same from.wide;
      told = rw same from.told;
    }

-- ---- over the rows of a query's dataset

-- the shape of a query, as the job and as the plan have it
shape-of : (job : Job) (header : Fields) (plan : Plan) (query : ℕ) → IsPlanOf job header plan → query < length (kept_in plan) → shape_at plan query ≡ (query_at job query).shape
shape-of job header plan query made within =
    let count = count-shapes job header plan made in
    let size : length (shapes_of job) ≡ length job.queries = length-map job.queries (λ query. query.shape) in
    ap (λ (shapes : List Shape). slice_index_or shapes query no_shape) made.shapes
    ∙ get_or-map (λ (q : Query). q.shape) job.queries query (record { dataset = 0; shape = no_shape }) no_shape (omega arith)

answer-tells : (job : Job) (header : Fields) (plan : Plan) (rows : List Fields) (query : ℕ) (totals : List Entry) → shape_at plan query ≡ (query_at job query).shape
    → TellsTable job header plan (derived job header (query_at job query).dataset rows) query totals → TellsAnswer job header plan rows query totals
answer-tells job header plan rows query totals same tells = record {
  table = rw same at tells.table;
  wide = rw same at tells.wide;
  told = rw same at tells.told;
}

pub queries-tell : TotalsTellTables → TotalsTellQueries
queries-tell tables job header plan rows query over within =
    let dataset = (query_at job query).dataset in
    let input = input_of job header query rows in
    let kept-row = λ (r : Numbered). is_in job header dataset r.1 in
    let landed = sym (landed-numbered (places_in plan) 1 rows) in
    let each : IsOverEach job header plan input = record {
      whole = over.whole;
      made = over.made;
      numbers = filter-numbered kept-row (numbered 1 rows) (are-numbered rows over.few);
      bytes = filter-landed kept-row AreBytes (places_in plan) (numbered 1 rows) (subst (AllByRecursion AreBytes) landed over.bytes);
      short = filter-landed kept-row IsShort (places_in plan) (numbered 1 rows) (subst (AllByRecursion IsShort) landed over.short);
    } in
    let alone : rows_in input ≡ derived job header dataset rows =
    rows-filter (is_in job header dataset) (numbered 1 rows) ∙ ap (derived job header dataset) (rows-numbered 1 rows) in
    answer-tells job header plan rows query (totals_each plan query input) (shape-of job header plan query over.made within)
    (subst (λ (list : List Fields). TellsTable job header plan list query (totals_each plan query input)) alone (tables job header plan input query each within))

-- ---- over all rows

pub answers-tell : TotalsTellQueries → TotalsTellAnswers
answers-tell queries job header plan rows query over within =
    let inside : query < length job.queries =
    (let count = count-shapes job header plan over.made in let size : length (shapes_of job) ≡ length job.queries = length-map job.queries (λ query. query.shape) in omega arith) in
    let input : (query_at job query).dataset ≡ 0 = query-over_input job over.whole over.plain query _ inside in
    let whole : IsOverInput job header plan rows = record { whole = over.whole; made = over.made; bytes = over.bytes; short = over.short; few = over.few } in
    let all : landed_each (places_in plan) (input_of job header query rows) ≡ landed_rows (places_in plan) 1 rows =
    ap (λ (d : ℕ). landed_each (places_in plan) (derived_each job header d (numbered 1 rows))) input
    ∙ ap (landed_each (places_in plan)) (each-has-all job header (numbered 1 rows)) ∙ landed-numbered (places_in plan) 1 rows in
    subst (λ (landed : List Fields). TellsAnswer job header plan rows query (total (kind_of (kept_at plan query)) (map (entry_of (kept_at plan query)) landed))) all
    (queries job header plan rows query whole within)
