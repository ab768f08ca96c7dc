-- What the totals of all queries of a plan end as is how the job ends over its rows.
use Rattle.std.proofs.Common.{◌≡◌, ◌∙◌, ◌+◌, ◌^◌, ◌<◌, ◌≤◌, ◌∷◌, [], ℕ, suc, List, Option, Some, None, length, map, refl, sym, ap, subst, arith}
use Rattle.std.specs.List.{AllByRecursion, range_with_len}
use Rattle.std.specs.Option.{option_or}
use Rattle.std.specs.Prelude.{option_map, slice_index_or}
use Rattle.std.proofs.Math.ListN as lists
use Rattle.std.proofs.lemmas.List.{length-map}
use Rattle.aggregate.specs.Totals.{Entry, total}
use Rattle.job_answer.specs.Laws.{IsOverInput, TellsAnswer, TotalsTellQueries, input_of, query_at, totals_each, wide_total}
use Rattle.job_answer.specs.Numbered.{landed_each, numbered}
use Rattle.job_answer.specs.Output.{tables_text, output, table_rows, text_of, too_wide, wide_from, wide_key}
use Rattle.job_answer.specs.Planned.{PlansDeriveRows}
use Rattle.job_answer.proofs.NumberedRows.{landed-numbered}
use Rattle.job_plan.specs.Columns.{Fields}
use Rattle.job_plan.specs.Entries.{entry_of, field_bytes}
use Rattle.job_plan.specs.Plans.{IsPlanOf, chain_in, form_in, kept_at, kept_in, kind_at, no_shape, places_in}
use Rattle.job_plan.specs.Rows.{AreBytes, landed_rows}
use Rattle.job_plan.specs.declared.query_plan.Plan.{Plan}
use Rattle.job_text.specs.Jobs.{IsJob}
use Rattle.job_text.specs.declared.job.Job.{Job}
use Rattle.job_text.specs.declared.job.Query.{Query}
use Rattle.job_text.specs.declared.job.Shape.{Shape}
use Rattle.landing.specs.Checks.{checked}
use Rattle.landing.specs.Landed.{AreChecked, PassChecks}
use Rattle.result_table.specs.Results.{table_of}
use Rattle.row_filter.specs.Derived.{derived}
use Rattle.job_ending.specs.Endings.{ending_of_checked, ending_of_totals, ending_with, tables_of, totals_of, wide_among, wide_of}
use Rattle.job_ending.specs.Endings.{dataset_in}
use Rattle.csv_program.proofs.Judged.{length-landed}

-- ---- the queries by their numbers

-- what stands for a query that isn't there
abbrev no_query : Query
no_query = record { dataset = 0; shape = no_shape }

abbrev at : List Query → ℕ → Query
at queries k = slice_index_or queries k no_query

moved : (a k : ℕ) → (a + 1) + k ≡ a + suc k
moved a k = omega arith

from_none : (k : ℕ) → 0 + k ≡ k
from_none k = omega arith

tables_are : (table : ℕ → List ℕ) (text : Query → List ℕ) (a : ℕ) (queries : List Query) → ((k : ℕ) → k < length queries → table (a + k) ≡ text (at queries k)) → map table (range_with_len a (length queries)) ≡ map text queries
tables_are table text a [] each = refl
tables_are table text a (query ∷ queries) each =
    let here : a + 0 ≡ a = omega arith in
    let first : table a ≡ text query = ap table (sym here) ∙ each 0 (omega arith) in
    ap (λ (one : List ℕ). one ∷ map table (range_with_len (a + 1) (length queries))) first
    ∙ ap (λ (rest : List (List ℕ)). text query ∷ rest) (tables_are table text (a + 1) queries (λ k below. ap table (moved a k) ∙ each (suc k) (omega (arith, below))))

key_by : (number : ℕ) (found : Option Entry) (key : Option (List ℕ)) → option_map (λ entry. entry.key) found ≡ key → option_map {U = ℕ × List ℕ} (λ entry. (number, entry.key)) found ≡ option_map {U = ℕ × List ℕ} (λ key. (number, key)) key
key_by number None key is = ap (option_map {U = ℕ × List ℕ} (λ key. (number, key))) is
key_by number (Some entry) key is = ap (option_map {U = ℕ × List ℕ} (λ key. (number, key))) is

wide_are : (job : Job) (header : Fields) (rows : List Fields) (plan : Plan) (totals : ℕ → List Entry) (a : ℕ) (queries : List Query)
    → ((k : ℕ) → k < length queries → option_map (λ entry. entry.key) (wide_total (kept_at plan (a + k)) (totals (a + k))) ≡ wide_key job header rows (at queries k))
    → wide_among plan totals (range_with_len a (length queries)) ≡ wide_from job header rows a queries
wide_are job header rows plan totals a [] each = refl
wide_are job header rows plan totals a (query ∷ queries) each =
    let here : a + 0 ≡ a = omega arith in
    let key : ℕ → Option (List ℕ) = λ number. option_map (λ entry. entry.key) (wide_total (kept_at plan number) (totals number)) in
    let first : key a ≡ wide_key job header rows query = ap key (sym here) ∙ each 0 (omega arith) in
    let more = wide_are job header rows plan totals (a + 1) queries (λ k below. ap key (moved a k) ∙ each (suc k) (omega (arith, below))) in
    ap (λ (one : Option (ℕ × List ℕ)). option_or one (wide_among plan totals (range_with_len (a + 1) (length queries)))) (key_by a (wide_total (kept_at plan a) (totals a)) (wide_key job header rows query) first)
    ∙ ap (option_or (option_map {U = ℕ × List ℕ} (λ key. (a, key)) (wide_key job header rows query))) more

-- ---- the rows of a query

-- the dataset of a query is the job's
pub dataset_is : (job : Job) (header : Fields) (plan : Plan) (query : ℕ) → IsPlanOf job header plan → dataset_in plan query ≡ (query_at job query).dataset
dataset_is job header plan query made =
    ap (λ (datasets : List ℕ). slice_index_or datasets query 0) made.datasets ∙ lists.get_or-map (λ (query : Query). query.dataset) job.queries query no_query

-- the totals over landed rows are those over the rows of the query's dataset
totals_are : (job : Job) (header : Fields) (plan : Plan) (rows : List Fields) (query : ℕ) → PlansDeriveRows → IsJob job → IsPlanOf job header plan
    → totals_of plan (landed_rows (places_in plan) 1 rows) query ≡ totals_each plan query (input_of job header query rows)
totals_are job header plan rows query law whole made =
    let dataset = (query_at job query).dataset in
    let same : derived (chain_in plan) (dataset_in plan query) (landed_rows (places_in plan) 1 rows) ≡ landed_each (places_in plan) (input_of job header query rows) =
    ap (λ (d : ℕ). derived (chain_in plan) d (landed_rows (places_in plan) 1 rows)) (dataset_is job header plan query made)
    ∙ ap (derived (chain_in plan) dataset) (sym (landed-numbered (places_in plan) 1 rows)) ∙ sym (law job header plan dataset (numbered 1 rows) whole made) in
    ap (λ (list : List Fields). total (kind_at plan query) (map (entry_of (kept_at plan query)) list)) same

-- ---- the ending

output_is : (job : Job) (header : Fields) (rows : List Fields) → output job header rows ≡ tables_text (map (λ query. text_of (table_rows job header rows query)) job.queries)
unfolding output
output_is job header rows = refl

-- as many queries as the job has
pub count_is : (job : Job) (header : Fields) (plan : Plan) → IsPlanOf job header plan → length (kept_in plan) ≡ length job.queries
count_is job header plan made = ap (λ (shapes : List Shape). length shapes) made.over ∙ length-map job.queries (λ (query : Query). _)

-- what the totals end as is how the job ends
pub ending_is : (job : Job) (max_rows : ℕ) (plan : Plan) (landed records : List Fields) → max_rows ≤ 10000000 → TotalsTellQueries → PlansDeriveRows → IsJob job
    → PassChecks job max_rows plan landed records → AreChecked (form_in plan) landed → length landed ≤ max_rows
    → ending_of_totals plan (totals_of plan landed) ≡ ending_of_checked job (checked job max_rows records)
ending_is job max_rows plan landed records most tell derive whole are formed few =
    let header = are.header in
    let rows = are.rows in
    let same = are.landed_are in
    let made = are.planned in
    let totals : ℕ → List Entry = totals_of plan (landed_rows (places_in plan) 1 rows) in
    let count : length rows ≤ 2 ^ 32 = omega (arith, most, few, ap (λ (list : List Fields). length list) same, length-landed (places_in plan) 1 rows) in
    let over : IsOverInput job header plan rows = record {
      whole = whole;
      made = made;
      bytes = subst (λ (list : List Fields). AllByRecursion AreBytes list) same formed.bytes;
      short = subst (λ (list : List Fields). AllByRecursion (λ row. field_bytes row ≤ 65536) list) same formed.short;
      few = count;
    } in
    let several : length (kept_in plan) ≡ length job.queries = count_is job header plan made in
    let tells : (query : ℕ) → query < length job.queries → TellsAnswer job header plan rows query (totals query) = λ query below.
    subst (TellsAnswer job header plan rows query) (sym (totals_are job header plan rows query derive whole made)) (tell job header plan rows query over (omega (arith, below, several))) in
    let text : tables_of plan totals ≡ output job header rows =
    ap (λ (n : ℕ). tables_text (map (λ query. table_of plan query (totals query)) (range_with_len 0 n))) several
    ∙ ap tables_text (tables_are (λ query. table_of plan query (totals query)) (λ query. text_of (table_rows job header rows query)) 0 job.queries (λ k below. ap (λ (query : ℕ). table_of plan query (totals query)) (from_none k) ∙ ap text_of (tells k below).table))
    ∙ sym (output_is job header rows) in
    let wide : wide_of plan totals ≡ too_wide job header rows =
    ap (λ (n : ℕ). wide_among plan totals (range_with_len 0 n)) several ∙ wide_are job header rows plan totals 0 job.queries
    (λ k below. ap (λ (query : ℕ). option_map (λ (entry : Entry). entry.key) (wide_total (kept_at plan query) (totals query))) (from_none k) ∙ (tells k below).wide) in
    ap (λ (list : List Fields). ending_of_totals plan (totals_of plan list)) same
    ∙ ap (λ (bytes : List ℕ). ending_with bytes (wide_of plan totals)) text
    ∙ ap (ending_with (output job header rows)) wide ∙ ap (ending_of_checked job) (sym are.passed)
