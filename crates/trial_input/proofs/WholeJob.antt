-- The job of a trial is one that has a text.
use Rattle.std.proofs.Common.{◌≡◌, ℕ, zero, suc, ◌<◌, ◌≤◌, ◌∙◌, true, List, [], ◌∷◌, ◌++◌, length, map, slice_index_or, ℤ, pos, refl, sym, ap, subst, arith}
use Rattle.std.specs.Prelude.{◌≢◌, All, AllPairs, Err, IfOk, IfSome, Ok, Result, flat_map}
use Rattle.std.proofs.lemmas.List.Elements.{All-from_recursion}
use Rattle.std.proofs.lemmas.List.Kept.{AllPairs-cons}
use Rattle.aggregate.specs.declared.agg_list.Agg.TheVariants.{Sum, Min, Max}
use Rattle.aggregate.specs.Partial.{fits_i64}
use Rattle.row_filter.specs.declared.filter.Comparison.TheVariants.{AtLeast}
use Rattle.row_filter.specs.declared.filter.Constant.TheVariants.{Number}
use Rattle.job_text.specs.Columns.{with_names}
use Rattle.job_text.specs.FilterForms.{FilterForm, IsFilter, filter_places}
use Rattle.job_text.specs.Jobs.{AreGoodDatasets, IsColumns, IsDistinct, IsJob, IsAggregate, IsQuery, IsShortList, columns_named, dataset_places, shape_places}
use Rattle.job_text.specs.Scan.{is_plain}
use Rattle.job_text.specs.declared.job.Dataset.{Dataset}
use Rattle.job_text.specs.declared.job.Job.{Job}
use Rattle.job_text.specs.declared.job.Part.{Part}
use Rattle.job_text.proofs.FilterEquations.{form-test}
use Rattle.trial_input.specs.FixedJob.{counts, high_dataset, key, keys_query, limits_query, of_price, order_query, pos_dataset, price, priced_from, sums_query, trial_job}

-- ---- lists in which no item stands twice

none-distinct : {A : Type 0} → AllPairs (λ (a b : A). a ≢ b) []
none-distinct = λ i j d below within. absurd (omega arith)

one-distinct : {A : Type 0} (a : A) → IsDistinct (a ∷ [])
one-distinct {A} a = AllPairs-cons (λ (x y : A). x ≢ y) a [] (All-from_recursion (λ y. a ≢ y) [] tt) none-distinct

two-distinct : {A : Type 0} (a b : A) → a ≢ b → IsDistinct (a ∷ b ∷ [])
two-distinct {A} a b other =
    AllPairs-cons (λ (x y : A). x ≢ y) a (b ∷ []) (All-from_recursion (λ y. a ≢ y) (b ∷ []) (other, tt)) (one-distinct b)

-- names of other lengths are others
names-differ : (a b : List ℕ) → length b < length a → a ≢ b
names-differ a b shorter = λ same. absurd (omega (arith, ap length same))

-- ---- its filters

priced-columns : (least : ℤ) → filter_places (priced_from least) ≡ price ∷ []
priced-columns least = ap (λ (form : FilterForm). form.columns) (form-test price AtLeast (Number least))

priced-whole : (least : ℤ) → fits_i64 least ≡ true → IsFilter 2 (priced_from least)
priced-whole least fits =
    let form = form-test price AtLeast (Number least) in
    record {
      flat = ap (λ (f : FilterForm). f.flat) form;
      ranged = ap (λ (f : FilterForm). f.ranged) form ∙ fits;
      shallow = omega (arith, ap (λ (f : FilterForm). f.depth) form);
      named = subst (All (λ column. column < 2)) (sym (priced-columns least)) (All-from_recursion (λ column. column < 2) (price ∷ []) (omega arith, tt));
    }

-- ---- its columns

dataset-columns : flat_map dataset_places trial_job.datasets ≡ price ∷ price ∷ []
dataset-columns =
    ap (λ (columns : List ℕ). columns ++ (filter_places (priced_from (pos 500)) ++ [])) (priced-columns (pos 0))
    ∙ ap (λ (columns : List ℕ). price ∷ (columns ++ [])) (priced-columns (pos 500))

names-first : with_names [] (columns_named trial_job) ≡ trial_job.names
names-first =
    ap (λ (columns : List ℕ). with_names [] (map (λ place. slice_index_or trial_job.names place []) (columns ++ flat_map (λ query. shape_places query.shape) trial_job.queries)))
    dataset-columns

-- ---- its datasets

earlier-parents : (place : ℕ) (d : Dataset) → place < length trial_job.datasets → (slice_index_or trial_job.datasets place d).parent ≤ place
earlier-parents zero d within = omega arith
earlier-parents (suc zero) d within = omega arith
earlier-parents (suc (suc place)) d within = absurd (omega arith)

datasets-made : AreGoodDatasets 2 trial_job.datasets
datasets-made = record {
  few = omega arith;
  short = All-from_recursion (λ dataset. length dataset.name ≤ 64) trial_job.datasets (omega arith, (omega arith, tt));
  new = two-distinct pos_dataset.name high_dataset.name (λ same. absurd (omega (arith, ap length same)));
  plain = All-from_recursion (λ dataset. is_plain dataset.name ≡ true) trial_job.datasets (refl, (refl, tt));
  filters = All-from_recursion (λ dataset. IfSome dataset.filter (IsFilter 2)) trial_job.datasets (priced-whole (pos 0) refl, (priced-whole (pos 500) refl, tt));
  earlier = earlier-parents;
}

-- ---- its queries

key-column : IsColumns 2 (key ∷ [])
key-column = record {
  short = record { some = omega arith; few = omega arith };
  named = All-from_recursion (λ column. column < 2) (key ∷ []) (omega arith, tt);
  distinct = one-distinct key;
}

price-column : IsColumns 2 (price ∷ [])
price-column = record {
  short = record { some = omega arith; few = omega arith };
  named = All-from_recursion (λ column. column < 2) (price ∷ []) (omega arith, tt);
  distinct = one-distinct price;
}

both-columns : IsColumns 2 (key ∷ price ∷ [])
both-columns = record {
  short = record { some = omega arith; few = omega arith };
  named = All-from_recursion (λ column. column < 2) (key ∷ price ∷ []) (omega arith, (omega arith, tt));
  distinct = two-distinct key price (λ same. absurd (omega (arith, same)));
}

counts-part : IsAggregate 2 counts
counts-part = record { column = refl; named = tt }

sum-part : IsAggregate 2 (of_price Sum)
sum-part = record { column = refl; named = omega arith }

min-part : IsAggregate 2 (of_price Min)
min-part = record { column = refl; named = omega arith }

max-part : IsAggregate 2 (of_price Max)
max-part = record { column = refl; named = omega arith }

parts-differ : (a b : Part) → (a.agg ≡ b.agg → ⊥) → a ≢ b
parts-differ a b other = λ same. other (ap (λ (part : Part). part.agg) same)

two-short : {A : Type 0} (a b : A) → IsShortList (a ∷ b ∷ [])
two-short a b = record { some = omega arith; few = omega arith }

one-short : {A : Type 0} (a : A) → IsShortList (a ∷ [])
one-short a = record { some = omega arith; few = omega arith }

sums-whole : IsQuery 2 2 sums_query
sums-whole = record {
  dataset = omega arith;
  shape = (key-column, two-short counts (of_price Sum), All-from_recursion (IsAggregate 2) (counts ∷ of_price Sum ∷ []) (counts-part, (sum-part, tt)), two-distinct counts (of_price Sum) (parts-differ _ _ (λ same. cc)));
}

order-whole : IsQuery 2 2 order_query
order-whole = record { dataset = omega arith; shape = (price-column, both-columns) }

limits-whole : IsQuery 2 2 limits_query
limits-whole = record {
  dataset = omega arith;
  shape = (key-column, two-short (of_price Min) (of_price Max), All-from_recursion (IsAggregate 2) (of_price Min ∷ of_price Max ∷ []) (min-part, (max-part, tt)), two-distinct (of_price Min) (of_price Max) (parts-differ _ _ (λ same. cc)));
}

keys-whole : IsQuery 2 2 keys_query
keys-whole = record {
  dataset = omega arith;
  shape = (key-column, one-short counts, All-from_recursion (IsAggregate 2) (counts ∷ []) (counts-part, tt), one-distinct counts);
}

pub job-whole : IsJob trial_job
job-whole = record {
  names = All-from_recursion (λ name. length name ≤ 1024) trial_job.names (omega arith, (omega arith, tt));
  first = names-first;
  distinct = two-distinct _ _ (λ same. absurd (omega (arith, ap length same)));
  datasets = datasets-made;
  several = record { some = omega arith; few = omega arith };
  queries = All-from_recursion (IsQuery 2 2) trial_job.queries (sums-whole, (order-whole, (limits-whole, (keys-whole, tt))));
}

-- so is what was made as that job
pub made-whole : {E : Type 0} (made : Result Job E) → IfOk made (λ job. job ≡ trial_job) → IfOk made IsJob
made-whole (Ok job) same = subst IsJob (sym same) job-whole
made-whole (Err e) same = tt
