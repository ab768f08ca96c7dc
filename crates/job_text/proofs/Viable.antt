-- Each state that is reached can be gone on from to a whole job.
use Rattle.std.proofs.Common.{◌≡◌, ℕ, suc, ◌+◌, ◌<◌, ◌≤◌, Bool, true, false, List, [], ◌∷◌, ◌++◌, length, Option, Some, None, refl, ap, ◌∙◌, arith}
use Rattle.std.specs.Prelude.{IsSome, IfSome, option_and_then}
use Rattle.std.proofs.lemmas.Bool.{le-leb, and_right, or_from, or_parts}
use Rattle.job_text.specs.declared.mark.Mark.TheVariants as marks
use Rattle.job_text.specs.declared.token.Token.{Token}
use Rattle.job_text.specs.declared.token.Token.TheVariants.{Fixed, Word, Quoted}
use Rattle.pool_ledger.specs.declared.entry.Level.TheVariants as levels
use Rattle.std.proofs.lemmas.List.{length-map}
use Rattle.aggregate.specs.declared.agg_list.Agg.{Agg}
use Rattle.aggregate.specs.declared.agg_list.Agg.TheVariants as aggs
use Rattle.job_text.specs.declared.job.Part.{Part}
use Rattle.job_text.specs.declared.job.KeyItem.{KeyItem}
use Rattle.job_text.specs.declared.job.Shape.{Shape}
use Rattle.job_text.specs.declared.job.Query.{Query}
use Rattle.job_text.specs.declared.job.Dataset.{Dataset}
use Rattle.job_text.specs.declared.state.At.{At}
use Rattle.job_text.specs.declared.state.At.TheVariants as at
use Rattle.job_text.specs.declared.state.Read.{Read}
use Rattle.job_text.specs.declared.state.State.{State}
use Rattle.job_text.specs.Columns.{place_of, dataset_names, is_among, with_name, has_column, has_key, has_part, same_column}
use Rattle.job_text.specs.Step.{step, start, key, named, query_of, made_from, filter_ended}
use Rattle.std.specs.Prelude.{All}
use Rattle.std.proofs.lemmas.List.Elements.{All-nil, All-cons, All-append}
use Rattle.job_text.specs.Scan.{IsSpelled}
use Rattle.job_text.specs.Begins.{steps, job_at, LeadsToJob}
use Rattle.row_filter.specs.declared.filter.Filter.{Filter}
use Rattle.job_text.specs.declared.filter_state.FilterState.{FilterState}
use Rattle.job_text.specs.FilterStep.{filter_at}
use Rattle.job_text.proofs.FilterViable.{FilterFits, filter_viable}
use Rattle.job_text.proofs.Filtered.{filter_goes}
use Rattle.job_text.proofs.Fresh.{AreBelow, fresh, fresh_word}
use Rattle.job_text.proofs.Fitting.{put, Fits, FitsAt, IsOpen, key_columns, part_columns, with_column, kept}

-- ---- and each such state is gone on from

-- some tokens lead from here to a job
abbrev pub Viable : State → Type 0
Viable s = (rest : List Token) × All IsSpelled rest × IsSome (job_at (steps s rest))

by_token : (s next : State) (t : Token) → IsSpelled t → step s t ≡ Some next → Viable next → Viable s
unfolding steps
by_token s next t spelled e v = (t ∷ v.0, All-cons IsSpelled t v.0 spelled v.1, rw e v.2)

named_is : (s : Read) (is_taken : ℕ → Bool) (next : ℕ → At) (name : List ℕ) → length name < 8 → is_taken (place_of s.names name) ≡ false → named s is_taken next (Some name) ≡ Some (put (with_name s.names name) s.datasets s.queries (next (place_of s.names name)))
named_is s is_taken next name lt free = rw (le-leb (length name) 1024 (omega arith), free) refl

pub has_key_is : (keys : List KeyItem) (c : ℕ) → has_key keys c ≡ has_column (key_columns keys) c
has_key_is [] c = refl
has_key_is (k ∷ keys) c = rw (has_key_is keys c) refl

length-key_columns : (keys : List KeyItem) → length (key_columns keys) ≡ length keys
length-key_columns [] = refl
length-key_columns (k ∷ keys) = ap suc (length-key_columns keys)

length-with_column : (c : Option ℕ) (cs : List ℕ) → length (with_column c cs) ≤ length cs + 1
length-with_column None cs = omega arith
length-with_column (Some c) cs = omega arith

length-part_columns : (parts : List Part) → length (part_columns parts) ≤ length parts
length-part_columns [] = omega arith
length-part_columns (p ∷ parts) = omega (arith, length-with_column p.column (part_columns parts), length-part_columns parts)

other_part : (o : Option ℕ) (cs : List ℕ) (c : ℕ) → has_column (with_column o cs) c ≡ false → (same_column o (Some c) ≡ false) × (has_column cs c ≡ false)
other_part None cs c h = (refl, h)
other_part (Some d) cs c h = or_parts _ _ h

-- no part has a column that none of their columns is
new_part : (parts : List Part) (agg : Agg) (c : ℕ) → has_column (part_columns parts) c ≡ false → has_part parts (record { agg = agg; column = Some c }) ≡ false
new_part [] agg c h = refl
new_part (p ∷ parts) agg c h =
    let both = other_part p.column (part_columns parts) c h in
    or_from _ _ (and_right _ _ both.0) (new_part parts agg c both.1)

-- ---- from the last token back

module _ (names : List (List ℕ)) (datasets : List Dataset) (queries : List Query) where
  parts_viable : (columns : List ℕ) (parts : List Part) → Viable (put names datasets queries (at.Parts columns parts))
  unfolding steps
  parts_viable columns parts = ([], All-nil IsSpelled, refl)

  order_columns_viable : (keys : List KeyItem) (columns : List ℕ) → Viable (put names datasets queries (at.OrderColumns keys columns))
  unfolding steps
  order_columns_viable keys columns = ([], All-nil IsSpelled, refl)

  sourced_viable : (query : Query) → Viable (put names datasets queries (at.Sourced query))
  unfolding steps
  sourced_viable query = ([], All-nil IsSpelled, refl)

  source_viable : (shape : Shape) → Viable (put names datasets queries (at.Source shape))
  unfolding step
  source_viable shape = by_token _ _ (Fixed marks.Input) tt refl (sourced_viable (query_of 0 shape))

-- a list to which a column is added
by_column : (names : List (List ℕ)) (datasets : List Dataset) (queries : List Query) (place : At) (cs : List ℕ) (is_taken : ℕ → Bool) (next : ℕ → At)
    → length cs < 8 → AreBelow (length names) cs
    → ((c : ℕ) → has_column cs c ≡ false → is_taken c ≡ false)
    → ((name : List ℕ) → step (put names datasets queries place) (Quoted name) ≡ named (record { names = names; datasets = datasets; queries = queries }) is_taken next (Some name))
    → ((all : List (List ℕ)) (c : ℕ) → Viable (put all datasets queries (next c)))
    → Viable (put names datasets queries place)
by_column names datasets queries place cs is_taken next few below free is after =
    let f = fresh names cs below in
    let r : Read = record { names = names; datasets = datasets; queries = queries } in
    by_token (put names datasets queries place) _ (Quoted f.0) f.1.spelled (is f.0 ∙ named_is r is_taken next f.0 (omega (arith, f.1.long)) (free _ f.1.new)) (after _ _)

module _ (names : List (List ℕ)) (datasets : List Dataset) (queries : List Query) where
  part_column_viable : (columns : List ℕ) (parts : List Part) (agg : Agg) → IsOpen names (part_columns parts) (length parts) → Viable (put names datasets queries (at.PartColumn columns parts agg))
  unfolding step
  part_column_viable columns parts agg h =
      by_column names datasets queries _ (part_columns parts) (λ c. has_part parts (record { agg = agg; column = Some c })) (λ c. at.Parts columns (parts ++ record { agg = agg; column = Some c } ∷ [])) (omega (arith, length-part_columns parts, h.few)) h.below (new_part parts agg) (λ _. refl) (λ all c. parts_viable all datasets queries columns _)

  part_viable : (columns : List ℕ) (parts : List Part) → IsOpen names (part_columns parts) (length parts) → Viable (put names datasets queries (at.Part columns parts))
  unfolding step
  part_viable columns parts h = by_token _ _ (Fixed marks.Sum) tt refl (part_column_viable columns parts aggs.Sum h)

  group_columns_viable : (columns : List ℕ) → Viable (put names datasets queries (at.GroupColumns columns))
  unfolding step
  group_columns_viable columns = by_token _ _ (Fixed marks.Colon) tt refl (part_viable columns [] (record { few = omega arith; below = tt }))

  order_column_viable : (keys : List KeyItem) (columns : List ℕ) → IsOpen names columns (length columns) → Viable (put names datasets queries (at.OrderColumn keys columns))
  unfolding step
  order_column_viable keys columns h =
      by_column names datasets queries _ columns (has_column columns) (λ c. at.OrderColumns keys (columns ++ c ∷ [])) h.few h.below (λ c free. free) (λ _. refl) (λ all c. order_columns_viable all datasets queries keys _)

  keys_viable : (keys : List KeyItem) → Viable (put names datasets queries (at.Keys keys))
  unfolding step
  keys_viable keys = by_token _ _ (Fixed marks.Colon) tt refl (order_column_viable keys [] (record { few = omega arith; below = tt }))

  key_column_viable : (keys : List KeyItem) (column : ℕ) (number : Bool) → Viable (put names datasets queries (at.KeyColumn keys column number))
  unfolding step
  key_column_viable keys column number = by_token _ _ (Fixed marks.Colon) tt refl (order_column_viable (key keys column number false) [] (record { few = omega arith; below = tt }))

module _ (names : List (List ℕ)) (datasets : List Dataset) (queries : List Query) where
  group_column_viable : (columns : List ℕ) → IsOpen names columns (length columns) → Viable (put names datasets queries (at.GroupColumn columns))
  unfolding step
  group_column_viable columns h =
      by_column names datasets queries _ columns (has_column columns) (λ c. at.GroupColumns (columns ++ c ∷ [])) h.few h.below (λ c free. free) (λ _. refl) (λ all c. group_columns_viable all datasets queries _)

  number_key_viable : (keys : List KeyItem) → IsOpen names (key_columns keys) (length keys) → Viable (put names datasets queries (at.NumberKey keys))
  unfolding step
  number_key_viable keys h =
      by_column names datasets queries _ (key_columns keys) (has_key keys) (λ c. at.KeyColumn keys c true) (omega (arith, length-key_columns keys, h.few)) h.below (λ c free. has_key_is keys c ∙ free) (λ _. refl) (λ all c. key_column_viable all datasets queries keys c true)

  key_viable : (keys : List KeyItem) → IsOpen names (key_columns keys) (length keys) → Viable (put names datasets queries (at.Key keys))
  unfolding step
  key_viable keys h = by_token _ _ (Fixed marks.Number) tt refl (number_key_viable keys h)

  query_viable : Viable (put names datasets queries at.Query)
  unfolding step
  query_viable = by_token _ _ (Fixed marks.Group) tt refl (group_column_viable [] (record { few = omega arith; below = tt }))

-- ---- datasets

start_viable : (names : List (List ℕ)) (datasets : List Dataset) (queries : List Query) → Viable (put names datasets queries at.Start)
unfolding step
start_viable names datasets queries = by_token _ _ (Fixed marks.Group) tt refl (group_column_viable names datasets queries [] (record { few = omega arith; below = tt }))

module _ (names : List (List ℕ)) (datasets : List Dataset) (queries : List Query) where
  kept_viable : (dataset : Dataset) → Viable (put names datasets queries (at.Kept dataset))
  unfolding step
  kept_viable dataset = by_token _ _ (Fixed marks.Semicolon) tt refl (start_viable names (datasets ++ dataset ∷ []) queries)

  level_viable : (dataset : Dataset) → Viable (put names datasets queries (at.Level dataset))
  unfolding step
  level_viable dataset = by_token _ _ (Fixed marks.Memory) tt refl (kept_viable (record dataset { level = Some levels.Memory }))

  made_viable : (dataset : Dataset) → Viable (put names datasets queries (at.Made dataset))
  unfolding step
  made_viable dataset = by_token _ _ (Fixed marks.Semicolon) tt refl (start_viable names (datasets ++ dataset ∷ []) queries)

  end_viable : (name : List ℕ) (parent : ℕ) (s : FilterState) → IsSome (filter_at s) → Viable (put names datasets queries (at.Filter name parent s))
  unfolding step
  end_viable name parent s h = by (filter_at s) refl h
    where
      taken : (filter : Filter) → filter_at s ≡ Some filter → step (put names datasets queries (at.Filter name parent s)) (Fixed marks.Semicolon) ≡ Some (put names (datasets ++ made_from name parent (Some filter) ∷ []) queries at.Start)
      taken filter e = ap (λ (o : Option Filter). filter_ended (record { names = names; datasets = datasets; queries = queries }) name parent o marks.Semicolon) e

      by : (o : Option Filter) → filter_at s ≡ o → IsSome o → Viable (put names datasets queries (at.Filter name parent s))
      by None e h = absurd (cc)
      by (Some filter) e h = by_token _ _ (Fixed marks.Semicolon) tt (taken filter e) (start_viable names (datasets ++ made_from name parent (Some filter) ∷ []) queries)

  parent_viable : (name : List ℕ) → Viable (put names datasets queries (at.DatasetSource name))
  unfolding step
  parent_viable name = by_token _ _ (Fixed marks.Input) tt refl (made_viable (made_from name 0 None))

  equals_viable : (name : List ℕ) → Viable (put names datasets queries (at.DatasetEquals name))
  unfolding step
  equals_viable name = by_token _ _ (Fixed marks.Equal) tt refl (parent_viable name)

  name_is : (name : List ℕ) → length name ≤ 64 → is_among (dataset_names datasets) name ≡ false → step (put names datasets queries at.DatasetName) (Word name) ≡ Some (put names datasets queries (at.DatasetEquals name))
  unfolding step
  name_is name short new = rw (le-leb (length name) 64 short, new) refl

  name_viable : length datasets < 8 → Viable (put names datasets queries at.DatasetName)
  name_viable few =
      let f = fresh_word (dataset_names datasets) in
      by_token _ _ (Word f.0) f.3 (name_is f.0 (omega (arith, few, f.1, length-map datasets (λ dataset. dataset.name))) f.2) (equals_viable f.0)

filter_goes_on : (names : List (List ℕ)) (datasets : List Dataset) (queries : List Query) (name : List ℕ) (parent : ℕ) (s : FilterState) → FilterFits s → Viable (put names datasets queries (at.Filter name parent s))
filter_goes_on names datasets queries name parent s h =
    let f = filter_viable names s h in
    let v = end_viable f.2.final datasets queries name parent f.2.last f.2.ends in (
      f.0 ++ v.0,
      All-append IsSpelled f.0 v.0 f.1 v.1,
      rw (filter_goes datasets queries name parent f.0 names f.2.final s f.2.last v.0 f.2.steps) v.2,
    )

module _ (names : List (List ℕ)) (datasets : List Dataset) (queries : List Query) where
  viable_at : (place : At) → FitsAt names datasets place → Viable (put names datasets queries place)
  viable_at at.Start h = start_viable names datasets queries
  viable_at at.DatasetName h = name_viable names datasets queries h
  viable_at (at.DatasetEquals name) h = equals_viable names datasets queries name
  viable_at (at.DatasetSource name) h = parent_viable names datasets queries name
  viable_at (at.Made dataset) h = made_viable names datasets queries dataset
  viable_at (at.Filter name parent filter) h = filter_goes_on names datasets queries name parent filter h
  viable_at (at.Level dataset) h = level_viable names datasets queries dataset
  viable_at (at.Kept dataset) h = kept_viable names datasets queries dataset
  viable_at at.Query h = query_viable names datasets queries
  viable_at (at.GroupColumn columns) h = group_column_viable names datasets queries columns h
  viable_at (at.GroupColumns columns) h = group_columns_viable names datasets queries columns
  viable_at (at.Part columns parts) h = part_viable names datasets queries columns parts h
  viable_at (at.PartColumn columns parts agg) h = part_column_viable names datasets queries columns parts agg h
  viable_at (at.Parts columns parts) h = parts_viable names datasets queries columns parts
  viable_at (at.Key keys) h = key_viable names datasets queries keys h
  viable_at (at.NumberKey keys) h = number_key_viable names datasets queries keys h
  viable_at (at.KeyColumn keys column number) h = key_column_viable names datasets queries keys column number
  viable_at (at.Keys keys) h = keys_viable names datasets queries keys
  viable_at (at.OrderColumn keys columns) h = order_column_viable names datasets queries keys columns h
  viable_at (at.OrderColumns keys columns) h = order_columns_viable names datasets queries keys columns
  viable_at (at.Source shape) h = source_viable names datasets queries shape
  viable_at (at.Sourced query) h = sourced_viable names datasets queries query

pub viable : (s : State) → Fits s → Viable s
viable s h = viable_at s.read.names s.read.datasets s.read.queries s.at h

-- ---- the tokens up to here begin a job exactly where each was taken

on_next : (o : Option State) (ts : List Token) → ((next : State) → Fits next → IfSome (steps next ts) Fits) → IfSome o Fits → IfSome (option_and_then (λ next. steps next ts) o) Fits
on_next None ts again f = tt
on_next (Some next) ts again f = again next f

steps_fit : (ts : List Token) (s : State) → Fits s → IfSome (steps s ts) Fits
unfolding steps
steps_fit [] s h = h
steps_fit (t ∷ ts) s h = on_next (step s t) ts (λ next f. steps_fit ts next f) (kept s t h)

on_append : (o : Option State) (ts us : List Token) → ((next : State) → steps next (ts ++ us) ≡ option_and_then (λ n. steps n us) (steps next ts)) → option_and_then (λ n. steps n (ts ++ us)) o ≡ option_and_then (λ n. steps n us) (option_and_then (λ n. steps n ts) o)
on_append None ts us h = refl
on_append (Some next) ts us h = h next

pub steps-append : (ts us : List Token) (s : State) → steps s (ts ++ us) ≡ option_and_then (λ n. steps n us) (steps s ts)
unfolding steps
steps-append [] us s = refl
steps-append (t ∷ ts) us s = on_append (step s t) ts us (λ next. steps-append ts us next)

begins_from : (o : Option State) → IfSome o Fits → IsSome o → (rest : List Token) × All IsSpelled rest × IsSome (job_at (option_and_then (λ n. steps n rest) o))
begins_from None f h = absurd (cc)
begins_from (Some s) f h = viable s f

pub begins : (ts : List Token) → IsSome (steps start ts) → LeadsToJob ts
begins ts h =
    let v = begins_from (steps start ts) (steps_fit ts start tt) h in
    (v.0, v.1, rw (steps-append ts v.0 start) v.2)

taken_from : (o : Option State) (rest : List Token) → IsSome (job_at (option_and_then (λ n. steps n rest) o)) → IsSome o
taken_from None rest h = h
taken_from (Some s) rest h = refl

pub taken : (ts : List Token) → LeadsToJob ts → IsSome (steps start ts)
taken ts b = taken_from (steps start ts) b.0 (rw (steps-append ts b.0 start) at b.2)
