-- Printed shapes, filters and datasets are written as they are.
use Rattle.std.proofs.Common.{◌≡◌, ℕ, zero, suc, ◌<◌, ◌≤◌, Bool, true, false, cond, List, [], ◌∷◌, ◌++◌, length, get_or, Option, Some, None, refl, sym, ap, subst, ◌∙◌, arith}
use Rattle.std.specs.Prelude.{All, IfSome, map, flat_map, is_some, not}
use Rattle.std.specs.Option.{option_map, option_map_or, option_to_list}
use Rattle.std.proofs.lemmas.Bool.{true≢false}
use Rattle.std.proofs.lemmas.List.{map-append, map-id}
use Rattle.std.proofs.lemmas.List.Elements.{All-head, All-tail, All-map}
use Rattle.aggregate.specs.declared.agg_list.Agg.{Agg}
use Rattle.aggregate.specs.declared.agg_list.Agg.TheVariants as aggs
use Rattle.row_filter.specs.declared.filter.Filter.{Filter}
use Rattle.job_text.specs.declared.mark.Mark.{Mark}
use Rattle.job_text.specs.declared.mark.Mark.TheVariants as marks
use Rattle.job_text.specs.declared.token.Token.{Token}
use Rattle.job_text.specs.declared.token.Token.TheVariants.{Fixed, Word, Quoted}
use Rattle.job_text.specs.declared.job.Dataset.{Dataset}
use Rattle.job_text.specs.declared.job.KeyItem.{KeyItem}
use Rattle.job_text.specs.declared.job.Part.{Part}
use Rattle.job_text.specs.declared.job.Query.{Query}
use Rattle.job_text.specs.declared.job.Shape.{Shape}
use Rattle.job_text.specs.declared.job.Shape.TheVariants as shapes
use Rattle.job_text.specs.Scan.{is_plain}
use Rattle.job_text.specs.Columns.{place_of}
use Rattle.job_text.specs.FilterForms.{filter_places}
use Rattle.job_text.specs.FilterPrinting.{filter_tokens}
use Rattle.job_text.specs.Jobs.{IsShortList, IsAggregate, IsDistinct, IsColumns, IsShape, is_count, shape_places, dataset_places}
use Rattle.job_text.specs.Grammar.{WrittenColumn, WrittenKey, WrittenAgg, WrittenShape, WrittenSource, WrittenFilter, WrittenDataset, WrittenQuery, column_written, key_written, agg_written, shape_written, source_written, from_written, where_written, keep_written, dataset_written, query_written, optional, separated, ended_by}
use Rattle.job_text.specs.Rules.{name_of, IsShortColumn, IsShortAgg, AreColumns, AreAggs, IsShapeRight, agg_named, column_names, agg_names, shape_names, filter_uses, dataset_uses}
use Rattle.job_text.specs.Meaning.{column_meant, key_meant, agg_meant, shape_meant}
use Rattle.job_text.specs.Grammar.{word, in_quotes, count, sum_of, min_of, max_of, group, order, input, by_name}
use Rattle.job_text.specs.Printing.{place_tokens, part_tokens, key_tokens, shape_tokens}
use Rattle.job_text.specs.JobPrinting.{source_token, where_tokens, dataset_tokens, from_tokens, query_tokens}
use Rattle.job_text.proofs.FilterNames.{distinct_place}
use Rattle.job_text.proofs.MeantShapes.{distinct_by, short_list}
use Rattle.job_text.proofs.SoFar.{named_meant}

-- ---- lists

module _ {A B : Type 0} (sign : Mark) (f : A → B) (t : A → List Token) (u : B → List Token) where
  pub separated_by : (xs : List A) → All (λ a. t a ≡ u (f a)) xs → separated sign t xs ≡ separated sign u (map f xs)
  separated_by [] h = refl
  separated_by (x ∷ []) h = h 0 x (omega arith)
  separated_by (x ∷ y ∷ xs) h =
      ap (λ (l : List Token). l ++ Fixed sign ∷ separated sign t (y ∷ xs)) (h 0 x (omega arith))
      ∙ ap (λ (l : List Token). u (f x) ++ Fixed sign ∷ l) (separated_by (y ∷ xs) (All-tail (λ a. t a ≡ u (f a)) x (y ∷ xs) h))

  pub ended_as : (xs : List A) → All (λ a. t a ≡ u (f a)) xs → ended_by sign t xs ≡ ended_by sign u (map f xs)
  ended_as [] h = refl
  ended_as (x ∷ xs) h =
      ap (λ (l : List Token). l ++ Fixed sign ∷ ended_by sign t xs) (h 0 x (omega arith))
      ∙ ap (λ (l : List Token). u (f x) ++ Fixed sign ∷ l) (ended_as xs (All-tail (λ a. t a ≡ u (f a)) x xs h))

pub map_map : {A B C : Type 0} (f : A → B) (g : B → C) (xs : List A) → map g (map f xs) ≡ map (λ a. g (f a)) xs
map_map f g [] = refl
map_map {C = C} f g (x ∷ xs) = ap (λ (l : List C). g (f x) ∷ l) (map_map f g xs)

pub map_back : {A B : Type 0} (f : A → B) (g : B → A) (xs : List A) → All (λ a. g (f a) ≡ a) xs → map g (map f xs) ≡ xs
map_back f g [] h = refl
map_back {A = A} f g (x ∷ xs) h =
    ap (λ (a : A). a ∷ map g (map f xs)) (h 0 x (omega arith)) ∙ ap (λ (l : List A). x ∷ l) (map_back f g xs (All-tail (λ a. g (f a) ≡ a) x xs h))

-- ---- columns

module _ (names : List (List ℕ)) where
  abbrev pub at : ℕ → List ℕ
  at place = get_or names place []

  abbrev pub column_of : ℕ → WrittenColumn
  column_of place = cond (is_plain (at place)) (word (at place)) (in_quotes (at place))

  pub column_spelled : (place : ℕ) → place_tokens names place ≡ column_written (column_of place)
  column_spelled place = by (is_plain (at place))
    where
      by : (b : Bool) → cond b (Word (at place)) (Quoted (at place)) ∷ [] ≡ column_written (cond b (word (at place)) (in_quotes (at place)))
      by true = refl
      by false = refl

  pub column_name : (place : ℕ) → name_of (column_of place) ≡ at place
  column_name place = by (is_plain (at place))
    where
      by : (b : Bool) → name_of (cond b (word (at place)) (in_quotes (at place))) ≡ at place
      by true = refl
      by false = refl

  -- names that are found again: each named column is one
  pub flat_names : {V W : Type 0} (f : V → W) (named : W → List (List ℕ)) (places : V → List ℕ) (vs : List V) → All (λ v. named (f v) ≡ map at (places v)) vs → flat_map named (map f vs) ≡ map at (flat_map places vs)
  flat_names f named places [] h = refl
  flat_names f named places (v ∷ vs) h =
      ap (λ (l : List (List ℕ)). l ++ flat_map named (map f vs)) (h 0 v (omega arith))
      ∙ ap (λ (l : List (List ℕ)). map at (places v) ++ l) (flat_names f named places vs (All-tail (λ v. named (f v) ≡ map at (places v)) v vs h))
      ∙ sym (map-append at (places v) (flat_map places vs))

  pub columns_named_by : (columns : List ℕ) → flat_map column_names (map column_of columns) ≡ map at columns
  columns_named_by [] = refl
  columns_named_by (c ∷ columns) = ap (λ (n : List ℕ). n ∷ flat_map column_names (map column_of columns)) (column_name c) ∙ ap (λ (l : List (List ℕ)). at c ∷ l) (columns_named_by columns)

  -- ---- keys

  abbrev pub key_of : KeyItem → WrittenKey
  key_of key = record { number = key.number; column = column_of key.column; down = key.down }

  pub key_spelled : (key : KeyItem) → key_tokens names key ≡ key_written (key_of key)
  key_spelled key = ap (λ (l : List Token). optional key.number marks.Number ++ l ++ optional key.down marks.Down) (column_spelled key.column)

  pub keys_named_by : (keys : List KeyItem) → flat_map (λ key. column_names key.column) (map key_of keys) ≡ map at (map (λ key. key.column) keys)
  keys_named_by [] = refl
  keys_named_by (key ∷ keys) = ap (λ (n : List ℕ). n ∷ flat_map (λ key. column_names key.column) (map key_of keys)) (column_name key.column) ∙ ap (λ (l : List (List ℕ)). at key.column ∷ l) (keys_named_by keys)

  pub columns_of_keys : (keys : List KeyItem) → map (λ key. key.column) (map key_of keys) ≡ map column_of (map (λ key. key.column) keys)
  columns_of_keys [] = refl
  columns_of_keys (key ∷ keys) = ap (λ (l : List WrittenColumn). column_of key.column ∷ l) (columns_of_keys keys)

  -- ---- aggregates

  abbrev pub agg_with : Agg → Option ℕ → WrittenAgg
  agg_with aggs.Sum (Some place) = sum_of (column_of place)
  agg_with aggs.Min (Some place) = min_of (column_of place)
  agg_with aggs.Max (Some place) = max_of (column_of place)
  agg_with _ _ = count

  abbrev pub agg_for : Part → WrittenAgg
  agg_for part = agg_with part.agg part.column

  pub agg_spelled_at : (agg : Agg) (column : Option ℕ) → is_some column ≡ not (is_count agg) → part_tokens names (record { agg = agg; column = column }) ≡ agg_written (agg_with agg column)
  agg_spelled_at aggs.Count None h = refl
  agg_spelled_at aggs.Count (Some place) h = absurd (true≢false h)
  agg_spelled_at aggs.Sum None h = absurd (true≢false (sym h))
  agg_spelled_at aggs.Sum (Some place) h = ap (λ (l : List Token). Fixed marks.Sum ∷ l) (column_spelled place)
  agg_spelled_at aggs.Min None h = absurd (true≢false (sym h))
  agg_spelled_at aggs.Min (Some place) h = ap (λ (l : List Token). Fixed marks.Min ∷ l) (column_spelled place)
  agg_spelled_at aggs.Max None h = absurd (true≢false (sym h))
  agg_spelled_at aggs.Max (Some place) h = ap (λ (l : List Token). Fixed marks.Max ∷ l) (column_spelled place)

  pub agg_names_at : (agg : Agg) (column : Option ℕ) → is_some column ≡ not (is_count agg) → agg_names (agg_with agg column) ≡ map at (option_to_list column)
  agg_names_at aggs.Count None h = refl
  agg_names_at aggs.Count (Some place) h = absurd (true≢false h)
  agg_names_at aggs.Sum None h = absurd (true≢false (sym h))
  agg_names_at aggs.Sum (Some place) h = ap (λ (n : List ℕ). n ∷ []) (column_name place)
  agg_names_at aggs.Min None h = absurd (true≢false (sym h))
  agg_names_at aggs.Min (Some place) h = ap (λ (n : List ℕ). n ∷ []) (column_name place)
  agg_names_at aggs.Max None h = absurd (true≢false (sym h))
  agg_names_at aggs.Max (Some place) h = ap (λ (n : List ℕ). n ∷ []) (column_name place)

  abbrev pub shape_for : Shape → WrittenShape
  shape_for (shapes.Group columns parts) = group (map column_of columns) (map agg_for parts)
  shape_for (shapes.Order keys columns) = order (map key_of keys) (map column_of columns)

  pub shape_spelled : (shape : Shape) → IsShape (length names) shape → shape_tokens names shape ≡ shape_written (shape_for shape)
  shape_spelled (shapes.Group columns parts) h =
      ap (λ (l : List Token). Fixed marks.Group ∷ l ++ Fixed marks.Colon ∷ separated marks.Comma (part_tokens names) parts) (separated_by marks.Comma column_of (place_tokens names) column_written columns (λ k d lt. column_spelled (get_or columns k d)))
      ∙ ap (λ (l : List Token). Fixed marks.Group ∷ separated marks.Comma column_written (map column_of columns) ++ Fixed marks.Colon ∷ l)
      (separated_by marks.Comma agg_for (part_tokens names) agg_written parts (λ k d lt. agg_spelled_at (get_or parts k d).agg (get_or parts k d).column (h.2 k d lt).column))
  shape_spelled (shapes.Order keys columns) h =
      ap (λ (l : List Token). Fixed marks.Order ∷ l ++ Fixed marks.Colon ∷ separated marks.Comma (place_tokens names) columns) (separated_by marks.Comma key_of (key_tokens names) key_written keys (λ k d lt. key_spelled (get_or keys k d)))
      ∙ ap (λ (l : List Token). Fixed marks.Order ∷ separated marks.Comma key_written (map key_of keys) ++ Fixed marks.Colon ∷ l)
      (separated_by marks.Comma column_of (place_tokens names) column_written columns (λ k d lt. column_spelled (get_or columns k d)))

  pub shape_names_are : (shape : Shape) → IsShape (length names) shape → shape_names (shape_for shape) ≡ map at (shape_places shape)
  shape_names_are (shapes.Group columns parts) h =
      ap (λ (l : List (List ℕ)). l ++ flat_map agg_names (map agg_for parts)) (columns_named_by columns)
      ∙ ap (λ (l : List (List ℕ)). map at columns ++ l) (flat_names agg_for agg_names (λ part. option_to_list part.column) parts (λ k d lt. agg_names_at (get_or parts k d).agg (get_or parts k d).column (h.2 k d lt).column))
      ∙ sym (map-append at columns (flat_map (λ part. option_to_list part.column) parts))
  shape_names_are (shapes.Order keys columns) h =
      ap (λ (l : List (List ℕ)). l ++ flat_map column_names (map column_of columns)) (keys_named_by keys) ∙ ap (λ (l : List (List ℕ)). map at (map (λ key. key.column) keys) ++ l) (columns_named_by columns)
      ∙ sym (map-append at (map (λ key. key.column) keys) columns)

  -- ---- what they mean again, where no name stands twice

  module _ (distinct : IsDistinct names) (short : All (λ name. length name ≤ 1024) names) where
    place_back : (place : ℕ) → place < length names → column_meant names (column_of place) ≡ place
    place_back place lt = ap (place_of names) (column_name place) ∙ distinct_place names place distinct lt

    column_short : (place : ℕ) → place < length names → IsShortColumn (column_of place)
    column_short place lt = subst (λ (n : List ℕ). length n ≤ 1024) (sym (column_name place)) (short place [] lt)

    one_place : (one other : ℕ) → one < length names → other < length names → name_of (column_of one) ≡ name_of (column_of other) → one ≡ other
    one_place one other l m e = sym (place_back one l) ∙ ap (place_of names) e ∙ place_back other m

    columns_back : (columns : List ℕ) → IsColumns (length names) columns → map (column_meant names) (map column_of columns) ≡ columns
    columns_back columns h = map_back column_of (column_meant names) columns (λ k d lt. place_back (get_or columns k d) (h.named k d lt))

    columns_right : (columns : List ℕ) → IsColumns (length names) columns → AreColumns (map column_of columns)
    columns_right columns h = record {
      several = short_list column_of columns h.short;
      short = All-map IsShortColumn column_of columns (λ k d lt. column_short (get_or columns k d) (h.named k d lt));
      distinct = subst IsDistinct (sym (map_map column_of name_of columns)) (distinct_by (λ p. name_of (column_of p)) (λ p. p) (λ p. p < length names) one_place columns h.named (subst IsDistinct (sym (map-id columns)) h.distinct));
    }

    agg_back : (agg : Agg) (column : Option ℕ) → is_some column ≡ not (is_count agg) → IfSome column (λ c. c < length names) → agg_meant names (agg_with agg column) ≡ record { agg = agg; column = column }
    agg_back aggs.Count None h n = refl
    agg_back aggs.Count (Some place) h n = absurd (true≢false h)
    agg_back aggs.Sum None h n = absurd (true≢false (sym h))
    agg_back aggs.Sum (Some place) h n = ap (λ (p : ℕ). record { agg = aggs.Sum; column = Some p }) (place_back place n)
    agg_back aggs.Min None h n = absurd (true≢false (sym h))
    agg_back aggs.Min (Some place) h n = ap (λ (p : ℕ). record { agg = aggs.Min; column = Some p }) (place_back place n)
    agg_back aggs.Max None h n = absurd (true≢false (sym h))
    agg_back aggs.Max (Some place) h n = ap (λ (p : ℕ). record { agg = aggs.Max; column = Some p }) (place_back place n)

    part_back : (part : Part) → IsAggregate (length names) part → agg_meant names (agg_for part) ≡ part
    part_back part h = agg_back part.agg part.column h.column h.named

    agg_short : (agg : Agg) (column : Option ℕ) → IfSome column (λ c. c < length names) → IsShortAgg (agg_with agg column)
    agg_short aggs.Count column n = tt
    agg_short aggs.Sum None n = tt
    agg_short aggs.Sum (Some place) n = column_short place n
    agg_short aggs.Min None n = tt
    agg_short aggs.Min (Some place) n = column_short place n
    agg_short aggs.Max None n = tt
    agg_short aggs.Max (Some place) n = column_short place n

    one_part : (one other : Part) → IsAggregate (length names) one → IsAggregate (length names) other → agg_named (agg_for one) ≡ agg_named (agg_for other) → one ≡ other
    one_part one other h g e = sym (part_back one h) ∙ named_meant names (agg_for one) (agg_for other) e ∙ part_back other g

    parts_right : (parts : List Part) → IsShortList parts → All (IsAggregate (length names)) parts → IsDistinct parts → AreAggs (map agg_for parts)
    parts_right parts some fine d = record {
      several = short_list agg_for parts some;
      short = All-map IsShortAgg agg_for parts (λ k d lt. agg_short (get_or parts k d).agg (get_or parts k d).column (fine k d lt).named);
      distinct = subst IsDistinct (sym (map_map agg_for agg_named parts)) (distinct_by (λ part. agg_named (agg_for part)) (λ part. part) (IsAggregate (length names)) one_part parts fine (subst IsDistinct (sym (map-id parts)) d));
    }

    keys_back : (keys : List KeyItem) → All (λ c. c < length names) (map (λ key. key.column) keys) → map (key_meant names) (map key_of keys) ≡ keys
    keys_back [] h = refl
    keys_back (key ∷ keys) h =
        ap (λ (p : ℕ). record { column = p; number = key.number; down = key.down } ∷ map (key_meant names) (map key_of keys)) (place_back key.column (All-head (λ c. c < length names) key.column (map (λ key. key.column) keys) h))
        ∙ ap (λ (l : List KeyItem). key ∷ l) (keys_back keys (All-tail (λ c. c < length names) key.column (map (λ key. key.column) keys) h))

    pub shape_back : (shape : Shape) → IsShape (length names) shape → shape_meant names (shape_for shape) ≡ shape
    shape_back (shapes.Group columns parts) h =
        ap (λ (l : List ℕ). shapes.Group l (map (agg_meant names) (map agg_for parts))) (columns_back columns h.0)
        ∙ ap (λ (l : List Part). shapes.Group columns l) (map_back agg_for (agg_meant names) parts (λ k d lt. part_back (get_or parts k d) (h.2 k d lt)))
    shape_back (shapes.Order keys columns) h =
        ap (λ (l : List KeyItem). shapes.Order l (map (column_meant names) (map column_of columns))) (keys_back keys h.0.named) ∙ ap (λ (l : List ℕ). shapes.Order keys l) (columns_back columns h.1)

    pub shape_right : (shape : Shape) → IsShape (length names) shape → IsShapeRight (shape_for shape)
    shape_right (shapes.Group columns parts) h = (columns_right columns h.0, parts_right parts h.1 h.2 h.3)
    shape_right (shapes.Order keys columns) h = (subst AreColumns (sym (columns_of_keys keys)) (columns_right (map (λ key. key.column) keys) h.0), columns_right columns h.1)

  -- ---- datasets

  abbrev pub filter_for : Filter → WrittenFilter
  filter_for filter = record { tokens = filter_tokens names filter; used = map at (filter_places filter); means = filter }

  abbrev pub source_for : List (List ℕ) → ℕ → WrittenSource
  source_for all zero = input
  source_for all (suc place) = by_name (get_or all place [])

  abbrev pub from_for : List (List ℕ) → ℕ → Option WrittenSource
  from_for all zero = None
  from_for all (suc place) = Some (by_name (get_or all place []))

  abbrev pub dataset_for : List (List ℕ) → Dataset → WrittenDataset
  dataset_for all dataset = record { name = dataset.name; source = source_for all dataset.parent; filter = option_map filter_for dataset.filter; level = dataset.level }

  abbrev pub query_for : List (List ℕ) → Query → WrittenQuery
  query_for all query = record { shape = shape_for query.shape; source = from_for all query.dataset }

  pub source_spelled : (all : List (List ℕ)) (number : ℕ) → source_token all number ∷ [] ≡ source_written (source_for all number)
  source_spelled all zero = refl
  source_spelled all (suc place) = refl

  pub where_spelled : (filter : Option Filter) → where_tokens names filter ≡ where_written (option_map filter_for filter)
  where_spelled None = refl
  where_spelled (Some filter) = refl

  pub dataset_spelled : (all : List (List ℕ)) (dataset : Dataset) → dataset_tokens names all dataset ≡ dataset_written (dataset_for all dataset)
  dataset_spelled all dataset =
      ap (λ (l : List Token). Fixed marks.Let ∷ Word dataset.name ∷ Fixed marks.Equal ∷ ((source_token all dataset.parent ∷ l) ++ keep_written dataset.level)) (where_spelled dataset.filter)
      ∙ ap (λ (l : List Token). Fixed marks.Let ∷ Word dataset.name ∷ Fixed marks.Equal ∷ ((l ++ where_written (option_map filter_for dataset.filter)) ++ keep_written dataset.level)) (source_spelled all dataset.parent)

  pub from_spelled : (all : List (List ℕ)) (number : ℕ) → from_tokens all number ≡ from_written (from_for all number)
  from_spelled all zero = refl
  from_spelled all (suc place) = refl

  pub query_spelled : (all : List (List ℕ)) (query : Query) → IsShape (length names) query.shape → query_tokens names all query ≡ query_written (query_for all query)
  query_spelled all query h =
      ap (λ (l : List Token). l ++ from_tokens all query.dataset) (shape_spelled query.shape h) ∙ ap (λ (l : List Token). shape_written (shape_for query.shape) ++ l) (from_spelled all query.dataset)

  pub uses_are : (dataset : Dataset) (all : List (List ℕ)) → dataset_uses (dataset_for all dataset) ≡ map at (dataset_places dataset)
  uses_are dataset all = by dataset.filter
    where
      by : (filter : Option Filter) → filter_uses (option_map filter_for filter) ≡ map at (option_map_or filter_places filter [])
      by None = refl
      by (Some filter) = refl
