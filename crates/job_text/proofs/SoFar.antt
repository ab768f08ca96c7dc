-- What was read so far is written as the grammar has it.
use Rattle.std.proofs.Common.{◌≡◌, ◌≢◌, ℕ, ◌<◌, ◌≤◌, Bool, true, false, List, [], ◌∷◌, ◌++◌, length, Option, Some, None, refl, sym, ap, subst, ◌∙◌, append_assoc, arith, ◌&&◌}
use Rattle.std.specs.Prelude.{All, IfSome, map, flat_map}
use Rattle.std.specs.Option.{option_map}
use Rattle.std.proofs.lemmas.Bool.{or_parts, eq-eqb, true≢false}
use Rattle.std.proofs.lemmas.List.{append-nil, length-map}
use Rattle.std.proofs.lemmas.List.Elements.{All-nil, All-cons, All-map}
use Rattle.aggregate.specs.declared.agg_list.Agg.{Agg}
use Rattle.aggregate.specs.declared.agg_list.Agg.TheVariants as aggs
use Rattle.job_text.specs.declared.mark.Mark.TheVariants as marks
use Rattle.job_text.specs.declared.token.Token.{Token}
use Rattle.job_text.specs.declared.token.Token.TheVariants.{Fixed, Word}
use Rattle.job_text.specs.declared.job.Part.{Part}
use Rattle.job_text.specs.declared.job.KeyItem.{KeyItem}
use Rattle.job_text.specs.declared.state.At.{At}
use Rattle.job_text.specs.declared.state.At.TheVariants as at
use Rattle.job_text.specs.declared.state.Read.{Read}
use Rattle.job_text.specs.declared.state.State.{State}
use Rattle.job_text.specs.Columns.{place_of, dataset_names, is_among, with_names, has_column, has_key, has_part, same_agg, same_column}
use Rattle.job_text.specs.Step.{key}
use Rattle.job_text.specs.Jobs.{IsDistinct, is_count}
use Rattle.job_text.specs.Grammar.{WrittenColumn, WrittenKey, WrittenAgg, WrittenShape, WrittenSource, WrittenFilter, WrittenDataset, where_written, WrittenQuery, ended_by, source_written, dataset_written, column_written, key_written, agg_written, shape_written, query_written, optional, separated}
use Rattle.job_text.specs.Rules.{IsFilterRight, filter_uses, dataset_uses, IsSourceRight, IsDatasetRight, AreDatasets, IsQueryRight, names_written, name_of, IsShortColumn, IsShortAgg, AreColumns, AreAggs, IsShapeRight, agg_of, agg_column, agg_named}
use Rattle.job_text.specs.Meaning.{column_meant, key_meant, agg_meant}
use Rattle.job_text.specs.Grammar.{sum_of, min_of, max_of, group, order}
use Rattle.job_text.specs.Printing.{agg_mark}
use Rattle.job_text.specs.FilterStep.{filter_start, filter_steps}
use Rattle.job_text.proofs.Growing.{other_columns}
use Rattle.job_text.proofs.Spelled.{IsOpenList, IsWholeList, added, new_by}
use Rattle.job_text.proofs.Viable.{has_key_is}

-- ---- what isn't in a list

pub same_agg_is : (agg : Agg) → same_agg agg agg ≡ true
same_agg_is aggs.Count = refl
same_agg_is aggs.Sum = refl
same_agg_is aggs.Min = refl
same_agg_is aggs.Max = refl

pub same_column_is : (column : Option ℕ) → same_column column column ≡ true
same_column_is None = refl
same_column_is (Some column) = eq-eqb column column refl

pub other_parts : (parts : List Part) (part : Part) → has_part parts part ≡ false → All (λ p. p ≢ part) parts
other_parts [] part h = All-nil (λ p. p ≢ part)
other_parts (p ∷ parts) part h =
    let both = or_parts (same_agg p.agg part.agg && same_column p.column part.column) (has_part parts part) h in
    All-cons (λ p. p ≢ part) p parts (λ e.
    let itself : (same_agg part.agg part.agg && same_column part.column part.column) ≡ false = subst (λ (q : Part). (same_agg q.agg part.agg && same_column q.column part.column) ≡ false) e both.0 in
    true≢false (sym (rw (same_agg_is part.agg, same_column_is part.column) refl) ∙ itself)) (other_parts parts part both.1)

-- ---- what was read of a query, by the names that the job will have

abbrev pub IsOpenColumns : List (List ℕ) → List ℕ → List Token → Type 0
IsOpenColumns names = IsOpenList column_written (column_meant names) name_of IsShortColumn

abbrev pub AreWholeColumns : List (List ℕ) → List ℕ → List Token → Type 0
AreWholeColumns names = IsWholeList column_written (column_meant names) name_of IsShortColumn

abbrev pub key_name : WrittenKey → List ℕ
key_name key = name_of key.column

abbrev pub IsShortKey : WrittenKey → Type 0
IsShortKey key = IsShortColumn key.column

abbrev pub AreOpenKeys : List (List ℕ) → List KeyItem → List Token → Type 0
AreOpenKeys names = IsOpenList key_written (key_meant names) key_name IsShortKey

abbrev pub AreWholeKeys : List (List ℕ) → List KeyItem → List Token → Type 0
AreWholeKeys names = IsWholeList key_written (key_meant names) key_name IsShortKey

abbrev pub AreOpenParts : List (List ℕ) → List Part → List Token → Type 0
AreOpenParts names = IsOpenList agg_written (agg_meant names) agg_named IsShortAgg

abbrev pub AreWholeParts : List (List ℕ) → List Part → List Token → Type 0
AreWholeParts names = IsWholeList agg_written (agg_meant names) agg_named IsShortAgg

-- a dataset that may have this name
pub record IsDatasetBegun (r : Read) (title : List ℕ) : Type 0 where
  pub none : length r.queries ≡ 0
  pub few : length r.datasets < 8
  pub short : length title ≤ 64
  pub new : is_among (dataset_names r.datasets) title ≡ false

abbrev pub IsAtWritten : List (List ℕ) → List (List ℕ) → Read → List Token → At → Type 0
IsAtWritten names base r ts at.Start = (ts ≡ []) × (length r.queries ≡ 0) × (r.names ≡ base)
IsAtWritten names base r ts at.DatasetName = (ts ≡ Fixed marks.Let ∷ []) × (length r.queries ≡ 0) × (length r.datasets < 8) × (r.names ≡ base)
IsAtWritten names base r ts (at.DatasetEquals name) = (ts ≡ Fixed marks.Let ∷ Word name ∷ []) × IsDatasetBegun r name × (r.names ≡ base)
IsAtWritten names base r ts (at.DatasetSource name) = (ts ≡ Fixed marks.Let ∷ Word name ∷ Fixed marks.Equal ∷ []) × IsDatasetBegun r name × (r.names ≡ base)
IsAtWritten names base r ts (at.Made d) =
    (source : WrittenSource) × (ts ≡ Fixed marks.Let ∷ Word d.name ∷ Fixed marks.Equal ∷ source_written source) × IsDatasetBegun r d.name × IsSourceRight (dataset_names r.datasets) source × (r.names ≡ base)
IsAtWritten names base r ts (at.Filter name parent filter) =
    (source : WrittenSource) × (fs : List Token) × (ts ≡ Fixed marks.Let ∷ Word name ∷ Fixed marks.Equal ∷ (source_written source ++ Fixed marks.Where ∷ fs)) × IsDatasetBegun r name × IsSourceRight (dataset_names r.datasets) source
    × (filter_steps base filter_start fs ≡ Some (r.names, filter))
IsAtWritten names base r ts (at.Level d) =
    (source : WrittenSource) × (filter : Option WrittenFilter) × (ts ≡ Fixed marks.Let ∷ Word d.name ∷ Fixed marks.Equal ∷ ((source_written source ++ where_written filter) ++ Fixed marks.Keep ∷ [])) × IsDatasetBegun r d.name
    × IsSourceRight (dataset_names r.datasets) source × (r.names ≡ with_names base (filter_uses filter)) × ((later : List (List ℕ)) → IfSome filter (IsFilterRight (with_names r.names later)))
IsAtWritten names base r ts (at.Kept d) = (w : WrittenDataset) × (ts ≡ dataset_written w) × ((later : List (List ℕ)) → IsDatasetRight (with_names r.names later) (dataset_names r.datasets) w) × (length r.queries ≡ 0) × (length r.datasets < 8)
    × (d.name ≡ w.name) × (r.names ≡ with_names base (dataset_uses w))
IsAtWritten names base r ts at.Query = ts ≡ []
IsAtWritten names base r ts (at.GroupColumn columns) = (cs : List Token) × (ts ≡ Fixed marks.Group ∷ cs) × IsOpenColumns names columns cs
IsAtWritten names base r ts (at.GroupColumns columns) = (cs : List Token) × (ts ≡ Fixed marks.Group ∷ cs) × AreWholeColumns names columns cs
IsAtWritten names base r ts (at.Part columns parts) =
    (cs : List Token) × (ps : List Token) × (ts ≡ Fixed marks.Group ∷ cs ++ Fixed marks.Colon ∷ ps) × AreWholeColumns names columns cs × AreOpenParts names parts ps
IsAtWritten names base r ts (at.PartColumn columns parts agg) =
    (cs : List Token) × (ps : List Token) × (ts ≡ Fixed marks.Group ∷ cs ++ Fixed marks.Colon ∷ (ps ++ Fixed (agg_mark agg) ∷ [])) × AreWholeColumns names columns cs × AreOpenParts names parts ps × (is_count agg ≡ false)
IsAtWritten names base r ts (at.Parts columns parts) =
    (cs : List Token) × (ps : List Token) × (ts ≡ Fixed marks.Group ∷ cs ++ Fixed marks.Colon ∷ ps) × AreWholeColumns names columns cs × AreWholeParts names parts ps
IsAtWritten names base r ts (at.Key keys) = (ks : List Token) × (ts ≡ Fixed marks.Order ∷ ks) × AreOpenKeys names keys ks
IsAtWritten names base r ts (at.NumberKey keys) = (ks : List Token) × (ts ≡ Fixed marks.Order ∷ (ks ++ Fixed marks.Number ∷ [])) × AreOpenKeys names keys ks
IsAtWritten names base r ts (at.KeyColumn keys column number) =
    (ks : List Token) × (c : WrittenColumn) × (ts ≡ Fixed marks.Order ∷ (ks ++ (optional number marks.Number ++ column_written c)))
    × (column ≡ column_meant names c) × IsShortColumn c × (h : AreOpenKeys names keys ks) × All (λ x. x ≢ name_of c) (map key_name h.written)
IsAtWritten names base r ts (at.Keys keys) = (ks : List Token) × (ts ≡ Fixed marks.Order ∷ ks) × AreWholeKeys names keys ks
IsAtWritten names base r ts (at.OrderColumn keys columns) =
    (ks : List Token) × (cs : List Token) × (ts ≡ Fixed marks.Order ∷ ks ++ Fixed marks.Colon ∷ cs) × AreWholeKeys names keys ks × IsOpenColumns names columns cs
IsAtWritten names base r ts (at.OrderColumns keys columns) =
    (ks : List Token) × (cs : List Token) × (ts ≡ Fixed marks.Order ∷ ks ++ Fixed marks.Colon ∷ cs) × AreWholeKeys names keys ks × AreWholeColumns names columns cs
IsAtWritten names base r ts (at.Source shape) = (w : WrittenShape) × (ts ≡ shape_written w ++ Fixed marks.From ∷ []) × IsShapeRight w
IsAtWritten names base r ts (at.Sourced query) = (q : WrittenQuery) × (ts ≡ query_written q) × IsQueryRight (dataset_names r.datasets) q

-- the datasets and queries before it, each with its semicolon
pub record AreBefore (r : Read) (ts : List Token) : Type 0 where
  pub made : List WrittenDataset
  pub written : List WrittenQuery
  pub tokens_are : ts ≡ ended_by marks.Semicolon dataset_written made ++ ended_by marks.Semicolon query_written written
  pub names_are : dataset_names r.datasets ≡ names_written made
  pub made_right : (later : List (List ℕ)) → AreDatasets (with_names (with_names [] (flat_map dataset_uses made)) later) [] made
  pub made_few : length made ≤ 8
  pub as_many : length written ≡ length r.queries
  pub few : length r.queries < 8
  pub right : All (IsQueryRight (dataset_names r.datasets)) written

abbrev pub IsStateWritten : List (List ℕ) → List Token → State → Type 0
IsStateWritten names ts s = (front : List Token) × (back : List Token) × (ts ≡ front ++ back) × (before : AreBefore s.read front) × IsAtWritten names (with_names [] (flat_map dataset_uses before.made)) s.read back s.at

-- ---- what whole lists are

pub on_one : (a : Token) (cs back more : List Token) → back ≡ a ∷ cs → back ++ more ≡ a ∷ (cs ++ more)
on_one a cs back more e = ap (λ (l : List Token). l ++ more) e

pub on_two : (a b : Token) (cs ps back more : List Token) → back ≡ a ∷ cs ++ b ∷ ps → back ++ more ≡ a ∷ cs ++ b ∷ (ps ++ more)
on_two a b cs ps back more e = ap (λ (l : List Token). l ++ more) e ∙ append_assoc (a ∷ cs) (b ∷ ps) more

pub names_of_keys : (keys : List WrittenKey) → map name_of (map (λ key. key.column) keys) ≡ map key_name keys
names_of_keys [] = refl
names_of_keys (key ∷ keys) = ap (λ (l : List (List ℕ)). key_name key ∷ l) (names_of_keys keys)

pub named_meant : (names : List (List ℕ)) (one other : WrittenAgg) → agg_named one ≡ agg_named other → agg_meant names one ≡ agg_meant names other
named_meant names one other e = both (ap (λ (p : Agg × Option (List ℕ)). p.0) e) (same (agg_column one) ∙ ap (λ (p : Agg × Option (List ℕ)). option_map (place_of names) p.1) e ∙ sym (same (agg_column other)))
  where
    same : (column : Option WrittenColumn) → option_map (column_meant names) column ≡ option_map (place_of names) (option_map name_of column)
    same None = refl
    same (Some column) = refl

    both : agg_of one ≡ agg_of other → option_map (column_meant names) (agg_column one) ≡ option_map (column_meant names) (agg_column other) → agg_meant names one ≡ agg_meant names other
    both e f = rw (e, f) refl

module _ (names base : List (List ℕ)) (r : Read) where
  pub columns_right : (columns : List ℕ) (ts : List Token) (h : AreWholeColumns names columns ts) → AreColumns h.written
  columns_right columns ts h = record { several = h.several; short = h.fine; distinct = h.distinct }

  pub keys_right : (keys : List KeyItem) (ts : List Token) (h : AreWholeKeys names keys ts) → AreColumns (map (λ key. key.column) h.written)
  keys_right keys ts h = record {
    several = record { some = omega (arith, h.several.some, length-map h.written (λ key. key.column)); few = omega (arith, h.several.few, length-map h.written (λ key. key.column)) };
    short = All-map IsShortColumn (λ key. key.column) h.written h.fine;
    distinct = subst IsDistinct (sym (names_of_keys h.written)) h.distinct;
  }

  pub parts_right : (parts : List Part) (ts : List Token) (h : AreWholeParts names parts ts) → AreAggs h.written
  parts_right parts ts h = record { several = h.several; short = h.fine; distinct = h.distinct }

  -- a shape that is whole
  abbrev pub IsShapeWhole : List Token → Type 0
  IsShapeWhole ts = (w : WrittenShape) × (ts ≡ shape_written w) × IsShapeRight w

  pub group_whole : (ts : List Token) (columns : List ℕ) (parts : List Part) → IsAtWritten names base r ts (at.Parts columns parts) → IsShapeWhole ts
  group_whole ts columns parts h = (
    group h.3.written h.4.written,
    h.2 ∙ ap (λ (l : List Token). Fixed marks.Group ∷ l ++ Fixed marks.Colon ∷ h.1) h.3.tokens_are ∙ ap (λ (l : List Token). Fixed marks.Group ∷ separated marks.Comma column_written h.3.written ++ Fixed marks.Colon ∷ l) h.4.tokens_are,
    (columns_right columns h.0 h.3, parts_right parts h.1 h.4),
  )

  pub order_whole : (ts : List Token) (keys : List KeyItem) (columns : List ℕ) → IsAtWritten names base r ts (at.OrderColumns keys columns) → IsShapeWhole ts
  order_whole ts keys columns h = (
    order h.3.written h.4.written,
    h.2 ∙ ap (λ (l : List Token). Fixed marks.Order ∷ l ++ Fixed marks.Colon ∷ h.1) h.3.tokens_are ∙ ap (λ (l : List Token). Fixed marks.Order ∷ separated marks.Comma key_written h.3.written ++ Fixed marks.Colon ∷ l) h.4.tokens_are,
    (keys_right keys h.0 h.3, columns_right columns h.1 h.4),
  )

  -- a query that is whole
  abbrev pub IsQueryWhole : List Token → Type 0
  IsQueryWhole ts = (q : WrittenQuery) × (ts ≡ query_written q) × IsQueryRight (dataset_names r.datasets) q

  pub without_source : (ts : List Token) → IsShapeWhole ts → IsQueryWhole ts
  without_source ts h = (record { shape = h.0; source = None }, h.1 ∙ sym (append-nil (shape_written h.0)), record { shape = h.2; source = tt })

  -- ---- one item more

  pub column_more : (columns : List ℕ) (ts : List Token) → IsOpenColumns names columns ts → (c : WrittenColumn) (place : ℕ) → place ≡ column_meant names c → IsShortColumn c → has_column columns place ≡ false
      → AreWholeColumns names (columns ++ place ∷ []) (ts ++ column_written c)
  column_more columns ts h c place e short free =
      subst (λ (p : ℕ). AreWholeColumns names (columns ++ p ∷ []) (ts ++ column_written c)) (sym e)
      (added column_written (column_meant names) name_of IsShortColumn columns ts h c short
      (new_by (column_meant names) name_of c (λ a b same. ap (place_of names) same) h.written
      (subst (All (λ p. p ≢ column_meant names c)) h.items_are (subst (λ (p : ℕ). All (λ q. q ≢ p) columns) e (other_columns columns place free)))))

  pub part_is : (parts : List Part) (ts : List Token) → AreOpenParts names parts ts → (w : WrittenAgg) (part : Part) (more : List Token) → agg_meant names w ≡ part → agg_written w ≡ more → IsShortAgg w → has_part parts part ≡ false
      → AreWholeParts names (parts ++ part ∷ []) (ts ++ more)
  part_is parts ts h w part more em et short free =
      subst (λ (p : Part). AreWholeParts names (parts ++ p ∷ []) (ts ++ more)) em
      (subst (λ (l : List Token). AreWholeParts names (parts ++ agg_meant names w ∷ []) (ts ++ l)) et
      (added agg_written (agg_meant names) agg_named IsShortAgg parts ts h w short
      (new_by (agg_meant names) agg_named w (named_meant names) h.written (subst (All (λ p. p ≢ agg_meant names w)) h.items_are (other_parts parts (agg_meant names w) (subst (λ (p : Part). has_part parts p ≡ false) (sym em) free))))))

  pub part_more : (parts : List Part) (ts : List Token) → AreOpenParts names parts ts → (agg : Agg) (c : WrittenColumn) (place : ℕ) → is_count agg ≡ false → place ≡ column_meant names c → IsShortColumn c → has_part parts (record { agg = agg; column = Some place }) ≡ false
      → AreWholeParts names (parts ++ record { agg = agg; column = Some place } ∷ []) (ts ++ Fixed (agg_mark agg) ∷ column_written c)
  part_more parts ts h aggs.Count c place of_column e short free = absurd (true≢false of_column)
  part_more parts ts h aggs.Sum c place of_column e short free = part_is parts ts h (sum_of c) (record { agg = aggs.Sum; column = Some place }) (Fixed marks.Sum ∷ column_written c) (ap (λ (p : ℕ). record { agg = aggs.Sum; column = Some p }) (sym e)) refl short free
  part_more parts ts h aggs.Min c place of_column e short free = part_is parts ts h (min_of c) (record { agg = aggs.Min; column = Some place }) (Fixed marks.Min ∷ column_written c) (ap (λ (p : ℕ). record { agg = aggs.Min; column = Some p }) (sym e)) refl short free
  part_more parts ts h aggs.Max c place of_column e short free = part_is parts ts h (max_of c) (record { agg = aggs.Max; column = Some place }) (Fixed marks.Max ∷ column_written c) (ap (λ (p : ℕ). record { agg = aggs.Max; column = Some p }) (sym e)) refl short free

  pub columns_of_keys : (keys : List WrittenKey) → map (λ key. key.column) (map (key_meant names) keys) ≡ map (λ key. column_meant names key.column) keys
  columns_of_keys [] = refl
  columns_of_keys (key ∷ keys) = ap (λ (l : List ℕ). column_meant names key.column ∷ l) (columns_of_keys keys)

  -- no key has this column
  pub new_key : (keys : List KeyItem) (ts : List Token) (h : AreOpenKeys names keys ts) (c : WrittenColumn) (place : ℕ) → place ≡ column_meant names c → has_key keys place ≡ false → All (λ x. x ≢ name_of c) (map key_name h.written)
  new_key keys ts h c place e free =
      new_by (λ key. column_meant names key.column) key_name (record { number = false; column = c; down = false }) (λ a b same. ap (place_of names) same) h.written
      (subst (All (λ p. p ≢ column_meant names c)) (ap (map (λ key. key.column)) h.items_are ∙ columns_of_keys h.written)
      (subst (λ (p : ℕ). All (λ q. q ≢ p) (map (λ key. key.column) keys)) e (other_columns (map (λ key. key.column) keys) place (sym (has_key_is keys place) ∙ free))))

  pub key_more : (ts : List Token) (keys : List KeyItem) (column : ℕ) (number down : Bool) (h : IsAtWritten names base r ts (at.KeyColumn keys column number))
      → IsAtWritten names base r (ts ++ optional down marks.Down) (at.Keys (key keys column number down))
  key_more ts keys column number down h =
      let c = h.1 in
      let w : WrittenKey = record { number = number; column = c; down = down } in (
        h.0 ++ key_written w,
        on_one (Fixed marks.Order) (h.0 ++ (optional number marks.Number ++ column_written c)) ts (optional down marks.Down) h.2 ∙ ap (λ (l : List Token). Fixed marks.Order ∷ l) (append_assoc h.0 (optional number marks.Number ++ column_written c) (optional down marks.Down)),
        subst (λ (p : ℕ). AreWholeKeys names (keys ++ record { column = p; number = number; down = down } ∷ []) (h.0 ++ key_written w)) (sym h.3) (added key_written (key_meant names) key_name IsShortKey keys h.0 h.5 w h.4 h.6),
      )
