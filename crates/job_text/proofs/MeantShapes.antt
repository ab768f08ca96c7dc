-- Shapes that are written by the rules mean shapes that have what each shape has.
use Rattle.std.proofs.Common.{◌≡◌, ℕ, suc, ◌+◌, ◌<◌, ◌≤◌, List, [], ◌∷◌, ◌++◌, length, get_or, Option, Some, None, refl, sym, ap, subst, ◌∙◌, arith}
use Rattle.std.specs.Prelude.{All, IfSome, map, flat_map}
use Rattle.std.specs.Option.{option_map, option_to_list}
use Rattle.std.proofs.lemmas.List.{length-map, get_or-map, map-append, length-append, get_or_append_left, get_or-append-add}
use Rattle.std.proofs.lemmas.List.Elements.{All-nil, All-cons, All-append, All-map, All-weaker}
use Rattle.job_text.specs.declared.job.Part.{Part}
use Rattle.job_text.specs.Jobs.{IsShortList, IsAggregate, IsDistinct, IsColumns, IsShape, shape_places}
use Rattle.job_text.specs.Grammar.{WrittenColumn, WrittenKey, WrittenAgg, WrittenShape}
use Rattle.job_text.specs.Rules.{name_of, IsShortColumn, IsShortAgg, AreColumns, AreAggs, IsShapeRight, agg_of, agg_column, agg_named, column_names, agg_names, shape_names}
use Rattle.job_text.specs.Meaning.{column_meant, key_meant, agg_meant, shape_meant}
use Rattle.job_text.specs.Grammar.{count, sum_of, min_of, max_of, group, order}
use Rattle.job_text.proofs.Fresh.{name_at}
use Rattle.job_text.proofs.Named.{Knows, same_name}

-- ---- lists

pub All-left : {X : Type 0} (P : X → Type 0) (xs ys : List X) → All P (xs ++ ys) → All P xs
All-left P xs ys h k d lt = subst P (get_or_append_left xs ys d k lt) (h k d (omega (arith, lt, length-append xs ys)))

pub All-right : {X : Type 0} (P : X → Type 0) (xs ys : List X) → All P (xs ++ ys) → All P ys
All-right P xs ys h k d lt = subst P (get_or-append-add xs ys k d) (h (length xs + k) d (omega (arith, lt, length-append xs ys)))

-- what holds of all that the items have
pub All-items : {W X : Type 0} (P : X → Type 0) (f : W → List X) (ws : List W) → All P (flat_map f ws) → All (λ w. All P (f w)) ws
All-items P f [] h = All-nil (λ w. All P (f w))
All-items P f (w ∷ ws) h = All-cons (λ w. All P (f w)) w ws (All-left P (f w) (flat_map f ws) h) (All-items P f ws (All-right P (f w) (flat_map f ws) h))

pub All-flat : {W X : Type 0} (P : X → Type 0) (f : W → List X) (ws : List W) → All (λ w. All P (f w)) ws → All P (flat_map f ws)
All-flat P f [] h = All-nil P
All-flat P f (w ∷ ws) h = All-append P (f w) (flat_map f ws) (h 0 w (omega arith)) (All-flat P f ws (λ k d lt. h (suc k) d (omega (arith, lt))))

-- items that differ by one measure differ by another that tells them apart
pub distinct_by : {W X Y : Type 0} (f : W → X) (g : W → Y) (P : W → Type 0) → ((a b : W) → P a → P b → f a ≡ f b → g a ≡ g b)
    → (ws : List W) → All P ws → IsDistinct (map g ws) → IsDistinct (map f ws)
distinct_by f g P tells [] all h = λ i j d less within. absurd (omega arith)
distinct_by f g P tells (w ∷ ws) all h = λ i j d less within. λ same.
    let lj : j < length (w ∷ ws) = omega (arith, within, length-map (w ∷ ws) f) in
    let li : i < length (w ∷ ws) = omega (arith, less, lj) in
    let one = get_or (w ∷ ws) i w in
    let other = get_or (w ∷ ws) j w in
    h i j (g w) less (omega (arith, lj, length-map (w ∷ ws) g))
    (get_or-map g (w ∷ ws) i w (g w) li ∙ tells one other (all i w li) (all j w lj) (sym (get_or-map f (w ∷ ws) i w d li) ∙ same ∙ get_or-map f (w ∷ ws) j w d lj) ∙ sym (get_or-map g (w ∷ ws) j w (g w) lj))

pub short_list : {W X : Type 0} (f : W → X) (ws : List W) → IsShortList ws → IsShortList (map f ws)
short_list f ws h = record { some = omega (arith, h.some, length-map ws f); few = omega (arith, h.few, length-map ws f) }

-- ---- by the names of the job

module _ (names : List (List ℕ)) where
  pub KnowsColumn : WrittenColumn → Type 0
  KnowsColumn column = Knows names (name_of column)

  pub one_known : (name : List ℕ) → All (Knows names) (name ∷ []) → Knows names name
  one_known name h = h 0 [] (omega arith)

  pub columns_known : (columns : List WrittenColumn) → All (Knows names) (flat_map column_names columns) → All (λ column. Knows names (name_of column)) columns
  columns_known columns h = All-weaker (λ column. All (Knows names) (column_names column)) (λ column. Knows names (name_of column)) (λ column k. one_known (name_of column) k) columns (All-items (Knows names) column_names columns h)

  pub columns_meant : (columns : List WrittenColumn) → AreColumns columns → All (λ column. Knows names (name_of column)) columns → IsColumns (length names) (map (column_meant names) columns)
  columns_meant columns h k = record {
    short = short_list (column_meant names) columns h.several;
    named = All-map (λ place. place < length names) (column_meant names) columns k;
    distinct = distinct_by (column_meant names) name_of (λ column. Knows names (name_of column)) (λ one other k l e. same_name names (name_of one) (name_of other) k l e) columns k h.distinct;
  }

  pub keys_meant : (keys : List WrittenKey) → map (λ key. key.column) (map (key_meant names) keys) ≡ map (column_meant names) (map (λ key. key.column) keys)
  keys_meant [] = refl
  keys_meant (key ∷ keys) = ap (λ (l : List ℕ). column_meant names key.column ∷ l) (keys_meant keys)

  pub keys_named : (keys : List WrittenKey) → flat_map (λ key. column_names key.column) keys ≡ flat_map column_names (map (λ key. key.column) keys)
  keys_named [] = refl
  keys_named (key ∷ keys) = ap (λ (l : List (List ℕ)). name_of key.column ∷ l) (keys_named keys)

  abbrev pub KnowsAgg : WrittenAgg → Type 0
  KnowsAgg agg = IfSome (agg_column agg) (λ column. Knows names (name_of column))

  pub agg_known : (agg : WrittenAgg) → All (Knows names) (agg_names agg) → KnowsAgg agg
  agg_known count h = tt
  agg_known (sum_of column) h = one_known (name_of column) h
  agg_known (min_of column) h = one_known (name_of column) h
  agg_known (max_of column) h = one_known (name_of column) h

  pub is_part : (agg : WrittenAgg) → KnowsAgg agg → IsAggregate (length names) (agg_meant names agg)
  is_part count h = record { column = refl; named = tt }
  is_part (sum_of column) h = record { column = refl; named = h }
  is_part (min_of column) h = record { column = refl; named = h }
  is_part (max_of column) h = record { column = refl; named = h }

  pub some_is : {X : Type 0} (a b : X) → let x : Option X = Some a in let y : Option X = Some b in x ≡ y → a ≡ b
  some_is a b e = cc

  pub some_none : {X : Type 0} (a : X) → let x : Option X = Some a in let y : Option X = None in x ≡ y → ⊥
  some_none a e = cc

  pub same_column : (one other : Option WrittenColumn) → IfSome one (λ column. Knows names (name_of column)) → IfSome other (λ column. Knows names (name_of column)) → option_map (column_meant names) one ≡ option_map (column_meant names) other → option_map name_of one ≡ option_map name_of other
  same_column None None k l e = refl
  same_column None (Some b) k l e = absurd (some_none (column_meant names b) (sym e))
  same_column (Some a) None k l e = absurd (some_none (column_meant names a) e)
  same_column (Some a) (Some b) k l e = ap (λ (n : List ℕ). Some n) (same_name names (name_of a) (name_of b) k l (some_is (column_meant names a) (column_meant names b) e))

  pub same_agg : (one other : WrittenAgg) → KnowsAgg one → KnowsAgg other → agg_meant names one ≡ agg_meant names other → agg_named one ≡ agg_named other
  same_agg one other k l e =
      both (ap (λ (p : Part). p.agg) e) (same_column (agg_column one) (agg_column other) k l (ap (λ (p : Part). p.column) e))
    where
      both : agg_of one ≡ agg_of other → option_map name_of (agg_column one) ≡ option_map name_of (agg_column other) → agg_named one ≡ agg_named other
      both e f = rw (e, f) refl

  pub aggs_meant : (aggs : List WrittenAgg) → AreAggs aggs → All (Knows names) (flat_map agg_names aggs) → IsShortList (map (agg_meant names) aggs) × All (IsAggregate (length names)) (map (agg_meant names) aggs) × IsDistinct (map (agg_meant names) aggs)
  aggs_meant aggs h k =
      let all = All-weaker (λ agg. All (Knows names) (agg_names agg)) KnowsAgg agg_known aggs (All-items (Knows names) agg_names aggs k) in (
        short_list (agg_meant names) aggs h.several,
        All-map (IsAggregate (length names)) (agg_meant names) aggs (All-weaker KnowsAgg (λ agg. IsAggregate (length names) (agg_meant names agg)) is_part aggs all),
        distinct_by (agg_meant names) agg_named KnowsAgg same_agg aggs all h.distinct,
      )

  pub shape_is : (shape : WrittenShape) → IsShapeRight shape → All (Knows names) (shape_names shape) → IsShape (length names) (shape_meant names shape)
  shape_is (group columns aggs) h k =
      let parts = aggs_meant aggs h.1 (All-right (Knows names) (flat_map column_names columns) (flat_map agg_names aggs) k) in (
        columns_meant columns h.0 (columns_known columns (All-left (Knows names) (flat_map column_names columns) (flat_map agg_names aggs) k)),
        parts.0,
        parts.1,
        parts.2,
      )
  shape_is (order keys columns) h k =
      let first = All-left (Knows names) (flat_map (λ key. column_names key.column) keys) (flat_map column_names columns) k in (
        subst (IsColumns (length names)) (sym (keys_meant keys)) (columns_meant (map (λ key. key.column) keys) h.0 (columns_known (map (λ key. key.column) keys) (subst (All (Knows names)) (keys_named keys) first))),
        columns_meant columns h.1 (columns_known columns (All-right (Knows names) (flat_map (λ key. column_names key.column) keys) (flat_map column_names columns) k)),
      )

  -- ---- the names at the places are those that are written

  abbrev pub at : ℕ → List ℕ
  at place = get_or names place []

  pub columns_back : (columns : List WrittenColumn) → All (Knows names) (flat_map column_names columns) → map at (map (column_meant names) columns) ≡ flat_map column_names columns
  columns_back [] k = refl
  columns_back (column ∷ columns) k =
      ap (λ (n : List ℕ). n ∷ map at (map (column_meant names) columns)) (name_at names (name_of column) (k 0 [] (omega arith)))
      ∙ ap (λ (l : List (List ℕ)). name_of column ∷ l) (columns_back columns (λ i d lt. k (suc i) d (omega (arith, lt))))

  pub agg_back : (agg : WrittenAgg) → All (Knows names) (agg_names agg) → map at (option_to_list (agg_meant names agg).column) ≡ agg_names agg
  agg_back count k = refl
  agg_back (sum_of column) k = ap (λ (n : List ℕ). n ∷ []) (name_at names (name_of column) (one_known (name_of column) k))
  agg_back (min_of column) k = ap (λ (n : List ℕ). n ∷ []) (name_at names (name_of column) (one_known (name_of column) k))
  agg_back (max_of column) k = ap (λ (n : List ℕ). n ∷ []) (name_at names (name_of column) (one_known (name_of column) k))

  -- item by item
  pub flat_back : {W V : Type 0} (meant : W → V) (places : V → List ℕ) (named : W → List (List ℕ)) → ((w : W) → All (Knows names) (named w) → map at (places (meant w)) ≡ named w)
      → (ws : List W) → All (Knows names) (flat_map named ws) → map at (flat_map places (map meant ws)) ≡ flat_map named ws
  flat_back meant places named one [] k = refl
  flat_back meant places named one (w ∷ ws) k =
      map-append at (places (meant w)) (flat_map places (map meant ws))
      ∙ ap (λ (l : List (List ℕ)). l ++ map at (flat_map places (map meant ws))) (one w (All-left (Knows names) (named w) (flat_map named ws) k))
      ∙ ap (λ (l : List (List ℕ)). named w ++ l) (flat_back meant places named one ws (All-right (Knows names) (named w) (flat_map named ws) k))

  pub shape_back : (shape : WrittenShape) → All (Knows names) (shape_names shape) → map at (shape_places (shape_meant names shape)) ≡ shape_names shape
  shape_back (group columns aggs) k =
      let parts = map (agg_meant names) aggs in
      let places = flat_map (λ part. option_to_list part.column) parts in
      map-append at (map (column_meant names) columns) places
      ∙ ap (λ (l : List (List ℕ)). l ++ map at places) (columns_back columns (All-left (Knows names) (flat_map column_names columns) (flat_map agg_names aggs) k))
      ∙ ap (λ (l : List (List ℕ)). flat_map column_names columns ++ l) (flat_back (agg_meant names) (λ part. option_to_list part.column) agg_names agg_back aggs (All-right (Knows names) (flat_map column_names columns) (flat_map agg_names aggs) k))
  shape_back (order keys columns) k =
      let front = flat_map (λ key. column_names key.column) keys in
      let places = map (λ key. key.column) (map (key_meant names) keys) in
      map-append at places (map (column_meant names) columns)
      ∙ ap (λ (l : List ℕ). map at l ++ map at (map (column_meant names) columns)) (keys_meant keys)
      ∙ ap (λ (l : List (List ℕ)). l ++ map at (map (column_meant names) columns)) (columns_back (map (λ key. key.column) keys) (subst (All (Knows names)) (keys_named keys) (All-left (Knows names) front (flat_map column_names columns) k)) ∙ sym (keys_named keys))
      ∙ ap (λ (l : List (List ℕ)). front ++ l) (columns_back columns (All-right (Knows names) front (flat_map column_names columns) k))

-- ---- each name is short

pub columns_short : (columns : List WrittenColumn) → All IsShortColumn columns → All (λ name. length name ≤ 1024) (flat_map column_names columns)
columns_short columns h = All-flat (λ name. length name ≤ 1024) column_names columns (All-weaker IsShortColumn (λ column. All (λ name. length name ≤ 1024) (column_names column)) (λ column s. All-cons (λ name. length name ≤ 1024) (name_of column) [] s (All-nil (λ name. length name ≤ 1024))) columns h)

pub agg_short : (agg : WrittenAgg) → IsShortAgg agg → All (λ name. length name ≤ 1024) (agg_names agg)
agg_short count h = All-nil (λ name. length name ≤ 1024)
agg_short (sum_of column) h = All-cons (λ name. length name ≤ 1024) (name_of column) [] h (All-nil (λ name. length name ≤ 1024))
agg_short (min_of column) h = All-cons (λ name. length name ≤ 1024) (name_of column) [] h (All-nil (λ name. length name ≤ 1024))
agg_short (max_of column) h = All-cons (λ name. length name ≤ 1024) (name_of column) [] h (All-nil (λ name. length name ≤ 1024))

pub shape_short : (shape : WrittenShape) → IsShapeRight shape → All (λ name. length name ≤ 1024) (shape_names shape)
shape_short (group columns aggs) h = All-append (λ name. length name ≤ 1024) (flat_map column_names columns) (flat_map agg_names aggs) (columns_short columns h.0.short) (All-flat (λ name. length name ≤ 1024) agg_names aggs (All-weaker IsShortAgg (λ agg. All (λ name. length name ≤ 1024) (agg_names agg)) agg_short aggs h.1.short))
shape_short (order keys columns) h =
    All-append (λ name. length name ≤ 1024) (flat_map (λ key. column_names key.column) keys) (flat_map column_names columns)
    (subst (All (λ name. length name ≤ 1024)) (sym (keys_named [] keys)) (columns_short (map (λ key. key.column) keys) h.0.short)) (columns_short columns h.1.short)
