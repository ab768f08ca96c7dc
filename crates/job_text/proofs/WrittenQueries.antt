-- Queries that are written as the grammar has it are read.
use Rattle.std.proofs.Common.{◌≡◌, ◌≢◌, ℕ, suc, ◌+◌, ◌<◌, ◌≤◌, Bool, true, false, List, [], ◌∷◌, ◌++◌, length, Option, Some, None, refl, sym, ap, subst, ◌∙◌, append_assoc, arith}
use Rattle.std.specs.Prelude.{All, IfSome, map, flat_map}
use Rattle.std.proofs.lemmas.Bool.{lt-ltb, le-leb, ne_eqb, or_from, and_parts, false_from_ne_true, eqb-true}
use Rattle.std.proofs.lemmas.List.{append-nil, length-append, length-map, get_or_at, get_or_append_left, map-append}
use Rattle.aggregate.specs.declared.agg_list.Agg.{Agg}
use Rattle.aggregate.specs.declared.agg_list.Agg.TheVariants as aggs
use Rattle.job_text.specs.declared.mark.Mark.{Mark}
use Rattle.job_text.specs.declared.mark.Mark.TheVariants as marks
use Rattle.job_text.specs.declared.token.Token.{Token}
use Rattle.job_text.specs.declared.token.Token.TheVariants.{Fixed, Word, Quoted}
use Rattle.job_text.specs.declared.job.Part.{Part}
use Rattle.job_text.specs.declared.job.KeyItem.{KeyItem}
use Rattle.job_text.specs.declared.job.Shape.{Shape}
use Rattle.job_text.specs.declared.job.Shape.TheVariants as shapes
use Rattle.job_text.specs.declared.job.Query.{Query}
use Rattle.job_text.specs.declared.job.Dataset.{Dataset}
use Rattle.job_text.specs.declared.state.At.{At}
use Rattle.job_text.specs.declared.state.At.TheVariants as at
use Rattle.job_text.specs.declared.state.State.{State}
use Rattle.job_text.specs.Columns.{place_of, dataset_names, with_name, with_names, has_column, has_key, has_part, same_agg, same_column}
use Rattle.job_text.specs.Step.{step, query_of, after_word, after_quoted, counted, key, named, after_mark, after_column, one_more}
use Rattle.job_text.specs.Begins.{steps, job_at}
use Rattle.job_text.specs.Jobs.{IsShortList, IsDistinct, IsColumns, IsShape}
use Rattle.job_text.specs.Grammar.{WrittenColumn, WrittenKey, WrittenAgg, WrittenShape, WrittenSource, WrittenQuery, source_written, column_written, key_written, agg_written, shape_written, from_written, query_written, optional, separated}
use Rattle.job_text.specs.Rules.{IsSourceRight, IsQueryRight, name_of, column_names, agg_names, shape_names, query_names}
use Rattle.job_text.specs.Meaning.{source_meant, from_meant, column_meant, key_meant, agg_meant, shape_meant, query_meant}
use Rattle.job_text.specs.Grammar.{word, in_quotes, count, sum_of, min_of, max_of, group, order, input, by_name}
use Rattle.job_text.proofs.Fresh.{name_at}
use Rattle.job_text.proofs.Named.{place_now, known, with_names-append}
use Rattle.job_text.proofs.Fitting.{put}
use Rattle.job_text.proofs.Viable.{has_key_is}

pub step_then : (s next : State) (t : Token) (ts : List Token) → step s t ≡ Some next → steps s (t ∷ ts) ≡ steps next ts
unfolding steps
step_then s next t ts e = rw e refl

-- ---- what stands before an item isn't the item

pub before_is : {X : Type 0} (before after : List X) (x : X) → IsDistinct (before ++ x ∷ after) → All (λ b. b ≢ x) before
before_is before after x h = λ k d lt. λ same.
    h k (length before) d lt (omega (arith, length-append before (x ∷ after)))
    (get_or_append_left before (x ∷ after) d k lt ∙ same ∙ sym (get_or_at before x after d (length before) refl))

pub not_column : (columns : List ℕ) (column : ℕ) → All (λ c. c ≢ column) columns → has_column columns column ≡ false
not_column [] column h = refl
not_column (c ∷ columns) column h = or_from _ _ (ne_eqb c column (h 0 0 (omega arith))) (not_column columns column (λ k d lt. h (suc k) d (omega (arith, lt))))

pub same_aggs : (one other : Agg) → same_agg one other ≡ true → one ≡ other
same_aggs aggs.Count aggs.Count e = refl
same_aggs aggs.Sum aggs.Sum e = refl
same_aggs aggs.Min aggs.Min e = refl
same_aggs aggs.Max aggs.Max e = refl
same_aggs _ _ e = absurd cc

pub same_columns : (one other : Option ℕ) → same_column one other ≡ true → one ≡ other
same_columns None None e = refl
same_columns None (Some b) e = absurd cc
same_columns (Some a) None e = absurd cc
same_columns (Some a) (Some b) e = ap (λ (n : ℕ). Some n) (eqb-true a b e)

pub same_part : (one other : Part) → same_agg one.agg other.agg ≡ true → same_column one.column other.column ≡ true → one ≡ other
same_part one other e f = both (same_aggs one.agg other.agg e) (same_columns one.column other.column f)
  where
    both : one.agg ≡ other.agg → one.column ≡ other.column → one ≡ other
    both e f = ap (λ (a : Agg). record { agg = a; column = one.column }) e ∙ ap (λ (c : Option ℕ). record { agg = other.agg; column = c }) f

pub not_part : (parts : List Part) (part : Part) → All (λ p. p ≢ part) parts → has_part parts part ≡ false
not_part [] part h = refl
not_part (p ∷ parts) part h =
    or_from _ _ (false_from_ne_true _ (λ e. let both = and_parts (same_agg p.agg part.agg) (same_column p.column part.column) e in h 0 part (omega arith) (same_part p part both.0 both.1)))
    (not_part parts part (λ k d lt. h (suc k) d (omega (arith, lt))))

module _ (names : List (List ℕ)) (short : All (λ name. length name ≤ 1024) names) (datasets : List Dataset) (queries : List Query) where
  -- a name is read, and stands at its place from then on
  pub named_taken : (now : List (List ℕ)) (name : List ℕ) (later : List (List ℕ)) (is_taken : ℕ → Bool) (next : ℕ → At) → with_names (with_name now name) later ≡ names
      → is_taken (place_of names name) ≡ false
      → named (record { names = now; datasets = datasets; queries = queries }) is_taken next (Some name) ≡ Some (put (with_name now name) datasets queries (next (place_of names name)))
  named_taken now name later is_taken next e free =
      let here : place_of now name ≡ place_of names name = place_now now name later ∙ ap (λ (l : List (List ℕ)). place_of l name) e in
      let there = subst (λ (l : List (List ℕ)). place_of l name < length l) e (known now name later) in
      let few : length name ≤ 1024 = subst (λ (l : List ℕ). length l ≤ 1024) (name_at names name there) (short (place_of names name) [] there) in
      rw (le-leb (length name) 1024 few, here, free) refl

  pub column_taken : (place : At) (now : List (List ℕ)) (column : WrittenColumn) (next : State) (rest : List Token)
      → ((name : List ℕ) → (after_word (record { names = now; datasets = datasets; queries = queries }) place name ≡ after_column (record { names = now; datasets = datasets; queries = queries }) place (Some name)) × (after_quoted (record { names = now; datasets = datasets; queries = queries }) place name ≡ after_column (record { names = now; datasets = datasets; queries = queries }) place (Some name)))
      → after_column (record { names = now; datasets = datasets; queries = queries }) place (Some (name_of column)) ≡ Some next
      → steps (put now datasets queries place) (column_written column ++ rest) ≡ steps next rest
  unfolding step
  column_taken place now (word name) next rest same e = step_then _ _ (Word name) rest ((same name).0 ∙ e)
  column_taken place now (in_quotes name) next rest same e = step_then _ _ (Quoted name) rest ((same name).1 ∙ e)

  pub word_taken : (place : At) (now : List (List ℕ)) (name : List ℕ) (next : State) (rest : List Token)
      → after_word (record { names = now; datasets = datasets; queries = queries }) place name ≡ Some next
      → steps (put now datasets queries place) (Word name ∷ rest) ≡ steps next rest
  unfolding step
  word_taken place now name next rest e = step_then _ _ (Word name) rest e

  pub mark_taken : (place : At) (now : List (List ℕ)) (mark : Mark) (next : State) (rest : List Token)
      → after_mark (record { names = now; datasets = datasets; queries = queries }) place mark ≡ Some next
      → steps (put now datasets queries place) (Fixed mark ∷ rest) ≡ steps next rest
  unfolding step
  mark_taken place now mark next rest e = step_then _ _ (Fixed mark) rest e

  pub more_taken : {A : Type 0} (now : List (List ℕ)) (items : List A) (next : At) → length items < 8 → one_more (record { names = now; datasets = datasets; queries = queries }) items next ≡ Some (put now datasets queries next)
  more_taken now items next lt = rw (lt-ltb (length items) 8 lt) refl

  -- ---- items with commas: each is read behind those before it

  module _ {W V X : Type 0} (tokens : W → List Token) (meant : W → V) (named : W → List (List ℕ)) (must may : List V → At) (all : List V → List X) (mark : V → X) (Follows : List Token → Type 0)
      (split : (before after : List V) (v : V) → all (before ++ v ∷ after) ≡ all before ++ mark v ∷ all after)
      (behind_comma : (rest : List Token) → Follows (Fixed marks.Comma ∷ rest))
      (one : (now : List (List ℕ)) (before : List V) (w : W) (later : List (List ℕ)) (rest : List Token) → with_names now (named w ++ later) ≡ names → All (λ x. x ≢ mark (meant w)) (all before) → Follows rest
      → steps (put now datasets queries (must before)) (tokens w ++ rest) ≡ steps (put (with_names now (named w)) datasets queries (may (before ++ meant w ∷ []))) rest)
      (comma : (now : List (List ℕ)) (before : List V) (rest : List Token) → length before < 8 → steps (put now datasets queries (may before)) (Fixed marks.Comma ∷ rest) ≡ steps (put now datasets queries (must before)) rest) where
    items_read : (now : List (List ℕ)) (before : List V) (w : W) (ws : List W) (later : List (List ℕ)) (rest : List Token) → with_names now (flat_map named (w ∷ ws) ++ later) ≡ names
        → IsDistinct (all (before ++ map meant (w ∷ ws))) → length before + length (w ∷ ws) ≤ 8 → Follows rest
        → steps (put now datasets queries (must before)) (separated marks.Comma tokens (w ∷ ws) ++ rest) ≡ steps (put (with_names now (flat_map named (w ∷ ws))) datasets queries (may (before ++ map meant (w ∷ ws)))) rest
    items_read now before w [] later rest e d few follows =
        one now before w later rest (ap (λ (l : List (List ℕ)). with_names now (l ++ later)) (sym (append-nil (named w))) ∙ e) (before_is (all before) (all []) (mark (meant w)) (subst IsDistinct (split before [] (meant w)) d)) follows
        ∙ ap (λ (l : List (List ℕ)). steps (put (with_names now l) datasets queries (may (before ++ meant w ∷ []))) rest) (sym (append-nil (named w)))
    items_read now before w (x ∷ ws) later rest e d few follows =
        let more = separated marks.Comma tokens (x ∷ ws) in
        let next = with_names now (named w) in
        let done : List V = before ++ meant w ∷ [] in
        let items = map meant (x ∷ ws) in
        let here : with_names now (named w ++ (flat_map named (x ∷ ws) ++ later)) ≡ names = ap (with_names now) (sym (append_assoc (named w) (flat_map named (x ∷ ws)) later)) ∙ e in
        ap (steps (put now datasets queries (must before))) (append_assoc (tokens w) (Fixed marks.Comma ∷ more) rest)
        ∙ one now before w (flat_map named (x ∷ ws) ++ later) (Fixed marks.Comma ∷ (more ++ rest)) here (before_is (all before) (all items) (mark (meant w)) (subst IsDistinct (split before items (meant w)) d)) (behind_comma (more ++ rest))
        ∙ comma next done (more ++ rest) (omega (arith, few, length-append before (meant w ∷ [])))
        ∙ items_read next done x ws later rest (sym (with_names-append (named w) (flat_map named (x ∷ ws) ++ later) now) ∙ here) (subst (λ (l : List V). IsDistinct (all l)) (sym (append_assoc before (meant w ∷ []) items)) d) (omega (arith, few, length-append before (meant w ∷ []))) follows
        ∙ ap (λ (l : List (List ℕ)). steps (put l datasets queries (may (done ++ items))) rest) (sym (with_names-append (named w) (flat_map named (x ∷ ws)) now))
        ∙ ap (λ (l : List V). steps (put (with_names now (flat_map named (w ∷ x ∷ ws))) datasets queries (may l)) rest) (append_assoc before (meant w ∷ []) items)

  -- ---- columns

  pub group_column : (now : List (List ℕ)) (before : List ℕ) (column : WrittenColumn) (later : List (List ℕ)) (rest : List Token) → with_names now (column_names column ++ later) ≡ names → All (λ c. c ≢ column_meant names column) before → Unit {0}
      → steps (put now datasets queries (at.GroupColumn before)) (column_written column ++ rest) ≡ steps (put (with_names now (column_names column)) datasets queries (at.GroupColumns (before ++ column_meant names column ∷ []))) rest
  group_column now before column later rest e new follows =
      column_taken (at.GroupColumn before) now column (put (with_name now (name_of column)) datasets queries (at.GroupColumns (before ++ column_meant names column ∷ []))) rest
      (λ _. (refl, refl)) (named_taken now (name_of column) later (has_column before) (λ c. at.GroupColumns (before ++ c ∷ [])) e (not_column before (column_meant names column) new))

  pub group_comma : (now : List (List ℕ)) (before : List ℕ) (rest : List Token) → length before < 8 → steps (put now datasets queries (at.GroupColumns before)) (Fixed marks.Comma ∷ rest) ≡ steps (put now datasets queries (at.GroupColumn before)) rest
  group_comma now before rest lt = mark_taken (at.GroupColumns before) now marks.Comma (put now datasets queries (at.GroupColumn before)) rest (more_taken now before (at.GroupColumn before) lt)

  pub order_column : (keys : List KeyItem) (now : List (List ℕ)) (before : List ℕ) (column : WrittenColumn) (later : List (List ℕ)) (rest : List Token) → with_names now (column_names column ++ later) ≡ names → All (λ c. c ≢ column_meant names column) before → Unit {0}
      → steps (put now datasets queries (at.OrderColumn keys before)) (column_written column ++ rest) ≡ steps (put (with_names now (column_names column)) datasets queries (at.OrderColumns keys (before ++ column_meant names column ∷ []))) rest
  order_column keys now before column later rest e new follows =
      column_taken (at.OrderColumn keys before) now column (put (with_name now (name_of column)) datasets queries (at.OrderColumns keys (before ++ column_meant names column ∷ []))) rest
      (λ _. (refl, refl)) (named_taken now (name_of column) later (has_column before) (λ c. at.OrderColumns keys (before ++ c ∷ [])) e (not_column before (column_meant names column) new))

  pub order_comma : (keys : List KeyItem) (now : List (List ℕ)) (before : List ℕ) (rest : List Token) → length before < 8 → steps (put now datasets queries (at.OrderColumns keys before)) (Fixed marks.Comma ∷ rest) ≡ steps (put now datasets queries (at.OrderColumn keys before)) rest
  order_comma keys now before rest lt = mark_taken (at.OrderColumns keys before) now marks.Comma (put now datasets queries (at.OrderColumn keys before)) rest (more_taken now before (at.OrderColumn keys before) lt)

  -- ---- aggregates

  pub agg_with_column : (columns : List ℕ) (now : List (List ℕ)) (before : List Part) (agg : Agg) (column : WrittenColumn) (later : List (List ℕ)) (rest : List Token) → with_names now (column_names column ++ later) ≡ names
      → All (λ p. p ≢ record { agg = agg; column = Some (column_meant names column) }) before
      → steps (put now datasets queries (at.PartColumn columns before agg)) (column_written column ++ rest) ≡ steps (put (with_names now (column_names column)) datasets queries (at.Parts columns (before ++ record { agg = agg; column = Some (column_meant names column) } ∷ []))) rest
  agg_with_column columns now before agg column later rest e new =
      column_taken (at.PartColumn columns before agg) now column (put (with_name now (name_of column)) datasets queries (at.Parts columns (before ++ record { agg = agg; column = Some (column_meant names column) } ∷ []))) rest
      (λ _. (refl, refl)) (named_taken now (name_of column) later (λ c. has_part before (record { agg = agg; column = Some c })) (λ c. at.Parts columns (before ++ record { agg = agg; column = Some c } ∷ [])) e
      (not_part before (record { agg = agg; column = Some (column_meant names column) }) new))

  pub part : (columns : List ℕ) (now : List (List ℕ)) (before : List Part) (agg : WrittenAgg) (later : List (List ℕ)) (rest : List Token) → with_names now (agg_names agg ++ later) ≡ names → All (λ p. p ≢ agg_meant names agg) before → Unit {0}
      → steps (put now datasets queries (at.Part columns before)) (agg_written agg ++ rest) ≡ steps (put (with_names now (agg_names agg)) datasets queries (at.Parts columns (before ++ agg_meant names agg ∷ []))) rest
  part columns now before count later rest e new follows =
      mark_taken (at.Part columns before) now marks.Count (put now datasets queries (at.Parts columns (before ++ counted ∷ []))) rest (rw (not_part before counted new) refl)
  part columns now before (sum_of column) later rest e new follows =
      mark_taken (at.Part columns before) now marks.Sum (put now datasets queries (at.PartColumn columns before aggs.Sum)) (column_written column ++ rest) refl ∙ agg_with_column columns now before aggs.Sum column later rest e new
  part columns now before (min_of column) later rest e new follows =
      mark_taken (at.Part columns before) now marks.Min (put now datasets queries (at.PartColumn columns before aggs.Min)) (column_written column ++ rest) refl ∙ agg_with_column columns now before aggs.Min column later rest e new
  part columns now before (max_of column) later rest e new follows =
      mark_taken (at.Part columns before) now marks.Max (put now datasets queries (at.PartColumn columns before aggs.Max)) (column_written column ++ rest) refl ∙ agg_with_column columns now before aggs.Max column later rest e new

  pub part_comma : (columns : List ℕ) (now : List (List ℕ)) (before : List Part) (rest : List Token) → length before < 8 → steps (put now datasets queries (at.Parts columns before)) (Fixed marks.Comma ∷ rest) ≡ steps (put now datasets queries (at.Part columns before)) rest
  part_comma columns now before rest lt = mark_taken (at.Parts columns before) now marks.Comma (put now datasets queries (at.Part columns before)) rest (more_taken now before (at.Part columns before) lt)

  -- ---- keys

  -- what follows shows that the key isn't ordered downwards
  abbrev pub EndsKey : List Token → Type 0
  EndsKey rest = (now : List (List ℕ)) (keys : List KeyItem) (column : ℕ) (number : Bool) → steps (put now datasets queries (at.KeyColumn keys column number)) rest ≡ steps (put now datasets queries (at.Keys (key keys column number false))) rest

  pub comma_ends : (rest : List Token) → EndsKey (Fixed marks.Comma ∷ rest)
  unfolding steps step
  comma_ends rest now keys column number = refl

  pub colon_ends : (rest : List Token) → EndsKey (Fixed marks.Colon ∷ rest)
  unfolding steps step
  colon_ends rest now keys column number = refl

  pub new_key : (before : List KeyItem) (column : ℕ) → All (λ c. c ≢ column) (map (λ key. key.column) before) → has_key before column ≡ false
  new_key before column new = has_key_is before column ∙ not_column (map (λ key. key.column) before) column new

  pub key_read : (now : List (List ℕ)) (before : List KeyItem) (written : WrittenKey) (later : List (List ℕ)) (rest : List Token) → with_names now (column_names written.column ++ later) ≡ names → All (λ c. c ≢ column_meant names written.column) (map (λ key. key.column) before) → EndsKey rest
      → steps (put now datasets queries (at.Key before)) (key_written written ++ rest) ≡ steps (put (with_names now (column_names written.column)) datasets queries (at.Keys (before ++ key_meant names written ∷ []))) rest
  key_read now before written later rest e new follows = by written.number written.down
    where
      by : (number down : Bool) → steps (put now datasets queries (at.Key before)) ((optional number marks.Number ++ column_written written.column ++ optional down marks.Down) ++ rest)
          ≡ steps (put (with_names now (column_names written.column)) datasets queries (at.Keys (key before (column_meant names written.column) number down))) rest
      by false false =
          let c = written.column in
          let p = column_meant names c in
          ap (λ (l : List Token). steps (put now datasets queries (at.Key before)) (l ++ rest)) (append-nil (column_written c))
          ∙ column_taken (at.Key before) now c (put (with_name now (name_of c)) datasets queries (at.KeyColumn before p false)) rest (λ _. (refl, refl)) (named_taken now (name_of c) later (has_key before) (λ p. at.KeyColumn before p false) e (new_key before p new))
          ∙ follows (with_name now (name_of c)) before p false
      by false true =
          let c = written.column in
          let p = column_meant names c in
          ap (steps (put now datasets queries (at.Key before))) (append_assoc (column_written c) (Fixed marks.Down ∷ []) rest)
          ∙ column_taken (at.Key before) now c (put (with_name now (name_of c)) datasets queries (at.KeyColumn before p false)) (Fixed marks.Down ∷ rest) (λ _. (refl, refl)) (named_taken now (name_of c) later (has_key before) (λ p. at.KeyColumn before p false) e (new_key before p new))
          ∙ mark_taken (at.KeyColumn before p false) (with_name now (name_of c)) marks.Down (put (with_name now (name_of c)) datasets queries (at.Keys (key before p false true))) rest refl
      by true false =
          let c = written.column in
          let p = column_meant names c in
          ap (λ (l : List Token). steps (put now datasets queries (at.Key before)) (Fixed marks.Number ∷ (l ++ rest))) (append-nil (column_written c))
          ∙ mark_taken (at.Key before) now marks.Number (put now datasets queries (at.NumberKey before)) (column_written c ++ rest) refl
          ∙ column_taken (at.NumberKey before) now c (put (with_name now (name_of c)) datasets queries (at.KeyColumn before p true)) rest (λ _. (refl, refl)) (named_taken now (name_of c) later (has_key before) (λ p. at.KeyColumn before p true) e (new_key before p new))
          ∙ follows (with_name now (name_of c)) before p true
      by true true =
          let c = written.column in
          let p = column_meant names c in
          ap (λ (l : List Token). steps (put now datasets queries (at.Key before)) (Fixed marks.Number ∷ l)) (append_assoc (column_written c) (Fixed marks.Down ∷ []) rest)
          ∙ mark_taken (at.Key before) now marks.Number (put now datasets queries (at.NumberKey before)) (column_written c ++ Fixed marks.Down ∷ rest) refl
          ∙ column_taken (at.NumberKey before) now c (put (with_name now (name_of c)) datasets queries (at.KeyColumn before p true)) (Fixed marks.Down ∷ rest) (λ _. (refl, refl)) (named_taken now (name_of c) later (has_key before) (λ p. at.KeyColumn before p true) e (new_key before p new))
          ∙ mark_taken (at.KeyColumn before p true) (with_name now (name_of c)) marks.Down (put (with_name now (name_of c)) datasets queries (at.Keys (key before p true true))) rest refl

  pub key_comma : (now : List (List ℕ)) (before : List KeyItem) (rest : List Token) → length before < 8 → steps (put now datasets queries (at.Keys before)) (Fixed marks.Comma ∷ rest) ≡ steps (put now datasets queries (at.Key before)) rest
  key_comma now before rest lt = mark_taken (at.Keys before) now marks.Comma (put now datasets queries (at.Key before)) rest (more_taken now before (at.Key before) lt)

  -- ---- shapes

  pub group_columns_read : (now : List (List ℕ)) (column : WrittenColumn) (columns : List WrittenColumn) (later : List (List ℕ)) (rest : List Token) → with_names now (flat_map column_names (column ∷ columns) ++ later) ≡ names
      → IsColumns (length names) (map (column_meant names) (column ∷ columns))
      → steps (put now datasets queries (at.GroupColumn [])) (separated marks.Comma column_written (column ∷ columns) ++ rest) ≡ steps (put (with_names now (flat_map column_names (column ∷ columns))) datasets queries (at.GroupColumns (map (column_meant names) (column ∷ columns)))) rest
  group_columns_read now column columns later rest e h =
      items_read column_written (column_meant names) column_names (λ l. at.GroupColumn l) (λ l. at.GroupColumns l) (λ l. l) (λ c. c) (λ _. Unit {0}) (λ before after v. refl) (λ rest. tt) group_column group_comma now [] column columns later rest e h.distinct (omega (arith, h.short.few, length-map (column ∷ columns) (column_meant names))) tt

  pub order_columns_read : (keys : List KeyItem) (now : List (List ℕ)) (column : WrittenColumn) (columns : List WrittenColumn) (later : List (List ℕ)) (rest : List Token) → with_names now (flat_map column_names (column ∷ columns) ++ later) ≡ names
      → IsColumns (length names) (map (column_meant names) (column ∷ columns))
      → steps (put now datasets queries (at.OrderColumn keys [])) (separated marks.Comma column_written (column ∷ columns) ++ rest) ≡ steps (put (with_names now (flat_map column_names (column ∷ columns))) datasets queries (at.OrderColumns keys (map (column_meant names) (column ∷ columns)))) rest
  order_columns_read keys now column columns later rest e h =
      items_read column_written (column_meant names) column_names (λ l. at.OrderColumn keys l) (λ l. at.OrderColumns keys l) (λ l. l) (λ c. c) (λ _. Unit {0}) (λ before after v. refl) (λ rest. tt) (order_column keys) (order_comma keys) now [] column columns later rest e h.distinct (omega (arith, h.short.few, length-map (column ∷ columns) (column_meant names))) tt

  pub parts_read : (columns : List ℕ) (now : List (List ℕ)) (agg : WrittenAgg) (aggs : List WrittenAgg) (later : List (List ℕ)) (rest : List Token) → with_names now (flat_map agg_names (agg ∷ aggs) ++ later) ≡ names
      → IsShortList (map (agg_meant names) (agg ∷ aggs)) → IsDistinct (map (agg_meant names) (agg ∷ aggs))
      → steps (put now datasets queries (at.Part columns [])) (separated marks.Comma agg_written (agg ∷ aggs) ++ rest) ≡ steps (put (with_names now (flat_map agg_names (agg ∷ aggs))) datasets queries (at.Parts columns (map (agg_meant names) (agg ∷ aggs)))) rest
  parts_read columns now agg aggs later rest e h d =
      items_read agg_written (agg_meant names) agg_names (λ l. at.Part columns l) (λ l. at.Parts columns l) (λ l. l) (λ p. p) (λ _. Unit {0}) (λ before after v. refl) (λ rest. tt) (part columns) (part_comma columns) now [] agg aggs later rest e d (omega (arith, h.few, length-map (agg ∷ aggs) (agg_meant names))) tt

  pub keys_read : (now : List (List ℕ)) (one : WrittenKey) (keys : List WrittenKey) (later : List (List ℕ)) (rest : List Token) → with_names now (flat_map (λ key. column_names key.column) (one ∷ keys) ++ later) ≡ names
      → IsColumns (length names) (map (λ key. key.column) (map (key_meant names) (one ∷ keys))) → EndsKey rest
      → steps (put now datasets queries (at.Key [])) (separated marks.Comma key_written (one ∷ keys) ++ rest) ≡ steps (put (with_names now (flat_map (λ key. column_names key.column) (one ∷ keys))) datasets queries (at.Keys (map (key_meant names) (one ∷ keys)))) rest
  keys_read now one keys later rest e h follows =
      items_read key_written (key_meant names) (λ key. column_names key.column) (λ l. at.Key l) (λ l. at.Keys l) (map (λ key. key.column)) (λ key. key.column) EndsKey (λ before after v. map-append (λ key. key.column) before (v ∷ after)) comma_ends key_read key_comma now [] one keys later rest e h.distinct (omega (arith, h.short.few, length-map (map (key_meant names) (one ∷ keys)) (λ key. key.column), length-map (one ∷ keys) (key_meant names))) follows

  -- behind a whole shape
  abbrev pub behind : Shape → At
  behind (shapes.Group columns parts) = at.Parts columns parts
  behind (shapes.Order keys columns) = at.OrderColumns keys columns

  pub joined : (now one two later : List (List ℕ)) → with_names now ((one ++ two) ++ later) ≡ names → with_names now (one ++ (two ++ later)) ≡ names
  joined now one two later e = ap (with_names now) (sym (append_assoc one two later)) ∙ e

  pub second : (now one two later : List (List ℕ)) → with_names now ((one ++ two) ++ later) ≡ names → with_names (with_names now one) (two ++ later) ≡ names
  second now one two later e = sym (with_names-append one (two ++ later) now) ∙ joined now one two later e

  pub shape_read : (now : List (List ℕ)) (shape : WrittenShape) (later : List (List ℕ)) (rest : List Token) → with_names now (shape_names shape ++ later) ≡ names → IsShape (length names) (shape_meant names shape)
      → steps (put now datasets queries at.Query) (shape_written shape ++ rest) ≡ steps (put (with_names now (shape_names shape)) datasets queries (behind (shape_meant names shape))) rest
  shape_read now (group [] aggs) later rest e h = absurd (omega (arith, h.0.short.some))
  shape_read now (group (column ∷ columns) []) later rest e h = absurd (omega (arith, h.1.some))
  shape_read now (group (column ∷ columns) (agg ∷ aggs)) later rest e h =
      let front = separated marks.Comma column_written (column ∷ columns) in
      let back = separated marks.Comma agg_written (agg ∷ aggs) in
      let one = flat_map column_names (column ∷ columns) in
      let two = flat_map agg_names (agg ∷ aggs) in
      let places = map (column_meant names) (column ∷ columns) in
      ap (λ (l : List Token). steps (put now datasets queries at.Query) (Fixed marks.Group ∷ l)) (append_assoc front (Fixed marks.Colon ∷ back) rest)
      ∙ mark_taken at.Query now marks.Group (put now datasets queries (at.GroupColumn [])) (front ++ Fixed marks.Colon ∷ (back ++ rest)) refl
      ∙ group_columns_read now column columns (two ++ later) (Fixed marks.Colon ∷ (back ++ rest)) (joined now one two later e) h.0
      ∙ mark_taken (at.GroupColumns places) (with_names now one) marks.Colon (put (with_names now one) datasets queries (at.Part places [])) (back ++ rest) refl
      ∙ parts_read places (with_names now one) agg aggs later rest (second now one two later e) h.1 h.3
      ∙ ap (λ (l : List (List ℕ)). steps (put l datasets queries (at.Parts places (map (agg_meant names) (agg ∷ aggs)))) rest) (sym (with_names-append one two now))
  shape_read now (order [] columns) later rest e h = absurd (omega (arith, h.0.short.some))
  shape_read now (order (key ∷ keys) []) later rest e h = absurd (omega (arith, h.1.short.some))
  shape_read now (order (one ∷ keys) (column ∷ columns)) later rest e h =
      let front = separated marks.Comma key_written (one ∷ keys) in
      let back = separated marks.Comma column_written (column ∷ columns) in
      let first = flat_map (λ key. column_names key.column) (one ∷ keys) in
      let two = flat_map column_names (column ∷ columns) in
      let items = map (key_meant names) (one ∷ keys) in
      ap (λ (l : List Token). steps (put now datasets queries at.Query) (Fixed marks.Order ∷ l)) (append_assoc front (Fixed marks.Colon ∷ back) rest)
      ∙ mark_taken at.Query now marks.Order (put now datasets queries (at.Key [])) (front ++ Fixed marks.Colon ∷ (back ++ rest)) refl
      ∙ keys_read now one keys (two ++ later) (Fixed marks.Colon ∷ (back ++ rest)) (joined now first two later e) h.0 (colon_ends (back ++ rest))
      ∙ mark_taken (at.Keys items) (with_names now first) marks.Colon (put (with_names now first) datasets queries (at.OrderColumn items [])) (back ++ rest) refl
      ∙ order_columns_read items (with_names now first) column columns later rest (second now first two later e) h.1
      ∙ ap (λ (l : List (List ℕ)). steps (put l datasets queries (at.OrderColumns items (map (column_meant names) (column ∷ columns)))) rest) (sym (with_names-append first two now))

  -- ---- queries

  -- behind a whole query
  abbrev pub behind_query : Shape → Option WrittenSource → At
  behind_query shape None = behind shape
  behind_query shape (Some source) = at.Sourced (query_of (source_meant (dataset_names datasets) source) shape)

  pub from_taken : (shape : Shape) (now : List (List ℕ)) (rest : List Token) → steps (put now datasets queries (behind shape)) (Fixed marks.From ∷ rest) ≡ steps (put now datasets queries (at.Source shape)) rest
  from_taken (shapes.Group columns parts) now rest = mark_taken (at.Parts columns parts) now marks.From (put now datasets queries (at.Source (shapes.Group columns parts))) rest refl
  from_taken (shapes.Order keys columns) now rest = mark_taken (at.OrderColumns keys columns) now marks.From (put now datasets queries (at.Source (shapes.Order keys columns))) rest refl

  pub source_taken : (shape : Shape) (source : WrittenSource) (now : List (List ℕ)) (rest : List Token) → IsSourceRight (dataset_names datasets) source
      → steps (put now datasets queries (at.Source shape)) (source_written source ++ rest) ≡ steps (put now datasets queries (at.Sourced (query_of (source_meant (dataset_names datasets) source) shape))) rest
  source_taken shape input now rest h = mark_taken (at.Source shape) now marks.Input (put now datasets queries (at.Sourced (query_of 0 shape))) rest refl
  source_taken shape (by_name name) now rest h =
      word_taken (at.Source shape) now name (put now datasets queries (at.Sourced (query_of (place_of (dataset_names datasets) name + 1) shape))) rest (rw h refl)

  pub query_read : (now : List (List ℕ)) (query : WrittenQuery) (later : List (List ℕ)) (rest : List Token) → with_names now (query_names query ++ later) ≡ names → IsShape (length names) (shape_meant names query.shape) → IfSome query.source (IsSourceRight (dataset_names datasets))
      → steps (put now datasets queries at.Query) (query_written query ++ rest) ≡ steps (put (with_names now (query_names query)) datasets queries (behind_query (shape_meant names query.shape) query.source)) rest
  query_read now query later rest e h right = by query.source right
    where
      by : (source : Option WrittenSource) → IfSome source (IsSourceRight (dataset_names datasets))
          → steps (put now datasets queries at.Query) ((shape_written query.shape ++ from_written source) ++ rest) ≡ steps (put (with_names now (shape_names query.shape)) datasets queries (behind_query (shape_meant names query.shape) source)) rest
      by None right = ap (λ (l : List Token). steps (put now datasets queries at.Query) (l ++ rest)) (append-nil (shape_written query.shape)) ∙ shape_read now query.shape later rest e h
      by (Some source) right =
          let next = with_names now (shape_names query.shape) in
          let shape = shape_meant names query.shape in
          ap (steps (put now datasets queries at.Query)) (append_assoc (shape_written query.shape) (Fixed marks.From ∷ source_written source) rest)
          ∙ shape_read now query.shape later (Fixed marks.From ∷ (source_written source ++ rest)) e h
          ∙ from_taken shape next (source_written source ++ rest)
          ∙ source_taken shape source next rest right

  abbrev pub query_at : Shape → Option WrittenSource → Query
  query_at shape source = query_of (from_meant (dataset_names datasets) source) shape

  pub semicolon_taken : (shape : Shape) (source : Option WrittenSource) (now : List (List ℕ)) (rest : List Token) → length queries + 1 < 8
      → steps (put now datasets queries (behind_query shape source)) (Fixed marks.Semicolon ∷ rest) ≡ steps (put now datasets (queries ++ query_at shape source ∷ []) at.Query) rest
  semicolon_taken (shapes.Group columns parts) None now rest lt = mark_taken (at.Parts columns parts) now marks.Semicolon (put now datasets (queries ++ query_of 0 (shapes.Group columns parts) ∷ []) at.Query) rest (rw (lt-ltb (length queries + 1) 8 lt) refl)
  semicolon_taken (shapes.Order keys columns) None now rest lt = mark_taken (at.OrderColumns keys columns) now marks.Semicolon (put now datasets (queries ++ query_of 0 (shapes.Order keys columns) ∷ []) at.Query) rest (rw (lt-ltb (length queries + 1) 8 lt) refl)
  semicolon_taken shape (Some source) now rest lt = mark_taken (at.Sourced (query_at shape (Some source))) now marks.Semicolon (put now datasets (queries ++ query_at shape (Some source) ∷ []) at.Query) rest (rw (lt-ltb (length queries + 1) 8 lt) refl)

  pub ends : (shape : Shape) (source : Option WrittenSource) (now : List (List ℕ)) → job_at (steps (put now datasets queries (behind_query shape source)) []) ≡ Some (record { names = now; datasets = datasets; queries = queries ++ query_at shape source ∷ [] })
  unfolding steps
  ends (shapes.Group columns parts) None now = refl
  ends (shapes.Order keys columns) None now = refl
  ends shape (Some source) now = refl

module _ (names : List (List ℕ)) (short : All (λ name. length name ≤ 1024) names) (datasets : List Dataset) where
  pub queries_read : (now : List (List ℕ)) (done : List Query) (query : WrittenQuery) (queries : List WrittenQuery) → with_names now (flat_map query_names (query ∷ queries)) ≡ names
      → All (λ query. IsShape (length names) (shape_meant names query.shape)) (query ∷ queries) → All (IsQueryRight (dataset_names datasets)) (query ∷ queries) → length done + length (query ∷ queries) ≤ 8
      → job_at (steps (put now datasets done at.Query) (separated marks.Semicolon query_written (query ∷ queries))) ≡ Some (record { names = names; datasets = datasets; queries = done ++ map (query_meant names (dataset_names datasets)) (query ∷ queries) })
  queries_read now done query [] e h right few =
      let shape = shape_meant names query.shape in
      let next = with_names now (query_names query) in
      let is : next ≡ names = ap (with_names now) (sym (append-nil (query_names query))) ∙ e in
      ap (λ (l : List Token). job_at (steps (put now datasets done at.Query) l)) (sym (append-nil (query_written query)))
      ∙ ap job_at (query_read names short datasets done now query [] [] e (h 0 query (omega arith)) (right 0 query (omega arith)).source)
      ∙ ends names short datasets done shape query.source next
      ∙ ap (λ (l : List (List ℕ)). Some (record { names = l; datasets = datasets; queries = done ++ query_meant names (dataset_names datasets) query ∷ [] })) is
  queries_read now done query (other ∷ queries) e h right few =
      let shape = shape_meant names query.shape in
      let next = with_names now (query_names query) in
      let more = separated marks.Semicolon query_written (other ∷ queries) in
      let one = query_meant names (dataset_names datasets) query in
      let all : List Query = done ++ one ∷ [] in
      ap job_at (query_read names short datasets done now query (flat_map query_names (other ∷ queries)) (Fixed marks.Semicolon ∷ more) e (h 0 query (omega arith)) (right 0 query (omega arith)).source)
      ∙ ap job_at (semicolon_taken names short datasets done shape query.source next more (omega (arith, few)))
      ∙ queries_read next all other queries (sym (with_names-append (query_names query) (flat_map query_names (other ∷ queries)) now) ∙ e) (λ k d lt. h (suc k) d (omega (arith, lt))) (λ k d lt. right (suc k) d (omega (arith, lt))) (omega (arith, few, length-append done (one ∷ [])))
      ∙ ap (λ (l : List Query). Some (record { names = names; datasets = datasets; queries = l })) (append_assoc done (one ∷ []) (map (query_meant names (dataset_names datasets)) (other ∷ queries)))
