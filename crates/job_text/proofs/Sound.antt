-- Tokens that are read as a job are written as the grammar has it.
use Rattle.std.proofs.Common.{◌≡◌, ℕ, ◌+◌, Bool, true, false, cond, List, [], ◌∷◌, ◌++◌, length, Option, Some, None, refl, sym, ap, subst, ◌∙◌, append_assoc, arith, ◌&&◌}
use Rattle.std.specs.Prelude.{All, IfSome, flat_map, option_and_then, if◌then◌else◌, nat_lt}
use Rattle.std.proofs.lemmas.Bool.{ltb-true, and_parts, leb-true}
use Rattle.std.proofs.lemmas.List.{append-nil, length-append}
use Rattle.std.proofs.lemmas.List.Elements.{All-nil, All-push}
use Rattle.aggregate.specs.declared.agg_list.Agg.TheVariants as aggs
use Rattle.job_text.specs.declared.mark.Mark.{Mark}
use Rattle.job_text.specs.declared.mark.Mark.TheVariants as marks
use Rattle.job_text.specs.declared.token.Token.{Token}
use Rattle.job_text.specs.declared.token.Token.TheVariants.{Fixed, Word, Quoted, Text, Whole}
use Rattle.job_text.specs.declared.job.Part.{Part}
use Rattle.job_text.specs.declared.job.KeyItem.{KeyItem}
use Rattle.job_text.specs.declared.job.Shape.{Shape}
use Rattle.job_text.specs.declared.job.Shape.TheVariants as shapes
use Rattle.job_text.specs.declared.job.Job.{Job}
use Rattle.job_text.specs.declared.job.Query.{Query}
use Rattle.job_text.specs.declared.state.At.{At}
use Rattle.job_text.specs.declared.state.At.TheVariants as at
use Rattle.job_text.specs.declared.state.Read.{Read}
use Rattle.job_text.specs.declared.state.State.{State}
use Rattle.job_text.specs.Columns.{place_of, dataset_names, is_among, number_of, with_name, with_names, is_short, has_column, has_key, has_part}
use Rattle.job_text.specs.Step.{step, start, query_of, counted, key, named, after_mark, after_query, after_group_columns, after_part, after_parts, after_keys, after_key_column, after_order_columns, after_source, after_start, after_word, after_quoted, after_constant, input_as, after_column, last_query}
use Rattle.job_text.specs.Begins.{steps, job_with, job_at, job_of}
use Rattle.job_text.specs.Grammar.{WrittenColumn, WrittenSource, WrittenJob, ended_by, source_written, dataset_written, column_written, key_written, agg_written, shape_written, query_written, job_written}
use Rattle.job_text.specs.Rules.{dataset_uses, query_names, IsSourceRight, AreDatasets, IsQueryRight, name_of, IsShortColumn, IsShortAgg, IsRight, agg_named}
use Rattle.job_text.specs.Meaning.{column_meant, key_meant, agg_meant}
use Rattle.job_text.specs.Grammar.{word, in_quotes, count, input, by_name}
use Rattle.job_text.specs.Printing.{agg_mark}
use Rattle.job_text.proofs.Fitting.{put}
use Rattle.job_text.proofs.Named.{place_now, with_names-append}
use Rattle.job_text.proofs.Names.{Reaches, reaches}
use Rattle.job_text.proofs.Spelled.{separated-last, no_items, opened}
use Rattle.job_text.proofs.SoFar.{key_name, IsShortKey, IsAtWritten, AreBefore, IsStateWritten, on_one, on_two, IsShapeWhole, group_whole, order_whole, IsQueryWhole, without_source, column_more, part_is, part_more, new_key, key_more}
use Rattle.job_text.proofs.SoundDatasets.{goes_cond, goes_none, stays, more, goes_ended, goes_dataset, goes_made, goes_keep, goes_in_filter, goes_parent_mark, goes_parent_word, goes_equals, goes_name, renamed}

-- ---- each step keeps it

module _ (names : List (List ℕ)) (r : Read) (front : List Token) (before : AreBefore r front) where
  -- the names before the dataset at hand
  abbrev base : List (List ℕ)
  base = with_names [] (flat_map dataset_uses before.made)

  abbrev Goes : List Token → State → Type 0
  Goes back next = Reaches next.read.names names → IsStateWritten names (front ++ back) next

  goes_query : (back : List Token) (mark : Mark) → back ≡ [] → IfSome (after_query r mark) (Goes (back ++ Fixed mark ∷ []))
  goes_query back marks.Group h = stays names r front before (back ++ Fixed marks.Group ∷ []) (at.GroupColumn []) ([], ap (λ (l : List Token). l ++ Fixed marks.Group ∷ []) h, no_items column_written (column_meant names) name_of IsShortColumn)
  goes_query back marks.Order h = stays names r front before (back ++ Fixed marks.Order ∷ []) (at.Key []) ([], ap (λ (l : List Token). l ++ Fixed marks.Order ∷ []) h, no_items key_written (key_meant names) key_name IsShortKey)
  goes_query back _ h = tt

  goes_start : (back : List Token) (mark : Mark) → IsAtWritten names base r back at.Start → IfSome (after_start r mark) (Goes (back ++ Fixed mark ∷ []))
  goes_start back marks.Let h = goes_cond names r front before (back ++ Fixed marks.Let ∷ []) (nat_lt (length r.datasets) 8) (record { read = r; at = at.DatasetName }) (λ t. stays names r front before (back ++ Fixed marks.Let ∷ []) at.DatasetName (ap (λ (l : List Token). l ++ Fixed marks.Let ∷ []) h.0, h.1, ltb-true _ _ t, h.2))
  goes_start back mark h = goes_query back mark h.0

  goes_group_columns : (back : List Token) (columns : List ℕ) (mark : Mark) → IsAtWritten names base r back (at.GroupColumns columns) → IfSome (after_group_columns r columns mark) (Goes (back ++ Fixed mark ∷ []))
  goes_group_columns back columns marks.Comma h = more names r front before (back ++ Fixed marks.Comma ∷ []) columns (at.GroupColumn columns) (λ lt. (
    h.0 ++ Fixed marks.Comma ∷ [],
    on_one (Fixed marks.Group) h.0 back (Fixed marks.Comma ∷ []) h.1,
    opened column_written (column_meant names) name_of IsShortColumn columns h.0 h.2 lt,
  ))
  goes_group_columns back columns marks.Colon h = stays names r front before (back ++ Fixed marks.Colon ∷ []) (at.Part columns []) (
    h.0,
    [],
    on_one (Fixed marks.Group) h.0 back (Fixed marks.Colon ∷ []) h.1,
    h.2,
    no_items agg_written (agg_meant names) agg_named IsShortAgg,
  )
  goes_group_columns back columns _ h = tt

  goes_part : (back : List Token) (columns : List ℕ) (parts : List Part) (mark : Mark) → IsAtWritten names base r back (at.Part columns parts) → IfSome (after_part r columns parts mark) (Goes (back ++ Fixed mark ∷ []))
  goes_part back columns parts marks.Count h = goes_none names r front before (back ++ Fixed marks.Count ∷ []) (has_part parts counted) (record { read = r; at = at.Parts columns (parts ++ counted ∷ []) }) (λ free. stays names r front before (back ++ Fixed marks.Count ∷ []) (at.Parts columns (parts ++ counted ∷ [])) (
    h.0,
    h.1 ++ Fixed marks.Count ∷ [],
    on_two (Fixed marks.Group) (Fixed marks.Colon) h.0 h.1 back (Fixed marks.Count ∷ []) h.2,
    h.3,
    part_is names base r parts h.1 h.4 count counted (Fixed marks.Count ∷ []) refl refl tt free,
  ))
  goes_part back columns parts marks.Sum h = stays names r front before (back ++ Fixed marks.Sum ∷ []) (at.PartColumn columns parts aggs.Sum) (h.0, h.1, on_two (Fixed marks.Group) (Fixed marks.Colon) h.0 h.1 back (Fixed marks.Sum ∷ []) h.2, h.3, h.4, refl)
  goes_part back columns parts marks.Min h = stays names r front before (back ++ Fixed marks.Min ∷ []) (at.PartColumn columns parts aggs.Min) (h.0, h.1, on_two (Fixed marks.Group) (Fixed marks.Colon) h.0 h.1 back (Fixed marks.Min ∷ []) h.2, h.3, h.4, refl)
  goes_part back columns parts marks.Max h = stays names r front before (back ++ Fixed marks.Max ∷ []) (at.PartColumn columns parts aggs.Max) (h.0, h.1, on_two (Fixed marks.Group) (Fixed marks.Colon) h.0 h.1 back (Fixed marks.Max ∷ []) h.2, h.3, h.4, refl)
  goes_part back columns parts _ h = tt

  goes_source_word : (back : List Token) (shape : Shape) → IsShapeWhole names base r back → Goes (back ++ Fixed marks.From ∷ []) (record { read = r; at = at.Source shape })
  goes_source_word back shape h = stays names r front before (back ++ Fixed marks.From ∷ []) (at.Source shape) (h.0, ap (λ (l : List Token). l ++ Fixed marks.From ∷ []) h.1, h.2)

  goes_parts : (back : List Token) (columns : List ℕ) (parts : List Part) (mark : Mark) → IsAtWritten names base r back (at.Parts columns parts) → IfSome (after_parts r columns parts mark) (Goes (back ++ Fixed mark ∷ []))
  goes_parts back columns parts marks.Comma h = more names r front before (back ++ Fixed marks.Comma ∷ []) parts (at.Part columns parts) (λ lt. (
    h.0,
    h.1 ++ Fixed marks.Comma ∷ [],
    on_two (Fixed marks.Group) (Fixed marks.Colon) h.0 h.1 back (Fixed marks.Comma ∷ []) h.2,
    h.3,
    opened agg_written (agg_meant names) agg_named IsShortAgg parts h.1 h.4 lt,
  ))
  goes_parts back columns parts marks.From h = goes_source_word back (shapes.Group columns parts) (group_whole names base r back columns parts h)
  goes_parts back columns parts mark h = goes_ended names r front before back (query_of 0 (shapes.Group columns parts)) mark (without_source names base r back (group_whole names base r back columns parts h))

  goes_keys : (back : List Token) (keys : List KeyItem) (mark : Mark) → IsAtWritten names base r back (at.Keys keys) → IfSome (after_keys r keys mark) (Goes (back ++ Fixed mark ∷ []))
  goes_keys back keys marks.Comma h = more names r front before (back ++ Fixed marks.Comma ∷ []) keys (at.Key keys) (λ lt. (
    h.0 ++ Fixed marks.Comma ∷ [],
    on_one (Fixed marks.Order) h.0 back (Fixed marks.Comma ∷ []) h.1,
    opened key_written (key_meant names) key_name IsShortKey keys h.0 h.2 lt,
  ))
  goes_keys back keys marks.Colon h = stays names r front before (back ++ Fixed marks.Colon ∷ []) (at.OrderColumn keys []) (
    h.0,
    [],
    on_one (Fixed marks.Order) h.0 back (Fixed marks.Colon ∷ []) h.1,
    h.2,
    no_items column_written (column_meant names) name_of IsShortColumn,
  )
  goes_keys back keys _ h = tt

  goes_key_column : (back : List Token) (keys : List KeyItem) (column : ℕ) (number : Bool) (mark : Mark) → IsAtWritten names base r back (at.KeyColumn keys column number) → IfSome (after_key_column r keys column number mark) (Goes (back ++ Fixed mark ∷ []))
  goes_key_column back keys column number marks.Down h = stays names r front before (back ++ Fixed marks.Down ∷ []) (at.Keys (key keys column number true)) (key_more names base r back keys column number true h)
  goes_key_column back keys column number mark h =
      goes_keys back (key keys column number false) mark (subst (λ (l : List Token). IsAtWritten names base r l (at.Keys (key keys column number false))) (append-nil back) (key_more names base r back keys column number false h))

  goes_order_columns : (back : List Token) (keys : List KeyItem) (columns : List ℕ) (mark : Mark) → IsAtWritten names base r back (at.OrderColumns keys columns) → IfSome (after_order_columns r keys columns mark) (Goes (back ++ Fixed mark ∷ []))
  goes_order_columns back keys columns marks.Comma h = more names r front before (back ++ Fixed marks.Comma ∷ []) columns (at.OrderColumn keys columns) (λ lt. (
    h.0,
    h.1 ++ Fixed marks.Comma ∷ [],
    on_two (Fixed marks.Order) (Fixed marks.Colon) h.0 h.1 back (Fixed marks.Comma ∷ []) h.2,
    h.3,
    opened column_written (column_meant names) name_of IsShortColumn columns h.1 h.4 lt,
  ))
  goes_order_columns back keys columns marks.From h = goes_source_word back (shapes.Order keys columns) (order_whole names base r back keys columns h)
  goes_order_columns back keys columns mark h = goes_ended names r front before back (query_of 0 (shapes.Order keys columns)) mark (without_source names base r back (order_whole names base r back keys columns h))

  goes_source : (back : List Token) (shape : Shape) (source : WrittenSource) (dataset : ℕ) → IsSourceRight (dataset_names r.datasets) source → IsAtWritten names base r back (at.Source shape)
      → IfSome (after_source r shape (Some dataset)) (Goes (back ++ source_written source))
  goes_source back shape source dataset right h = stays names r front before (back ++ source_written source) (at.Sourced (query_of dataset shape)) (
    record { shape = h.0; source = Some source },
    ap (λ (l : List Token). l ++ source_written source) h.1 ∙ append_assoc (shape_written h.0) (Fixed marks.From ∷ []) (source_written source),
    record { shape = h.2; source = right },
  )

  goes_source_mark : (back : List Token) (shape : Shape) (mark : Mark) → IsAtWritten names base r back (at.Source shape) → IfSome (after_source r shape (input_as mark)) (Goes (back ++ Fixed mark ∷ []))
  goes_source_mark back shape marks.Input h = goes_source back shape input 0 tt h
  goes_source_mark back shape _ h = tt

  goes_source_name : (back : List Token) (shape : Shape) (title : List ℕ) → IsAtWritten names base r back (at.Source shape) → IfSome (after_source r shape (number_of r.datasets title)) (Goes (back ++ Word title ∷ []))
  goes_source_name back shape title h = by (is_among (dataset_names r.datasets) title) refl
    where
      by : (b : Bool) → is_among (dataset_names r.datasets) title ≡ b → IfSome (after_source r shape (cond b (Some (place_of (dataset_names r.datasets) title + 1)) None)) (Goes (back ++ Word title ∷ []))
      by true e = goes_source back shape (by_name title) (place_of (dataset_names r.datasets) title + 1) e h
      by false e = tt

  goes_number : (back : List Token) (keys : List KeyItem) (mark : Mark) → IsAtWritten names base r back (at.Key keys) → IfSome (after_mark r (at.Key keys) mark) (Goes (back ++ Fixed mark ∷ []))
  goes_number back keys marks.Number h = stays names r front before (back ++ Fixed marks.Number ∷ []) (at.NumberKey keys) (h.0, on_one (Fixed marks.Order) h.0 back (Fixed marks.Number ∷ []) h.1, h.2)
  goes_number back keys _ h = tt

  goes_mark : (back : List Token) (place : At) (mark : Mark) → IsAtWritten names base r back place → IfSome (after_mark r place mark) (Goes (back ++ Fixed mark ∷ []))
  goes_mark back at.Start mark h = goes_start back mark h
  goes_mark back at.DatasetName mark h = tt
  goes_mark back (at.DatasetEquals name) mark h = goes_equals names r front before back name mark h
  goes_mark back (at.DatasetSource name) mark h = goes_parent_mark names r front before back name mark h
  goes_mark back (at.Made dataset) mark h = goes_made names r front before back dataset mark h
  goes_mark back (at.Filter name parent filter) mark h = goes_in_filter names r front before back name parent filter (Fixed mark) h
  goes_mark back (at.Level dataset) mark h = goes_keep names r front before back dataset mark h
  goes_mark back (at.Kept dataset) mark h = goes_dataset names r front before back dataset mark h
  goes_mark back at.Query mark h = goes_query back mark h
  goes_mark back (at.GroupColumn columns) mark h = tt
  goes_mark back (at.GroupColumns columns) mark h = goes_group_columns back columns mark h
  goes_mark back (at.Part columns parts) mark h = goes_part back columns parts mark h
  goes_mark back (at.PartColumn columns parts agg) mark h = tt
  goes_mark back (at.Parts columns parts) mark h = goes_parts back columns parts mark h
  goes_mark back (at.Key keys) mark h = goes_number back keys mark h
  goes_mark back (at.NumberKey keys) mark h = tt
  goes_mark back (at.KeyColumn keys column number) mark h = goes_key_column back keys column number mark h
  goes_mark back (at.Keys keys) mark h = goes_keys back keys mark h
  goes_mark back (at.OrderColumn keys columns) mark h = tt
  goes_mark back (at.OrderColumns keys columns) mark h = goes_order_columns back keys columns mark h
  goes_mark back (at.Source shape) mark h = goes_source_mark back shape mark h
  goes_mark back (at.Sourced query) mark h = goes_ended names r front before back query mark h

  -- ---- columns

  free_of : (taken : Bool) → (if taken then false else true) ≡ true → taken ≡ false
  free_of true h = sym h
  free_of false h = refl

  goes_named : (back : List Token) (c : WrittenColumn) (is_taken : ℕ → Bool) (next : ℕ → At) → ((place : ℕ) → place ≡ column_meant names c → IsShortColumn c → is_taken place ≡ false → IsAtWritten names base (record r { names = with_name r.names (name_of c) }) back (next place))
      → IfSome (named r is_taken next (Some (name_of c))) (Goes back)
  goes_named back c is_taken next h = goes_cond names r front before back (is_short (name_of c) && (if is_taken (place_of r.names (name_of c)) then false else true)) (put (with_name r.names (name_of c)) r.datasets r.queries (next (place_of r.names (name_of c)))) (λ t. λ reach.
      let both = and_parts (is_short (name_of c)) (if is_taken (place_of r.names (name_of c)) then false else true) t in
      let there = place_now r.names (name_of c) reach.0 ∙ ap (λ (l : List (List ℕ)). place_of l (name_of c)) reach.1 in
      (front, back, refl, renamed names r front before (with_name r.names (name_of c)), h (place_of r.names (name_of c)) there (leb-true (length (name_of c)) 1024 both.0) (free_of (is_taken (place_of r.names (name_of c))) both.1)))

  goes_column : (back : List Token) (c : WrittenColumn) (place : At) → IsAtWritten names base r back place → IfSome (after_column r place (Some (name_of c))) (Goes (back ++ column_written c))
  goes_column back c (at.GroupColumn columns) h = goes_named (back ++ column_written c) c (has_column columns) (λ p. at.GroupColumns (columns ++ p ∷ [])) (λ place e short free. (
    h.0 ++ column_written c,
    on_one (Fixed marks.Group) h.0 back (column_written c) h.1,
    column_more names base r columns h.0 h.2 c place e short free,
  ))
  goes_column back c (at.PartColumn columns parts agg) h = goes_named (back ++ column_written c) c (λ p. has_part parts (record { agg = agg; column = Some p })) (λ p. at.Parts columns (parts ++ record { agg = agg; column = Some p } ∷ [])) (λ place e short free. (
    h.0,
    h.1 ++ Fixed (agg_mark agg) ∷ column_written c,
    on_two (Fixed marks.Group) (Fixed marks.Colon) h.0 (h.1 ++ Fixed (agg_mark agg) ∷ []) back (column_written c) h.2 ∙ ap (λ (l : List Token). Fixed marks.Group ∷ h.0 ++ Fixed marks.Colon ∷ l) (append_assoc h.1 (Fixed (agg_mark agg) ∷ []) (column_written c)),
    h.3,
    part_more names base r parts h.1 h.4 agg c place h.5 e short free,
  ))
  goes_column back c (at.Key keys) h = goes_named (back ++ column_written c) c (has_key keys) (λ p. at.KeyColumn keys p false) (λ place e short free. (
    h.0,
    c,
    on_one (Fixed marks.Order) h.0 back (column_written c) h.1,
    e,
    short,
    h.2,
    new_key names base r keys h.0 h.2 c place e free,
  ))
  goes_column back c (at.NumberKey keys) h = goes_named (back ++ column_written c) c (has_key keys) (λ p. at.KeyColumn keys p true) (λ place e short free. (
    h.0,
    c,
    on_one (Fixed marks.Order) (h.0 ++ Fixed marks.Number ∷ []) back (column_written c) h.1 ∙ ap (λ (l : List Token). Fixed marks.Order ∷ l) (append_assoc h.0 (Fixed marks.Number ∷ []) (column_written c)),
    e,
    short,
    h.2,
    new_key names base r keys h.0 h.2 c place e free,
  ))
  goes_column back c (at.OrderColumn keys columns) h = goes_named (back ++ column_written c) c (has_column columns) (λ p. at.OrderColumns keys (columns ++ p ∷ [])) (λ place e short free. (
    h.0,
    h.1 ++ column_written c,
    on_two (Fixed marks.Order) (Fixed marks.Colon) h.0 h.1 back (column_written c) h.2,
    h.3,
    column_more names base r columns h.1 h.4 c place e short free,
  ))
  goes_column back c _ h = tt

  goes_word : (back : List Token) (name : List ℕ) (place : At) → IsAtWritten names base r back place → IfSome (after_word r place name) (Goes (back ++ Word name ∷ []))
  goes_word back name (at.Filter dataset parent filter) h = goes_in_filter names r front before back dataset parent filter (Word name) h
  goes_word back name at.DatasetName h = goes_name names r front before back name h
  goes_word back name (at.DatasetSource dataset) h = goes_parent_word names r front before back dataset name h
  goes_word back name (at.Source shape) h = goes_source_name back shape name h
  goes_word back name (at.GroupColumn columns) h = goes_column back (word name) (at.GroupColumn columns) h
  goes_word back name (at.PartColumn columns parts agg) h = goes_column back (word name) (at.PartColumn columns parts agg) h
  goes_word back name (at.Key keys) h = goes_column back (word name) (at.Key keys) h
  goes_word back name (at.NumberKey keys) h = goes_column back (word name) (at.NumberKey keys) h
  goes_word back name (at.OrderColumn keys columns) h = goes_column back (word name) (at.OrderColumn keys columns) h
  goes_word back name _ h = tt

  goes_quoted : (back : List Token) (name : List ℕ) (place : At) → IsAtWritten names base r back place → IfSome (after_quoted r place name) (Goes (back ++ Quoted name ∷ []))
  goes_quoted back name (at.Filter dataset parent filter) h = goes_in_filter names r front before back dataset parent filter (Quoted name) h
  goes_quoted back name (at.GroupColumn columns) h = goes_column back (in_quotes name) (at.GroupColumn columns) h
  goes_quoted back name (at.PartColumn columns parts agg) h = goes_column back (in_quotes name) (at.PartColumn columns parts agg) h
  goes_quoted back name (at.Key keys) h = goes_column back (in_quotes name) (at.Key keys) h
  goes_quoted back name (at.NumberKey keys) h = goes_column back (in_quotes name) (at.NumberKey keys) h
  goes_quoted back name (at.OrderColumn keys columns) h = goes_column back (in_quotes name) (at.OrderColumn keys columns) h
  goes_quoted back name _ h = tt

  goes_constant : (back : List Token) (t : Token) (place : At) → IsAtWritten names base r back place → IfSome (after_constant r place t) (Goes (back ++ t ∷ []))
  goes_constant back t (at.Filter name parent filter) h = goes_in_filter names r front before back name parent filter t h
  goes_constant back t _ h = tt

module _ (names : List (List ℕ)) where
  -- the same behind all tokens before it
  behind_all : (o : Option State) (ts front back more : List Token) → ts ≡ front ++ back → IfSome o (λ next. Reaches next.read.names names → IsStateWritten names (front ++ (back ++ more)) next)
      → IfSome o (λ next. Reaches next.read.names names → IsStateWritten names (ts ++ more) next)
  behind_all None ts front back more e h = tt
  behind_all (Some next) ts front back more e h = λ reach. subst (λ (l : List Token). IsStateWritten names l next) (sym (append_assoc front back more) ∙ ap (λ (l : List Token). l ++ more) (sym e)) (h reach)

  goes_step : (s : State) (t : Token) (ts : List Token) → IsStateWritten names ts s → IfSome (step s t) (λ next. Reaches next.read.names names → IsStateWritten names (ts ++ t ∷ []) next)
  unfolding step
  goes_step s (Fixed mark) ts h = behind_all (after_mark s.read s.at mark) ts h.0 h.1 (Fixed mark ∷ []) h.2 (goes_mark names s.read h.0 h.3 h.1 s.at mark h.4)
  goes_step s (Word name) ts h = behind_all (after_word s.read s.at name) ts h.0 h.1 (Word name ∷ []) h.2 (goes_word names s.read h.0 h.3 h.1 name s.at h.4)
  goes_step s (Quoted name) ts h = behind_all (after_quoted s.read s.at name) ts h.0 h.1 (Quoted name ∷ []) h.2 (goes_quoted names s.read h.0 h.3 h.1 name s.at h.4)
  goes_step s (Text text) ts h = behind_all (after_constant s.read s.at (Text text)) ts h.0 h.1 (Text text ∷ []) h.2 (goes_constant names s.read h.0 h.3 h.1 (Text text) s.at h.4)
  goes_step s (Whole value) ts h = behind_all (after_constant s.read s.at (Whole value)) ts h.0 h.1 (Whole value ∷ []) h.2 (goes_constant names s.read h.0 h.3 h.1 (Whole value) s.at h.4)

no_state : (s : State) → let none : Option State = None in none ≡ Some s → ⊥
no_state s e = cc

same_state : (s t : State) → let one : Option State = Some s in one ≡ Some t → s ≡ t
same_state s t e = cc

goes_steps : (rest ts : List Token) (s last : State) → IsStateWritten last.read.names ts s → steps s rest ≡ Some last → IsStateWritten last.read.names (ts ++ rest) last
unfolding steps
goes_steps [] ts s last h e = subst (λ (l : List Token). IsStateWritten last.read.names l last) (sym (append-nil ts)) (subst (IsStateWritten last.read.names ts) (same_state s last e) h)
goes_steps (t ∷ rest) ts s last h e = on (step s t) (goes_step last.read.names s t ts h) e (λ next n r. goes_steps rest (ts ++ t ∷ []) next last n r)
  where
    on : (o : Option State) → IfSome o (λ next. Reaches next.read.names last.read.names → IsStateWritten last.read.names (ts ++ t ∷ []) next) → option_and_then (λ next. steps next rest) o ≡ Some last
        → ((next : State) → IsStateWritten last.read.names (ts ++ t ∷ []) next → steps next rest ≡ Some last → IsStateWritten last.read.names ((ts ++ t ∷ []) ++ rest) last)
        → IsStateWritten last.read.names (ts ++ t ∷ rest) last
    on None g r go = absurd (no_state last r)
    on (Some next) g r go = subst (λ (l : List Token). IsStateWritten last.read.names l last) (append_assoc ts (t ∷ []) rest) (go next (g (reaches rest next last r)) r)

-- ---- so the tokens of a job are written

-- written by the rules
abbrev pub IsRightlyWritten : List Token → Type 0
IsRightlyWritten ts = (written : WrittenJob) × (ts ≡ job_written written) × IsRight written

query_end : (names first : List (List ℕ)) (r : Read) (back : List Token) (place : At) → IsAtWritten names first r back place → IfSome (last_query place) (λ _. IsQueryWhole names first r back)
query_end names first r back (at.Parts columns parts) h = without_source names first r back (group_whole names first r back columns parts h)
query_end names first r back (at.OrderColumns keys columns) h = without_source names first r back (order_whole names first r back keys columns h)
query_end names first r back (at.Sourced query) h = h
query_end names first r back _ h = tt

job_end : (ts : List Token) (s : State) (job : Job) (o : Option Query) → IsStateWritten s.read.names ts s → ((base : List (List ℕ)) (back : List Token) → IsAtWritten s.read.names base s.read back s.at → IfSome o (λ _. IsQueryWhole s.read.names base s.read back)) → job_with s.read o ≡ Some job → IsRightlyWritten ts
job_end ts s job None h query e = absurd cc
job_end ts s job (Some last) h query e =
    let before = h.3 in
    let q = query (with_names [] (flat_map dataset_uses before.made)) h.1 h.4 in
    let uses = flat_map dataset_uses before.made in
    let others = flat_map query_names (before.written ++ q.0 ∷ []) in
    let made = ended_by marks.Semicolon dataset_written before.made in
    let done = ended_by marks.Semicolon query_written before.written in (
      record { datasets = before.made; queries = before.written ++ q.0 ∷ [] },
      h.2 ∙ ap (λ (l : List Token). l ++ h.1) before.tokens_are ∙ append_assoc made done h.1 ∙ ap (λ (l : List Token). made ++ (done ++ l)) q.1
          ∙ ap (λ (l : List Token). made ++ l) (sym (separated-last marks.Semicolon query_written before.written q.0)),
      record {
        few = before.made_few;
        datasets = subst (λ (l : List (List ℕ)). AreDatasets l [] before.made) (sym (with_names-append uses others [])) (before.made_right others);
        several = record { some = omega (arith, length-append before.written (q.0 ∷ [])); few = omega (arith, before.as_many, before.few, length-append before.written (q.0 ∷ [])) };
        queries = subst (λ (l : List (List ℕ)). All (IsQueryRight l) (before.written ++ q.0 ∷ [])) before.names_are (All-push (IsQueryRight (dataset_names s.read.datasets)) before.written q.0 before.right q.2);
      },
    )

start_written : (names : List (List ℕ)) → IsStateWritten names [] start
start_written names = (
  [],
  [],
  refl,
  record {
    made = [];
    written = [];
    tokens_are = refl;
    names_are = refl;
    made_right = λ later. tt;
    made_few = omega arith;
    as_many = refl;
    few = omega arith;
    right = All-nil (IsQueryRight []);
  },
  (refl, refl, refl),
)

pub read_written : (ts : List Token) (job : Job) → job_of ts ≡ Some job → IsRightlyWritten ts
read_written ts job e = on (steps start ts) refl e
  where
    on : (o : Option State) → steps start ts ≡ o → job_at o ≡ Some job → IsRightlyWritten ts
    on None es r = absurd cc
    on (Some last) es r = job_end ts last job (last_query last.at) (goes_steps ts [] start last (start_written last.read.names) es) (λ base back h. query_end last.read.names base last.read back last.at h) r
