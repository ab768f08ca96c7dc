-- A step adds one name and one dataset at most, and names stay.
use Rattle.std.proofs.Common.{◌≡◌, ℕ, ◌+◌, ◌≤◌, Bool, true, false, cond, List, [], ◌∷◌, ◌++◌, length, Option, Some, None, refl, sym, ap, subst, arith, inl, inr, ◌&&◌}
use Rattle.std.specs.Prelude.{IfSome, if◌then◌else◌, nat_lt, nat_le, not, option_and_then}
use Rattle.std.specs.Str.{bytes_eq}
use Rattle.std.proofs.lemmas.Bool.{cases_Bool}
use Rattle.std.proofs.lemmas.List.{length-append}
use Rattle.job_text.specs.declared.mark.Mark.{Mark}
use Rattle.job_text.specs.declared.mark.Mark.TheVariants as marks
use Rattle.job_text.specs.declared.token.Token.{Token}
use Rattle.job_text.specs.declared.token.Token.TheVariants.{Fixed, Word, Quoted, Text, Whole}
use Rattle.job_text.specs.declared.job.Part.{Part}
use Rattle.job_text.specs.declared.job.KeyItem.{KeyItem}
use Rattle.job_text.specs.declared.job.Shape.{Shape}
use Rattle.job_text.specs.declared.job.Shape.TheVariants as shapes
use Rattle.job_text.specs.declared.job.Query.{Query}
use Rattle.job_text.specs.declared.job.Dataset.{Dataset}
use Rattle.job_text.specs.declared.state.At.{At}
use Rattle.job_text.specs.declared.state.At.TheVariants as at
use Rattle.job_text.specs.declared.state.Read.{Read}
use Rattle.job_text.specs.declared.state.State.{State}
use Rattle.job_text.specs.Columns.{place_of, dataset_names, is_among, number_of, with_name, with_names, has_column, has_key, has_part, is_short}
use Rattle.job_text.specs.Step.{step, query_of, counted, key, named, after_mark, after_query, after_group_columns, after_part, after_parts, after_keys, after_key_column, after_order_columns, after_source, after_start, after_name, after_equals, after_parent, after_made, after_keep, after_word, after_quoted, after_constant, filter_ended, filtered, in_filter, made_from, dataset_ended, input_as, ended, after_column, one_more}
use Rattle.row_filter.specs.declared.filter.Filter.{Filter}
use Rattle.job_text.specs.declared.filter_state.FilterState.{FilterState}
use Rattle.job_text.specs.FilterStep.{filter_step, filter_at}
use Rattle.job_text.specs.Begins.{steps}
use Rattle.job_text.proofs.FilterNames.{OneNameMore, filter_one_name}

abbrev pub with_some : List (List ℕ) → Option (List ℕ) → List (List ℕ)
with_some names None = names
with_some names (Some name) = with_name names name

abbrev pub OneMore : Read → State → Type 0
OneMore r next = (name : Option (List ℕ)) × (next.read.names ≡ with_some r.names name) × (length next.read.datasets ≤ length r.datasets + 1)

length-with_name-one : (names : List (List ℕ)) (name : List ℕ) → length (with_name names name) ≤ length names + 1
length-with_name-one [] name = omega arith
length-with_name-one (first ∷ names) name = elim (cases_Bool (bytes_eq first name)) [
  | inl e ↦ rw e (omega arith)
  | inr e ↦ rw e (omega (arith, length-with_name-one names name))
]

module _ (r : Read) where
  one_cond : (b : Bool) (x : State) → OneMore r x → IfSome (cond b (Some x) None) (OneMore r)
  one_cond true x h = h
  one_cond false x h = tt

  one_none : (b : Bool) (x : State) → OneMore r x → IfSome (cond b None (Some x)) (OneMore r)
  one_none true x h = tt
  one_none false x h = h

  one_if : {A : Type 0} (items : List A) (next : At) → IfSome (one_more r items next) (OneMore r)
  one_if items next = one_cond (nat_lt (length items) 8) (record { read = r; at = next }) (None, refl, omega arith)

  one_ended : (query : Query) (mark : Mark) → IfSome (ended r query mark) (OneMore r)
  one_ended query marks.Semicolon = one_cond (nat_lt (length r.queries + 1) 8) (record { read = record r { queries = r.queries ++ query ∷ [] }; at = at.Query }) (None, refl, omega arith)
  one_ended query _ = tt

  one_query : (mark : Mark) → IfSome (after_query r mark) (OneMore r)
  one_query marks.Group = (None, refl, omega arith)
  one_query marks.Order = (None, refl, omega arith)
  one_query _ = tt

  one_group_columns : (columns : List ℕ) (mark : Mark) → IfSome (after_group_columns r columns mark) (OneMore r)
  one_group_columns columns marks.Comma = one_if columns (at.GroupColumn columns)
  one_group_columns columns marks.Colon = (None, refl, omega arith)
  one_group_columns columns _ = tt

  one_part : (columns : List ℕ) (parts : List Part) (mark : Mark) → IfSome (after_part r columns parts mark) (OneMore r)
  one_part columns parts marks.Count = one_none (has_part parts counted) (record { read = r; at = at.Parts columns (parts ++ counted ∷ []) }) (None, refl, omega arith)
  one_part columns parts marks.Sum = (None, refl, omega arith)
  one_part columns parts marks.Min = (None, refl, omega arith)
  one_part columns parts marks.Max = (None, refl, omega arith)
  one_part columns parts _ = tt

  one_parts : (columns : List ℕ) (parts : List Part) (mark : Mark) → IfSome (after_parts r columns parts mark) (OneMore r)
  one_parts columns parts marks.Comma = one_if parts (at.Part columns parts)
  one_parts columns parts marks.From = (None, refl, omega arith)
  one_parts columns parts mark = one_ended (query_of 0 (shapes.Group columns parts)) mark

  one_keys : (keys : List KeyItem) (mark : Mark) → IfSome (after_keys r keys mark) (OneMore r)
  one_keys keys marks.Comma = one_if keys (at.Key keys)
  one_keys keys marks.Colon = (None, refl, omega arith)
  one_keys keys _ = tt

  one_key_column : (keys : List KeyItem) (column : ℕ) (number : Bool) (mark : Mark) → IfSome (after_key_column r keys column number mark) (OneMore r)
  one_key_column keys column number marks.Down = (None, refl, omega arith)
  one_key_column keys column number mark = one_keys (key keys column number false) mark

  one_order_columns : (keys : List KeyItem) (columns : List ℕ) (mark : Mark) → IfSome (after_order_columns r keys columns mark) (OneMore r)
  one_order_columns keys columns marks.Comma = one_if columns (at.OrderColumn keys columns)
  one_order_columns keys columns marks.From = (None, refl, omega arith)
  one_order_columns keys columns mark = one_ended (query_of 0 (shapes.Order keys columns)) mark

  one_source : (shape : Shape) (dataset : Option ℕ) → IfSome (after_source r shape dataset) (OneMore r)
  one_source shape None = tt
  one_source shape (Some dataset) = (None, refl, omega arith)

  one_start : (mark : Mark) → IfSome (after_start r mark) (OneMore r)
  one_start marks.Let = one_cond (nat_lt (length r.datasets) 8) (record { read = r; at = at.DatasetName }) (None, refl, omega arith)
  one_start mark = one_query mark

  one_name : (name : List ℕ) → IfSome (after_name r name) (OneMore r)
  one_name name = one_cond (nat_le (length name) 64 && not (is_among (dataset_names r.datasets) name)) (record { read = r; at = at.DatasetEquals name }) (None, refl, omega arith)

  one_equals : (name : List ℕ) (mark : Mark) → IfSome (after_equals r name mark) (OneMore r)
  one_equals name marks.Equal = (None, refl, omega arith)
  one_equals name _ = tt

  one_parent : (name : List ℕ) (parent : Option ℕ) → IfSome (after_parent r name parent) (OneMore r)
  one_parent name None = tt
  one_parent name (Some parent) = (None, refl, omega arith)

  one_dataset : (dataset : Dataset) (mark : Mark) → IfSome (dataset_ended r dataset mark) (OneMore r)
  one_dataset dataset marks.Semicolon = (None, refl, omega (arith, length-append r.datasets (dataset ∷ [])))
  one_dataset dataset _ = tt

  one_made : (dataset : Dataset) (mark : Mark) → IfSome (after_made r dataset mark) (OneMore r)
  one_made dataset marks.Where = (None, refl, omega arith)
  one_made dataset marks.Keep = (None, refl, omega arith)
  one_made dataset mark = one_dataset dataset mark

  one_filter_end : (name : List ℕ) (parent : ℕ) (filter : Option Filter) (mark : Mark) → IfSome (filter_ended r name parent filter mark) (OneMore r)
  one_filter_end name parent None mark = tt
  one_filter_end name parent (Some filter) marks.Keep = (None, refl, omega arith)
  one_filter_end name parent (Some filter) mark = one_dataset (made_from name parent (Some filter)) mark

  one_filtered : (name : List ℕ) (parent : ℕ) (o : Option (List (List ℕ) × FilterState)) → IfSome o (λ next. OneNameMore r.names next.0) → IfSome (filtered r name parent o) (OneMore r)
  one_filtered name parent None h = tt
  one_filtered name parent (Some next) h = by h.0 h.1 h.2
    where
      by : (more : List (List ℕ)) → length more ≤ 1 → with_names r.names more ≡ next.0 → OneMore r (record { read = record r { names = next.0 }; at = at.Filter name parent next.1 })
      by [] le e = (None, sym e, omega arith)
      by (one ∷ []) le e = (Some one, sym e, omega arith)
      by (one ∷ two ∷ more) le e = absurd (omega (arith, le))

  one_in_filter : (name : List ℕ) (parent : ℕ) (filter : FilterState) (t : Token) → IfSome (in_filter r name parent filter t) (OneMore r)
  one_in_filter name parent filter (Fixed marks.Keep) = one_filter_end name parent (filter_at filter) marks.Keep
  one_in_filter name parent filter (Fixed marks.Semicolon) = one_filter_end name parent (filter_at filter) marks.Semicolon
  one_in_filter name parent filter t = one_filtered name parent (filter_step r.names filter t) (filter_one_name r.names filter t)

  one_keep : (dataset : Dataset) (mark : Mark) → IfSome (after_keep r dataset mark) (OneMore r)
  one_keep dataset marks.Memory = (None, refl, omega arith)
  one_keep dataset marks.Disk = (None, refl, omega arith)
  one_keep dataset _ = tt

  one_number : (keys : List KeyItem) (mark : Mark) → IfSome (after_mark r (at.Key keys) mark) (OneMore r)
  one_number keys marks.Number = (None, refl, omega arith)
  one_number keys _ = tt

  one_mark : (place : At) (mark : Mark) → IfSome (after_mark r place mark) (OneMore r)
  one_mark at.Start mark = one_start mark
  one_mark at.DatasetName mark = tt
  one_mark (at.DatasetEquals name) mark = one_equals name mark
  one_mark (at.DatasetSource name) mark = one_parent name (input_as mark)
  one_mark (at.Made dataset) mark = one_made dataset mark
  one_mark (at.Filter name parent filter) mark = one_in_filter name parent filter (Fixed mark)
  one_mark (at.Level dataset) mark = one_keep dataset mark
  one_mark (at.Kept dataset) mark = one_dataset dataset mark
  one_mark at.Query mark = one_query mark
  one_mark (at.GroupColumn columns) mark = tt
  one_mark (at.GroupColumns columns) mark = one_group_columns columns mark
  one_mark (at.Part columns parts) mark = one_part columns parts mark
  one_mark (at.PartColumn columns parts agg) mark = tt
  one_mark (at.Parts columns parts) mark = one_parts columns parts mark
  one_mark (at.Key keys) mark = one_number keys mark
  one_mark (at.NumberKey keys) mark = tt
  one_mark (at.KeyColumn keys column number) mark = one_key_column keys column number mark
  one_mark (at.Keys keys) mark = one_keys keys mark
  one_mark (at.OrderColumn keys columns) mark = tt
  one_mark (at.OrderColumns keys columns) mark = one_order_columns keys columns mark
  one_mark (at.Source shape) mark = one_source shape (input_as mark)
  one_mark (at.Sourced query) mark = one_ended query mark

  one_named : (is_taken : ℕ → Bool) (next : ℕ → At) (name : List ℕ) → IfSome (named r is_taken next (Some name)) (OneMore r)
  one_named is_taken next name = one_cond (is_short name && (if is_taken (place_of r.names name) then false else true)) (record { read = record r { names = with_name r.names name }; at = next (place_of r.names name) }) (Some name, refl, omega arith)

  one_column : (place : At) (name : List ℕ) → IfSome (after_column r place (Some name)) (OneMore r)
  one_column (at.GroupColumn columns) name = one_named (has_column columns) (λ c. at.GroupColumns (columns ++ c ∷ [])) name
  one_column (at.PartColumn columns parts agg) name = one_named (λ c. has_part parts (record { agg = agg; column = Some c })) (λ c. at.Parts columns (parts ++ record { agg = agg; column = Some c } ∷ [])) name
  one_column (at.Key keys) name = one_named (has_key keys) (λ c. at.KeyColumn keys c false) name
  one_column (at.NumberKey keys) name = one_named (has_key keys) (λ c. at.KeyColumn keys c true) name
  one_column (at.OrderColumn keys columns) name = one_named (has_column columns) (λ c. at.OrderColumns keys (columns ++ c ∷ [])) name
  one_column _ name = tt

  one_word : (place : At) (word : List ℕ) → IfSome (after_word r place word) (OneMore r)
  one_word (at.Filter name parent filter) word = one_in_filter name parent filter (Word word)
  one_word at.DatasetName word = one_name word
  one_word (at.DatasetSource name) word = one_parent name (number_of r.datasets word)
  one_word (at.Source shape) word = one_source shape (number_of r.datasets word)
  one_word (at.GroupColumn columns) word = one_column (at.GroupColumn columns) word
  one_word (at.PartColumn columns parts agg) word = one_column (at.PartColumn columns parts agg) word
  one_word (at.Key keys) word = one_column (at.Key keys) word
  one_word (at.NumberKey keys) word = one_column (at.NumberKey keys) word
  one_word (at.OrderColumn keys columns) word = one_column (at.OrderColumn keys columns) word
  one_word _ word = tt

  one_quoted : (place : At) (column : List ℕ) → IfSome (after_quoted r place column) (OneMore r)
  one_quoted (at.Filter name parent filter) column = one_in_filter name parent filter (Quoted column)
  one_quoted (at.GroupColumn columns) column = one_column (at.GroupColumn columns) column
  one_quoted (at.PartColumn columns parts agg) column = one_column (at.PartColumn columns parts agg) column
  one_quoted (at.Key keys) column = one_column (at.Key keys) column
  one_quoted (at.NumberKey keys) column = one_column (at.NumberKey keys) column
  one_quoted (at.OrderColumn keys columns) column = one_column (at.OrderColumn keys columns) column
  one_quoted _ column = tt

  one_constant : (place : At) (t : Token) → IfSome (after_constant r place t) (OneMore r)
  one_constant (at.Filter name parent filter) t = one_in_filter name parent filter t
  one_constant _ t = tt

one_step : (s : State) (t : Token) → IfSome (step s t) (OneMore s.read)
unfolding step
one_step s (Fixed mark) = one_mark s.read s.at mark
one_step s (Word name) = one_word s.read s.at name
one_step s (Quoted name) = one_quoted s.read s.at name
one_step s (Text text) = one_constant s.read s.at (Text text)
one_step s (Whole value) = one_constant s.read s.at (Whole value)

length-with_some : (names : List (List ℕ)) (name : Option (List ℕ)) → length (with_some names name) ≤ length names + 1
length-with_some names None = omega arith
length-with_some names (Some name) = length-with_name-one names name

pub names_grow : (s next : State) (t : Token) → step s t ≡ Some next → length next.read.names ≤ length s.read.names + 1
names_grow s next t e =
    let one = rw e at (one_step s t) in
    omega (arith, ap length one.1, length-with_some s.read.names one.0)

pub datasets_grow : (s next : State) (t : Token) → step s t ≡ Some next → length next.read.datasets ≤ length s.read.datasets + 1
datasets_grow s next t e = (rw e at (one_step s t)).2

-- ---- so the names that are read stay, and others follow

abbrev pub Reaches : List (List ℕ) → List (List ℕ) → Type 0
Reaches names all = (later : List (List ℕ)) × (with_names names later ≡ all)

reaches_some : (names : List (List ℕ)) (name : Option (List ℕ)) (all : List (List ℕ)) → Reaches (with_some names name) all → Reaches names all
reaches_some names None all h = h
reaches_some names (Some name) all h = (name ∷ h.0, h.1)

pub reaches_step : (s next : State) (t : Token) (all : List (List ℕ)) → step s t ≡ Some next → Reaches next.read.names all → Reaches s.read.names all
reaches_step s next t all e h =
    let one = rw e at (one_step s t) in
    reaches_some s.read.names one.0 all (subst (λ (l : List (List ℕ)). Reaches l all) one.1 h)

no_state : (s : State) → let none : Option State = None in none ≡ Some s → ⊥
no_state s e = cc

same_state : (s t : State) → let one : Option State = Some s in one ≡ Some t → s ≡ t
same_state s t e = cc

pub reaches : (ts : List Token) (s last : State) → steps s ts ≡ Some last → Reaches s.read.names last.read.names
unfolding steps
reaches [] s last e = ([], ap (λ (s : State). s.read.names) (same_state s last e))
reaches (t ∷ ts) s last e = on (step s t) refl e (λ next r. reaches ts next last r)
  where
    on : (o : Option State) → step s t ≡ o → option_and_then (λ next. steps next ts) o ≡ Some last → ((next : State) → steps next ts ≡ Some last → Reaches next.read.names last.read.names) → Reaches s.read.names last.read.names
    on None es r go = absurd (no_state last r)
    on (Some next) es r go = reaches_step s next t last.read.names es (go next r)
