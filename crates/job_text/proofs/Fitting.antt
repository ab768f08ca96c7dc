-- Each step keeps what is needed to go on: where a column must come, its list is open.
use Rattle.std.proofs.Common.{◌≡◌, ℕ, ◌+◌, ◌<◌, Bool, true, false, cond, List, [], ◌∷◌, ◌++◌, length, Option, Some, None, refl, ap, arith, ◌&&◌}
use Rattle.std.specs.Prelude.{IfSome, if◌then◌else◌, nat_lt, nat_le, not, map}
use Rattle.std.proofs.lemmas.Bool.{ltb-true}
use Rattle.job_text.specs.declared.mark.Mark.{Mark}
use Rattle.job_text.specs.declared.mark.Mark.TheVariants as marks
use Rattle.job_text.specs.declared.token.Token.{Token}
use Rattle.job_text.specs.declared.token.Token.TheVariants.{Fixed, Word, Quoted, Text, Whole}
use Rattle.aggregate.specs.declared.agg_list.Agg.{Agg}
use Rattle.job_text.specs.declared.job.Part.{Part}
use Rattle.job_text.specs.declared.job.KeyItem.{KeyItem}
use Rattle.job_text.specs.declared.job.Shape.{Shape}
use Rattle.job_text.specs.declared.job.Shape.TheVariants as shapes
use Rattle.job_text.specs.declared.job.Query.{Query}
use Rattle.job_text.specs.declared.job.Dataset.{Dataset}
use Rattle.job_text.specs.declared.state.At.{At}
use Rattle.job_text.specs.declared.state.At.TheVariants as at
use Rattle.job_text.specs.declared.state.Read.{Read}
use Rattle.job_text.specs.declared.state.State.{State}
use Rattle.job_text.specs.Columns.{place_of, dataset_names, is_among, number_of, with_name, has_column, has_key, has_part, is_short}
use Rattle.job_text.specs.Step.{step, query_of, counted, key, named, after_mark, after_query, after_group_columns, after_part, after_parts, after_keys, after_key_column, after_order_columns, after_source, after_start, after_name, after_equals, after_parent, after_made, after_keep, after_word, after_quoted, after_constant, filter_ended, filtered, in_filter, made_from, dataset_ended, input_as, ended, after_column, one_more}
use Rattle.row_filter.specs.declared.filter.Filter.{Filter}
use Rattle.job_text.specs.declared.filter_state.FilterState.{FilterState}
use Rattle.job_text.specs.FilterStep.{filter_step, filter_at}
use Rattle.job_text.proofs.FilterViable.{FilterFits, filter_fits}
use Rattle.job_text.proofs.Fresh.{AreBelow, AreBelow-push, AreBelow-more, length-with_name, place_below}

-- ---- what holds of each state that is reached

-- the columns of keys
abbrev pub key_columns : List KeyItem → List ℕ
key_columns keys = map (λ key. key.column) keys

abbrev pub with_column : Option ℕ → List ℕ → List ℕ
with_column None cs = cs
with_column (Some c) cs = c ∷ cs

abbrev pub part_columns : List Part → List ℕ
part_columns [] = []
part_columns (p ∷ ps) = with_column p.column (part_columns ps)

-- a list that a column is to be added to
pub record IsOpen (names : List (List ℕ)) (columns : List ℕ) (len : ℕ) : Type 0 where
  pub few : len < 8
  pub below : AreBelow (length names) columns

abbrev pub FitsAt : List (List ℕ) → List Dataset → At → Type 0
FitsAt names datasets at.Start = Unit {0}
FitsAt names datasets at.DatasetName = length datasets < 8
FitsAt names datasets (at.DatasetEquals name) = Unit {0}
FitsAt names datasets (at.DatasetSource name) = Unit {0}
FitsAt names datasets (at.Made dataset) = Unit {0}
FitsAt names datasets (at.Filter name parent filter) = FilterFits filter
FitsAt names datasets (at.Level dataset) = Unit {0}
FitsAt names datasets (at.Kept dataset) = Unit {0}
FitsAt names datasets at.Query = Unit {0}
FitsAt names datasets (at.GroupColumn columns) = IsOpen names columns (length columns)
FitsAt names datasets (at.GroupColumns columns) = AreBelow (length names) columns
FitsAt names datasets (at.Part columns parts) = IsOpen names (part_columns parts) (length parts)
FitsAt names datasets (at.PartColumn columns parts agg) = IsOpen names (part_columns parts) (length parts)
FitsAt names datasets (at.Parts columns parts) = AreBelow (length names) (part_columns parts)
FitsAt names datasets (at.Key keys) = IsOpen names (key_columns keys) (length keys)
FitsAt names datasets (at.NumberKey keys) = IsOpen names (key_columns keys) (length keys)
FitsAt names datasets (at.KeyColumn keys column number) = AreBelow (length names) (column ∷ key_columns keys)
FitsAt names datasets (at.Keys keys) = AreBelow (length names) (key_columns keys)
FitsAt names datasets (at.OrderColumn keys columns) = IsOpen names columns (length columns)
FitsAt names datasets (at.OrderColumns keys columns) = AreBelow (length names) columns
FitsAt names datasets (at.Source shape) = Unit {0}
FitsAt names datasets (at.Sourced query) = Unit {0}

abbrev pub Fits : State → Type 0
Fits s = FitsAt s.read.names s.read.datasets s.at

-- ---- each step keeps it

abbrev pub put : List (List ℕ) → List Dataset → List Query → At → State
put names datasets queries place = record { read = record { names = names; datasets = datasets; queries = queries }; at = place }

kept_cond : (b : Bool) (x : State) → (b ≡ true → Fits x) → IfSome (cond b (Some x) None) Fits
kept_cond true r h = h refl
kept_cond false r h = tt

kept_none : (b : Bool) (x : State) → Fits x → IfSome (cond b None (Some x)) Fits
kept_none true r h = tt
kept_none false r h = h

-- a list that goes on
kept_more : {A : Type 0} (r : Read) (items : List A) (next : At) → (length items < 8 → FitsAt r.names r.datasets next) → IfSome (one_more r items next) Fits
kept_more r items next h = kept_cond _ _ (λ t. h (ltb-true _ _ t))

kept_ended : (r : Read) (query : Query) (mark : Mark) → IfSome (ended r query mark) Fits
kept_ended r query marks.Semicolon = kept_cond (nat_lt (length r.queries + 1) 8) (put r.names r.datasets (r.queries ++ query ∷ []) at.Query) (λ _. tt)
kept_ended r query _ = tt

kept_named : (r : Read) (is_taken : ℕ → Bool) (next : ℕ → At) (name : List ℕ) → FitsAt (with_name r.names name) r.datasets (next (place_of r.names name)) → IfSome (named r is_taken next (Some name)) Fits
kept_named r is_taken next name h = kept_cond (is_short name && (if is_taken (place_of r.names name) then false else true)) (put (with_name r.names name) r.datasets r.queries (next (place_of r.names name))) (λ _. h)

pub key_columns-push : (keys : List KeyItem) (k : KeyItem) → key_columns (keys ++ k ∷ []) ≡ key_columns keys ++ k.column ∷ []
key_columns-push [] k = refl
key_columns-push (first ∷ keys) k = ap (λ (cs : List ℕ). first.column ∷ cs) (key_columns-push keys k)

AreBelow-key : (n : ℕ) (keys : List KeyItem) (column : ℕ) (number down : Bool) → AreBelow n (column ∷ key_columns keys) → AreBelow n (key_columns (key keys column number down))
AreBelow-key n keys column number down h = rw (key_columns-push keys (record { column = column; number = number; down = down })) (AreBelow-push n (key_columns keys) column h.1 h.0)

AreBelow-with : (n : ℕ) (c : Option ℕ) (cs ds : List ℕ) → (AreBelow n cs → AreBelow n ds) → AreBelow n (with_column c cs) → AreBelow n (with_column c ds)
AreBelow-with n None cs ds f h = f h
AreBelow-with n (Some c) cs ds f h = (h.0, f h.1)

AreBelow-part : (n : ℕ) (parts : List Part) (agg : Agg) (column : ℕ) → column < n → AreBelow n (part_columns parts) → AreBelow n (part_columns (parts ++ record { agg = agg; column = Some column } ∷ []))
AreBelow-part n [] agg column lt h = (lt, tt)
AreBelow-part n (p ∷ parts) agg column lt h = AreBelow-with n p.column _ _ (AreBelow-part n parts agg column lt) h

AreBelow-counted : (n : ℕ) (parts : List Part) → AreBelow n (part_columns parts) → AreBelow n (part_columns (parts ++ counted ∷ []))
AreBelow-counted n [] h = tt
AreBelow-counted n (p ∷ parts) h = AreBelow-with n p.column _ _ (AreBelow-counted n parts) h

kept_query : (r : Read) (mark : Mark) → IfSome (after_query r mark) Fits
kept_query r marks.Group = record { few = omega arith; below = tt }
kept_query r marks.Order = record { few = omega arith; below = tt }
kept_query r _ = tt

kept_group_columns : (r : Read) (columns : List ℕ) (mark : Mark) → AreBelow (length r.names) columns → IfSome (after_group_columns r columns mark) Fits
kept_group_columns r columns marks.Comma h = kept_more r columns (at.GroupColumn columns) (λ lt. record { few = lt; below = h })
kept_group_columns r columns marks.Colon h = record { few = omega arith; below = tt }
kept_group_columns r columns _ h = tt

kept_part : (r : Read) (columns : List ℕ) (parts : List Part) (mark : Mark) → IsOpen r.names (part_columns parts) (length parts) → IfSome (after_part r columns parts mark) Fits
kept_part r columns parts marks.Count h = kept_none (has_part parts counted) (put r.names r.datasets r.queries (at.Parts columns (parts ++ counted ∷ []))) (AreBelow-counted _ parts h.below)
kept_part r columns parts marks.Sum h = h
kept_part r columns parts marks.Min h = h
kept_part r columns parts marks.Max h = h
kept_part r columns parts _ h = tt

kept_parts : (r : Read) (columns : List ℕ) (parts : List Part) (mark : Mark) → AreBelow (length r.names) (part_columns parts) → IfSome (after_parts r columns parts mark) Fits
kept_parts r columns parts marks.Comma h = kept_more r parts (at.Part columns parts) (λ lt. record { few = lt; below = h })
kept_parts r columns parts marks.From h = tt
kept_parts r columns parts mark h = kept_ended r (query_of 0 (shapes.Group columns parts)) mark

kept_keys : (r : Read) (keys : List KeyItem) (mark : Mark) → AreBelow (length r.names) (key_columns keys) → IfSome (after_keys r keys mark) Fits
kept_keys r keys marks.Comma h = kept_more r keys (at.Key keys) (λ lt. record { few = lt; below = h })
kept_keys r keys marks.Colon h = record { few = omega arith; below = tt }
kept_keys r keys _ h = tt

kept_key_column : (r : Read) (keys : List KeyItem) (column : ℕ) (number : Bool) (mark : Mark) → AreBelow (length r.names) (column ∷ key_columns keys) → IfSome (after_key_column r keys column number mark) Fits
kept_key_column r keys column number marks.Down h = AreBelow-key _ keys column number true h
kept_key_column r keys column number mark h = kept_keys r (key keys column number false) mark (AreBelow-key _ keys column number false h)

kept_order_columns : (r : Read) (keys : List KeyItem) (columns : List ℕ) (mark : Mark) → AreBelow (length r.names) columns → IfSome (after_order_columns r keys columns mark) Fits
kept_order_columns r keys columns marks.Comma h = kept_more r columns (at.OrderColumn keys columns) (λ lt. record { few = lt; below = h })
kept_order_columns r keys columns marks.From h = tt
kept_order_columns r keys columns mark h = kept_ended r (query_of 0 (shapes.Order keys columns)) mark

kept_source : (r : Read) (shape : Shape) (dataset : Option ℕ) → IfSome (after_source r shape dataset) Fits
kept_source r shape None = tt
kept_source r shape (Some dataset) = tt

kept_start : (r : Read) (mark : Mark) → IfSome (after_start r mark) Fits
kept_start r marks.Let = kept_cond (nat_lt (length r.datasets) 8) (put r.names r.datasets r.queries at.DatasetName) (λ t. ltb-true _ _ t)
kept_start r mark = kept_query r mark

kept_name : (r : Read) (name : List ℕ) → IfSome (after_name r name) Fits
kept_name r name = kept_cond (nat_le (length name) 64 && not (is_among (dataset_names r.datasets) name)) (put r.names r.datasets r.queries (at.DatasetEquals name)) (λ _. tt)

kept_equals : (r : Read) (name : List ℕ) (mark : Mark) → IfSome (after_equals r name mark) Fits
kept_equals r name marks.Equal = tt
kept_equals r name _ = tt

kept_parent : (r : Read) (name : List ℕ) (parent : Option ℕ) → IfSome (after_parent r name parent) Fits
kept_parent r name None = tt
kept_parent r name (Some parent) = tt

kept_dataset : (r : Read) (dataset : Dataset) (mark : Mark) → IfSome (dataset_ended r dataset mark) Fits
kept_dataset r dataset marks.Semicolon = tt
kept_dataset r dataset _ = tt

kept_made : (r : Read) (dataset : Dataset) (mark : Mark) → IfSome (after_made r dataset mark) Fits
kept_made r dataset marks.Where = tt
kept_made r dataset marks.Keep = tt
kept_made r dataset mark = kept_dataset r dataset mark

kept_filter_end : (r : Read) (name : List ℕ) (parent : ℕ) (filter : Option Filter) (mark : Mark) → IfSome (filter_ended r name parent filter mark) Fits
kept_filter_end r name parent None mark = tt
kept_filter_end r name parent (Some filter) marks.Keep = tt
kept_filter_end r name parent (Some filter) mark = kept_dataset r (made_from name parent (Some filter)) mark

kept_filtered : (r : Read) (name : List ℕ) (parent : ℕ) (o : Option (List (List ℕ) × FilterState)) → IfSome o (λ next. FilterFits next.1) → IfSome (filtered r name parent o) Fits
kept_filtered r name parent None h = tt
kept_filtered r name parent (Some next) h = h

kept_in_filter : (r : Read) (name : List ℕ) (parent : ℕ) (filter : FilterState) (t : Token) → IfSome (in_filter r name parent filter t) Fits
kept_in_filter r name parent filter (Fixed marks.Keep) = kept_filter_end r name parent (filter_at filter) marks.Keep
kept_in_filter r name parent filter (Fixed marks.Semicolon) = kept_filter_end r name parent (filter_at filter) marks.Semicolon
kept_in_filter r name parent filter t = kept_filtered r name parent (filter_step r.names filter t) (filter_fits r.names filter t)

kept_keep : (r : Read) (dataset : Dataset) (mark : Mark) → IfSome (after_keep r dataset mark) Fits
kept_keep r dataset marks.Memory = tt
kept_keep r dataset marks.Disk = tt
kept_keep r dataset _ = tt

kept_number : (r : Read) (keys : List KeyItem) (mark : Mark) → IsOpen r.names (key_columns keys) (length keys) → IfSome (after_mark r (at.Key keys) mark) Fits
kept_number r keys marks.Number h = h
kept_number r keys _ h = tt

kept_mark : (r : Read) (place : At) (mark : Mark) → FitsAt r.names r.datasets place → IfSome (after_mark r place mark) Fits
kept_mark r at.Start mark h = kept_start r mark
kept_mark r at.DatasetName mark h = tt
kept_mark r (at.DatasetEquals name) mark h = kept_equals r name mark
kept_mark r (at.DatasetSource name) mark h = kept_parent r name (input_as mark)
kept_mark r (at.Made dataset) mark h = kept_made r dataset mark
kept_mark r (at.Filter name parent filter) mark h = kept_in_filter r name parent filter (Fixed mark)
kept_mark r (at.Level dataset) mark h = kept_keep r dataset mark
kept_mark r (at.Kept dataset) mark h = kept_dataset r dataset mark
kept_mark r at.Query mark h = kept_query r mark
kept_mark r (at.GroupColumn columns) mark h = tt
kept_mark r (at.GroupColumns columns) mark h = kept_group_columns r columns mark h
kept_mark r (at.Part columns parts) mark h = kept_part r columns parts mark h
kept_mark r (at.PartColumn columns parts agg) mark h = tt
kept_mark r (at.Parts columns parts) mark h = kept_parts r columns parts mark h
kept_mark r (at.Key keys) mark h = kept_number r keys mark h
kept_mark r (at.NumberKey keys) mark h = tt
kept_mark r (at.KeyColumn keys column number) mark h = kept_key_column r keys column number mark h
kept_mark r (at.Keys keys) mark h = kept_keys r keys mark h
kept_mark r (at.OrderColumn keys columns) mark h = tt
kept_mark r (at.OrderColumns keys columns) mark h = kept_order_columns r keys columns mark h
kept_mark r (at.Source shape) mark h = kept_source r shape (input_as mark)
kept_mark r (at.Sourced query) mark h = kept_ended r query mark

module _ (r : Read) (name : List ℕ) where
  more : (cs : List ℕ) → AreBelow (length r.names) cs → AreBelow (length (with_name r.names name)) cs
  more cs h = AreBelow-more _ _ cs (length-with_name r.names name) h

  kept_column : (place : At) → FitsAt r.names r.datasets place → IfSome (after_column r place (Some name)) Fits
  kept_column (at.GroupColumn columns) h = kept_named r (has_column columns) (λ c. at.GroupColumns (columns ++ c ∷ [])) name (AreBelow-push _ columns _ (more columns h.below) (place_below r.names name))
  kept_column (at.PartColumn columns parts agg) h = kept_named r (λ c. has_part parts (record { agg = agg; column = Some c })) (λ c. at.Parts columns (parts ++ record { agg = agg; column = Some c } ∷ [])) name (AreBelow-part _ parts agg _ (place_below r.names name) (more (part_columns parts) h.below))
  kept_column (at.Key keys) h = kept_named r (has_key keys) (λ c. at.KeyColumn keys c false) name (place_below r.names name, more (key_columns keys) h.below)
  kept_column (at.NumberKey keys) h = kept_named r (has_key keys) (λ c. at.KeyColumn keys c true) name (place_below r.names name, more (key_columns keys) h.below)
  kept_column (at.OrderColumn keys columns) h = kept_named r (has_column columns) (λ c. at.OrderColumns keys (columns ++ c ∷ [])) name (AreBelow-push _ columns _ (more columns h.below) (place_below r.names name))
  kept_column _ h = tt

  kept_word : (place : At) → FitsAt r.names r.datasets place → IfSome (after_word r place name) Fits
  kept_word (at.Filter dataset parent filter) h = kept_in_filter r dataset parent filter (Word name)
  kept_word at.DatasetName h = kept_name r name
  kept_word (at.DatasetSource dataset) h = kept_parent r dataset (number_of r.datasets name)
  kept_word (at.Source shape) h = kept_source r shape (number_of r.datasets name)
  kept_word (at.GroupColumn columns) h = kept_column (at.GroupColumn columns) h
  kept_word (at.PartColumn columns parts agg) h = kept_column (at.PartColumn columns parts agg) h
  kept_word (at.Key keys) h = kept_column (at.Key keys) h
  kept_word (at.NumberKey keys) h = kept_column (at.NumberKey keys) h
  kept_word (at.OrderColumn keys columns) h = kept_column (at.OrderColumn keys columns) h
  kept_word _ h = tt

  kept_quoted : (place : At) → FitsAt r.names r.datasets place → IfSome (after_quoted r place name) Fits
  kept_quoted (at.Filter dataset parent filter) h = kept_in_filter r dataset parent filter (Quoted name)
  kept_quoted (at.GroupColumn columns) h = kept_column (at.GroupColumn columns) h
  kept_quoted (at.PartColumn columns parts agg) h = kept_column (at.PartColumn columns parts agg) h
  kept_quoted (at.Key keys) h = kept_column (at.Key keys) h
  kept_quoted (at.NumberKey keys) h = kept_column (at.NumberKey keys) h
  kept_quoted (at.OrderColumn keys columns) h = kept_column (at.OrderColumn keys columns) h
  kept_quoted _ h = tt

kept_constant : (r : Read) (place : At) (t : Token) → IfSome (after_constant r place t) Fits
kept_constant r (at.Filter name parent filter) t = kept_in_filter r name parent filter t
kept_constant r _ t = tt

pub kept : (s : State) (t : Token) → Fits s → IfSome (step s t) Fits
unfolding step
kept s (Fixed mark) h = kept_mark s.read s.at mark h
kept s (Word name) h = kept_word s.read name s.at h
kept s (Quoted name) h = kept_quoted s.read name s.at h
kept s (Text text) h = kept_constant s.read s.at (Text text)
kept s (Whole value) h = kept_constant s.read s.at (Whole value)
