-- Reading a job token by token: what each token leads to, or None where it is refused.
-- This project's own.
use Rattle.std.specs.Prelude.{ℕ, ◌+◌, List, [], ◌∷◌, ◌++◌, length, Bool, true, false, ◌&&◌, not, nat_lt, nat_le, if◌then◌else◌, Option, Some, None}
use Rattle.pool_ledger.specs.declared.entry.Level.TheVariants as levels
use Rattle.aggregate.specs.declared.agg_list.Agg.TheVariants as aggs
use Rattle.job_text.specs.declared.mark.Mark.{Mark}
use Rattle.job_text.specs.declared.mark.Mark.TheVariants as marks
use Rattle.job_text.specs.declared.token.Token.{Token}
use Rattle.job_text.specs.declared.token.Token.TheVariants.{Fixed, Word, Quoted, Text, Whole}
use Rattle.row_filter.specs.declared.filter.Filter.{Filter}
use Rattle.job_text.specs.declared.filter_state.FilterState.{FilterState}
use Rattle.job_text.specs.declared.job.Part.{Part}
use Rattle.job_text.specs.declared.job.KeyItem.{KeyItem}
use Rattle.job_text.specs.declared.job.Shape.{Shape}
use Rattle.job_text.specs.declared.job.Shape.TheVariants as shapes
use Rattle.job_text.specs.declared.job.Query.{Query}
use Rattle.job_text.specs.declared.job.Dataset.{Dataset}
use Rattle.job_text.specs.declared.state.At.{At}
use Rattle.job_text.specs.declared.state.At.TheVariants as at
use Rattle.job_text.specs.declared.state.Read.{Read}
use Rattle.job_text.specs.declared.state.State.{State}
use Rattle.job_text.specs.FilterStep.{filter_start, filter_step, filter_at}
use Rattle.job_text.specs.Columns.{place_of, dataset_names, is_among, number_of, with_name, is_short, has_column, has_key, has_part}

-- what was read stays, and this comes next
abbrev pub moved : Read → At → Option State
moved r next = Some (record { read = r; at = next })

-- a list goes on behind a comma, up to eight items
abbrev pub one_more : {A : Type 0} → Read → List A → At → Option State
one_more r items next = if nat_lt (length items) 8 then moved r next else None

-- a column at the place where it is named; `next` says what follows
abbrev pub named : Read → (ℕ → Bool) → (ℕ → At) → Option (List ℕ) → Option State
named r is_taken next None = None
named r is_taken next (Some name) =
    if is_short name && (if is_taken (place_of r.names name) then false else true)
    then Some (record { read = record r { names = with_name r.names name }; at = next (place_of r.names name) })
    else None

-- where a query must come
abbrev pub after_query : Read → Mark → Option State
after_query r marks.Group = moved r (at.GroupColumn [])
after_query r marks.Order = moved r (at.Key [])
after_query r _ = None

-- ---- datasets

-- where a dataset or a query must come: there are at most eight datasets
abbrev pub after_start : Read → Mark → Option State
after_start r marks.Let = if nat_lt (length r.datasets) 8 then moved r at.DatasetName else None
after_start r mark = after_query r mark

-- a dataset's name, which no other has
abbrev pub after_name : Read → List ℕ → Option State
after_name r name =
    if nat_le (length name) 64 && not (is_among (dataset_names r.datasets) name)
    then moved r (at.DatasetEquals name)
    else None

-- behind a dataset's name
abbrev pub after_equals : Read → List ℕ → Mark → Option State
after_equals r name marks.Equal = moved r (at.DatasetSource name)
after_equals r name _ = None

-- a dataset as it is made from another, or from the input
abbrev pub made_from : List ℕ → ℕ → Option Filter → Dataset
made_from name parent filter = record { name = name; parent = parent; filter = filter; level = None }

-- where a dataset's source must come
abbrev pub after_parent : Read → List ℕ → Option ℕ → Option State
after_parent r name None = None
after_parent r name (Some parent) = moved r (at.Made (made_from name parent None))

-- behind a dataset that may end here
abbrev pub dataset_ended : Read → Dataset → Mark → Option State
dataset_ended r dataset marks.Semicolon = Some (record { read = record r { datasets = r.datasets ++ dataset ∷ [] }; at = at.Start })
dataset_ended r dataset _ = None

-- behind a dataset's source
abbrev pub after_made : Read → Dataset → Mark → Option State
after_made r dataset marks.Where = moved r (at.Filter dataset.name dataset.parent filter_start)
after_made r dataset marks.Keep = moved r (at.Level dataset)
after_made r dataset mark = dataset_ended r dataset mark

-- behind a filter that may end here, and `keep` or `;`
abbrev pub filter_ended : Read → List ℕ → ℕ → Option Filter → Mark → Option State
filter_ended r name parent None mark = None
filter_ended r name parent (Some filter) marks.Keep = moved r (at.Level (made_from name parent (Some filter)))
filter_ended r name parent (Some filter) mark = dataset_ended r (made_from name parent (Some filter)) mark

-- with what was read of a filter
abbrev pub filtered : Read → List ℕ → ℕ → Option (List (List ℕ) × FilterState) → Option State
filtered r name parent None = None
filtered r name parent (Some next) = Some (record { read = record r { names = next.0 }; at = at.Filter name parent next.1 })

-- a token behind `where`: a filter's own, or what may stand behind the filter
abbrev pub in_filter : Read → List ℕ → ℕ → FilterState → Token → Option State
in_filter r name parent filter (Fixed marks.Keep) = filter_ended r name parent (filter_at filter) marks.Keep
in_filter r name parent filter (Fixed marks.Semicolon) = filter_ended r name parent (filter_at filter) marks.Semicolon
in_filter r name parent filter token = filtered r name parent (filter_step r.names filter token)

-- behind `keep`
abbrev pub after_keep : Read → Dataset → Mark → Option State
after_keep r dataset marks.Memory = moved r (at.Kept (record dataset { level = Some levels.Memory }))
after_keep r dataset marks.Disk = moved r (at.Kept (record dataset { level = Some levels.Disk }))
after_keep r dataset _ = None

-- ---- queries

-- a query over a dataset, or over the input
abbrev pub query_of : ℕ → Shape → Query
query_of dataset shape = record { dataset = dataset; shape = shape }

-- behind a query that may end here
abbrev pub ended : Read → Query → Mark → Option State
ended r query marks.Semicolon =
    if nat_lt (length r.queries + 1) 8
    then Some (record { read = record r { queries = r.queries ++ query ∷ [] }; at = at.Query })
    else None
ended r query _ = None

-- behind a column of a group
abbrev pub after_group_columns : Read → List ℕ → Mark → Option State
after_group_columns r columns marks.Comma = one_more r columns (at.GroupColumn columns)
after_group_columns r columns marks.Colon = moved r (at.Part columns [])
after_group_columns r columns _ = None

-- the count of rows
abbrev pub counted : Part
counted = record { agg = aggs.Count; column = None }

-- where an aggregate must come
abbrev pub after_part : Read → List ℕ → List Part → Mark → Option State
after_part r columns parts marks.Count = if has_part parts counted then None else moved r (at.Parts columns (parts ++ counted ∷ []))
after_part r columns parts marks.Sum = moved r (at.PartColumn columns parts aggs.Sum)
after_part r columns parts marks.Min = moved r (at.PartColumn columns parts aggs.Min)
after_part r columns parts marks.Max = moved r (at.PartColumn columns parts aggs.Max)
after_part r columns parts _ = None

-- behind an aggregate
abbrev pub after_parts : Read → List ℕ → List Part → Mark → Option State
after_parts r columns parts marks.Comma = one_more r parts (at.Part columns parts)
after_parts r columns parts marks.From = moved r (at.Source (shapes.Group columns parts))
after_parts r columns parts mark = ended r (query_of 0 (shapes.Group columns parts)) mark

-- the keys with one more
abbrev pub key : List KeyItem → ℕ → Bool → Bool → List KeyItem
key keys column number down = keys ++ record { column = column; number = number; down = down } ∷ []

-- behind a key
abbrev pub after_keys : Read → List KeyItem → Mark → Option State
after_keys r keys marks.Comma = one_more r keys (at.Key keys)
after_keys r keys marks.Colon = moved r (at.OrderColumn keys [])
after_keys r keys _ = None

-- behind the column of a key, where `down` may come
abbrev pub after_key_column : Read → List KeyItem → ℕ → Bool → Mark → Option State
after_key_column r keys column number marks.Down = moved r (at.Keys (key keys column number true))
after_key_column r keys column number mark = after_keys r (key keys column number false) mark

-- behind a column of an order
abbrev pub after_order_columns : Read → List KeyItem → List ℕ → Mark → Option State
after_order_columns r keys columns marks.Comma = one_more r columns (at.OrderColumn keys columns)
after_order_columns r keys columns marks.From = moved r (at.Source (shapes.Order keys columns))
after_order_columns r keys columns mark = ended r (query_of 0 (shapes.Order keys columns)) mark

-- the source of a query
abbrev pub after_source : Read → Shape → Option ℕ → Option State
after_source r shape None = None
after_source r shape (Some dataset) = moved r (at.Sourced (query_of dataset shape))

-- `input`, which is 0
abbrev pub input_as : Mark → Option ℕ
input_as marks.Input = Some 0
input_as _ = None

-- a reserved word or a sign
abbrev pub after_mark : Read → At → Mark → Option State
after_mark r at.Start mark = after_start r mark
after_mark r at.DatasetName mark = None
after_mark r (at.DatasetEquals name) mark = after_equals r name mark
after_mark r (at.DatasetSource name) mark = after_parent r name (input_as mark)
after_mark r (at.Made dataset) mark = after_made r dataset mark
after_mark r (at.Filter name parent filter) mark = in_filter r name parent filter (Fixed mark)
after_mark r (at.Level dataset) mark = after_keep r dataset mark
after_mark r (at.Kept dataset) mark = dataset_ended r dataset mark
after_mark r at.Query mark = after_query r mark
after_mark r (at.GroupColumn columns) mark = None
after_mark r (at.GroupColumns columns) mark = after_group_columns r columns mark
after_mark r (at.Part columns parts) mark = after_part r columns parts mark
after_mark r (at.PartColumn columns parts agg) mark = None
after_mark r (at.Parts columns parts) mark = after_parts r columns parts mark
after_mark r (at.Key keys) marks.Number = moved r (at.NumberKey keys)
after_mark r (at.Key keys) _ = None
after_mark r (at.NumberKey keys) mark = None
after_mark r (at.KeyColumn keys column number) mark = after_key_column r keys column number mark
after_mark r (at.Keys keys) mark = after_keys r keys mark
after_mark r (at.OrderColumn keys columns) mark = None
after_mark r (at.OrderColumns keys columns) mark = after_order_columns r keys columns mark
after_mark r (at.Source shape) mark = after_source r shape (input_as mark)
after_mark r (at.Sourced query) mark = ended r query mark

-- a column
abbrev pub after_column : Read → At → Option (List ℕ) → Option State
after_column r (at.GroupColumn columns) column = named r (has_column columns) (λ c. at.GroupColumns (columns ++ c ∷ [])) column
after_column r (at.PartColumn columns parts agg) column =
    named r (λ c. has_part parts (record { agg = agg; column = Some c }))
    (λ c. at.Parts columns (parts ++ record { agg = agg; column = Some c } ∷ [])) column
after_column r (at.Key keys) column = named r (has_key keys) (λ c. at.KeyColumn keys c false) column
after_column r (at.NumberKey keys) column = named r (has_key keys) (λ c. at.KeyColumn keys c true) column
after_column r (at.OrderColumn keys columns) column = named r (has_column columns) (λ c. at.OrderColumns keys (columns ++ c ∷ [])) column
after_column r _ column = None

-- a word that isn't reserved
abbrev pub after_word : Read → At → List ℕ → Option State
after_word r at.DatasetName word = after_name r word
after_word r (at.Filter name parent filter) word = in_filter r name parent filter (Word word)
after_word r (at.DatasetSource name) word = after_parent r name (number_of r.datasets word)
after_word r (at.Source shape) word = after_source r shape (number_of r.datasets word)
after_word r place word = after_column r place (Some word)

-- a name in quotes
abbrev pub after_quoted : Read → At → List ℕ → Option State
after_quoted r (at.Filter name parent filter) column = in_filter r name parent filter (Quoted column)
after_quoted r place column = after_column r place (Some column)

-- a text or a whole number
abbrev pub after_constant : Read → At → Token → Option State
after_constant r (at.Filter name parent filter) token = in_filter r name parent filter token
after_constant r place token = None

-- what follows a token, or None where it is refused
unfoldable pub step : State → Token → Option State
step s (Fixed mark) = after_mark s.read s.at mark
step s (Word name) = after_word s.read s.at name
step s (Quoted name) = after_quoted s.read s.at name
step s (Text text) = after_constant s.read s.at (Text text)
step s (Whole value) = after_constant s.read s.at (Whole value)

-- the query at hand, where it may end here
abbrev pub last_query : At → Option Query
last_query (at.Parts columns parts) = Some (query_of 0 (shapes.Group columns parts))
last_query (at.OrderColumns keys columns) = Some (query_of 0 (shapes.Order keys columns))
last_query (at.Sourced query) = Some query
last_query _ = None

-- nothing was read
abbrev pub start : State
start = record { read = record { names = []; datasets = []; queries = [] }; at = at.Start }
