-- The grammar of jobs: how a job may be written, each choice a case or a part, and its tokens.
-- This project's own.
use Rattle.std.specs.Prelude.{ℕ, List, [], ◌∷◌, ◌++◌, Bool, if◌then◌else◌, Option, Some, None}
use Rattle.pool_ledger.specs.declared.entry.Level.{Level}
use Rattle.pool_ledger.specs.declared.entry.Level.TheVariants as levels
use Rattle.job_text.specs.declared.mark.Mark.{Mark}
use Rattle.job_text.specs.declared.mark.Mark.TheVariants as marks
use Rattle.job_text.specs.declared.token.Token.{Token}
use Rattle.job_text.specs.declared.token.Token.TheVariants.{Fixed, Word, Quoted}
use Rattle.row_filter.specs.declared.filter.Filter.{Filter}

-- column = a word that isn't reserved | a name in double quotes
pub data WrittenColumn : Type 0 where
  word : List ℕ → WrittenColumn
  in_quotes : List ℕ → WrittenColumn

-- the token of a column: the word, or the name in quotes
abbrev pub column_written : WrittenColumn → List Token
column_written (word name) = Word name ∷ []
column_written (in_quotes name) = Quoted name ∷ []

-- a word that is there or left out
abbrev pub optional : Bool → Mark → List Token
optional there mark = if there then Fixed mark ∷ [] else []

-- key = [ "number" ] column [ "down" ]
pub record WrittenKey : Type 0 where
  pub number : Bool
  pub column : WrittenColumn
  pub down : Bool

-- the tokens of a key: its column, and the words around it that aren't left out
abbrev pub key_written : WrittenKey → List Token
key_written key = optional key.number marks.Number ++ column_written key.column ++ optional key.down marks.Down

-- agg = "count" | "sum" column | "min" column | "max" column
pub data WrittenAgg : Type 0 where
  count : WrittenAgg
  sum_of : WrittenColumn → WrittenAgg
  min_of : WrittenColumn → WrittenAgg
  max_of : WrittenColumn → WrittenAgg

-- the tokens of an aggregate: its word, and its column where it has one
abbrev pub agg_written : WrittenAgg → List Token
agg_written count = Fixed marks.Count ∷ []
agg_written (sum_of column) = Fixed marks.Sum ∷ column_written column
agg_written (min_of column) = Fixed marks.Min ∷ column_written column
agg_written (max_of column) = Fixed marks.Max ∷ column_written column

-- item { sign item }
abbrev pub separated : {A : Type 0} → Mark → (A → List Token) → List A → List Token
separated sign tokens [] = []
separated sign tokens (item ∷ []) = tokens item
separated sign tokens (item ∷ next ∷ more) = tokens item ++ Fixed sign ∷ separated sign tokens (next ∷ more)

-- shape = "group" column { "," column } ":" agg { "," agg }
--       | "order" key { "," key } ":" column { "," column }
pub data WrittenShape : Type 0 where
  group : List WrittenColumn → List WrittenAgg → WrittenShape
  order : List WrittenKey → List WrittenColumn → WrittenShape

-- the tokens of a shape: its word, and its two lists with a colon between them
abbrev pub shape_written : WrittenShape → List Token
shape_written (group columns aggs) =
    Fixed marks.Group ∷ separated marks.Comma column_written columns
    ++ Fixed marks.Colon ∷ separated marks.Comma agg_written aggs
shape_written (order keys columns) =
    Fixed marks.Order ∷ separated marks.Comma key_written keys
    ++ Fixed marks.Colon ∷ separated marks.Comma column_written columns

-- source = "input" | name
pub data WrittenSource : Type 0 where
  input : WrittenSource
  by_name : List ℕ → WrittenSource

-- the token of a source: the reserved word for the input, or the name of a dataset
abbrev pub source_written : WrittenSource → List Token
source_written input = Fixed marks.Input ∷ []
source_written (by_name name) = Word name ∷ []

-- [ "from" source ]
abbrev pub from_written : Option WrittenSource → List Token
from_written None = []
from_written (Some source) = Fixed marks.From ∷ source_written source

-- query = shape [ "from" source ]
pub record WrittenQuery : Type 0 where
  pub shape : WrittenShape
  pub source : Option WrittenSource

-- the tokens of a query: those of its shape, and its source behind `from` where that isn't left out
abbrev pub query_written : WrittenQuery → List Token
query_written query = shape_written query.shape ++ from_written query.source

-- level = "memory" | "disk"
abbrev pub level_written : Level → List Token
level_written levels.Memory = Fixed marks.Memory ∷ []
level_written levels.Disk = Fixed marks.Disk ∷ []

-- [ "keep" level ]
abbrev pub keep_written : Option Level → List Token
keep_written None = []
keep_written (Some level) = Fixed marks.Keep ∷ level_written level

-- filter: its tokens, the columns that they name, and what they mean; FilterGrammar.antt has its grammar
pub record WrittenFilter : Type 0 where
  pub tokens : List Token
  pub used : List (List ℕ)
  pub means : Filter

-- [ "where" filter ]
abbrev pub where_written : Option WrittenFilter → List Token
where_written None = []
where_written (Some filter) = Fixed marks.Where ∷ filter.tokens

-- dataset = "let" name "=" source [ "where" filter ] [ "keep" level ]
pub record WrittenDataset : Type 0 where
  pub name : List ℕ
  pub source : WrittenSource
  pub filter : Option WrittenFilter
  pub level : Option Level

-- the tokens of a dataset: its name and its source, then its filter and its level where it has them
abbrev pub dataset_written : WrittenDataset → List Token
dataset_written dataset =
    Fixed marks.Let ∷ Word dataset.name ∷ Fixed marks.Equal ∷ source_written dataset.source
    ++ where_written dataset.filter ++ keep_written dataset.level

-- { item sign }
abbrev pub ended_by : {A : Type 0} → Mark → (A → List Token) → List A → List Token
ended_by sign tokens [] = []
ended_by sign tokens (item ∷ more) = tokens item ++ Fixed sign ∷ ended_by sign tokens more

-- job = { dataset ";" } query { ";" query }
pub record WrittenJob : Type 0 where
  pub datasets : List WrittenDataset
  pub queries : List WrittenQuery

-- the tokens of a job: the datasets, each with a semicolon behind it, and the queries, with one between two
abbrev pub job_written : WrittenJob → List Token
job_written job =
    ended_by marks.Semicolon dataset_written job.datasets ++ separated marks.Semicolon query_written job.queries
