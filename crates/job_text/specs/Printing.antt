-- How shapes are printed, as tokens, and the text of tokens.
-- This project's own.
use Rattle.std.specs.Prelude.{ℕ, zero, suc, List, [], ◌∷◌, ◌++◌, Bool, true, false, ◌||◌, ◌==◌, if◌then◌else◌, Option, Some, None, slice_index_or}
use Rattle.std.specs.Fmt.{signed_decimal}
use Rattle.aggregate.specs.declared.agg_list.Agg.{Agg}
use Rattle.aggregate.specs.declared.agg_list.Agg.TheVariants as aggs
use Rattle.job_text.specs.declared.mark.Mark.{Mark}
use Rattle.job_text.specs.declared.mark.Mark.TheVariants as marks
use Rattle.job_text.specs.declared.token.Token.{Token}
use Rattle.job_text.specs.declared.token.Token.TheVariants.{Fixed, Word, Quoted, Text, Whole}
use Rattle.job_text.specs.declared.job.Part.{Part}
use Rattle.job_text.specs.declared.job.KeyItem.{KeyItem}
use Rattle.job_text.specs.declared.job.Shape.{Shape}
use Rattle.job_text.specs.declared.job.Shape.TheVariants as shapes
use Rattle.job_text.specs.Grammar.{separated, optional}
use Rattle.job_text.specs.Marks.{mark_text}
use Rattle.job_text.specs.Scan.{is_plain}

-- the sign before an item, which the first one hasn't
abbrev pub sign_before : ℕ → Mark → List Token
sign_before zero sign = []
sign_before (suc place) sign = Fixed sign ∷ []

-- a column is a word where that is possible, and in quotes else
abbrev pub column_token : List ℕ → Token
column_token name = if is_plain name then Word name else Quoted name

-- the column at this place among the names
abbrev pub place_tokens : List (List ℕ) → ℕ → List Token
place_tokens names place = column_token (slice_index_or names place []) ∷ []

-- the word of an aggregate
abbrev pub agg_mark : Agg → Mark
agg_mark aggs.Count = marks.Count
agg_mark aggs.Sum = marks.Sum
agg_mark aggs.Min = marks.Min
agg_mark aggs.Max = marks.Max

-- the column of an aggregate, if it has one
abbrev pub agg_column_tokens : List (List ℕ) → Option ℕ → List Token
agg_column_tokens names None = []
agg_column_tokens names (Some place) = place_tokens names place

-- an aggregate and its column
abbrev pub part_tokens : List (List ℕ) → Part → List Token
part_tokens names part = Fixed (agg_mark part.agg) ∷ agg_column_tokens names part.column

-- a key
abbrev pub key_tokens : List (List ℕ) → KeyItem → List Token
key_tokens names key = optional key.number marks.Number ++ place_tokens names key.column ++ optional key.down marks.Down

-- a query's shape
abbrev pub shape_tokens : List (List ℕ) → Shape → List Token
shape_tokens names (shapes.Group columns parts) =
    Fixed marks.Group ∷ separated marks.Comma (place_tokens names) columns ++ Fixed marks.Colon ∷ separated marks.Comma (part_tokens names) parts
shape_tokens names (shapes.Order keys columns) =
    Fixed marks.Order ∷ separated marks.Comma (key_tokens names) keys ++ Fixed marks.Colon ∷ separated marks.Comma (place_tokens names) columns

-- the bytes with each quote doubled
abbrev pub doubled : ℕ → List ℕ → List ℕ
doubled quote [] = []
doubled quote (b ∷ bytes) = if b == quote then quote ∷ quote ∷ doubled quote bytes else b ∷ doubled quote bytes

-- how a token is written; no job has a number that leaves 64 bits
abbrev pub token_text : Token → List ℕ
token_text (Fixed mark) = mark_text mark
token_text (Word name) = name
token_text (Quoted name) = 34 ∷ doubled 34 name ++ 34 ∷ []
token_text (Text text) = 39 ∷ doubled 39 text ++ 39 ∷ []
token_text (Whole None) = []
token_text (Whole (Some value)) = signed_decimal value

-- no blank stands before it: `,` `:` `;` `)`
abbrev pub is_attached : Token → Bool
is_attached (Fixed marks.Comma) = true
is_attached (Fixed marks.Colon) = true
is_attached (Fixed marks.Semicolon) = true
is_attached (Fixed marks.Close) = true
is_attached _ = false

-- no blank stands behind it: `(`
abbrev pub is_opening : Token → Bool
is_opening (Fixed marks.Open) = true
is_opening _ = false

-- what stands between two tokens
abbrev pub between : Token → Token → List ℕ
between earlier later = if is_opening earlier || is_attached later then [] else 32 ∷ []

-- the text of tokens
abbrev pub tokens_text : List Token → List ℕ
tokens_text [] = []
tokens_text (token ∷ []) = token_text token
tokens_text (token ∷ next ∷ more) = token_text token ++ between token next ++ tokens_text (next ∷ more)
