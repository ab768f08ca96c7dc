-- The token at the front of bytes, and how many bytes it takes.
-- This project's own.
use Rattle.std.specs.Prelude.{⊤, ◌≡◌, ℕ, zero, suc, ◌+◌, List, [], ◌∷◌, length, take, find, Bool, true, ◌&&◌, ◌||◌, ◌==◌, not, is_some, slice_index, nat_le, nat_eq, if◌then◌else◌, Option, Some, None}
use Rattle.std.specs.Str.{bytes_eq, IsUtf8}
use Rattle.std.specs.List.{list_all, prefix_len, starts_with, take_while}
use Rattle.aggregate.specs.Partial.{fits_i64}
use Rattle.row_form.specs.Numbers.{number}
use Rattle.job_text.specs.declared.mark.Mark.{Mark}
use Rattle.job_text.specs.declared.token.Token.{Token}
use Rattle.job_text.specs.declared.token.Token.TheVariants.{Fixed, Word, Quoted, Text, Whole}
use Rattle.job_text.specs.Marks.{mark_text, reserved, signs}

-- a space, a tab, CR or LF
abbrev pub is_blank : ℕ → Bool
is_blank b = b == 32 || b == 9 || b == 13 || b == 10

-- a digit
abbrev pub is_digit : ℕ → Bool
is_digit b = nat_le 48 b && nat_le b 57

-- what a word begins with: a letter or `_`
abbrev pub is_letter : ℕ → Bool
is_letter b = nat_le 65 b && nat_le b 90 || nat_le 97 b && nat_le b 122 || b == 95

-- what a word goes on with
abbrev pub is_word_byte : ℕ → Bool
is_word_byte b = is_letter b || is_digit b

-- the reserved word that this is, if it is one
abbrev pub reserved_as : List ℕ → Option Mark
reserved_as word = find (λ mark. bytes_eq (mark_text mark) word) reserved

-- a word's token
abbrev pub word_token : List ℕ → Option Mark → Token
word_token word None = Word word
word_token word (Some mark) = Fixed mark

-- the word at the front
unfoldable pub word_at : List ℕ → Option (Token × ℕ)
word_at bytes = let word = take_while is_word_byte bytes in Some (word_token word (reserved_as word), length word)

-- a whole number of a sign and digits, with its value where that is one of 64 bits; there is none without a digit
abbrev pub whole_of : List ℕ → ℕ → ℕ → Option (Token × ℕ)
whole_of bytes sign zero = None
whole_of bytes sign (suc more) = Some (Whole (number (take (sign + suc more) bytes)), sign + suc more)

-- the whole number at the front: digits, and a `-` before them or none
abbrev pub whole_at : List ℕ → Option (Token × ℕ)
whole_at [] = None
whole_at (b ∷ bytes) =
    if b == 45
    then whole_of (b ∷ bytes) 1 (prefix_len is_digit bytes)
    else whole_of (b ∷ bytes) 0 (prefix_len is_digit (b ∷ bytes))

-- a sign's token
abbrev pub sign_token : Option Mark → Option (Token × ℕ)
sign_token None = None
sign_token (Some mark) = Some (Fixed mark, length (mark_text mark))

-- the sign at the front, the longest
unfoldable pub sign_at : List ℕ → Option (Token × ℕ)
sign_at bytes = sign_token (find (λ m. starts_with nat_eq bytes (mark_text m)) signs)

-- a byte in front, which took so many bytes
abbrev pub with_byte : ℕ → ℕ → Option (List ℕ × ℕ) → Option (List ℕ × ℕ)
with_byte b n None = None
with_byte b n (Some (content, len)) = Some (b ∷ content, len + n)

-- where nothing further on closes it, it is closed here
abbrev pub or_closed : Option (List ℕ × ℕ) → Option (List ℕ × ℕ)
or_closed None = Some ([], 1)
or_closed (Some longer) = Some longer

-- what stands behind an open quote up to the last quote that can close it, and how many bytes that takes
unfoldable pub closed_at : ℕ → List ℕ → Option (List ℕ × ℕ)
closed_at quote [] = None
closed_at quote (b ∷ []) = if b == quote then Some ([], 1) else None
closed_at quote (b ∷ c ∷ bytes) =
    if b == quote
    then (if c == quote then or_closed (with_byte quote 2 (closed_at quote bytes)) else Some ([], 1))
    else with_byte b 1 (closed_at quote (c ∷ bytes))

-- a name in quotes
abbrev pub quoted_token : Option (List ℕ × ℕ) → Option (Token × ℕ)
quoted_token None = None
quoted_token (Some found) = Some (Quoted found.0, found.1 + 1)

-- a text in quotes
abbrev pub text_token : Option (List ℕ × ℕ) → Option (Token × ℕ)
text_token None = None
text_token (Some found) = Some (Text found.0, found.1 + 1)

-- the token at the front of the bytes, and how many it takes
unfoldable pub token_at : List ℕ → Option (Token × ℕ)
token_at [] = None
token_at (b ∷ bytes) =
    if is_letter b then word_at (b ∷ bytes)
    else if is_digit b || b == 45 then whole_at (b ∷ bytes)
    else if b == 34 then quoted_token (closed_at 34 bytes)
    else if b == 39 then text_token (closed_at 39 bytes)
    else sign_at (b ∷ bytes)

-- a word that isn't reserved
abbrev pub is_plain : List ℕ → Bool
is_plain name = is_letter (slice_index name 0) && list_all is_word_byte name && not (is_some (reserved_as name))

-- a token that some text has
abbrev pub IsSpelled : Token → Type 0
IsSpelled (Fixed mark) = ⊤
IsSpelled (Word name) = is_plain name ≡ true
IsSpelled (Quoted name) = IsUtf8 name
IsSpelled (Text text) = IsUtf8 text
IsSpelled (Whole None) = ⊤
IsSpelled (Whole (Some value)) = fits_i64 value ≡ true
