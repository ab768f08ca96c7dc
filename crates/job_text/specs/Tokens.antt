-- What a token is, and which one stands at the front of bytes.
-- This project's own.
use Rattle.std.specs.Prelude.{◌≡◌, ◌↔◌, ℕ, ◌≤◌, List, [], ◌∷◌, ◌++◌, length, take, true, Some}
use Rattle.std.specs.List.{list_all}
use Rattle.row_form.specs.Numbers.{number}
use Rattle.job_text.specs.declared.mark.Mark.{Mark}
use Rattle.job_text.specs.declared.token.Token.{Token}
use Rattle.job_text.specs.declared.token.Token.TheVariants.{Fixed, Word, Quoted, Text, Whole}
use Rattle.job_text.specs.Marks.{mark_text}
use Rattle.job_text.specs.Scan.{is_digit, is_plain, token_at}
use Rattle.job_text.specs.Printing.{doubled}

-- one digit or more
pub record AreDigits (bytes : List ℕ) : Type 0 where
  pub some : 1 ≤ length bytes
  pub all : list_all is_digit bytes ≡ true

-- these bytes spell this token
pub data IsToken (bytes : List ℕ) (token : Token) : Type 0 where
  -- a reserved word or a sign
  fixed : (mark : Mark) → bytes ≡ mark_text mark → token ≡ Fixed mark → IsToken bytes token
  -- a word that isn't reserved: a letter or `_`, then letters, digits and `_`
  word : is_plain bytes ≡ true → token ≡ Word bytes → IsToken bytes token
  -- a name in double quotes, with `""` for a quote
  quoted : (name : List ℕ) → bytes ≡ 34 ∷ doubled 34 name ++ 34 ∷ [] → token ≡ Quoted name → IsToken bytes token
  -- a text in single quotes, with `''` for a quote
  text : (content : List ℕ) → bytes ≡ 39 ∷ doubled 39 content ++ 39 ∷ [] → token ≡ Text content → IsToken bytes token
  -- a whole number: digits, and a `-` before them or none
  whole : AreDigits bytes → token ≡ Whole (number bytes) → IsToken bytes token
  below : (digits : List ℕ) → bytes ≡ 45 ∷ digits → AreDigits digits → token ≡ Whole (number bytes) → IsToken bytes token

-- the first n bytes spell this token, and no more of them spell one
pub record IsLongest (bytes : List ℕ) (token : Token) (n : ℕ) : Type 0 where
  pub within : n ≤ length bytes
  pub is : IsToken (take n bytes) token
  pub longest : (more : ℕ) (other : Token) → more ≤ length bytes → IsToken (take more bytes) other → more ≤ n

-- the token that is read at the front is the longest
abbrev pub TakesTheLongest : Type 0
TakesTheLongest = (bytes : List ℕ) (token : Token) (n : ℕ) → (token_at bytes ≡ Some (token, n)) ↔ IsLongest bytes token n
