-- A text that grows by tokens.
-- This project's own.
use Rattle.std.specs.Prelude.{◌≡◌, Result, IfOk, ℕ, List, [], ◌∷◌, ◌++◌, Bool, false, ◌&&◌, not, if◌then◌else◌}
use Rattle.job_text.specs.declared.token.Token.{Token}
use Rattle.job_text.specs.Printing.{token_text, is_attached, is_opening}

-- the bytes, and whether a blank comes before a token that isn't attached
pub record Sheet : Type 0 where
  pub text : List ℕ
  pub apart : Bool

-- nothing is written
abbrev pub blank_sheet : Sheet
blank_sheet = record { text = []; apart = false }

-- the blank before a token, if there is one
abbrev pub lead : Bool → Bool → List ℕ
lead apart attached = if apart && not attached then 32 ∷ [] else []

-- with one token more
abbrev pub with_token : Sheet → Token → Sheet
with_token sheet token = record {
  text = sheet.text ++ lead sheet.apart (is_attached token) ++ token_text token;
  apart = not (is_opening token);
}

-- with these tokens
unfoldable pub with_tokens : Sheet → List Token → Sheet
with_tokens sheet [] = sheet
with_tokens sheet (token ∷ more) = with_tokens (with_token sheet token) more

-- a call wrote these tokens, unless memory ran out
abbrev pub WritesTokens : {A E : Type 0} → Sheet → Sheet → Result A E → List Token → Type 0
WritesTokens before after result tokens = IfOk result (λ _. after ≡ with_tokens before tokens)
