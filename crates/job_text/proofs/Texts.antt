-- What is printed token by token is the text of the tokens.
use Rattle.std.proofs.Common.{◌≡◌, ℕ, zero, suc, ◌+◌, ◌-◌, ◌<◌, ◌≤◌, Bool, true, false, cond, List, [], ◌∷◌, ◌++◌, length, take, get_or, refl, sym, ap, ◌∙◌, arith, append_assoc}
use Rattle.std.specs.Prelude.{All, map, ◌||◌, not}
use Rattle.std.proofs.lemmas.List.{take_more, get_or-map, length-map}
use Rattle.job_text.specs.declared.mark.Mark.{Mark}
use Rattle.job_text.specs.declared.token.Token.{Token}
use Rattle.job_text.specs.declared.token.Token.TheVariants.{Fixed, Word}
use Rattle.job_text.specs.declared.mark.Mark.TheVariants as marks
use Rattle.job_text.specs.declared.job.Dataset.{Dataset}
use Rattle.job_text.specs.declared.job.KeyItem.{KeyItem}
use Rattle.job_text.specs.Columns.{dataset_names}
use Rattle.job_text.specs.Grammar.{separated, ended_by}
use Rattle.job_text.specs.JobPrinting.{source_token, from_tokens}
use Rattle.job_text.specs.Printing.{sign_before, token_text, is_attached, is_opening, between, tokens_text}
use Rattle.job_text.proofs.Spelled.{ended-push}
use Rattle.job_text.specs.Sheets.{Sheet, blank_sheet, lead, with_token, with_tokens}

pub with_tokens-one : (s : Sheet) (t : Token) → with_tokens s (t ∷ []) ≡ with_token s t
unfolding with_tokens
with_tokens-one s t = refl

pub with_tokens-cons : (s : Sheet) (t : Token) (ts : List Token) → with_tokens s (t ∷ ts) ≡ with_tokens (with_token s t) ts
unfolding with_tokens
with_tokens-cons s t ts = refl

pub with_tokens-nil : (s : Sheet) → with_tokens s [] ≡ s
unfolding with_tokens
with_tokens-nil s = refl

pub with_tokens-append : (ts us : List Token) (s : Sheet) → with_tokens s (ts ++ us) ≡ with_tokens (with_tokens s ts) us
unfolding with_tokens
with_tokens-append [] us s = refl
with_tokens-append (t ∷ ts) us s = with_tokens-append ts us (with_token s t)

-- a sign, tokens, another sign and tokens
pub two_lists : (s : Sheet) (a b : Token) (ts us : List Token) → with_tokens (with_token (with_tokens (with_token s a) ts) b) us ≡ with_tokens s (a ∷ ts ++ b ∷ us)
two_lists s a b ts us = sym (with_tokens-cons s a (ts ++ b ∷ us) ∙ with_tokens-append ts (b ∷ us) (with_token s a) ∙ with_tokens-cons (with_tokens (with_token s a) ts) b us)

pub three_lists : (s : Sheet) (ts us vs : List Token) → with_tokens (with_tokens (with_tokens s ts) us) vs ≡ with_tokens s (ts ++ us ++ vs)
three_lists s ts us vs = sym (with_tokens-append (ts ++ us) vs s ∙ ap (λ (o : Sheet). with_tokens o vs) (with_tokens-append ts us s))

-- ---- items with a sign between them

module _ {A : Type 0} (sign : Mark) (tokens : A → List Token) where
  separated-push : (first : A) (items : List A) (item : A) → separated sign tokens ((first ∷ items) ++ item ∷ []) ≡ separated sign tokens (first ∷ items) ++ Fixed sign ∷ tokens item
  separated-push first [] item = refl
  separated-push first (next ∷ items) item =
      ap (λ (ts : List Token). tokens first ++ Fixed sign ∷ ts) (separated-push next items item)
      ∙ sym (append_assoc (tokens first) (Fixed sign ∷ separated sign tokens (next ∷ items)) (Fixed sign ∷ tokens item))

  separated_more : (done : List A) (item : A) → 0 < length done → separated sign tokens (done ++ item ∷ []) ≡ separated sign tokens done ++ Fixed sign ∷ tokens item
  separated_more [] item some = absurd (omega arith)
  separated_more (first ∷ done) item some = separated-push first done item

  separated_one : (done : List A) (item : A) → length done ≡ 0 → separated sign tokens (done ++ item ∷ []) ≡ tokens item
  separated_one [] item none = refl
  separated_one (first ∷ done) item none = absurd (omega arith)

  length-take_at : (items : List A) (i : ℕ) → i < length items → length (take i items) ≡ i
  length-take_at [] i lt = absurd (omega arith)
  length-take_at (first ∷ items) zero lt = refl
  length-take_at (first ∷ items) (suc i) lt = ap suc (length-take_at items i (omega arith))

  -- an item behind those before it
  pub item_written : (s : Sheet) (items : List A) (i : ℕ) (d : A) → i < length items → with_tokens (with_tokens (with_tokens s (separated sign tokens (take i items))) (sign_before i sign)) (tokens (get_or items i d)) ≡ with_tokens s (separated sign tokens (take (i + 1) items))
  item_written s items i d lt =
      let done = separated sign tokens (take i items) in
      let item = tokens (get_or items i d) in
      ap (λ (o : Sheet). with_tokens o item) (sym (with_tokens-append done (sign_before i sign) s)) ∙ sym (with_tokens-append (done ++ sign_before i sign) item s)
      ∙ ap (with_tokens s) (behind i refl) ∙ ap (λ (l : List A). with_tokens s (separated sign tokens l)) (sym (take_more items i d lt))
    where
      behind : (k : ℕ) → k ≡ i → (separated sign tokens (take i items) ++ sign_before k sign) ++ tokens (get_or items i d) ≡ separated sign tokens (take i items ++ get_or items i d ∷ [])
      behind zero e =
          ap (λ (n : ℕ). (separated sign tokens (take n items) ++ []) ++ tokens (get_or items i d)) (sym e)
          ∙ sym (separated_one (take i items) (get_or items i d) (length-take_at items i lt ∙ sym e))
      behind (suc k) e =
          append_assoc (separated sign tokens (take i items)) (Fixed sign ∷ []) (tokens (get_or items i d))
          ∙ sym (separated_more (take i items) (get_or items i d) (omega (arith, e, length-take_at items i lt)))

  -- an item and the sign behind it
  pub ended_item : (s : Sheet) (items : List A) (i : ℕ) (d : A) → i < length items → with_token (with_tokens (with_tokens s (ended_by sign tokens (take i items))) (tokens (get_or items i d))) (Fixed sign) ≡ with_tokens s (ended_by sign tokens (take (i + 1) items))
  ended_item s items i d lt =
      let done = ended_by sign tokens (take i items) in
      let item = tokens (get_or items i d) in
      sym (with_tokens-one (with_tokens (with_tokens s done) item) (Fixed sign))
      ∙ ap (λ (o : Sheet). with_tokens o (Fixed sign ∷ [])) (sym (with_tokens-append done item s)) ∙ sym (with_tokens-append (done ++ item) (Fixed sign ∷ []) s)
      ∙ ap (with_tokens s) (sym (ended-push sign tokens (take i items) (get_or items i d)))
      ∙ ap (λ (l : List A). with_tokens s (ended_by sign tokens l)) (sym (take_more items i d lt))

-- a dataset's tokens
pub dataset_written : (s : Sheet) (a b c d : Token) (ts us : List Token) → with_tokens (with_tokens (with_tokens (with_token (with_token (with_token s a) b) c) (d ∷ [])) ts) us ≡ with_tokens s (a ∷ b ∷ c ∷ d ∷ (ts ++ us))
unfolding with_tokens
dataset_written s a b c d ts us = sym (with_tokens-append ts us (with_token (with_token (with_token (with_token s a) b) c) d))

pub source_is : (datasets : List Dataset) (number : ℕ) (d : Dataset) → (number ≡ 0 → ⊥) → number ≤ length datasets → Word (get_or datasets (number - 1) d).name ≡ source_token (dataset_names datasets) number
source_is datasets zero d some le = absurd (some refl)
source_is datasets (suc place) d some le =
    let one : suc place - 1 ≡ place = omega arith in
    ap (λ (n : ℕ). Word (get_or datasets n d).name) one ∙ ap (λ (n : List ℕ). Word n) (sym (get_or-map (λ dataset. dataset.name) datasets place d [] (omega (arith, le))))

pub from_is : (datasets : List (List ℕ)) (number : ℕ) → (number ≡ 0 → ⊥) → from_tokens datasets number ≡ Fixed marks.From ∷ source_token datasets number ∷ []
from_is datasets zero some = absurd (some refl)
from_is datasets (suc place) some = refl

-- ---- the sheet's text

led : (o a : Bool) → lead (not o) a ≡ (cond (o || a) [] (32 ∷ []))
led true a = refl
led false true = refl
led false false = refl

pub text_on : (t : Token) (ts : List Token) (s : Sheet) → (with_tokens s (t ∷ ts)).text ≡ s.text ++ lead s.apart (is_attached t) ++ tokens_text (t ∷ ts)
unfolding with_tokens
text_on t [] s = refl
text_on t (u ∷ ts) s =
    let front : List ℕ = s.text ++ lead s.apart (is_attached t) in
    text_on u ts (with_token s t)
    ∙ ap (λ (l : List ℕ). front ++ token_text t ++ l ++ tokens_text (u ∷ ts)) (led (is_opening t) (is_attached u))
    ∙ ap (λ (l : List ℕ). l ++ tokens_text (u ∷ ts)) (append_assoc front (token_text t) (between t u))
    ∙ append_assoc front (token_text t ++ between t u) (tokens_text (u ∷ ts))

pub text_of : (ts : List Token) → (with_tokens blank_sheet ts).text ≡ tokens_text ts
unfolding with_tokens
text_of [] = refl
text_of (t ∷ ts) = text_on t ts blank_sheet

-- ---- keys

pub keys_named : (n : ℕ) (keys : List KeyItem) → All (λ c. c < n) (map (λ key. key.column) keys) → All (λ key. key.column < n) keys
keys_named n keys h = λ k d lt. rw (← get_or-map (λ key. key.column) keys k d 0 lt) (h k 0 (omega (arith, lt, length-map keys (λ key. key.column))))
