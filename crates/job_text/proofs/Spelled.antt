-- Lists with signs between the items, as they grow by an item.
use Rattle.std.proofs.Common.{◌≡◌, ◌≢◌, ◌<◌, ◌≤◌, List, [], ◌∷◌, ◌++◌, length, get_or, refl, sym, ap, subst, ◌∙◌, append_assoc, arith}
use Rattle.std.specs.Prelude.{All, map}
use Rattle.std.proofs.lemmas.List.{length-append, length-map, get_or-map, map-append}
use Rattle.std.proofs.lemmas.List.Elements.{All-nil, All-push, All-map}
use Rattle.std.proofs.lemmas.List.Quantifiers.{all_pairs_push}
use Rattle.job_text.specs.declared.mark.Mark.{Mark}
use Rattle.job_text.specs.declared.mark.Mark.TheVariants as marks
use Rattle.job_text.specs.declared.token.Token.{Token}
use Rattle.job_text.specs.declared.token.Token.TheVariants.{Fixed}
use Rattle.job_text.specs.Grammar.{separated, ended_by}
use Rattle.job_text.specs.Jobs.{IsShortList, IsDistinct}

module _ {A : Type 0} (sign : Mark) (tokens : A → List Token) where
  pub ended-push : (items : List A) (item : A) → ended_by sign tokens (items ++ item ∷ []) ≡ ended_by sign tokens items ++ tokens item ++ Fixed sign ∷ []
  ended-push [] item = refl
  ended-push (first ∷ items) item =
      ap (λ (l : List Token). tokens first ++ Fixed sign ∷ l) (ended-push items item ∙ append_assoc (ended_by sign tokens items) (tokens item) (Fixed sign ∷ []))
      ∙ sym (append_assoc (tokens first) (Fixed sign ∷ ended_by sign tokens items) (tokens item ++ Fixed sign ∷ []))
      ∙ sym (append_assoc (tokens first ++ Fixed sign ∷ ended_by sign tokens items) (tokens item) (Fixed sign ∷ []))

  pub separated-last : (items : List A) (item : A) → separated sign tokens (items ++ item ∷ []) ≡ ended_by sign tokens items ++ tokens item
  separated-last [] item = refl
  separated-last (first ∷ []) item = sym (append_assoc (tokens first) (Fixed sign ∷ []) (tokens item))
  separated-last (first ∷ next ∷ items) item =
      ap (λ (l : List Token). tokens first ++ Fixed sign ∷ l) (separated-last (next ∷ items) item)
      ∙ sym (append_assoc (tokens first) (Fixed sign ∷ ended_by sign tokens (next ∷ items)) (tokens item))

  pub separated-ended : (first : A) (items : List A) → separated sign tokens (first ∷ items) ++ Fixed sign ∷ [] ≡ ended_by sign tokens (first ∷ items)
  separated-ended first [] = refl
  separated-ended first (next ∷ items) =
      append_assoc (tokens first) (Fixed sign ∷ separated sign tokens (next ∷ items)) (Fixed sign ∷ [])
      ∙ ap (λ (l : List Token). tokens first ++ Fixed sign ∷ l) (separated-ended next items)

-- ---- what was read of a list with commas

-- items that another may follow behind a comma
pub record IsOpenList {W V X : Type 0} (tokens_of : W → List Token) (meant_by : W → V) (mark_of : W → X) (IsFine : W → Type 0) (items : List V) (ts : List Token) : Type 0 where
  pub written : List W
  pub items_are : items ≡ map meant_by written
  pub tokens_are : ts ≡ ended_by marks.Comma tokens_of written
  pub few : length written < 8
  pub fine : All IsFine written
  pub distinct : IsDistinct (map mark_of written)

-- items, the last without a comma
pub record IsWholeList {W V X : Type 0} (tokens_of : W → List Token) (meant_by : W → V) (mark_of : W → X) (IsFine : W → Type 0) (items : List V) (ts : List Token) : Type 0 where
  pub written : List W
  pub items_are : items ≡ map meant_by written
  pub tokens_are : ts ≡ separated marks.Comma tokens_of written
  pub several : IsShortList written
  pub fine : All IsFine written
  pub distinct : IsDistinct (map mark_of written)

module _ {W V X : Type 0} (tokens_of : W → List Token) (meant_by : W → V) (mark_of : W → X) (IsFine : W → Type 0) where
  pub no_items : IsOpenList tokens_of meant_by mark_of IsFine [] []
  no_items = record { written = []; items_are = refl; tokens_are = refl; few = omega arith; fine = All-nil IsFine; distinct = λ i j d less within. absurd (omega arith) }

  with_comma : (ws : List W) → 1 ≤ length ws → separated marks.Comma tokens_of ws ++ Fixed marks.Comma ∷ [] ≡ ended_by marks.Comma tokens_of ws
  with_comma [] some = absurd (omega arith)
  with_comma (w ∷ ws) some = separated-ended marks.Comma tokens_of w ws

  pub opened : (items : List V) (ts : List Token) → IsWholeList tokens_of meant_by mark_of IsFine items ts → length items < 8 → IsOpenList tokens_of meant_by mark_of IsFine items (ts ++ Fixed marks.Comma ∷ [])
  opened items ts h lt = record {
    written = h.written;
    items_are = h.items_are;
    tokens_are = ap (λ (l : List Token). l ++ Fixed marks.Comma ∷ []) h.tokens_are ∙ with_comma h.written h.several.some;
    few = omega (arith, lt, ap length h.items_are, length-map h.written meant_by);
    fine = h.fine;
    distinct = h.distinct;
  }

  pub added : (items : List V) (ts : List Token) (h : IsOpenList tokens_of meant_by mark_of IsFine items ts) (w : W) → IsFine w → All (λ x. x ≢ mark_of w) (map mark_of h.written)
      → IsWholeList tokens_of meant_by mark_of IsFine (items ++ meant_by w ∷ []) (ts ++ tokens_of w)
  added items ts h w is new = record {
    written = h.written ++ w ∷ [];
    items_are = ap (λ (l : List V). l ++ meant_by w ∷ []) h.items_are ∙ sym (map-append meant_by h.written (w ∷ []));
    tokens_are = ap (λ (l : List Token). l ++ tokens_of w) h.tokens_are ∙ sym (separated-last marks.Comma tokens_of h.written w);
    several = record { some = omega (arith, length-append h.written (w ∷ [])); few = omega (arith, h.few, length-append h.written (w ∷ [])) };
    fine = All-push IsFine h.written w h.fine is;
    distinct = subst IsDistinct (sym (map-append mark_of h.written (w ∷ []))) (all_pairs_push (λ earlier later. earlier ≢ later) (map mark_of h.written) (mark_of w) h.distinct new);
  }

-- what differs by one measure differs by another that the first follows from
pub new_by : {W Y X : Type 0} (f : W → Y) (g : W → X) (w : W) → ((a b : W) → g a ≡ g b → f a ≡ f b) → (ws : List W) → All (λ y. y ≢ f w) (map f ws) → All (λ x. x ≢ g w) (map g ws)
new_by f g w tells ws h = All-map (λ x. x ≢ g w) g ws (λ k d lt. λ same. h k (f d) (omega (arith, lt, length-map ws f)) (get_or-map f ws k d (f d) lt ∙ tells (get_or ws k d) w same))
