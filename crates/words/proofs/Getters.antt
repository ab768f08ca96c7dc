-- What is read of a parse, behind the rows of the defaults.
use Rattle.std.proofs.Common.{◌≡◌, ◌∙◌, ◌||◌, Bool, cond, codes, true, false, not, refl, sym, ap, List, [], ◌∷◌, ◌++◌, Option, Some, None, is_some, length, arith, true≢false}
use Rattle.std.proofs.lemmas.Bool.{eqb-true}
use Rattle.std.specs.List.{find, fold, list_all}
use Rattle.std.specs.Str.{bytes_eq}
use Rattle.clap.specs.Walk.{Row, Rule, default_rows, has_row, more_values, reading_by, is_empty, with_default}
use Rattle.std.specs.Option.{unwrap_or}
use Rattle.clap.proofs.WalkLemmas.{both}
use Rattle.words.specs.Reading.{Text}
use Rattle.clap.specs.declared.parser.matches.ValueSource.TheVariants.{DefaultValue}
use Rattle.words.proofs.Rules.{flag_rule, missing_row}
use Rattle.words.proofs.Strict.{bytes_same}
use Rattle.words.proofs.Grammars.{or_no}

abbrev pub row_named : Text → List Row → Option Row
row_named n = find (λ r. bytes_eq r.id n)

-- the rule gives the id no default
abbrev pub leaves : Text → Rule → Bool
leaves n a = is_empty a.defaults || not (bytes_eq a.id n)

pub has_named : (n : Text) (rows : List Row) → has_row n rows ≡ is_some (row_named n rows)
has_named n [] = refl
has_named n (r ∷ rs) = go (bytes_eq r.id n) (has_named n rs)
  where
    go : (b : Bool) → has_row n rs ≡ is_some (row_named n rs) → (b || has_row n rs) ≡ is_some (cond b (Some r) (row_named n rs))
    go true e = refl
    go false e = e

pub named_after : (n : Text) (rows more : List Row) → row_named n rows ≡ None → row_named n (rows ++ more) ≡ row_named n more
named_after n [] more e = refl
named_after n (r ∷ rs) more e = go (bytes_eq r.id n) (λ t. named_after n rs more t) e
  where
    go : (b : Bool) → (row_named n rs ≡ None → row_named n (rs ++ more) ≡ row_named n more) → cond b (Some r) (row_named n rs) ≡ None
        → cond b (Some r) (row_named n (rs ++ more)) ≡ row_named n more
    go true ih t = absurd (true≢false (ap is_some t))
    go false ih t = ih t

pub named_here : (n : Text) (rows more : List Row) (r : Row) → row_named n rows ≡ Some r → row_named n (rows ++ more) ≡ Some r
named_here n [] more r e = absurd (true≢false (sym (ap is_some e)))
named_here n (x ∷ rs) more r e = go (bytes_eq x.id n) (λ t. named_here n rs more r t) e
  where
    go : (b : Bool) → (row_named n rs ≡ Some r → row_named n (rs ++ more) ≡ Some r) → cond b (Some x) (row_named n rs) ≡ Some r
        → cond b (Some x) (row_named n (rs ++ more)) ≡ Some r
    go true ih t = t
    go false ih t = ih t

-- a row of another id changes nothing
pub named_other : (n : Text) (rows more : List Row) → row_named n more ≡ None → row_named n (rows ++ more) ≡ row_named n rows
named_other n rows more none = go (row_named n rows) refl
  where
    go : (o : Option Row) → row_named n rows ≡ o → row_named n (rows ++ more) ≡ row_named n rows
    go None e = named_after n rows more e ∙ none ∙ sym e
    go (Some r) e = named_here n rows more r e ∙ sym e

abbrev pub default_row : Rule → Text → List Text → Row
default_row a v vs = record {
  id = a.id;
  values = v ∷ vs;
  count = None;
  source = Some DefaultValue;
  reading = reading_by a;
}

-- a default is a row at the end
pub default_added : (rows : List Row) (a : Rule) (v : Text) (vs : List Text) → has_row a.id rows ≡ false → a.defaults ≡ v ∷ vs
    → with_default rows a ≡ rows ++ default_row a v vs ∷ []
default_added rows a v vs none is =
    ap (λ b. cond b rows (default_rows a.id (reading_by a) a.defaults rows)) none
    ∙ ap (λ d. default_rows a.id (reading_by a) d rows) is
    ∙ missing_row a.id (more_values DefaultValue (v ∷ vs)) rows (default_row a v vs ∷ []) none

pub default_leaves : (n : Text) (rows : List Row) (a : Rule) → leaves n a ≡ true → row_named n (with_default rows a) ≡ row_named n rows
default_leaves n rows a e = go (has_row a.id rows) refl a.defaults refl
  where
    other : (v : Text) (vs : List Text) → a.defaults ≡ v ∷ vs → bytes_eq a.id n ≡ false
    other v vs is = not_true (bytes_eq a.id n) (ap (λ d. is_empty d || not (bytes_eq a.id n)) (sym is) ∙ e)
      where
        not_true : (b : Bool) → (is_empty (v ∷ vs) || not b) ≡ true → b ≡ false
        not_true true t =
            let none : length (v ∷ vs) ≡ 0 = eqb-true (length (v ∷ vs)) 0 (sym (or_no (is_empty (v ∷ vs))) ∙ t) in
            absurd (omega arith)
        not_true false t = refl

    go : (b : Bool) → has_row a.id rows ≡ b → (d : List Text) → a.defaults ≡ d → row_named n (with_default rows a) ≡ row_named n rows
    go true t d is = ap (λ b. row_named n (cond b rows (default_rows a.id (reading_by a) a.defaults rows))) t
    go false t [] is =
        ap (λ b. row_named n (cond b rows (default_rows a.id (reading_by a) a.defaults rows))) t
        ∙ ap (λ d. row_named n (default_rows a.id (reading_by a) d rows)) is
    go false t (v ∷ vs) is =
        let miss : bytes_eq a.id n ≡ false = other v vs is in
        ap (row_named n) (default_added rows a v vs t is)
        ∙ named_other n rows (default_row a v vs ∷ []) (ap (λ b. cond b (Some (default_row a v vs)) None) miss)

pub defaults_leave : (n : Text) (rules : List Rule) (rows : List Row) → list_all (leaves n) rules ≡ true → row_named n (fold with_default rows rules) ≡ row_named n rows
defaults_leave n [] rows e = refl
defaults_leave n (a ∷ rest) rows e =
    let parts = both _ _ e in
    defaults_leave n rest (with_default rows a) parts.1 ∙ default_leaves n rows a parts.0

-- the row of a flag, where no other rule gives it one
pub flag_named : (n : Text) (rows : List Row)
    → row_named n (with_default rows (flag_rule n)) ≡ Some (unwrap_or (row_named n rows) (default_row (flag_rule n) (codes "false") []))
flag_named n rows = go (row_named n rows) refl
  where
    go : (o : Option Row) → row_named n rows ≡ o → row_named n (with_default rows (flag_rule n)) ≡ Some (unwrap_or (row_named n rows) (default_row (flag_rule n) (codes "false") []))
    go None e =
        let none : has_row n rows ≡ false = has_named n rows ∙ ap is_some e in
        let here = bytes_same n in
        ap (row_named n) (default_added rows (flag_rule n) (codes "false") [] none refl)
        ∙ named_after n rows _ e ∙ ap (λ b. cond b (Some (default_row (flag_rule n) (codes "false") [])) None) here
        ∙ ap (λ o. Some (unwrap_or o (default_row (flag_rule n) (codes "false") []))) (sym e)
    go (Some r) e =
        let some : has_row n rows ≡ true = has_named n rows ∙ ap is_some e in
        ap (λ b. row_named n (cond b rows (default_rows n (reading_by (flag_rule n)) (flag_rule n).defaults rows))) some
        ∙ e ∙ ap (λ o. Some (unwrap_or o (default_row (flag_rule n) (codes "false") []))) (sym e)
