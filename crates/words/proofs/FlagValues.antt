-- What a parse has for a flag: `true` where words give it, and else the default, `false`.
use Rattle.std.proofs.Common.{◌≡◌, ◌∙◌, ◌||◌, Bool, cond, codes, true, false, not, refl, sym, ap, subst, List, [], ◌∷◌, ◌++◌, Option, Some, None, option_map, is_some, true≢false}
use Rattle.std.specs.Prelude.{option_and_then}
use Rattle.std.specs.List.{find, fold, list_all}
use Rattle.std.specs.Option.{option_map_or, unwrap_or}
use Rattle.std.specs.Str.{bytes_eq}
use Rattle.clap.specs.Walk.{Row, Rule, row_text, with_default}
use Rattle.clap.specs.Matches.{first_value, one_text}
use Rattle.clap.specs.declared.parser.matches.Found.{Found}
use Rattle.clap.proofs.WalkLemmas.{find-map, one_text-rows}
use Rattle.words.specs.Reading.{Grammar, Text, Use, bare, collect, word_kind_in, value_of}
use Rattle.words.specs.Commands.{with_flag}
use Rattle.words.proofs.Rules.{flag_rule, row_for, rows_for}
use Rattle.words.proofs.Strict.{strict}
use Rattle.words.proofs.Grammars.{rules_for, same_text}
use Rattle.words.proofs.Getters.{default_row, defaults_leave, flag_named, leaves, row_named}
use Rattle.words.proofs.Parses.{strictly}
use Rattle.words.proofs.Literal.{collect_is}
use Rattle.words.proofs.Flags.{AllSet, NamesNoFlag, all_set, found_set, is_bare, is_set}
use Rattle.words.proofs.Plain.{Taken}

-- a fold over two lists, one behind the other
fold_both : (rows : List Row) (before after : List Rule) → fold with_default rows (before ++ after) ≡ fold with_default (fold with_default rows before) after
fold_both rows [] after = refl
fold_both rows (a ∷ before) after = fold_both (with_default rows a) before after

-- the row of a flag behind all defaults, where no other rule gives it one
pub flag_row : (n : Text) (rows : List Row) (before after : List Rule) → list_all (leaves n) before ≡ true → list_all (leaves n) after ≡ true
    → row_named n (fold with_default rows (before ++ flag_rule n ∷ after)) ≡ Some (unwrap_or (row_named n rows) (default_row (flag_rule n) (codes "false") []))
flag_row n rows before after free_before free_after =
    let at_flag = fold with_default rows before in
    ap (row_named n) (fold_both rows before (flag_rule n ∷ after))
    ∙ defaults_leave n after (with_default at_flag (flag_rule n)) free_after
    ∙ flag_named n at_flag
    ∙ ap (λ o. Some (unwrap_or o (default_row (flag_rule n) (codes "false") []))) (defaults_leave n before rows free_before)

found_named : (uses : List Use) (n : Text) (u : Use) → find (λ v. bytes_eq v.name n) uses ≡ Some u → bytes_eq u.name n ≡ true
found_named [] n u e = absurd (true≢false (sym (ap is_some e)))
found_named (x ∷ us) n u e = go (bytes_eq x.name n) refl e (λ t. found_named us n u t)
  where
    go : (b : Bool) → bytes_eq x.name n ≡ b → cond b (Some x) (find (λ v. bytes_eq v.name n) us) ≡ Some u → (find (λ v. bytes_eq v.name n) us ≡ Some u → bytes_eq u.name n ≡ true) → bytes_eq u.name n ≡ true
    go true here t ih = subst (λ (v : Use). bytes_eq v.name n ≡ true) (ap (λ o. unwrap_or o x) t) here
    go false here t ih = ih t

module _ (g : Grammar) where
  -- each flag that words give has the value `true`
  pub uses_set : (words : List Text) (uses : List Use) → NamesNoFlag g g.places → strictly g words ≡ Some uses → list_all (is_set g) uses ≡ true
  uses_set words uses free said = go (strict g words g.places None) (all_set g words g.places None free tt) said
    where
      go : (o : Option (List Use)) → AllSet g o → option_and_then (collect []) o ≡ Some uses → list_all (is_set g) uses ≡ true
      go None h e = absurd (cc e)
      go (Some us) h e = ap (list_all (is_set g)) (collect_is us [] uses e) ∙ h

  -- the value of a flag that words give
  pub given_true : (uses : List Use) (n : Text) (u : Use) → word_kind_in g n ≡ bare → list_all (is_set g) uses ≡ true → find (λ v. bytes_eq v.name n) uses ≡ Some u
      → u.value ≡ codes "true"
  given_true uses n u flag set found =
      let named : u.name ≡ n = same_text u.name n (found_named uses n u found) in
      same_text u.value (codes "true") (ap (λ k. not (is_bare k) || bytes_eq u.value (codes "true")) (sym (ap (word_kind_in g) named ∙ flag)) ∙ found_set g uses n u set found)

  -- the row of a flag behind all defaults
  flag_found : (uses : List Use) (n : Text) (before after : List Rule) → rules_for g ≡ before ++ flag_rule n ∷ after → list_all (leaves n) before ≡ true
      → list_all (leaves n) after ≡ true
      → row_named n (fold with_default (rows_for uses) (rules_for g)) ≡ Some (option_map_or row_for (find (λ u. bytes_eq u.name n) uses) (default_row (flag_rule n) (codes "false") []))
  flag_found uses n before after rules free_before free_after =
      ap (λ rs. row_named n (fold with_default (rows_for uses) rs)) rules
      ∙ flag_row n (rows_for uses) before after free_before free_after
      ∙ ap (λ o. Some (unwrap_or o (default_row (flag_rule n) (codes "false") []))) (sym (find-map (λ r. bytes_eq r.id n) row_for uses))
      ∙ go (find (λ u. bytes_eq u.name n) uses)
    where
      go : (o : Option Use) → Some (unwrap_or (option_map row_for o) (default_row (flag_rule n) (codes "false") []))
          ≡ Some (option_map_or row_for o (default_row (flag_rule n) (codes "false") []))
      go None = refl
      go (Some u) = refl

-- what the parse answers for a flag, by its text
abbrev pub AnswersFlag : Found → Text → Bool → Type 0
AnswersFlag found n given = (one_text found n ≡ Some (codes "true") → given ≡ true) × (one_text found n ≡ Some (codes "false") → given ≡ false)

module _ {X : Type 0} {g : Grammar} {f : List Use → Option X} {words : List Text} {found : Found} (t : Taken g f words found) (n : Text) where
  pub flag_value : (given : Bool) (before after : List Rule) → word_kind_in g n ≡ bare → NamesNoFlag g g.places → rules_for g ≡ before ++ flag_rule n ∷ after
      → list_all (leaves n) before ≡ true → list_all (leaves n) after ≡ true → AnswersFlag found n given
      → value_of n t.uses ≡ cond given (Some (codes "true")) None
  flag_value given before after flag free rules free_before free_after answers = go (find (λ u. bytes_eq u.name n) t.uses) refl
    where
      text : one_text found n ≡ row_text (option_map_or row_for (find (λ u. bytes_eq u.name n) t.uses) (default_row (flag_rule n) (codes "false") []))
      text =
          one_text-rows found n
          ∙ ap (λ rows. option_and_then row_text (row_named n rows)) t.rows
          ∙ ap (option_and_then row_text) (flag_found g t.uses n before after rules free_before free_after)

      go : (o : Option Use) → find (λ u. bytes_eq u.name n) t.uses ≡ o → option_map (λ (u : Use). u.value) (find (λ u. bytes_eq u.name n) t.uses) ≡ cond given (Some (codes "true")) None
      go None e =
          let no : given ≡ false = answers.1 (text ∙ ap (λ o. row_text (option_map_or row_for o (default_row (flag_rule n) (codes "false") []))) e) in
          ap (option_map (λ (u : Use). u.value)) e ∙ ap (λ b. cond b (Some (codes "true")) None) (sym no)
      go (Some u) e =
          let value : u.value ≡ codes "true" = given_true g t.uses n u flag (uses_set g words t.uses free t.strictly) e in
          let yes : given ≡ true =
          answers.0 (text ∙ ap (λ o. row_text (option_map_or row_for o (default_row (flag_rule n) (codes "false") []))) e ∙ ap Some value) in
          ap (option_map (λ (u : Use). u.value)) e ∙ ap Some value ∙ ap (λ b. cond b (Some (codes "true")) None) (sym yes)

  -- where no other flag gives a name a default, all lookups agree
  pub flag_alike : (given : Bool) → value_of n t.uses ≡ cond given (Some (codes "true")) None → ((m : Text) → bytes_eq n m ≡ false → list_all (leaves m) (rules_for g) ≡ true)
      → (λ (m : Text). value_of m t.uses) ≡ with_flag n given (first_value found)
  flag_alike given value free = λ i m. each m i
    where
      by : (m : Text) (b : Bool) → bytes_eq n m ≡ b → value_of m t.uses ≡ cond b (cond given (Some (codes "true")) None) (first_value found m)
      by m true e = ap (λ x. value_of x t.uses) (sym (same_text n m e)) ∙ value
      by m false e = sym (t.look m (free m e))

      each : (m : Text) → value_of m t.uses ≡ with_flag n given (first_value found) m
      each m = by m (bytes_eq n m) refl
