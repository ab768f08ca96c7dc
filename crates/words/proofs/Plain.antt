-- From the contract of a parse to the definition, for the words of any program.
use Rattle.std.proofs.Common.{◌≡◌, ◌≢◌, ◌∙◌, ℕ, true, false, refl, sym, ap, ap₂, subst, List, [], ◌∷◌, drop, Option, Some, None, option_map, IfErr, IsErrAnd, Result, Ok, Err}
use Rattle.std.specs.Prelude.{option_and_then, slice_get}
use Rattle.std.specs.List.{find, fold, list_all}
use Rattle.std.specs.Str.{bytes_eq}
use Rattle.clap.specs.Walk.{Row, arg_by_short, is_empty, rows_of, with_default}
use Rattle.clap.specs.Simple.{argument_words, built}
use Rattle.clap.specs.Kinds.{or_else}
use Rattle.clap.specs.Faults.{check_fault, fault_of, given_default_fault}
use Rattle.clap.specs.Matches.{first_value}
use Rattle.clap.specs.declared.parser.matches.Found.{Found}
use Rattle.clap.proofs.WalkLemmas.{find-map, first_value-rows}
use Rattle.words.specs.Reading.{Grammar, Text, Use, given, value_of}
use Rattle.words.specs.Commands.{Parses, app_for}
use Rattle.words.specs.Texts.{AreTexts}
use Rattle.words.proofs.Rules.{HasPlaces, Knows, plain_shape, row_for, rows_for}
use Rattle.words.proofs.Grammars.{defaults_pass, knows_id, knows_long, rules_for}
use Rattle.words.proofs.Getters.{defaults_leave, leaves, row_named}
use Rattle.words.proofs.Parses.{Reads, reads_words, strictly}
use Rattle.words.proofs.Literal.{Bad, comes_to}

-- `?` passes the error on
pub passed_on : {T E : Type 0} (r : Result T E) (e : E) (P : E → Type 0) → IsErrAnd r (λ y. y ≡ e) → P e → IfErr r P
passed_on (Ok x) e P is h = tt
passed_on (Err y) e P is h = subst P (sym is) h

-- the command of a program has the rules of its grammar, and nothing else
pub record Plain (name : Text) (g : Grammar) : Type 0 where
  pub knows : Knows (rules_for g) g
  pub made : built (app_for name g) ≡ record { top = plain_shape name (rules_for g); subs = [] }
  pub behind : (words : List Text) → argument_words (app_for name g) words ≡ drop 1 words

pub plain_of : (name : Text) (g : Grammar) → ((c : ℕ) → arg_by_short (rules_for g) c ≡ None) → HasPlaces (rules_for g) 1 g.places
    → list_all (λ a. is_empty (given_default_fault a a.defaults)) (rules_for g) ≡ true
    → ((n : Text) (rows : List Row) → check_fault (plain_shape n (rules_for g)) (fold with_default rows (rules_for g)) false ≡ [])
    → built (app_for name g) ≡ record { top = plain_shape name (rules_for g); subs = [] }
    → ((words : List Text) → argument_words (app_for name g) words ≡ drop 1 words) → Plain name g
plain_of name g short places defaults checks made behind = record {
  knows = record {
    long = knows_long g;
    id = knows_id g;
    short = short;
    places = places;
    ends = λ n rows. ap₂ or_else (defaults_pass (rules_for g) rows defaults) (checks n rows);
  };
  made = made;
  behind = behind;
}

texts_behind : (words : List Text) → AreTexts words → AreTexts (drop 1 words)
texts_behind [] u = tt
texts_behind (x ∷ rest) u = u.1

first_is : (g : Grammar) (n : Text) (us : List Use) (f : Found) → rows_of f ≡ fold with_default (rows_for us) (rules_for g) → list_all (leaves n) (rules_for g) ≡ true
    → first_value f n ≡ value_of n us
first_is g n us f rows keeps =
    let found : row_named n (rows_of f) ≡ option_map row_for (find (λ u. bytes_eq u.name n) us) =
    ap (row_named n) rows ∙ defaults_leave n (rules_for g) (rows_for us) keeps ∙ sym (find-map (λ r. bytes_eq r.id n) row_for us) in
    first_value-rows f n ∙ ap (option_and_then (λ (r : Row). slice_get r.values 0)) found ∙ go (find (λ u. bytes_eq u.name n) us)
  where
    go : (o : Option Use) → option_and_then (λ (r : Row). slice_get r.values 0) (option_map row_for o) ≡ option_map (λ (u : Use). u.value) o
    go None = refl
    go (Some u) = refl

-- no value that begins with `-` comes to a reading, of whatever option
abbrev pub Refuses : {X : Type 0} → Grammar → (List Use → Option X) → Type 0
Refuses g f = (r : List Use) (u : Use) → Bad g u → find (λ v. bytes_eq v.name u.name) r ≡ Some u → f r ≡ None

-- what a parse without a fault found: the uses of the words, and each name's value
pub record Taken {X : Type 0} (g : Grammar) (f : List Use → Option X) (words : List Text) (found : Found) : Type 0 where
  pub uses : List Use
  pub strictly : strictly g words ≡ Some uses
  pub reads : option_and_then f (given g words) ≡ f uses
  pub look : (n : Text) → list_all (leaves n) (rules_for g) ≡ true → first_value found n ≡ value_of n uses
  pub rows : rows_of found ≡ fold with_default (rows_for uses) (rules_for g)

-- where no flag gives a name a default, all lookups agree
pub looks_alike : {X : Type 0} {g : Grammar} {f : List Use → Option X} {words : List Text} {found : Found} (t : Taken g f words found)
    → ((n : Text) → list_all (leaves n) (rules_for g) ≡ true) → (λ (n : Text). value_of n t.uses) ≡ first_value found
looks_alike t free = λ i n. sym (t.look n (free n)) i

module _ {X : Type 0} (name : Text) (g : Grammar) (plain : Plain name g) (f : List Use → Option X) (refuses : Refuses g f) where
  parse : (words : List Text) → AreTexts words → Reads g (rules_for g) (app_for name g) words
  parse words u = reads_words name g (rules_for g) plain.knows (app_for name g) words plain.made (plain.behind words) (texts_behind words u)

  pub refused : (words : List Text) → AreTexts words → fault_of (app_for name g) words ≢ [] → option_and_then f (given g (drop 1 words)) ≡ None
  refused words u some = comes_to g (drop 1 words) f refuses ∙ ap (option_and_then f) ((parse words u).bad some)

  pub taken : (words : List Text) → AreTexts words → (found : Found) → Parses (app_for name g) words found → Taken g f (drop 1 words) found
  taken words u found h =
      let (us, said, matches) = (parse words u).ok h.0 in
      let rows = h.1 ∙ matches in
      record {
        uses = us;
        strictly = said;
        reads = comes_to g (drop 1 words) f refuses ∙ ap (option_and_then f) said;
        look = λ n keeps. first_is g n us found rows keeps;
        rows = rows;
      }
