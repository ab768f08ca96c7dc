-- The rules of a grammar are found by its names, and its defaults pass.
use Rattle.std.proofs.Common.{◌≡◌, ◌∙◌, ◌+◌, ◌&&◌, ◌||◌, ℕ, Bool, cond, true, false, not, refl, sym, ap, List, [], ◌∷◌, ◌++◌, map, min, Some, None, is_some, length, arith, true≢false}
use Rattle.std.proofs.lemmas.Bool.{eqb-true}
use Rattle.std.specs.List.{find, list_all}
use Rattle.std.specs.Str.{bytes_eq}
use Rattle.std.proofs.lemmas.Slice.Eq.{bytes_eq-Decides}
use Rattle.clap.specs.Lexer.{usize_max}
use Rattle.clap.specs.Walk.{Row, Rule, arg_by_id, arg_by_long, has_long, has_row, is_empty, with_default}
use Rattle.clap.specs.Kinds.{or_else}
use Rattle.clap.specs.Faults.{default_fault, defaults_fault, given_default_fault}
use Rattle.clap.proofs.WalkLemmas.{both}
use Rattle.words.specs.Reading.{Grammar, Kind, Text, valued, bare, unknown, contains_text, word_kind_in}
use Rattle.words.proofs.Rules.{flag_rule, option_rule, place_rule, rule_for}

abbrev pub place_rules : ℕ → List Text → List Rule
place_rules i [] = []
place_rules i (p ∷ ps) = place_rule i p ∷ place_rules (min (i + 1) usize_max) ps

abbrev pub rules_for : Grammar → List Rule
rules_for g = map option_rule g.options ++ (map flag_rule g.flags ++ place_rules 1 g.places)

pub by_long : Text → Rule → Bool
by_long name a = not (is_some a.index) && has_long a name

pub same_text : (x y : Text) → bytes_eq x y ≡ true → x ≡ y
same_text x y e = (bytes_eq-Decides x y).0 e

-- a search through named rules stops at the rule of the name
pub named_found : (f : Text → Rule) (test : Rule → Bool) (n : Text) (each : (o : Text) → test (f o) ≡ bytes_eq o n) (names : List Text) (rest : List Rule)
    → find test (map f names ++ rest) ≡ cond (contains_text names n) (Some (f n)) (find test rest)
named_found f test n each [] rest = refl
named_found f test n each (o ∷ os) rest = go (bytes_eq o n) refl (named_found f test n each os rest)
  where
    go : (b : Bool) → bytes_eq o n ≡ b → find test (map f os ++ rest) ≡ cond (contains_text os n) (Some (f n)) (find test rest)
        → cond (test (f o)) (Some (f o)) (find test (map f os ++ rest)) ≡ cond (bytes_eq o n || contains_text os n) (Some (f n)) (find test rest)
    go true e ih = rw (each o, e) (ap (λ x. Some (f x)) (same_text o n e))
    go false e ih = rw (each o, e) ih

pub no_places : (n : Text) (i : ℕ) (ps : List Text) → find (λ a. not (is_some a.index) && has_long a n) (place_rules i ps) ≡ None
no_places n i [] = refl
no_places n i (p ∷ ps) = no_places n (min (i + 1) usize_max) ps

pub or_no : (b : Bool) → (b || false) ≡ b
or_no true = refl
or_no false = refl

pub knows_long : (g : Grammar) (n : Text) → arg_by_long (rules_for g) n ≡ rule_for (word_kind_in g n) n
knows_long g n =
    let later = map flag_rule g.flags ++ place_rules 1 g.places in
    named_found option_rule (λ a. not (is_some a.index) && has_long a n) n (λ o. or_no (bytes_eq o n)) g.options later
    ∙ ap (λ r. cond (contains_text g.options n) (Some (option_rule n)) r)
    (named_found flag_rule (λ a. not (is_some a.index) && has_long a n) n (λ o. or_no (bytes_eq o n)) g.flags (place_rules 1 g.places)
    ∙ ap (λ r. cond (contains_text g.flags n) (Some (flag_rule n)) r) (no_places n 1 g.places))
    ∙ go (contains_text g.options n) (contains_text g.flags n)
  where
    go : (a b : Bool) → cond a (Some (option_rule n)) (cond b (Some (flag_rule n)) None) ≡ rule_for (cond a valued (cond b bare unknown)) n
    go true b = refl
    go false true = refl
    go false false = refl

pub is_option : (g : Grammar) (n : Text) → word_kind_in g n ≡ valued → contains_text g.options n ≡ true
is_option g n e = go (contains_text g.options n) (contains_text g.flags n) e
  where
    is_valued : Kind → Bool
    is_valued valued = true
    is_valued _ = false

    go : (a b : Bool) → cond a valued (cond b bare unknown) ≡ valued → a ≡ true
    go true b k = refl
    go false true k = absurd (true≢false (sym (ap is_valued k)))
    go false false k = absurd (true≢false (sym (ap is_valued k)))

pub knows_id : (g : Grammar) (n : Text) → word_kind_in g n ≡ valued → arg_by_id (rules_for g) n ≡ Some (option_rule n)
knows_id g n e =
    named_found option_rule (λ a. bytes_eq a.id n) n (λ o. refl) g.options (map flag_rule g.flags ++ place_rules 1 g.places)
    ∙ ap (λ b. cond b (Some (option_rule n)) (arg_by_id (map flag_rule g.flags ++ place_rules 1 g.places) n)) (is_option g n e)

-- ---- defaults

pub default_passes : (rows : List Row) (a : Rule) → given_default_fault a a.defaults ≡ [] → default_fault rows a ≡ []
default_passes rows a e = go (has_row a.id rows || is_empty a.defaults)
  where
    go : (b : Bool) → cond b [] (given_default_fault a a.defaults) ≡ []
    go true = refl
    go false = e

pub empty_is : {X : Type 0} (xs : List X) → is_empty xs ≡ true → xs ≡ []
empty_is [] e = refl
empty_is (x ∷ xs) e = let none : length (x ∷ xs) ≡ 0 = eqb-true (length (x ∷ xs)) 0 e in absurd (omega arith)

pub defaults_pass : (rules : List Rule) (rows : List Row) → list_all (λ a. is_empty (given_default_fault a a.defaults)) rules ≡ true → defaults_fault rows rules ≡ []
unfolding defaults_fault
defaults_pass [] rows e = refl
defaults_pass (a ∷ rest) rows e =
    let parts = both _ _ e in
    ap (λ k. or_else k (defaults_fault (with_default rows a) rest)) (default_passes rows a (empty_is _ parts.0)) ∙ defaults_pass rest (with_default rows a) parts.1
