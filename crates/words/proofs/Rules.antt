-- The rules of a plain command, the rows that uses come to, and what comes of a walk.
use Rattle.std.proofs.Common.{◌≡◌, ◌∙◌, ◌+◌, ◌||◌, ℕ, Bool, true, false, refl, sym, ap, List, [], ◌∷◌, ◌++◌, map, min, Option, Some, None, true≢false, append-nil}
use Rattle.std.proofs.lemmas.List.{map-append}
use Rattle.std.specs.List.{fold}
use Rattle.std.specs.Str.{bytes_eq}
use Rattle.clap.specs.Lexer.{usize_max}
use Rattle.clap.specs.Walk.{Row, Rule, arg_by_id, arg_by_index, arg_by_long, arg_by_short, at_row, has_row, more_values, with_default, without, with_values}
use Rattle.clap.specs.Simple.{Shape, filled, marked_built, new_rule, new_shape, with_index}
use Rattle.clap.specs.Kinds.{Kinds, or_else}
use Rattle.clap.specs.Faults.{check_fault, defaults_fault}
use Rattle.clap.specs.declared.builder.action.ArgAction.TheVariants.{Set, SetTrue}
use Rattle.clap.specs.declared.builder.value_parser.Reading.TheVariants.{AsWritten}
use Rattle.clap.specs.declared.parser.matches.ValueSource.TheVariants.{CommandLine}
use Rattle.words.specs.Reading.{Grammar, Kind, Text, Use, valued, bare, unknown, use_of, word_kind_in, has_use}

-- ---- the rules of a plain command

abbrev pub option_rule : Text → Rule
option_rule n = filled (record (new_rule n) { long = Some n; action = Some Set })

abbrev pub flag_rule : Text → Rule
flag_rule n = filled (record (new_rule n) { long = Some n; action = Some SetTrue })

abbrev pub place_rule : ℕ → Text → Rule
place_rule i n = with_index i (filled (new_rule n))

abbrev pub rule_for : Kind → Text → Option Rule
rule_for valued n = Some (option_rule n)
rule_for bare n = Some (flag_rule n)
rule_for unknown n = None

abbrev pub plain_shape : Text → List Rule → Shape
plain_shape name rules = record (marked_built (new_shape name)) {
  rules = rules;
  disable_help_flag = true;
  disable_help_subcommand = true;
}

-- the positionals from the i-th on
abbrev pub HasPlaces : List Rule → ℕ → List Text → Type 0
HasPlaces rules i [] = arg_by_index rules i ≡ None
HasPlaces rules i (p ∷ ps) = (arg_by_index rules i ≡ Some (place_rule i p))
    × (arg_by_id rules p ≡ Some (place_rule i p)) × HasPlaces rules (min (i + 1) usize_max) ps

pub record Knows (rules : List Rule) (g : Grammar) : Type 0 where
  pub long : (n : Text) → arg_by_long rules n ≡ rule_for (word_kind_in g n) n
  pub id : (n : Text) → word_kind_in g n ≡ valued → arg_by_id rules n ≡ Some (option_rule n)
  pub short : (c : ℕ) → arg_by_short rules c ≡ None
  pub places : HasPlaces rules 1 g.places
  pub ends : (name : Text) (rows : List Row)
      → or_else (defaults_fault rows rules) (check_fault (plain_shape name rules) (fold with_default rows rules) false) ≡ []

-- a grammar with its rules, for the command of a program
pub record Reader : Type 0 where
  pub rules : List Rule
  pub grammar : Grammar
  pub knows : Knows rules grammar
  pub name : Text

-- ---- rows and uses

abbrev pub row_for : Use → Row
row_for u = record {
  id = u.name;
  values = u.value ∷ [];
  count = None;
  source = Some CommandLine;
  reading = AsWritten;
}

abbrev pub rows_for : List Use → List Row
rows_for = map row_for

pub has_rows : (n : Text) (us : List Use) → has_row n (rows_for us) ≡ has_use n us
has_rows n [] = refl
has_rows n (u ∷ us) = ap (λ b. bytes_eq u.name n || b) (has_rows n us)

pub or_parts : (a b : Bool) → (a || b) ≡ false → (a ≡ false) × (b ≡ false)
or_parts true b e = absurd (true≢false e)
or_parts false b e = (refl, e)

pub missing_row : (id : Text) (change : Row → List Row) (rows new : List Row) → has_row id rows ≡ false → at_row id change new rows ≡ rows ++ new
missing_row id change [] new e = refl
missing_row id change (r ∷ rs) new e =
    let parts = or_parts (bytes_eq r.id id) (has_row id rs) e in
    let tail = missing_row id change rs new parts.1 in
    let miss : bytes_eq r.id id ≡ false = parts.0 in
    rw miss (ap (λ x. r ∷ x) tail)

-- a first use of a name adds a row
pub used_new : (n v : Text) (before : List Use) → has_use n before ≡ false
    → with_values n AsWritten CommandLine (v ∷ []) (without n (rows_for before)) ≡ rows_for (before ++ use_of n v ∷ [])
used_new n v before new =
    let none : has_row n (rows_for before) ≡ false = has_rows n before ∙ new in
    let kept : without n (rows_for before) ≡ rows_for before = missing_row n (λ _. []) (rows_for before) [] none ∙ append-nil (rows_for before) in
    ap (with_values n AsWritten CommandLine (v ∷ [])) kept
    ∙ missing_row n (more_values CommandLine (v ∷ [])) (rows_for before) (rows_for (use_of n v ∷ [])) none ∙ sym (map-append row_for before (use_of n v ∷ []))

-- ---- what comes of a walk

abbrev pub outcome : Kinds → List Row → Option (List Row)
outcome [] rows = Some rows
outcome (k ∷ ks) rows = None

abbrev pub IsFault : Kinds → Type 0
IsFault [] = ⊥
IsFault (k ∷ ks) = Unit {0}

pub fault_none : (a b : Kinds) (rows : List Row) → IsFault a → outcome (or_else a b) rows ≡ None
fault_none [] b rows h = absurd h
fault_none (k ∷ ks) b rows h = refl

pub fault_first : (a b : Kinds) → IsFault a → IsFault (or_else a b)
fault_first [] b h = absurd h
fault_first (k ∷ ks) b h = h
