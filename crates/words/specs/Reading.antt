-- What words say, for a program with long options, flags and positional words.
-- This project's own, after the conventions of GNU's long options.
use Rattle.std.specs.Prelude.{ℕ, ◌==◌, Bool, List, [], ◌∷◌, ◌++◌, Option, Some, None}
use Rattle.std.specs.Prelude.{if◌then◌else◌, codes, find, option_map, option_and_then}
use Rattle.std.specs.List.{list_any, before_first, after_first}
use Rattle.std.specs.Str.{bytes_eq}

-- a word or a name, as its bytes
abbrev pub Text : Type 0
Text = List ℕ

-- the options that take a value, the flags that take none, and the names of the positional words in their order
pub record Grammar : Type 0 where
  pub options : List Text
  pub flags : List Text
  pub places : List Text

-- the value that words give to a name
pub record Use : Type 0 where
  pub name : Text
  pub value : Text

-- a name with its value
abbrev pub use_of : Text → Text → Use
use_of name value = record { name = name; value = value }

-- how a name stands in a grammar: it takes a value, it takes none, or it isn't there
pub data Kind : Type 0 where
  valued : Kind
  bare : Kind
  unknown : Kind

-- whether a name is one of these
abbrev pub contains_text : List Text → Text → Bool
contains_text names name = list_any (λ n. bytes_eq n name) names

-- how a name stands in this grammar
abbrev pub word_kind_in : Grammar → Text → Kind
word_kind_in g name = if contains_text g.options name then valued else (if contains_text g.flags name then bare else unknown)

-- what a word looks like: `--`; `--name` or `--name=value`; another that begins with `-` and isn't `-`; any other
pub data Word : Type 0 where
  dashes : Word
  named : Text → Option Text → Word
  refused : Word
  plain : Word

-- what is behind the first `=`, which is 61, if there is one
abbrev pub after_equals : Text → Option Text
after_equals text = if list_any (λ x. x == 61) text then Some (after_first (λ x. x == 61) text) else None

-- a word that begins with two dashes, by what is behind them
abbrev pub after_two_dashes : Text → Word
after_two_dashes [] = dashes
after_two_dashes (x ∷ rest) = named (before_first (λ x. x == 61) (x ∷ rest)) (after_equals (x ∷ rest))

-- a word that begins with a dash, which is 45, by what is behind it
abbrev pub after_dash : Text → Word
after_dash [] = plain
after_dash (x ∷ rest) = if x == 45 then after_two_dashes rest else refused

-- what a word looks like, by its first bytes
abbrev pub word_of : Text → Word
word_of [] = plain
word_of (x ∷ rest) = if x == 45 then after_dash rest else plain

-- one more use, before those of the later words
abbrev pub with_use : Use → Option (List Use) → Option (List Use)
with_use u = option_map (λ us. u ∷ us)

-- the word is the next positional one, if there is one more
abbrev pub with_place : List Text → Text → (List Text → Option (List Use)) → Option (List Use)
with_place [] word rest = None
with_place (place ∷ places) word rest = with_use (use_of place word) (rest places)

-- words behind `--`: all are positional
abbrev pub read_places : List Text → List Text → Option (List Use)
read_places [] places = Some []
read_places (word ∷ rest) places = with_place places word (read_places rest)

-- an option takes what is behind `=`, or the next word
abbrev pub valued_use : Text → Option Text → (Option Text → Option (List Use)) → Option (List Use)
valued_use name (Some value) rest = with_use (use_of name value) (rest None)
valued_use name None rest = rest (Some name)

-- a flag takes nothing, and its value is `true`
abbrev pub bare_use : Text → Option Text → (Option Text → Option (List Use)) → Option (List Use)
bare_use name (Some value) rest = None
bare_use name None rest = with_use (use_of name (codes "true")) (rest None)

-- `--name` or `--name=value`, where the name stands so in the grammar
abbrev pub named_use : Kind → Text → Option Text → (Option Text → Option (List Use)) → Option (List Use)
named_use valued name value rest = valued_use name value rest
named_use bare name value rest = bare_use name value rest
named_use unknown name value rest = None

-- a word where no option waits for a value; `rest` reads the later words, and `behind` has them all as positional ones
abbrev pub read_word : Grammar → Word → Text → List Text → Option (List Use)
    → (List Text → Option Text → Option (List Use)) → Option (List Use)
read_word g dashes word places behind rest = behind
read_word g (named name value) word places behind rest = named_use (word_kind_in g name) name value (rest places)
read_word g refused word places behind rest = None
read_word g plain word places behind rest = with_place places word (λ left. rest left None)

-- what words give, from the left, with these places to come; the option that waits, if one does, takes the next word
unfoldable pub read : Grammar → List Text → List Text → Option Text → Option (List Use)
read g [] places None = Some []
read g [] places (Some name) = None
read g (word ∷ rest) places (Some name) = with_use (use_of name word) (read g rest places None)
read g (word ∷ rest) places None = read_word g (word_of word) word places (read_places rest places) (read g rest)

-- whether a name is given
abbrev pub has_use : Text → List Use → Bool
has_use name = list_any (λ u. bytes_eq u.name name)

-- uses behind these, if no name is given twice
abbrev pub collect : List Use → List Use → Option (List Use)
collect before [] = Some before
collect before (u ∷ us) = if has_use u.name before then None else collect (before ++ u ∷ []) us

-- what words give to the names of a grammar, if they can be read and give no name twice
abbrev pub given : Grammar → List Text → Option (List Use)
given g words = option_and_then (collect []) (read g words g.places None)

-- the value of a name, if it is given
abbrev pub value_of : Text → List Use → Option Text
value_of name us = option_map (λ u. u.value) (find (λ u. bytes_eq u.name name) us)
