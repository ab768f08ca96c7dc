-- A stricter reading, in which the next word is a value only if it could be a positional one, and the rows that it gives.
use Rattle.std.proofs.Common.{◌≡◌, ◌∙◌, ◌&&◌, Bool, cond, true, false, refl, ap, List, [], ◌∷◌, ◌++◌, Option, Some, None, option_map}
use Rattle.std.specs.Prelude.{option_and_then}
use Rattle.std.specs.Str.{bytes_eq}
use Rattle.std.proofs.lemmas.Slice.Eq.{bytes_eq-Decides}
use Rattle.clap.specs.Walk.{Row}
use Rattle.clap.specs.Faults.{repeat_fault}
use Rattle.clap.specs.declared.error.kind.ErrorKind.TheVariants.{ArgumentConflict}
use Rattle.words.specs.Reading.{Grammar, Text, Use, Word, plain, use_of, word_of, with_use, read_places, read_word, has_use, collect}
use Rattle.words.proofs.Rules.{rows_for, has_rows}

-- ---- a stricter reading, in which the next word is a value only if it could be a positional

abbrev pub strict_value : Text → Word → Text → Option (List Use) → Option (List Use)
strict_value name plain word rest = with_use (use_of name word) rest
strict_value name _ word rest = None

unfoldable pub strict : Grammar → List Text → List Text → Option Text → Option (List Use)
strict g [] places None = Some []
strict g [] places (Some name) = None
strict g (word ∷ rest) places (Some name) = strict_value name (word_of word) word (strict g rest places None)
strict g (word ∷ rest) places None = read_word g (word_of word) word places (read_places rest places) (strict g rest)

-- the rows that uses come to, behind those before them
abbrev pub gives : List Use → Option (List Use) → Option (List Row)
gives before r = option_map rows_for (option_and_then (collect before) r)

pub gives_new : (u : Use) (r : Option (List Use)) (before : List Use) → has_use u.name before ≡ false → gives before (with_use u r) ≡ gives (before ++ u ∷ []) r
gives_new u None before e = refl
gives_new u (Some us) before e = ap (λ b. option_map rows_for (cond b None (collect (before ++ u ∷ []) us))) e

pub gives_again : (u : Use) (r : Option (List Use)) (before : List Use) → has_use u.name before ≡ true → gives before (with_use u r) ≡ None
gives_again u None before e = refl
gives_again u (Some us) before e = ap (λ b. option_map rows_for (cond b None (collect (before ++ u ∷ []) us))) e

pub repeat_is : (n : Text) (before : List Use) (b : Bool) → has_use n before ≡ b → repeat_fault false n (rows_for before) ≡ cond (b && true) (ArgumentConflict ∷ []) []
repeat_is n before b e = ap (λ x. cond (x && true) (ArgumentConflict ∷ []) []) (has_rows n before ∙ e)

pub bytes_same : (x : Text) → bytes_eq x x ≡ true
bytes_same x = (bytes_eq-Decides x x).1 refl
