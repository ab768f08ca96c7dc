-- Words as texts.
-- This project's own.
use Rattle.std.specs.Prelude.{List, [], ◌∷◌, map}
use Rattle.std.specs.Borrow.{Bor}
use Rattle.std.specs.Str.{IsUtf8}
use Rattle.words.specs.Reading.{Text}

-- the words of a slice
abbrev pub texts : List (Bor Text) → List Text
texts words = map (λ word. word.now) words

-- each of the words is UTF-8
abbrev pub AreTexts : List Text → Type 0
AreTexts [] = Unit {0}
AreTexts (word ∷ words) = IsUtf8 word × AreTexts words
