use Rattle.std.proofs.Common.{take}
use Rattle.words.specs.Texts.{AreTexts, texts}
use Rattle.words.proofs.texts.are_texts.Given as goal

abbrev pub invariant-loop-word : goal.invariant-loop-word
invariant-loop-word l = AreTexts (texts (take l.word-index l.words))
