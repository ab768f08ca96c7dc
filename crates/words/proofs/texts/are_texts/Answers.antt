use Rattle.words.proofs.MoreTexts.{texts_more}
use Rattle.words.proofs.texts.are_texts.Goals as goal

pub loop-word-preserved : goal.loop-word-preserved
loop-word-preserved c = texts_more c.args.words.now c.loop-word.word-index _ c.loop-word-test.true c.loop-word.invariant c.is_text.ensures
