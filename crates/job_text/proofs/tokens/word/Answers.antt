use Rattle.job_text.proofs.Ends.{word_boundary}
use Rattle.job_text.proofs.tokens.word.Goals as goal

pub range-word-requires-clause-end_boundary : goal.range-word-requires-clause-end_boundary
range-word-requires-clause-end_boundary c = rw (c.word_length-length.ensures.length, c.as_bytes.ensures.value) (word_boundary c.args.text.now c.utf8.text)
