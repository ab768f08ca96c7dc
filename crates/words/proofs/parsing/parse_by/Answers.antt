use Rattle.clap.proofs.WalkLemmas.{both}
use Rattle.words.proofs.parsing.parse_by.Goals as goal

pub returns-in-Ok-clause-ok : goal.returns-in-Ok-clause-ok
returns-in-Ok-clause-ok c =
    let simple = (both _ _ c.requires.simple).0 in
    (c.in-Ok.ensures.kinds c.requires.simple, (c.in-Ok.ensures.matches simple).0)
