use Rattle.journal_replay.proofs.store_rules.went_for_block.Goals as goal

pub returns : goal.returns
returns c = c.have_gone.ensures _ c.requires.first
