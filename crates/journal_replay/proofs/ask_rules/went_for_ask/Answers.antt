use Rattle.journal_replay.proofs.ask_rules.went_for_ask.Goals as goal

pub returns : goal.returns
returns c = c.have_gone.ensures _ c.requires.first
