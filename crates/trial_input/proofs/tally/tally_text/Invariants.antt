use Rattle.trial_input.proofs.tally.tally_text.Given as goal

-- the source's name, and its count of faults, which stays 0
abbrev pub ghosts-tally_source : goal.ghosts-tally_source
ghosts-tally_source a = record { name = a.source.ghost_name; faults = 0 }
