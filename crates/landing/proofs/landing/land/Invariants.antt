use Rattle.landing.proofs.landing.land.Given as goal

abbrev pub ghosts-land_from : goal.ghosts-land_from
ghosts-land_from g a = record { name = a.source.ghost_name; faults = g.S.Source.faults a.source.now }
