use Rattle.landing.proofs.header.plan_input.Given as goal

abbrev pub ghosts-plan_from : goal.ghosts-plan_from
ghosts-plan_from g a = record { name = a.source.ghost_name; faults = g.S.Source.faults a.source.now }
