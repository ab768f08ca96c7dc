use Rattle.job_tests.proofs.tests.records.reading_of.Given as goal

abbrev pub ghosts-read_rows : goal.ghosts-read_rows
ghosts-read_rows g a = record { name = a.source.ghost_name; faults = g.S.Source.faults a.source.now }
