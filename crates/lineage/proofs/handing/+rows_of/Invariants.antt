use Rattle.lineage.proofs.handing.+rows_of.Given as goal

-- a parent has a lower number
abbrev pub decreases-rows_of : goal.decreases-rows_of
decreases-rows_of g l = l.dataset
