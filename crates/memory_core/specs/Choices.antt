-- Which blocks of a dataset may be removed, and which of them first.
-- This project's own.
use Rattle.std.specs.Prelude.{ℕ, ◌==◌, ◌&&◌, not, nat_le, Bool, if◌then◌else◌, Option, Some, None, List, [], ◌∷◌}
use Rattle.eviction.specs.declared.candidate.Candidate.{Candidate}

-- whether no pin keeps the block, and it is of this dataset
abbrev pub may_go_of : ℕ → Candidate → Bool
may_go_of dataset block = not block.pinned && block.dataset == dataset

-- the one of the lesser part, the first where both have one part
abbrev pub lesser : Option Candidate → Candidate → Option Candidate
lesser None block = Some block
lesser (Some other) block = if nat_le other.part block.part then Some other else Some block

-- the one of the least part among those before, if there is one, and those of the list that may be removed
abbrev pub least_from : ℕ → Option Candidate → List Candidate → Option Candidate
least_from dataset least [] = least
least_from dataset least (block ∷ blocks) =
    least_from dataset (if may_go_of dataset block then lesser least block else least) blocks

-- the one of the least part of those that may be removed
abbrev pub least_in : ℕ → List Candidate → Option Candidate
least_in dataset blocks = least_from dataset None blocks
