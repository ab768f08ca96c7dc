-- When blocks are removed, in a journal.
-- This project's own.
use Rattle.std.specs.Prelude.{ℕ, suc, ◌+◌, ◌*◌, ◌<◌, ◌≤◌, ◌==◌, List, [], ◌∷◌, if◌then◌else◌, ⊤}
use Rattle.std.specs.List.{AllByRecursion, list_any}
use Rattle.pool_ledger.specs.Workers.{entries_of}
use Rattle.pool_ledger.specs.declared.entry.Entry.{Entry}
use Rattle.pool_ledger.specs.declared.entry.Event.{Event}
use Rattle.pool_ledger.specs.declared.entry.Event.TheVariants.{Remove}
use Rattle.job_plan.specs.Plans.{removed_in}
use Rattle.job_plan.specs.declared.query_plan.Plan.{Plan}
use Rattle.job_ending.specs.Tasks.{begun_in}

-- P of the dataset of which an event removes a block, if it does
abbrev pub IfRemoves : Event → (ℕ → Type 0) → Type 0
IfRemoves (Remove dataset part size) P = P dataset
IfRemoves _ P = ⊤

-- behind the removal of a block only tasks begin whose number is at least the one that the block's dataset has here
unfoldable pub RemovesBehind : (ℕ → ℕ) → List Entry → Type 0
RemovesBehind first [] = ⊤
RemovesBehind first (entry ∷ later) =
    IfRemoves entry.event (λ dataset. AllByRecursion (λ task. first dataset ≤ task) (begun_in later)) × RemovesBehind first later

-- how many passes are done when the blocks of a dataset are removed, by what is removed behind each pass
unfoldable pub passes_until : List (List ℕ) → ℕ → ℕ
passes_until [] dataset = 0
passes_until (removed ∷ later) dataset = if list_any (λ d. d == dataset) removed then 1 else suc (passes_until later dataset)

-- the first task, over so many partitions, of the passes that don't need a dataset any more
abbrev pub free_from : Plan → ℕ → ℕ → ℕ
free_from plan partitions dataset = passes_until (removed_in plan) dataset * (partitions + 1)

-- a worker that has removed a block begins tasks alone that don't need the block's dataset any more
abbrev pub RemovesLate : Plan → ℕ → ℕ → List Entry → Type 0
RemovesLate plan workers partitions journal =
    (worker : ℕ) → worker < workers → RemovesBehind (free_from plan partitions) (entries_of worker journal)
