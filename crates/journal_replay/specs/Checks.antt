-- The rules of an attempt and of an admission beside what an entry tells, and the victims beside the evictions that wait.
-- This project's own.
use Rattle.std.specs.Prelude.{ℕ, ◌==◌, Bool, true, false, not, ◌&&◌, if◌then◌else◌, Option, List, [], ◌∷◌, length, ⊤}
use Rattle.std.specs.Option.{option_map}
use Rattle.pool_ledger.specs.declared.entry.Event.{Event}
use Rattle.pool_ledger.specs.declared.entry.Event.TheVariants.{Begin, Attempt, Release, End, Admit, Refused, Grow}
use Rattle.pool_ledger.specs.Sizes.{Sizes}
use Rattle.pool_ledger.specs.History.{History}
use Rattle.pool_ledger.specs.Answers.{growth, answer, admission}
use Rattle.pool_ledger.specs.Blocks.{front_reaching}
use Rattle.pool_ledger.specs.Legal.{Evicted, settled}
use Rattle.eviction.specs.declared.candidate.Candidate.{Candidate}
use Rattle.eviction.specs.Victims.{evictable, is_evictable, sizes}
use Rattle.pool_plans.specs.declared.asking.AttemptPlan.{AttemptPlan}
use Rattle.pool_plans.specs.declared.admitting.AdmissionPlan.{AdmissionPlan}
use Rattle.journal_audit.specs.declared.rules.Rule.TheVariants.{Victims, Growth, Share, Store}
use Rattle.journal_replay.specs.declared.fronts.Freed.{Freed}
use Rattle.journal_audit.specs.Rules.{Check, breaks, goes, is_answer}

-- whether the eviction is of this block
abbrev pub is_gone : Evicted → Candidate → Bool
is_gone gone block = (gone.dataset == block.dataset && gone.part == block.part) && gone.size == block.size

-- whether the evictions are of the first blocks of a list that may go, in order
abbrev pub go_first : Option ℕ → List Evicted → List Candidate → Bool
go_first except [] blocks = true
go_first except (gone ∷ more) [] = false
go_first except (gone ∷ more) (block ∷ blocks) =
    if is_evictable except block then (is_gone gone block && go_first except more blocks) else go_first except (gone ∷ more) blocks

-- how many blocks these are, and their bytes
abbrev pub sum_of : List Candidate → Freed
sum_of blocks = record { count = length blocks; bytes = sizes blocks }

-- of a list the first blocks that may go and give this need; none where all of them don't reach it
abbrev pub front_in : Option ℕ → ℕ → List Candidate → Option Freed
front_in except need blocks = option_map sum_of (front_reaching (λ block. block.size) need (evictable except blocks))

-- the rules of an attempt of an open task, for an ask in range, beside what its entry tells
abbrev pub attempt_checks : Sizes → History → ℕ → ℕ → AttemptPlan → List Check
attempt_checks setup history task asked told =
    breaks Victims (not (goes history (growth setup (settled history) asked).evicted told.evictions))
    ∷ breaks Growth (not (told.moved == (growth setup (settled history) asked).moved))
    ∷ breaks Share (not (is_answer told.got (answer setup (settled history) task asked))) ∷ []

-- whether one was admitted and the other wasn't
abbrev pub differs : Bool → Bool → Bool
differs true admitted = not admitted
differs false admitted = admitted

-- the rules of a block that isn't in memory, beside what its entry tells
abbrev pub admission_checks : Sizes → History → ℕ → ℕ → AdmissionPlan → List Check
admission_checks setup history dataset size told =
    breaks Victims (not (goes history (admission setup (settled history) dataset size).evicted told.evictions))
    ∷ breaks Store (not (told.borrowed == (admission setup (settled history) dataset size).borrowed))
    ∷ breaks Store (differs told.admitted (admission setup (settled history) dataset size).admitted) ∷ []

-- the event is one of a block
abbrev pub IsOfBlock : Event → Type 0
IsOfBlock (Begin task) = ⊥
IsOfBlock (Attempt task asked moved evictions got) = ⊥
IsOfBlock (Release task freed) = ⊥
IsOfBlock (End task freed) = ⊥
IsOfBlock (Grow bytes) = ⊥
IsOfBlock _ = ⊤

-- the event is an admission or a refusal
abbrev pub IsOfStore : Event → Type 0
IsOfStore (Admit dataset part size level borrowed evictions) = ⊤
IsOfStore (Refused dataset part size borrowed evictions) = ⊤
IsOfStore _ = ⊥
