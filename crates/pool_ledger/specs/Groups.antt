-- A journal as a list of groups: evictions, and the event that they are for. Which lists of groups are legal.
-- This project's own, over the rules of Spark's UnifiedMemoryManager.
use Rattle.std.specs.Prelude.{ℕ, ◌≡◌, ◌≤◌, ◌<◌, ◌^◌, true, false, ⊤, Option, Some, None, List, [], ◌∷◌, ◌++◌, map, reverse, length}
use Rattle.pool_ledger.specs.declared.entry.Entry.{Entry}
use Rattle.pool_ledger.specs.declared.entry.Event.{Event}
use Rattle.pool_ledger.specs.declared.entry.Event.TheVariants.{Begin, Attempt, Release, End, Evict, Admit, Refused, Pin, Unpin, Remove, Grow}
use Rattle.pool_ledger.specs.declared.entry.Fate.{Fate}
use Rattle.pool_ledger.specs.Sizes.{Sizes}
use Rattle.pool_ledger.specs.History.{History, CanGrow, total, held, was_begun, open_task}
use Rattle.pool_ledger.specs.Blocks.{Resident, is_resident, worker_pin, leaves_copy}
use Rattle.pool_ledger.specs.Answers.{growth, answer, admission}
use Rattle.pool_ledger.specs.Legal.{MayLeave, SuitsLevel}

-- an evicted block: its name, its size in bytes, and what became of it
pub record Gone : Type 0 where
  pub dataset : ℕ
  pub part : ℕ
  pub size : ℕ
  pub fate : Fate

-- the blocks that a worker evicted, in order, and the event of this worker that they were evicted for
pub record Group : Type 0 where
  pub worker : ℕ
  pub gone : List Gone
  pub event : Event

-- the entry of an evicted block
abbrev pub eviction_in : ℕ → Gone → Entry
eviction_in worker gone = record { worker = worker; event = Evict gone.dataset gone.part gone.size gone.fate }

-- the entries of a group, the oldest first
abbrev pub entries_in : Group → List Entry
entries_in group = map (eviction_in group.worker) group.gone ++ record { worker = group.worker; event = group.event } ∷ []

-- the history of groups, of which the newest comes first
abbrev pub history_in : List Group → History
history_in [] = []
history_in (group ∷ before) = reverse (entries_in group) ++ history_in before

-- these blocks went, and no others, in order, each with its size and a fate that suits its level
abbrev pub WentAs : List Gone → List Resident → Type 0
WentAs [] [] = ⊤
WentAs (gone ∷ more) (block ∷ blocks) =
    (gone.dataset ≡ block.dataset) × (gone.part ≡ block.part) × (gone.size ≡ block.size)
    × SuitsLevel gone.fate block.level × WentAs more blocks
WentAs [] (block ∷ blocks) = ⊥
WentAs (gone ∷ more) [] = ⊥

-- the growth and the answer are those that the rules give after the groups before, and the growth's blocks went
pub record AttemptIsLegal (setup : Sizes) (before : History) (task asked moved evictions : ℕ) (got : Option ℕ) (gone : List Gone) : Type 0 where
  pub asked_some : 1 ≤ asked
  pub asked_small : asked ≤ 2 ^ 50
  pub moves : moved ≡ (growth setup before asked).moved
  pub answers : got ≡ answer setup before task asked
  pub went : WentAs gone (growth setup before asked).evicted
  pub number : evictions ≡ length gone

-- an event of a worker, for which these blocks went, is permitted after the groups before
abbrev pub EventIsLegal : Sizes → History → ℕ → List Gone → Event → Type 0
EventIsLegal setup before worker gone (Begin task) =
    (gone ≡ []) × (was_begun before task ≡ false) × (open_task before worker ≡ None)
EventIsLegal setup before worker gone (Attempt task asked moved evictions got) =
    (open_task before worker ≡ Some task) × AttemptIsLegal setup before task asked moved evictions got gone
EventIsLegal setup before worker gone (Release task freed) =
    (gone ≡ []) × (open_task before worker ≡ Some task) × (freed ≤ held before task)
EventIsLegal setup before worker gone (End task freed) =
    (gone ≡ []) × (open_task before worker ≡ Some task) × (freed ≡ held before task)
EventIsLegal setup before worker gone (Admit dataset part size level borrowed evictions) =
    (is_resident before dataset part ≡ false) × ((admission setup before dataset size).admitted ≡ true)
    × (borrowed ≡ (admission setup before dataset size).borrowed)
    × WentAs gone (admission setup before dataset size).evicted × (evictions ≡ length gone)
EventIsLegal setup before worker gone (Refused dataset part size borrowed evictions) =
    (is_resident before dataset part ≡ false) × ((admission setup before dataset size).admitted ≡ false)
    × (borrowed ≡ (admission setup before dataset size).borrowed)
    × WentAs gone (admission setup before dataset size).evicted × (evictions ≡ length gone)
EventIsLegal setup before worker gone (Pin dataset part false) =
    (gone ≡ []) × (is_resident before dataset part ≡ true) × (worker_pin before worker ≡ None)
EventIsLegal setup before worker gone (Pin dataset part true) =
    (gone ≡ []) × (is_resident before dataset part ≡ false) × (0 < total (leaves_copy dataset part) before) × (worker_pin before worker ≡ None)
EventIsLegal setup before worker gone (Unpin dataset part) =
    (gone ≡ []) × (worker_pin before worker ≡ Some (record { dataset = dataset; part = part }))
EventIsLegal setup before worker gone (Remove dataset part size) =
    (gone ≡ []) × (block : Resident) × MayLeave before dataset part size block
EventIsLegal setup before worker gone (Grow bytes) = (gone ≡ []) × CanGrow setup before worker bytes
-- an eviction is no event of its own
EventIsLegal setup before worker gone (Evict dataset part size fate) = ⊥

-- each group is permitted after those before it
abbrev pub AreGroups : Sizes → List Group → Type 0
AreGroups setup [] = ⊤
AreGroups setup (group ∷ before) =
    AreGroups setup before × (group.worker < setup.workers)
    × EventIsLegal setup (history_in before) group.worker group.gone group.event

-- the history is one of groups, each of which is permitted after those before it
abbrev pub IsLegalByGroups : Sizes → History → Type 0
IsLegalByGroups setup history = (groups : List Group) × (history_in groups ≡ history) × AreGroups setup groups
