-- How evictions go one by one, until the attempt or the admission that they are for.
-- After Spark: MemoryStore.evictBlocksToFreeSpace, whose whole choice is made before its first eviction.
use Rattle.std.specs.Prelude.{ℕ, ◌≡◌, ◌≤◌, ◌<◌, ◌^◌, true, false, Option, Some, None, List, [], ◌∷◌, ◌++◌, map, length}
use Rattle.pool_ledger.specs.declared.entry.Entry.{Entry}
use Rattle.pool_ledger.specs.declared.entry.Event.TheVariants.{Attempt, Evict, Admit, Refused}
use Rattle.pool_ledger.specs.declared.entry.Fate.{Fate}
use Rattle.pool_ledger.specs.declared.entry.Level.{Level}
use Rattle.pool_ledger.specs.Sizes.{Sizes}
use Rattle.pool_ledger.specs.History.{History, open_task}
use Rattle.pool_ledger.specs.Blocks.{Resident, evictable, is_resident, victims}
use Rattle.pool_ledger.specs.Answers.{growth, answer, admission}
use Rattle.pool_ledger.specs.Legal.{SuitsLevel, evicted_of, is_own_turn, pending, settled, IsLegal, IsPermitted, MayFollow}
use Rattle.pool_laws.specs.Growing.{entry_by}

-- amid a worker's evictions: what came before them, which blocks went, and which have to go yet, the first that may
pub record IsEvicting (history base : History) (worker : ℕ) (except : Option ℕ) (gone left : List Resident) : Type 0 where
  pub base_is : settled history ≡ base
  pub gone_is : pending history ≡ map evicted_of gone
  pub own_turn : is_own_turn history worker ≡ true
  pub behind : List Resident
  pub left_first : evictable history except ≡ left ++ behind

-- the eviction of a block by a worker
abbrev pub eviction_by : ℕ → Resident → Fate → Entry
eviction_by worker block fate = entry_by worker (Evict block.dataset block.part block.size fate)

-- the attempt of a worker's task, with what the rules give it after what came before the evictions
abbrev pub evicting_attempt_by : Sizes → History → ℕ → ℕ → ℕ → Entry
evicting_attempt_by setup base worker task asked =
    entry_by worker (Attempt task asked (growth setup base asked).moved (length (growth setup base asked).evicted) (answer setup base task asked))

-- where no eviction is pending, the victims are the first blocks that may go
abbrev pub VictimsAreFirst : Sizes → Type 0
VictimsAreFirst setup =
    (history : History) (worker need : ℕ) (except : Option ℕ) (front : List Resident)
    → IsLegal setup history → victims history need except ≡ Some front → IsEvicting history history worker except [] front

-- the next victim may be evicted, and is then gone, with a fate that suits its level
abbrev pub VictimsMayGo : Sizes → Type 0
VictimsMayGo setup =
    (history base : History) (worker : ℕ) (except : Option ℕ) (gone left : List Resident) (block : Resident) (fate : Fate)
    → IsPermitted setup history → worker < setup.workers → IsEvicting history base worker except gone (block ∷ left) → SuitsLevel fate block.level
    → MayFollow setup history (eviction_by worker block fate)
    × IsEvicting (eviction_by worker block fate ∷ history) base worker except (gone ++ block ∷ []) left

-- once all victims of an attempt's growth are gone, the attempt may follow
abbrev pub AttemptsMayFollow : Sizes → Type 0
AttemptsMayFollow setup =
    (history base : History) (worker task asked : ℕ) → IsEvicting history base worker None (growth setup base asked).evicted []
    → worker < setup.workers → open_task base worker ≡ Some task → 1 ≤ asked → asked ≤ 2 ^ 50
    → MayFollow setup history (evicting_attempt_by setup base worker task asked)

-- once all victims of an admission are gone, it may follow, or its refusal
pub record AdmissionsMayFollow (setup : Sizes) : Type 0 where
  pub admits : (history base : History) (worker dataset part size : ℕ) (level : Level) → IsEvicting history base worker (Some dataset) (admission setup base dataset size).evicted []
      → worker < setup.workers → is_resident base dataset part ≡ false → (admission setup base dataset size).admitted ≡ true
      → MayFollow setup history (entry_by worker (Admit dataset part size level (admission setup base dataset size).borrowed (length (admission setup base dataset size).evicted)))
  pub refuses : (history base : History) (worker dataset part size : ℕ) → IsEvicting history base worker (Some dataset) (admission setup base dataset size).evicted []
      → worker < setup.workers → is_resident base dataset part ≡ false → (admission setup base dataset size).admitted ≡ false
      → MayFollow setup history (entry_by worker (Refused dataset part size (admission setup base dataset size).borrowed (length (admission setup base dataset size).evicted)))

-- all of these
pub record EvictsOneByOne (setup : Sizes) : Type 0 where
  pub first : VictimsAreFirst setup
  pub next : VictimsMayGo setup
  pub attempts : AttemptsMayFollow setup
  pub admissions : AdmissionsMayFollow setup
