-- What is known of a run's status by its tasks' answer.
use Rattle.std.proofs.Common.{◌≡◌, ◌<◌, ◌∙◌, [], ℕ, List, Option, Some, None, Result, Ok, Err, append-nil, refl, sym, subst, inl, arith}
use Rattle.std.specs.Prelude.{AllPairs, OnOk}
use Rattle.pool_ledger.specs.Workers.{entries_of}
use Rattle.pool_ledger.specs.declared.entry.Entry.{Entry}
use Rattle.job_ending.specs.Tasks.{FollowsPlan, begun_in, owner_of}
use Rattle.std.specs.Io.KnownBytes.{Appends}
use Rattle.byte_io.specs.Sinks.{AppendsPrefix}
use Rattle.task_runner.specs.Workers.{IfSound}
use Rattle.task_runner.specs.declared.work_fault.WorkFault.{WorkFault}
use Rattle.task_runner.specs.declared.work_fault.WorkFault.TheVariants.{NoRoom, DiskFault, Damaged, NoMemory}
use Rattle.job_ending.specs.Endings.{MayEndAs, ending_with}
use Rattle.job_ending.specs.Statuses.{IsOutside, IsUnprinted}
use Rattle.csv_program.specs.Telling.{status_of_work}
use Rattle.job_ending.specs.declared.status.Status.{Status}
use Rattle.job_ending.specs.declared.status.Status.TheVariants as status

-- what may come before anything is printed may come before the tables are whole
unprinted_outside : (ended : Status) → IsUnprinted ended → IsOutside ended
unprinted_outside (status.NoRoom asked held floor) unprinted = _
unprinted_outside status.ReadFault unprinted = _
unprinted_outside (status.DiskFault post) unprinted = _
unprinted_outside status.NoMemory unprinted = _
unprinted_outside _ unprinted = absurd unprinted

-- so it comes before each ending of an input that was landed
pub may_end : (text : List ℕ) (wide : Option (ℕ × List ℕ)) (ended : Status) → IsUnprinted ended → MayEndAs (ending_with text wide) ended
may_end text None ended unprinted = inl (unprinted_outside ended unprinted)
may_end text (Some wide) ended unprinted = inl unprinted

unprinted_by : {T : Type 0} (says : T → Type 0) (fault : WorkFault) → IfSound says (Err fault) → IsUnprinted (status_of_work fault)
unprinted_by says (NoRoom asked held floor) sound = _
unprinted_by says (DiskFault post) sound = _
unprinted_by says (Damaged damage) sound = absurd sound
unprinted_by says NoMemory sound = _

pub unprinted_work : {T : Type 0} (says : T → Type 0) (result : Result T WorkFault) (fault : WorkFault) (ended : Status) → result ≡ Err fault → IfSound says result → ended ≡ status_of_work fault → IsUnprinted ended
unprinted_work says result fault ended is sound tells = subst IsUnprinted (sym tells) (unprinted_by says fault (subst (IfSound says) is sound))

not_done : (fault : WorkFault) → status_of_work fault ≡ status.Done → ⊥
not_done (NoRoom asked held floor) e = cc e
not_done (DiskFault post) e = cc e
not_done (Damaged damage) e = cc e
not_done NoMemory e = cc e

-- a fault isn't the end of a whole run
pub fault_not_done : (fault : WorkFault) (ended : Status) → ended ≡ status_of_work fault → ended ≡ status.Done → ⊥
fault_not_done fault ended tells done = not_done fault (sym tells ∙ done)

pub sound_more : {T : Type 0} (P Q : T → Type 0) → ((x : T) → P x → Q x) → (result : Result T WorkFault) → IfSound P result → IfSound Q result
sound_more P Q more (Ok x) holds = more x holds
sound_more P Q more (Err (NoRoom asked held floor)) holds = tt
sound_more P Q more (Err (DiskFault post)) holds = tt
sound_more P Q more (Err (Damaged damage)) holds = holds
sound_more P Q more (Err NoMemory) holds = tt

pub sound_ok : {T : Type 0} (says : T → Type 0) (result : Result T WorkFault) (x : T) → result ≡ Ok x → IfSound says result → says x
sound_ok says result x is sound = subst (IfSound says) is sound

appends_nothing : (written : Option (List ℕ)) → Appends written written []
appends_nothing None = tt
appends_nothing (Some xs) = sym (append-nil xs)

-- what wasn't touched grew by nothing
pub prefix_of_nothing : {A : Type 0} (written : A → Option (List ℕ)) (before after : A) (text : List ℕ) → after ≡ before → AppendsPrefix (written before) (written after) text
prefix_of_nothing written before after text same = (0, subst (λ now. Appends (written before) (written now) []) (sym same) (appends_nothing (written before)))

-- what holds after an answer
pub ok_holds : {T E P : Type 0} (result : Result T E) (x : T) → result ≡ Ok x → OnOk result P → P
ok_holds (Ok y) x is holds = holds
ok_holds (Err e) x is holds = cc is

no_begins : (worker : ℕ) → begun_in (entries_of worker []) ≡ []
unfolding begun_in
no_begins worker = refl

none_ascend : AllPairs (λ (earlier later : ℕ). earlier < later) []
none_ascend = λ i j d lt within. absurd (omega arith)

-- a journal without an entry has no task
pub follows_none : (workers partitions passes : ℕ) (journal : List Entry) → journal ≡ [] → FollowsPlan (owner_of 0 0 workers partitions passes) journal
follows_none workers partitions passes journal none = subst (FollowsPlan (owner_of 0 0 workers partitions passes)) (sym none) record {
  owned = tt;
  ascend = λ worker. subst (λ (tasks : List ℕ). AllPairs (λ earlier later. earlier < later) tasks) (sym (no_begins worker)) none_ascend;
  ended = λ task. refl;
}
