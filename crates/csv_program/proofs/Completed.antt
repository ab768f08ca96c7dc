-- A valid run with whole grants, in which nothing fails, prints its table.
use Rattle.std.proofs.Common.{◌≡◌, ◌≤◌, ◌∷◌, [], ℕ, List, Option, Some, None, refl, ap, subst, inl, inr, arith}
use Rattle.std.specs.Prelude.{◌⊎◌, ◌==◌, IfSome, unwrap_or}
use Rattle.std.specs.Global.{Vec}
use Rattle.std.specs.List.{AllByRecursion}
use Rattle.std.proofs.lemmas.Bool.{cases_Bool}
use Rattle.fault_count.specs.Faults.{Rose}
use Rattle.spill_disk.specs.Files.{Files}
use Rattle.task_runner.specs.declared.post.Post.{Post}
use Rattle.pool_ledger.specs.History.{History}
use Rattle.pool_ledger.specs.Journal.{history_of}
use Rattle.pool_ledger.specs.Sizes.{Sizes}
use Rattle.pool_ledger.specs.Workers.{entries_of}
use Rattle.pool_ledger.specs.declared.entry.Entry.{Entry}
use Rattle.pool_ledger.specs.declared.entry.Event.{Event}
use Rattle.pool_ledger.specs.declared.entry.Event.TheVariants.{Attempt}
use Rattle.task_account.specs.Attempts.{Answered, last_after, last_attempt}
use Rattle.job_ending.specs.Calls.{Call, ForRun, Runs}
use Rattle.job_ending.specs.declared.call.RunCall.{RunCall}
use Rattle.job_ending.specs.Complete.{FailsNothing, GrantsAll, IsGrantedWhole}
use Rattle.job_ending.specs.Endings.{TellsEarlier, EndsAs, Ending, MayEndAs, Prints, ending_of}
use Rattle.job_ending.specs.Posts.{AllTell}
use Rattle.csv_program.specs.Posts.{post_files}
use Rattle.job_ending.specs.Statuses.{IsDiskFault, IsNoRoom, IsOutside}
use Rattle.csv_program.specs.Shortage.{ShowsShort}
use Rattle.job_ending.specs.declared.status.Status.{Status}
use Rattle.job_ending.specs.declared.status.Status.TheVariants as status
use Rattle.csv_program.proofs.Called.{for_run}
use Rattle.csv_program.proofs.Journals.{all_reverse}

-- ---- whole grants

own_whole : (worker : ℕ) (journal : List Entry) → GrantsAll journal → GrantsAll (entries_of worker journal)
own_whole worker [] all = tt
own_whole worker (entry ∷ journal) all = elim (cases_Bool (entry.worker == worker)) [
  | inl mine ↦ rw mine (all.0, own_whole worker journal all.1)
  | inr other ↦ rw other (own_whole worker journal all.1)
]

after_whole : (task : ℕ) (event : Event) (was : Answered) → IsGrantedWhole event → was.asked ≤ unwrap_or was.got 0 → (last_after task event was).asked ≤ unwrap_or (last_after task event was).got 0
after_whole task (Attempt t asked moved evictions got) was whole before = elim (cases_Bool (t == task)) [
  | inl same ↦ rw same whole
  | inr other ↦ rw other before
]
after_whole task _ was whole before = before

last_whole : (task : ℕ) (history : History) → AllByRecursion (λ entry. IsGrantedWhole entry.event) history → (last_attempt history task).asked ≤ unwrap_or (last_attempt history task).got 0
last_whole task [] all = omega arith
last_whole task (entry ∷ before) all = after_whole task entry.event (last_attempt before task) all.0 (last_whole task before all.1)

not_short : (pool : Sizes) (journal : List Entry) (asked held floor : ℕ) → GrantsAll journal → ShowsShort pool journal asked held floor → ⊥
not_short pool journal asked held floor all shows =
    let whole = last_whole shows.task (history_of (entries_of shows.worker journal)) (all_reverse (λ entry. IsGrantedWhole entry.event) (entries_of shows.worker journal) (own_whole shows.worker journal all)) in
    let short = shows.shows.short in
    let granted : unwrap_or (last_attempt (history_of (entries_of shows.worker journal)) shows.task).got 0 ≡ shows.shows.granted = ap (λ (got : Option ℕ). unwrap_or got 0) shows.shows.got in
    absurd (omega (arith, whole, short, granted))

-- ---- the status

-- what rose where a status tells a fault of the input, of the output, of the journal's sink or of a post's disk
record Causes (ended : Status) (reads writes records : Type 0) (disks : ℕ → Type 0) : Type 0 where
  pub read : ended ≡ status.ReadFault → reads
  pub write : ended ≡ status.WriteFault → writes
  pub record_is : ended ≡ status.JournalFault → records
  pub disk : IsDiskFault ended disks

by_status : (ended : Status) (pool : Sizes) (journal : List Entry) (reads writes records : Type 0) (disks : ℕ → Type 0) → (reads → ⊥) → (writes → ⊥) → (records → ⊥) → ((post : ℕ) → disks post → ⊥) → GrantsAll journal
    → Causes ended reads writes records disks → IsNoRoom ended (ShowsShort pool journal) → IsOutside ended → ended ≡ status.NoMemory
by_status (status.NoRoom asked held floor) pool journal reads writes records disks no_reads no_writes no_records no_disks all causes no_room outside = absurd (not_short pool journal asked held floor all no_room)
by_status status.ReadFault pool journal reads writes records disks no_reads no_writes no_records no_disks all causes no_room outside = absurd (no_reads (causes.read refl))
by_status status.WriteFault pool journal reads writes records disks no_reads no_writes no_records no_disks all causes no_room outside = absurd (no_writes (causes.write refl))
by_status status.JournalFault pool journal reads writes records disks no_reads no_writes no_records no_disks all causes no_room outside = absurd (no_records (causes.record_is refl))
by_status (status.DiskFault post) pool journal reads writes records disks no_reads no_writes no_records no_disks all causes no_room outside = absurd (no_disks post causes.disk)
by_status status.NoMemory pool journal reads writes records disks no_reads no_writes no_records no_disks all causes no_room outside = refl
by_status _ pool journal reads writes records disks no_reads no_writes no_records no_disks all causes no_room outside = absurd outside

pub completes : (ended : Status) (ending : Ending) (text : List ℕ) (pool : Sizes) (journal : List Entry) (input input' output output' sink sink' : ℕ) (posts posts' : ℕ → ℕ) → ending ≡ Prints text
    → FailsNothing input input' output output' sink sink' posts posts' → GrantsAll journal → (ended ≡ status.ReadFault → Rose input input') → (ended ≡ status.WriteFault → Rose output output') → (ended ≡ status.JournalFault → Rose sink sink')
    → IsDiskFault ended (λ post. Rose (posts post) (posts' post)) → IsNoRoom ended (ShowsShort pool journal) → MayEndAs ending ended → (ended ≡ status.Done) ⊎ (ended ≡ status.NoMemory)
completes ended ending text pool journal input input' output output' sink sink' posts posts' prints nothing all read write records disk no_room (inl outside) =
    inr (by_status ended pool journal (Rose input input') (Rose output output') (Rose sink sink') (λ post. Rose (posts post) (posts' post)) nothing.reads nothing.writes nothing.records nothing.disks all
    (record { read = read; write = write; record_is = records; disk = disk }) no_room (subst (λ (e : Ending). TellsEarlier e ended) prints outside))
completes ended ending text pool journal input input' output output' sink sink' posts posts' prints nothing all read write records disk no_room (inr ends) =
    inl (subst (λ (e : Ending). EndsAs e ended) prints ends)

-- of a call of a job
pub completes_call : {D C : Type 0} (files : D → Option Files) (store : Option Files) (posts : Vec (Post D C)) (left : Option (List ℕ)) (call : Call) (asked : RunCall) (ended : Status) (journal : List Entry) (input input' output output' sink sink' : ℕ) (faults faults' : ℕ → ℕ)
    → call ≡ Runs asked → (ended ≡ status.ReadFault → Rose input input') → (ended ≡ status.WriteFault → Rose output output') → (ended ≡ status.JournalFault → Rose sink sink')
    → IsDiskFault ended (λ post. Rose (faults post) (faults' post)) → IsNoRoom ended (ShowsShort asked.pool journal)
    → IfSome left (λ bytes. AllTell asked (post_files files posts) store → MayEndAs (ending_of asked bytes) ended)
    → ForRun call (λ asked. IfSome left (λ bytes. AllTell asked (post_files files posts) store → (text : List ℕ) → ending_of asked bytes ≡ Prints text
    → FailsNothing input input' output output' sink sink' faults faults' → GrantsAll journal → (ended ≡ status.Done) ⊎ (ended ≡ status.NoMemory)))
completes_call files store posts None call asked ended journal input input' output output' sink sink' faults faults' is read write records disk no_room ends = for_run call asked _ is _
completes_call files store posts (Some bytes) call asked ended journal input input' output output' sink sink' faults faults' is read write records disk no_room ends =
    for_run call asked
    (λ asked. AllTell asked (post_files files posts) store → (text : List ℕ) → ending_of asked bytes ≡ Prints text
    → FailsNothing input input' output output' sink sink' faults faults' → GrantsAll journal → (ended ≡ status.Done) ⊎ (ended ≡ status.NoMemory))
    is (λ tell text prints nothing all. completes ended (ending_of asked bytes) text asked.pool journal input input' output output' sink sink' faults faults' prints nothing all read write records disk no_room (ends tell))
