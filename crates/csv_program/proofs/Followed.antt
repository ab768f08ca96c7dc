-- What a whole journal tells of a run, by what each of its workers did.
use Rattle.std.proofs.Common.{◌≡◌, ◌∙◌, ℕ, ◌+◌, ◌*◌, ◌<◌, ◌≤◌, ◌%◌, Bool, List, Option, Some, None, Result, Ok, Err, get_or, refl, sym, ap, subst, inl, inr, arith}
use Rattle.std.specs.Prelude.{OnOk, if◌then◌else◌}
use Rattle.std.specs.List.{AllByRecursion}
use Rattle.std.proofs.Math.Nat.{mod-lt}
use Rattle.std.proofs.lemmas.Bool.{cases_lt, le-ltb, lt-ltb}
use Rattle.pool_ledger.specs.History.{begins}
use Rattle.pool_ledger.specs.Journal.{history_of}
use Rattle.pool_ledger.specs.Legal.{IsLegal}
use Rattle.pool_ledger.specs.Sizes.{Sizes}
use Rattle.pool_ledger.specs.Workers.{entries_of}
use Rattle.pool_ledger.specs.declared.entry.Entry.{Entry}
use Rattle.pool_ledger.specs.declared.entry.Event.{Event}
use Rattle.pool_ledger.specs.declared.entry.Event.TheVariants.{Begin}
use Rattle.pool_laws.specs.Owners.{IsByOwner}
use Rattle.pool_laws.specs.SafeJournal.{IsSafeJournal}
use Rattle.turn_lock.specs.Passes.{LockId, WorkerView}
use Rattle.memory_lock.proofs.Staying.{all_imply}
use Rattle.memory_lock.specs.Crew.{AreWorkers, HasAll, new_worker}
use Rattle.memory_lock.specs.Workers.{own_entries, own_of}
use Rattle.task_runner.specs.Works.{IfNoRoom, ShowsNoRoom}
use Rattle.task_runner.specs.declared.work_fault.WorkFault.{WorkFault}
use Rattle.task_runner.specs.declared.work_fault.WorkFault.TheVariants.{NoRoom, DiskFault, Damaged, NoMemory}
use Rattle.csv_program.specs.Doing.{DoesOwn, EachBegins, EachDoes}
use Rattle.job_ending.specs.Tasks.{BeginsAll, FollowsPlan, owner_of, worker_at}
use Rattle.csv_program.specs.Shortage.{ShowsShort}
use Rattle.csv_program.proofs.Deeds.{none_ascend}
use Rattle.csv_program.proofs.Owners.{owner_is}
use Rattle.csv_program.proofs.Journals.{all_known, begun_least, ended_all, none_of, owned_all}

-- a worker's own entries are those that the journal has of it
pub whole_of : (lock : LockId) (workers : ℕ) (news : List WorkerView) (journal : List Entry) → AreWorkers lock workers news → HasAll news journal → (w : ℕ) (any : WorkerView) → w < workers → entries_of w journal ≡ own_entries (get_or news w any)
whole_of lock workers news journal are whole w any below =
    (whole w any (omega (arith, below, are.0))).own w (0, omega arith, refl) ∙ ap (λ (n : ℕ). entries_of n (get_or news w any).seen) (sym (are.1 w any below).number_is)

-- two names of the owners
by_same : (owner owner' : ℕ → Option ℕ) (w : ℕ) → ((task : ℕ) → owner task ≡ owner' task) → (event : Event) → IsByOwner owner w event → IsByOwner owner' w event
by_same owner owner' w same (Begin task) is = sym (same task) ∙ is
by_same owner owner' w same _ is = tt

-- what each worker did makes a journal of the plan
pub follows : (setup : Sizes) (lock : LockId) (owner : ℕ → Option ℕ) (workers partitions passes limit : ℕ) (news : List WorkerView) (journal : List Entry) → workers ≡ setup.workers → ((task : ℕ) → owner task ≡ owner_of 0 0 workers partitions passes task)
    → AreWorkers lock workers news → HasAll news journal → IsLegal setup (history_of journal) → EachDoes owner workers limit news → FollowsPlan (owner_of 0 0 workers partitions passes) journal
follows setup lock owner workers partitions passes limit news journal size owns are whole legal did =
    let known : AllByRecursion (λ entry. entry.worker < workers) journal = subst (λ (n : ℕ). AllByRecursion (λ entry. entry.worker < n) journal) (sym size) (all_known setup journal legal) in
    let any = new_worker lock 0 0 in
    let plan = owner_of 0 0 workers partitions passes in
    let done : (w : ℕ) → w < workers → DoesOwn owner w limit (entries_of w journal) = λ w below. subst (DoesOwn owner w limit) (sym (whole_of lock workers news journal are whole w any below)) (did w any below) in
    record {
      owned = owned_all plan workers journal known (λ w below. all_imply (λ entry. IsByOwner owner w entry.event) (λ entry. IsByOwner plan w entry.event) (λ entry is. by_same owner plan w owns entry.event is) (entries_of w journal) (done w below).owned);
      ascend = λ w. elim (cases_lt w workers) [
        | inl low ↦ (done w low).ascend
        | inr high ↦ none_ascend (entries_of w journal) (none_of workers w journal known high)
      ];
      ended = λ task. ended_all workers task journal known (λ w below. (done w below).ended task);
    }

-- each task of a plan is of some worker
worker_known : (workers partitions place : ℕ) → 0 < workers → worker_at workers partitions place < workers
worker_known workers partitions place some = elim (cases_lt place partitions) [
  | inl low ↦ subst (λ (b : Bool). (if b then place % workers else 0) < workers) (sym (lt-ltb place partitions low)) (mod-lt place some)
  | inr high ↦ subst (λ (b : Bool). (if b then place % workers else 0) < workers) (sym (le-ltb place partitions high)) some
]

-- where each worker began all of its own, each task was begun once
pub begins_all : (setup : Sizes) (lock : LockId) (owner : ℕ → Option ℕ) (workers partitions passes : ℕ) (news : List WorkerView) (journal : List Entry) → 0 < workers → ((task : ℕ) → owner task ≡ owner_of 0 0 workers partitions passes task)
    → AreWorkers lock workers news → HasAll news journal → IsSafeJournal setup journal → EachBegins owner workers (passes * (partitions + 1)) news → BeginsAll 0 partitions passes journal
begins_all setup lock owner workers partitions passes news journal some owns are whole safe began task within =
    let w = worker_at workers partitions (task % (partitions + 1)) in
    let known : w < workers = worker_known workers partitions (task % (partitions + 1)) some in
    let mine : owner task ≡ Some w = owns task ∙ owner_is workers partitions passes task ∙ ap (λ (b : Bool). if b then Some w else None) (lt-ltb task (passes * (partitions + 1)) within) in
    let any = new_worker lock 0 0 in
    let own : 1 ≤ begins (history_of (entries_of w journal)) task = subst (λ (es : List Entry). 1 ≤ begins (history_of es) task) (sym (whole_of lock workers news journal are whole w any known)) (began w any known task within mine) in
    let least = begun_least w task journal in
    let most = safe.begun_once task in
    let one : begins (history_of journal) task ≡ 1 = omega (arith, own, least, most) in
    let same : task + 0 ≡ task = omega arith in
    subst (λ (t : ℕ). begins (history_of journal) t ≡ 1) (sym same) one

pub on_ok_more : {T : Type 0} (answer : Result T WorkFault) (P Q : Type 0) → (P → Q) → OnOk answer P → OnOk answer Q
on_ok_more (Ok x) P Q more holds = more holds
on_ok_more (Err e) P Q more holds = tt

pub room_more : {T : Type 0} (says tells : ℕ → ℕ → ℕ → Type 0) (answer : Result T WorkFault) → ((asked held floor : ℕ) → says asked held floor → tells asked held floor) → IfNoRoom answer says → IfNoRoom answer tells
room_more says tells (Ok x) more room = tt
room_more says tells (Err (NoRoom asked held floor)) more room = more asked held floor room
room_more says tells (Err (DiskFault post)) more room = tt
room_more says tells (Err (Damaged damage)) more room = tt
room_more says tells (Err NoMemory) more room = tt

-- want of room that a worker's own entries show is in the journal
pub shows_short : (sizes setup : Sizes) (lock : LockId) (workers : ℕ) (news : List WorkerView) (journal : List Entry) → setup ≡ sizes → AreWorkers lock workers news → HasAll news journal
    → (asked held floor : ℕ) → ((w task : ℕ) × (w < workers) × ((any : WorkerView) → ShowsNoRoom sizes (own_of (get_or news w any)) task asked held floor)) → ShowsShort setup journal asked held floor
shows_short sizes setup lock workers news journal same are whole asked held floor shows =
    let any = new_worker lock 0 0 in
    let is = whole_of lock workers news journal are whole shows.0 any shows.2 in
    record {
      worker = shows.0;
      task = shows.1;
      shows = subst (λ (es : List Entry). ShowsNoRoom setup (history_of es) shows.1 asked held floor) (sym is)
          (subst (λ (s : Sizes). ShowsNoRoom s (own_of (get_or news shows.0 any)) shows.1 asked held floor) (sym same) (shows.3 any));
    }
