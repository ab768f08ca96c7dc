-- What the workers of a pass did, the tasks of each over its partitions and then the final one.
use Rattle.std.proofs.Common.{◌≡◌, ◌≢◌, ◌∙◌, ℕ, zero, suc, ◌+◌, ◌*◌, ◌<◌, ◌≤◌, ◌++◌, ◌%◌, Bool, false, List, [], Option, Some, None, get_or, length, set, sym, ap, subst, inl, inr, arith}
use Rattle.std.specs.Prelude.{if◌then◌else◌}
use Rattle.std.proofs.Math.Nat.{add-mul-mod_self_right, mod-eq_of_lt, mod-lt, mul-le-mul_right}
use Rattle.std.proofs.lemmas.Bool.{lt-ltb, le-ltb}
use Rattle.std.proofs.lemmas.List.{get_or-set_same, get_or_default}
use Rattle.pool_ledger.specs.Blocks.{worker_pin}
use Rattle.pool_ledger.specs.History.{open_task, was_begun}
use Rattle.pool_ledger.specs.Journal.{history_of}
use Rattle.pool_ledger.specs.Workers.{entries_of}
use Rattle.pool_ledger.specs.declared.entry.Entry.{Entry}
use Rattle.turn_lock.specs.Passes.{LockId, WorkerView}
use Rattle.memory_lock.specs.Crew.{AreNew, AreWorkers}
use Rattle.memory_lock.specs.Workers.{HasNoPin, IsFree, KeepsPin, SeesMore, own_entries, own_of}
use Rattle.task_runner.specs.AtOnce.{MayDoAll}
use Rattle.task_runner.specs.PassViews.{PassView, parts_of, task_for}
use Rattle.task_runner.specs.Workers.{AreTasks, DoesAll, DoesSome, part_at}
use Rattle.task_runner.specs.Works.{IsTaskOf, MayWork, Works}
use Rattle.task_pool.proofs.GoingOn.{sees_itself, sees_more}
use Rattle.csv_program.specs.Doing.{AreBetween, BeginsOwn, Clears, DoesOwn, EachBegins, EachDoes, EachSees, OwnsPass}
use Rattle.job_ending.specs.Tasks.{owner_of, worker_at}
use Rattle.csv_program.proofs.Owners.{owner_is}
use Rattle.csv_program.proofs.Deeds.{begins_cleared, begins_final, begins_other, begins_tasks, does_cleared, does_none, does_raise, does_task, does_tasks, fresh_from, worker_of}

-- ---- whose tasks they are

-- those of each pass of a plan
pub owns_pass : (owner : ℕ → Option ℕ) (workers partitions passes pass : ℕ) → ((task : ℕ) → owner task ≡ owner_of 0 0 workers partitions passes task) → pass < passes → OwnsPass owner workers partitions (pass * (partitions + 1))
owns_pass owner workers partitions passes pass owns below place within =
    let size = partitions + 1 in
    let task = place + pass * size in
    let most : suc pass * size ≤ passes * size = mul-le-mul_right size below in
    let inside : task < passes * size = omega (arith, most, within) in
    let is : task % size ≡ place = add-mul-mod_self_right place pass size ∙ mod-eq_of_lt (omega (arith, within)) in
    owns task ∙ owner_is workers partitions passes task ∙ ap (λ (b : Bool). if b then Some (worker_at workers partitions (task % size)) else None) (lt-ltb task (passes * size) inside)
    ∙ ap (λ (n : ℕ). Some (worker_at workers partitions n)) is

own_part : (owner : ℕ → Option ℕ) (workers partitions first part : ℕ) → OwnsPass owner workers partitions first → part < partitions → owner (part + first) ≡ Some (part % workers)
own_part owner workers partitions first part owns within =
    owns part (omega (arith, within)) ∙ ap (λ (b : Bool). Some (if b then part % workers else 0)) (lt-ltb part partitions within)

pub own_final : (owner : ℕ → Option ℕ) (workers partitions first : ℕ) → OwnsPass owner workers partitions first → owner (partitions + first) ≡ Some 0
own_final owner workers partitions first owns =
    owns partitions (omega arith) ∙ ap (λ (b : Bool). Some (if b then partitions % workers else 0)) (le-ltb partitions partitions (omega arith))

-- ---- new workers

pub own_none : (lock : LockId) (workers : ℕ) (olds : List WorkerView) → AreWorkers lock workers olds → AreNew olds → (w : ℕ) (any : WorkerView) → w < workers → own_entries (get_or olds w any) ≡ []
own_none lock workers olds are new w any below = ap (λ (es : List Entry). entries_of (get_or olds w any).number es) (new w any (omega (arith, below, are.0)))

-- new workers did nothing
pub new_between : (owner : ℕ → Option ℕ) (lock : LockId) (workers limit : ℕ) (olds : List WorkerView) → AreWorkers lock workers olds → AreNew olds → AreBetween lock owner workers limit olds
new_between owner lock workers limit olds are new = record {
  workers_are = are;
  free = λ w any below. ap (λ (es : List Entry). open_task (history_of es) (get_or olds w any).number) (own_none lock workers olds are new w any below);
  unpinned = λ w any below. ap (λ (es : List Entry). worker_pin (history_of es) (get_or olds w any).number) (own_none lock workers olds are new w any below);
  does = λ w any below. does_none owner w limit (own_entries (get_or olds w any)) (own_none lock workers olds are new w any below);
}

-- no task from the limit on was begun
pub fresh_each : (owner : ℕ → Option ℕ) (workers limit task : ℕ) (olds : List WorkerView) → EachDoes owner workers limit olds → limit ≤ task → (w : ℕ) (any : WorkerView) → w < workers → was_begun (own_of (get_or olds w any)) task ≡ false
fresh_each owner workers limit task olds did most w any below = fresh_from owner w limit task (own_entries (get_or olds w any)) most (did w any below)

-- workers between two tasks may do all tasks of a pass that are theirs
pub may_do : (owner : ℕ → Option ℕ) (lock : LockId) (workers : ℕ) (pass : PassView) (olds : List WorkerView) → OwnsPass owner workers (parts_of pass) pass.first → 0 < workers → AreBetween lock owner workers pass.first olds → MayDoAll lock owner pass olds
may_do owner lock workers pass olds owns some are =
    let size : length olds ≡ workers = are.workers_are.0 in
    -- the worker of a partition
    let its : (part : ℕ) → part % length olds < workers = λ part. let low : part % length olds < length olds = mod-lt part {m = length olds} (omega (arith, some, size)) in omega (arith, low, size) in
    record {
      locks = λ w any below. (are.workers_are.1 w any (omega (arith, below, size))).lock_is;
      rests = λ w any below. (are.workers_are.1 w any (omega (arith, below, size))).free;
      free = λ w any below. are.free w any (omega (arith, below, size));
      unpinned = λ w any below. are.unpinned w any (omega (arith, below, size));
      owns = λ part any inside. own_part owner workers (parts_of pass) pass.first part owns inside ∙ ap (λ (n : ℕ). Some (part % n)) (sym size)
          ∙ ap Some (sym (are.workers_are.1 (part % length olds) any (its part)).number_is);
      fresh = λ part any inside. fresh_each owner workers pass.first (task_for pass part) olds are.does (omega arith) (part % length olds) any (its part);
    }

-- ---- the partitions

pub tasks_each : (owner : ℕ → Option ℕ) (lock : LockId) (workers partitions first : ℕ) (olds mids : List WorkerView) → 0 < workers → OwnsPass owner workers partitions first → AreWorkers lock workers olds → EachDoes owner workers first olds
    → ((w : ℕ) (any : WorkerView) → w < workers → DoesSome first workers w partitions (get_or olds w any) (get_or mids w any)) → EachDoes owner workers (first + partitions) mids
tasks_each owner lock workers partitions first olds mids some owns are did more w any below =
    let old = get_or olds w any in
    let adds = more w any below in
    let number : old.number ≡ w = (are.1 w any below).number_is in
    let within = adds.within in
    let tasks : AreTasks first workers w w adds.count adds.does.0 = subst (λ (n : ℕ). AreTasks first workers w n adds.count adds.does.0) number adds.does.1 in
    subst (DoesOwn owner w (first + partitions)) (sym adds.does.2)
    (does_tasks owner first workers w first (first + partitions) adds.count (own_entries old) adds.does.0 some (omega arith) (omega arith)
    (λ j low. let inside = within j low in omega (arith, inside))
    (λ j low. own_part owner workers partitions first (part_at workers w j) owns (within j low) ∙ ap Some (worker_of workers w j below)) tasks (did w any below))

pub begun_each : (owner : ℕ → Option ℕ) (lock : LockId) (workers partitions first : ℕ) (olds mids : List WorkerView) → OwnsPass owner workers partitions first → AreWorkers lock workers olds → EachBegins owner workers first olds
    → ((w : ℕ) (any : WorkerView) → w < workers → DoesAll first workers w partitions (get_or olds w any) (get_or mids w any)) → EachBegins owner workers (first + partitions) mids
begun_each owner lock workers partitions first olds mids owns are began more w any below =
    let old = get_or olds w any in
    let adds = more w any below in
    let number : old.number ≡ w = (are.1 w any below).number_is in
    subst (BeginsOwn owner w (first + partitions)) (sym adds.does.2)
    (begins_tasks owner first workers partitions w adds.count (own_entries old) adds.does.0 (λ part within. own_part owner workers partitions first part owns within)
    adds.all (subst (λ (n : ℕ). AreTasks first workers w n adds.count adds.does.0) number adds.does.1) (began w any below))

-- ---- and the final one

final_does : (owner : ℕ → Option ℕ) (partitions first : ℕ) (mid after : WorkerView) → mid.number ≡ 0 → owner (partitions + first) ≡ Some 0 → MayWork (partitions + first) mid after
    → DoesOwn owner 0 (first + partitions) (own_entries mid) → DoesOwn owner 0 (first + partitions + 1) (own_entries after)
final_does owner partitions first mid after number owns may did = elim may [
  | inl same ↦ subst (DoesOwn owner 0 (first + partitions + 1)) (sym same) (does_raise owner 0 (first + partitions) (first + partitions + 1) (own_entries mid) (omega arith) did)
  | inr works ↦
      subst (DoesOwn owner 0 (first + partitions + 1)) (sym works.2)
      (does_raise owner 0 (partitions + first + 1) (first + partitions + 1) (own_entries mid ++ works.0) (omega arith)
      (does_task owner 0 (first + partitions) (partitions + first) (own_entries mid) works.0 (omega arith) owns (subst (λ (n : ℕ). IsTaskOf n (partitions + first) works.0) number works.1) did))
]

-- each worker did its tasks, and the first of them maybe the final one
pub final_each : (owner : ℕ → Option ℕ) (lock : LockId) (workers partitions first : ℕ) (mids news : List WorkerView) → OwnsPass owner workers partitions first → AreWorkers lock workers mids → EachDoes owner workers (first + partitions) mids
    → ((any : WorkerView) → MayWork (partitions + first) (get_or mids 0 any) (get_or news 0 any)) → ((w : ℕ) (any : WorkerView) → w ≢ 0 → get_or news w any ≡ get_or mids w any)
    → EachDoes owner workers (first + partitions + 1) news
final_each owner lock workers partitions first mids news owns are did may others zero any below =
    final_does owner partitions first (get_or mids 0 any) (get_or news 0 any) (are.1 0 any below).number_is (own_final owner workers partitions first owns) (may any) (did 0 any below)
final_each owner lock workers partitions first mids news owns are did may others (suc w) any below =
    subst (λ (s : WorkerView). DoesOwn owner (suc w) (first + partitions + 1) (own_entries s)) (sym (others (suc w) any (λ same. absurd (omega (arith, same)))))
    (does_raise owner (suc w) (first + partitions) (first + partitions + 1) (own_entries (get_or mids (suc w) any)) (omega arith) (did (suc w) any below))

-- each worker began all that is its own
pub begun_final : (owner : ℕ → Option ℕ) (lock : LockId) (workers partitions first : ℕ) (mids news : List WorkerView) → OwnsPass owner workers partitions first → AreWorkers lock workers mids → EachBegins owner workers (first + partitions) mids
    → ((any : WorkerView) → Works (partitions + first) (get_or mids 0 any) (get_or news 0 any)) → ((w : ℕ) (any : WorkerView) → w ≢ 0 → get_or news w any ≡ get_or mids w any)
    → EachBegins owner workers (first + partitions + 1) news
begun_final owner lock workers partitions first mids news owns are began works others zero any below =
    let mid = get_or mids 0 any in
    let did = works any in
    subst (BeginsOwn owner 0 (first + partitions + 1)) (sym did.2)
    (begins_final owner first partitions 0 (own_entries mid) did.0 (subst (λ (n : ℕ). IsTaskOf n (partitions + first) did.0) (are.1 0 any below).number_is did.1) (began 0 any below))
begun_final owner lock workers partitions first mids news owns are began works others (suc w) any below =
    let apart : suc w ≢ 0 = λ same. absurd (omega (arith, same)) in
    subst (λ (s : WorkerView). BeginsOwn owner (suc w) (first + partitions + 1) (own_entries s)) (sym (others (suc w) any apart))
    (begins_other owner first partitions (suc w) (own_entries (get_or mids (suc w) any)) (own_final owner workers partitions first owns) apart (began (suc w) any below))

-- ---- a whole pass

-- the workers of a manager that have seen more are its workers still
pub still_workers : (lock : LockId) (workers : ℕ) (olds mids : List WorkerView) → AreWorkers lock workers olds → length mids ≡ length olds → EachSees workers olds mids
    → ((w : ℕ) (any : WorkerView) → w < workers → (get_or mids w any).base ≡ None) → AreWorkers lock workers mids
still_workers lock workers olds mids were same sees rests = (
  same ∙ were.0,
  λ w any below.
      let was = were.1 w any below in
      let more = sees w any below in
      record {
        lock_is = more.lock_is ∙ was.lock_is;
        number_is = more.number_is ∙ was.number_is;
        speaks_is = more.speaks_is ∙ was.speaks_is;
        last = λ end. more.spare_is ∙ was.last end;
        others = λ next. more.spare_is ∙ was.others next;
        free = rests w any below;
      },
)

-- the workers did their tasks, and not the final one
pub between_tasks : (owner : ℕ → Option ℕ) (lock : LockId) (workers partitions first : ℕ) (olds mids : List WorkerView) → 0 < workers → OwnsPass owner workers partitions first → AreBetween lock owner workers first olds → AreWorkers lock workers mids
    → ((w : ℕ) (any : WorkerView) → w < workers → DoesSome first workers w partitions (get_or olds w any) (get_or mids w any)) → ((w : ℕ) (any : WorkerView) → w < workers → IsFree (get_or mids w any))
    → ((w : ℕ) (any : WorkerView) → w < workers → KeepsPin (get_or olds w any) (get_or mids w any)) → AreBetween lock owner workers (first + partitions) mids
between_tasks owner lock workers partitions first olds mids some owns old are more free pins = record {
  workers_are = are;
  free = free;
  unpinned = λ w any below. pins w any below ∙ old.unpinned w any below;
  does = tasks_each owner lock workers partitions first olds mids some owns old.workers_are old.does more;
}

-- the same, of what is told of all workers that there are
pub between_ran : (owner : ℕ → Option ℕ) (lock : LockId) (workers partitions first : ℕ) (olds mids : List WorkerView) → 0 < workers → OwnsPass owner workers partitions first → AreBetween lock owner workers first olds
    → length mids ≡ length olds → ((w : ℕ) (any : WorkerView) → w < length olds → (get_or mids w any).base ≡ None) → ((w : ℕ) (any : WorkerView) → w < length olds → SeesMore (get_or olds w any) (get_or mids w any))
    → ((w : ℕ) (any : WorkerView) → w < length olds → DoesSome first (length olds) w partitions (get_or olds w any) (get_or mids w any)) → ((w : ℕ) (any : WorkerView) → w < length olds → IsFree (get_or mids w any))
    → ((w : ℕ) (any : WorkerView) → w < length olds → KeepsPin (get_or olds w any) (get_or mids w any)) → AreBetween lock owner workers (first + partitions) mids
between_ran owner lock workers partitions first olds mids some owns old same rests sees more free pins =
    let size : length olds ≡ workers = old.workers_are.0 in
    between_tasks owner lock workers partitions first olds mids some owns old
    (still_workers lock workers olds mids old.workers_are same (λ w any below. sees w any (omega (arith, below, size))) (λ w any below. rests w any (omega (arith, below, size))))
    (λ w any below. subst (λ (n : ℕ). DoesSome first n w partitions (get_or olds w any) (get_or mids w any)) size (more w any (omega (arith, below, size))))
    (λ w any below. free w any (omega (arith, below, size))) (λ w any below. pins w any (omega (arith, below, size)))

pub between_more : (owner : ℕ → Option ℕ) (lock : LockId) (workers limit higher : ℕ) (states : List WorkerView) → limit ≤ higher → AreBetween lock owner workers limit states → AreBetween lock owner workers higher states
between_more owner lock workers limit higher states most are = record {
  workers_are = are.workers_are;
  free = are.free;
  unpinned = are.unpinned;
  does = λ w any below. does_raise owner w limit higher (own_entries (get_or states w any)) most (are.does w any below);
}

-- and maybe the final one
pub between_passes : (owner : ℕ → Option ℕ) (lock : LockId) (workers partitions first : ℕ) (mids news : List WorkerView) → OwnsPass owner workers partitions first → AreBetween lock owner workers (first + partitions) mids → AreWorkers lock workers news
    → ((any : WorkerView) → MayWork (partitions + first) (get_or mids 0 any) (get_or news 0 any)) → ((any : WorkerView) → IsFree (get_or news 0 any)) → ((any : WorkerView) → KeepsPin (get_or mids 0 any) (get_or news 0 any))
    → ((w : ℕ) (any : WorkerView) → w ≢ 0 → get_or news w any ≡ get_or mids w any) → AreBetween lock owner workers (first + partitions + 1) news
between_passes owner lock workers partitions first mids news owns mid are may free pin others = record {
  workers_are = are;
  free = free_each;
  unpinned = pin_each;
  does = final_each owner lock workers partitions first mids news owns mid.workers_are mid.does may others;
}
  where
    free_each : (w : ℕ) (any : WorkerView) → w < workers → IsFree (get_or news w any)
    free_each zero any below = free any
    free_each (suc w) any below = subst IsFree (sym (others (suc w) any (λ same. absurd (omega (arith, same))))) (mid.free (suc w) any below)

    pin_each : (w : ℕ) (any : WorkerView) → w < workers → HasNoPin (get_or news w any)
    pin_each zero any below = pin any ∙ mid.unpinned 0 any below
    pin_each (suc w) any below = subst HasNoPin (sym (others (suc w) any (λ same. absurd (omega (arith, same))))) (mid.unpinned (suc w) any below)

-- each worker began all tasks of the pass that are its own
pub begun_pass : (owner : ℕ → Option ℕ) (lock : LockId) (workers partitions first : ℕ) (olds mids news : List WorkerView) → OwnsPass owner workers partitions first → AreWorkers lock workers olds → AreWorkers lock workers mids → EachBegins owner workers first olds
    → ((w : ℕ) (any : WorkerView) → w < workers → DoesAll first workers w partitions (get_or olds w any) (get_or mids w any)) → ((any : WorkerView) → Works (partitions + first) (get_or mids 0 any) (get_or news 0 any))
    → ((w : ℕ) (any : WorkerView) → w ≢ 0 → get_or news w any ≡ get_or mids w any) → EachBegins owner workers (first + partitions + 1) news
begun_pass owner lock workers partitions first olds mids news owns old mid began more works others =
    begun_final owner lock workers partitions first mids news owns mid (begun_each owner lock workers partitions first olds mids owns old began more) works others

-- ---- blocks that are removed

-- what the first worker clears between two tasks changes nothing of the others
pub cleared_each : (P : ℕ → WorkerView → Type 0) (datasets : List ℕ) (workers : ℕ) (mids news : List WorkerView) → ((any : WorkerView) → Clears datasets (get_or mids 0 any) (get_or news 0 any))
    → ((w : ℕ) (any : WorkerView) → w ≢ 0 → get_or news w any ≡ get_or mids w any) → ((before after : WorkerView) → Clears datasets before after → P 0 before → P 0 after)
    → ((w : ℕ) (any : WorkerView) → w < workers → P w (get_or mids w any)) → (w : ℕ) (any : WorkerView) → w < workers → P w (get_or news w any)
cleared_each P datasets workers mids news clears others stays were zero any below = stays (get_or mids 0 any) (get_or news 0 any) (clears any) (were 0 any below)
cleared_each P datasets workers mids news clears others stays were (suc w) any below = subst (P (suc w)) (sym (others (suc w) any (λ same. absurd (omega (arith, same))))) (were (suc w) any below)

pub between_cleared : (owner : ℕ → Option ℕ) (lock : LockId) (workers limit : ℕ) (datasets : List ℕ) (mids news : List WorkerView) → AreWorkers lock workers news → ((any : WorkerView) → Clears datasets (get_or mids 0 any) (get_or news 0 any))
    → ((w : ℕ) (any : WorkerView) → w ≢ 0 → get_or news w any ≡ get_or mids w any) → AreBetween lock owner workers limit mids → AreBetween lock owner workers limit news
between_cleared owner lock workers limit datasets mids news are clears others mid = record {
  workers_are = are;
  free = cleared_each (λ w s. IsFree s) datasets workers mids news clears others (λ before after cleared free. cleared.task ∙ free) mid.free;
  unpinned = cleared_each (λ w s. HasNoPin s) datasets workers mids news clears others (λ before after cleared none. cleared.pin ∙ none) mid.unpinned;
  does = cleared_each (λ w s. DoesOwn owner w limit (own_entries s)) datasets workers mids news clears others
      (λ before after cleared did. subst (DoesOwn owner 0 limit) (sym cleared.adds) (does_cleared owner 0 limit before.number datasets (own_entries before) cleared.removed cleared.all did)) mid.does;
}

pub begun_cleared : (owner : ℕ → Option ℕ) (workers limit : ℕ) (datasets : List ℕ) (mids news : List WorkerView) → ((any : WorkerView) → Clears datasets (get_or mids 0 any) (get_or news 0 any))
    → ((w : ℕ) (any : WorkerView) → w ≢ 0 → get_or news w any ≡ get_or mids w any) → EachBegins owner workers limit mids → EachBegins owner workers limit news
begun_cleared owner workers limit datasets mids news clears others began =
    cleared_each (λ w s. BeginsOwn owner w limit (own_entries s)) datasets workers mids news clears others
    (λ before after cleared began. subst (BeginsOwn owner 0 limit) (sym cleared.adds) (begins_cleared owner 0 limit before.number datasets (own_entries before) cleared.removed cleared.all began)) began

-- ---- what they have seen

-- only the first went on
pub sees_first : (workers : ℕ) (mids news : List WorkerView) → ((any : WorkerView) → SeesMore (get_or mids 0 any) (get_or news 0 any))
    → ((w : ℕ) (any : WorkerView) → w ≢ 0 → get_or news w any ≡ get_or mids w any) → EachSees workers mids news
sees_first workers mids news sees others zero any below = sees any
sees_first workers mids news sees others (suc w) any below =
    subst (λ (s : WorkerView). SeesMore (get_or mids (suc w) any) s) (sym (others (suc w) any (λ same. absurd (omega (arith, same))))) (sees_itself (get_or mids (suc w) any))

pub sees_cleared : (datasets : List ℕ) (workers : ℕ) (mids news : List WorkerView) → ((any : WorkerView) → Clears datasets (get_or mids 0 any) (get_or news 0 any))
    → ((w : ℕ) (any : WorkerView) → w ≢ 0 → get_or news w any ≡ get_or mids w any) → EachSees workers mids news
sees_cleared datasets workers mids news clears others = sees_first workers mids news (λ any. (clears any).sees) others

pub sees_then : (workers : ℕ) (olds mids news : List WorkerView) → EachSees workers olds mids → EachSees workers mids news → EachSees workers olds news
sees_then workers olds mids news first last w any below = sees_more (get_or olds w any) (get_or mids w any) (get_or news w any) (first w any below) (last w any below)

-- ---- the worker that was lent

-- what the worker that was lent did, the first of the list did
pub works_at : (task : ℕ) (olds : List WorkerView) (worker worker' any : WorkerView) → 0 < length olds → worker ≡ get_or olds 0 worker → Works task worker worker' → Works task (get_or olds 0 any) (get_or (set olds 0 worker') 0 any)
works_at task olds worker worker' any some is works =
    let old : worker ≡ get_or olds 0 any = is ∙ get_or_default olds 0 worker any some in
    subst (λ (w : WorkerView). Works task (get_or olds 0 any) w) (sym (get_or-set_same olds 0 worker' any some)) (subst (λ (w : WorkerView). Works task w worker') old works)
