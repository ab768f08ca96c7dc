-- Blocks are removed behind the last task of a worker that may need them.
use Rattle.std.proofs.Common.{◌≡◌, ◌≢◌, ◌∙◌, ℕ, zero, suc, ◌+◌, ◌*◌, ◌<◌, ◌≤◌, ◌++◌, Bool, true, false, List, [], ◌∷◌, get_or, length, refl, sym, ap, subst, inl, inr, arith, append-nil, append_assoc}
use Rattle.std.specs.Prelude.{◌==◌, ◌||◌, Contains, slice_index_or, if◌then◌else◌}
use Rattle.std.specs.List.{AllByRecursion, list_any}
use Rattle.std.proofs.Math.Nat.{mul-le-mul_right}
use Rattle.std.proofs.lemmas.Bool.{eq-eqb}
use Rattle.pool_ledger.specs.declared.entry.Entry.{Entry}
use Rattle.pool_ledger.specs.declared.entry.Event.{Event}
use Rattle.pool_ledger.specs.declared.entry.Event.TheVariants.{End, Remove}
use Rattle.pool_laws.specs.Growing.{entry_by}
use Rattle.task_pool.proofs.GoingOn.{all_append}
use Rattle.memory_lock.proofs.Staying.{all_imply}
use Rattle.memory_lock.specs.Crew.{AreNew, AreWorkers, HasAll}
use Rattle.memory_lock.specs.Workers.{own_entries}
use Rattle.turn_lock.specs.Passes.{LockId, WorkerView}
use Rattle.task_pool.specs.Asks.{IsOfTask}
use Rattle.lineage.specs.Entries.{IsRowsWork}
use Rattle.task_runner.specs.Workers.{AreTasks, DoesSome, part_at}
use Rattle.task_runner.specs.Works.{IsInTask, IsTaskOf, MayWork}
use Rattle.job_plan.specs.Plans.{removed_in}
use Rattle.job_plan.specs.declared.query_plan.Plan.{Plan}
use Rattle.job_ending.specs.Removals.{IfRemoves, RemovesBehind, RemovesLate, free_from, passes_until}
use Rattle.job_ending.specs.Tasks.{begun_in}
use Rattle.csv_program.specs.Doing.{Clears, EachRemoves, IsRemovalOf, RemovesOwn}
use Rattle.csv_program.proofs.Crews.{cleared_each, own_none}
use Rattle.csv_program.proofs.Deeds.{parts_rise}
use Rattle.csv_program.proofs.Followed.{whole_of}
use Rattle.csv_program.proofs.TaskEntries.{Amid, amid_begun, begun_append, every_append, removal_amid, task_begun}

-- ---- what an event removes

if_removes : (event : Event) (P Q : ℕ → Type 0) → ((dataset : ℕ) → P dataset → Q dataset) → IfRemoves event P → IfRemoves event Q
if_removes (Remove dataset part size) P Q more is = more dataset is
if_removes _ P Q more is = tt

both_removes : (event : Event) (P Q R : ℕ → Type 0) → ((dataset : ℕ) → P dataset → Q dataset → R dataset) → IfRemoves event P → IfRemoves event Q → IfRemoves event R
both_removes (Remove dataset part size) P Q R more p q = more dataset p q
both_removes _ P Q R more p q = tt

any_removes : (event : Event) (P : ℕ → Type 0) → ((dataset : ℕ) → P dataset) → IfRemoves event P
any_removes (Remove dataset part size) P always = always dataset
any_removes _ P always = tt

removes_append : (first : ℕ → ℕ) (xs ys : List Entry) → RemovesBehind first xs → RemovesBehind first ys
    → AllByRecursion (λ entry. IfRemoves entry.event (λ dataset. AllByRecursion (λ task. first dataset ≤ task) (begun_in ys))) xs → RemovesBehind first (xs ++ ys)
unfolding RemovesBehind
removes_append first [] ys own more across = more
removes_append first (x ∷ rest) ys own more across = (
  both_removes x.event (λ dataset. AllByRecursion (λ task. first dataset ≤ task) (begun_in rest)) (λ dataset. AllByRecursion (λ task. first dataset ≤ task) (begun_in ys))
      (λ dataset. AllByRecursion (λ task. first dataset ≤ task) (begun_in (rest ++ ys)))
      (λ dataset here there. subst (AllByRecursion (λ task. first dataset ≤ task)) (sym (begun_append rest ys)) (every_append (λ task. first dataset ≤ task) (begun_in rest) (begun_in ys) here there))
      own.0 across.0,
  removes_append first rest ys own.1 more across.1,
)

-- ---- a task removes nothing

abbrev Quiet : Entry → Type 0
Quiet entry = IfRemoves entry.event (λ dataset. ⊥)

asks_quiet : (worker task : ℕ) (entry : Entry) → IsOfTask worker task entry → Quiet entry
asks_quiet worker task entry is = elim is [
  | inl attempt ↦ subst Quiet (sym attempt.4) tt
  | inr other ↦ elim other [
    | inl eviction ↦ subst Quiet (sym eviction.4) tt
    | inr release ↦ subst Quiet (sym release.1) tt
  ]
]

rows_quiet : (worker : ℕ) (entry : Entry) → IsRowsWork worker entry → Quiet entry
rows_quiet worker entry is = elim is [
  | inl pinning ↦ elim pinning [
    | inl pin ↦ subst Quiet (sym pin.3) tt
    | inr unpin ↦ subst Quiet (sym unpin.2) tt
  ]
  | inr other ↦ elim other [
    | inl keeping ↦ elim keeping [
      | inl admit ↦ subst Quiet (sym admit.6) tt
      | inr refused ↦ subst Quiet (sym refused.5) tt
    ]
    | inr eviction ↦ subst Quiet (sym eviction.4) tt
  ]
]

in_task_quiet : (worker task : ℕ) (entry : Entry) → IsInTask worker task entry → Quiet entry
in_task_quiet worker task entry is = elim is [ inl asks ↦ asks_quiet worker task entry asks | inr work ↦ rows_quiet worker entry work ]

task_quiet : (worker task : ℕ) (entries : List Entry) → IsTaskOf worker task entries → AllByRecursion Quiet entries
task_quiet worker task entries is =
    subst (AllByRecursion Quiet) (sym is.are)
    (tt, all_append Quiet is.amid (entry_by worker (End task is.freed) ∷ []) (all_imply (IsInTask worker task) Quiet (in_task_quiet worker task) is.amid is.all) (tt, tt))

quiet_behind : (first : ℕ → ℕ) (entries : List Entry) → AllByRecursion Quiet entries → RemovesBehind first entries
unfolding RemovesBehind
quiet_behind first [] all = tt
quiet_behind first (x ∷ rest) all = (
  if_removes x.event (λ dataset. ⊥) (λ dataset. AllByRecursion (λ task. first dataset ≤ task) (begun_in rest)) (λ dataset none. absurd none) all.0,
  quiet_behind first rest all.1,
)

quiet_free : (P : ℕ → Type 0) (entries : List Entry) → AllByRecursion Quiet entries → AllByRecursion (λ entry. IfRemoves entry.event P) entries
quiet_free P entries all = all_imply Quiet (λ entry. IfRemoves entry.event P) (λ entry none. if_removes entry.event (λ dataset. ⊥) P (λ dataset none. absurd none) none) entries all

-- ---- what a worker did

removes_none : (first : ℕ → ℕ) (limit : ℕ) (entries : List Entry) → entries ≡ [] → RemovesOwn first limit entries
unfolding RemovesBehind
removes_none first limit entries none = subst (RemovesOwn first limit) (sym none) (record { behind = tt; free = tt })

removes_raise : (first : ℕ → ℕ) (limit higher : ℕ) (entries : List Entry) → limit ≤ higher → RemovesOwn first limit entries → RemovesOwn first higher entries
removes_raise first limit higher entries most did = record {
  behind = did.behind;
  free = all_imply (λ entry. IfRemoves entry.event (λ dataset. first dataset ≤ limit)) (λ entry. IfRemoves entry.event (λ dataset. first dataset ≤ higher))
      (λ entry is. if_removes entry.event (λ dataset. first dataset ≤ limit) (λ dataset. first dataset ≤ higher) (λ dataset low. omega (arith, low, most)) is) entries did.free;
}

-- one task more, above those that it did
removes_task : (first : ℕ → ℕ) (w limit task : ℕ) (entries added : List Entry) → limit ≤ task → IsTaskOf w task added → RemovesOwn first limit entries → RemovesOwn first task (entries ++ added)
removes_task first w limit task entries added most is did =
    let quiet = task_quiet w task added is in
    let begun : begun_in added ≡ task ∷ [] = task_begun w task added is in
    record {
      behind = removes_append first entries added did.behind (quiet_behind first added quiet)
          (all_imply (λ entry. IfRemoves entry.event (λ dataset. first dataset ≤ limit)) (λ entry. IfRemoves entry.event (λ dataset. AllByRecursion (λ t. first dataset ≤ t) (begun_in added)))
          (λ entry free. if_removes entry.event (λ dataset. first dataset ≤ limit) (λ dataset. AllByRecursion (λ t. first dataset ≤ t) (begun_in added))
          (λ dataset low. subst (AllByRecursion (λ t. first dataset ≤ t)) (sym begun) (omega (arith, low, most), tt)) free) entries did.free);
      free = all_append (λ entry. IfRemoves entry.event (λ dataset. first dataset ≤ task)) entries added (removes_raise first limit task entries most did).free (quiet_free (λ dataset. first dataset ≤ task) added quiet);
    }

-- the first tasks of a pass more
removes_tasks : (first : ℕ → ℕ) (from workers w limit bound k : ℕ) (entries added : List Entry) → 0 < workers → limit ≤ from → limit ≤ bound → ((j : ℕ) → j < k → part_at workers w j + from < bound)
    → AreTasks from workers w w k added → RemovesOwn first limit entries → RemovesOwn first bound (entries ++ added)
unfolding AreTasks
removes_tasks first from workers w limit bound zero entries added some low most within are did =
    subst (RemovesOwn first bound) (sym (ap (λ (es : List Entry). entries ++ es) are ∙ append-nil entries)) (removes_raise first limit bound entries most did)
removes_tasks first from workers w limit bound (suc k) entries added some low most within are did =
    let task = part_at workers w k + from in
    let before = removes_tasks first from workers w limit task k entries are.0 some low (omega (arith, low)) (λ j below. let less = parts_rise workers w k some j below in omega (arith, less)) are.2 did in
    let is : entries ++ added ≡ (entries ++ are.0) ++ are.1 = ap (λ (es : List Entry). entries ++ es) are.4 ∙ sym (append_assoc entries are.0 are.1) in
    let last : task < bound = within k (omega arith) in
    subst (RemovesOwn first bound) (sym is) (removes_raise first task bound ((entries ++ are.0) ++ are.1) (omega (arith, last)) (removes_task first w task task (entries ++ are.0) are.1 (omega arith) are.3 before))

begun_none : (entries : List Entry) → AllByRecursion Amid entries → begun_in entries ≡ []
unfolding begun_in
begun_none entries all = ap begun_in (sym (append-nil entries)) ∙ amid_begun entries [] all

amid_behind : (first : ℕ → ℕ) (entries : List Entry) → AllByRecursion Amid entries → RemovesBehind first entries
unfolding RemovesBehind
amid_behind first [] all = tt
amid_behind first (x ∷ rest) all = (
  any_removes x.event (λ dataset. AllByRecursion (λ task. first dataset ≤ task) (begun_in rest)) (λ dataset. subst (AllByRecursion (λ task. first dataset ≤ task)) (sym (begun_none rest all.1)) tt),
  amid_behind first rest all.1,
)

removal_free : (first : ℕ → ℕ) (limit number : ℕ) (datasets : List ℕ) → ((dataset : ℕ) → Contains datasets dataset → first dataset ≤ limit) → (entry : Entry) → IsRemovalOf number datasets entry
    → IfRemoves entry.event (λ dataset. first dataset ≤ limit)
removal_free first limit number datasets low entry is = subst (λ (e : Entry). IfRemoves e.event (λ dataset. first dataset ≤ limit)) (sym is.4) (low is.0 is.3)

-- removals of datasets that no task from the limit on needs
removes_cleared : (first : ℕ → ℕ) (limit number : ℕ) (datasets : List ℕ) (entries removed : List Entry) → ((dataset : ℕ) → Contains datasets dataset → first dataset ≤ limit)
    → AllByRecursion (IsRemovalOf number datasets) removed → RemovesOwn first limit entries → RemovesOwn first limit (entries ++ removed)
removes_cleared first limit number datasets entries removed low all did =
    let amid : AllByRecursion Amid removed = all_imply (IsRemovalOf number datasets) Amid (removal_amid number datasets) removed all in
    let begun : begun_in removed ≡ [] = begun_none removed amid in
    record {
      behind = removes_append first entries removed did.behind (amid_behind first removed amid)
          (all_imply (λ entry. IfRemoves entry.event (λ dataset. first dataset ≤ limit)) (λ entry. IfRemoves entry.event (λ dataset. AllByRecursion (λ t. first dataset ≤ t) (begun_in removed)))
          (λ entry free. any_removes entry.event (λ dataset. AllByRecursion (λ t. first dataset ≤ t) (begun_in removed)) (λ dataset. subst (AllByRecursion (λ t. first dataset ≤ t)) (sym begun) tt)) entries did.free);
      free = all_append (λ entry. IfRemoves entry.event (λ dataset. first dataset ≤ limit)) entries removed did.free
          (all_imply (IsRemovalOf number datasets) (λ entry. IfRemoves entry.event (λ dataset. first dataset ≤ limit)) (removal_free first limit number datasets low) removed all);
    }

-- ---- all workers of a pass

pub removes_new : (first : ℕ → ℕ) (lock : LockId) (workers limit : ℕ) (olds : List WorkerView) → AreWorkers lock workers olds → AreNew olds → EachRemoves first workers limit olds
removes_new first lock workers limit olds are new w any below = removes_none first limit (own_entries (get_or olds w any)) (own_none lock workers olds are new w any below)

removes_each : (first : ℕ → ℕ) (lock : LockId) (workers partitions from : ℕ) (olds mids : List WorkerView) → 0 < workers → AreWorkers lock workers olds
    → ((w : ℕ) (any : WorkerView) → w < workers → DoesSome from workers w partitions (get_or olds w any) (get_or mids w any)) → EachRemoves first workers from olds → EachRemoves first workers (from + partitions) mids
removes_each first lock workers partitions from olds mids some are more did w any below =
    let old = get_or olds w any in
    let adds = more w any below in
    let number : old.number ≡ w = (are.1 w any below).number_is in
    let within = adds.within in
    subst (RemovesOwn first (from + partitions)) (sym adds.does.2)
    (removes_tasks first from workers w from (from + partitions) adds.count (own_entries old) adds.does.0 some (omega arith) (omega arith)
    (λ j low. let inside = within j low in omega (arith, inside))
    (subst (λ (n : ℕ). AreTasks from workers w n adds.count adds.does.0) number adds.does.1) (did w any below))

removes_last : (first : ℕ → ℕ) (partitions from : ℕ) (mid after : WorkerView) → mid.number ≡ 0 → MayWork (partitions + from) mid after → RemovesOwn first (from + partitions) (own_entries mid) → RemovesOwn first (from + partitions + 1) (own_entries after)
removes_last first partitions from mid after number may did = elim may [
  | inl same ↦ subst (RemovesOwn first (from + partitions + 1)) (sym same) (removes_raise first (from + partitions) (from + partitions + 1) (own_entries mid) (omega arith) did)
  | inr works ↦
      subst (RemovesOwn first (from + partitions + 1)) (sym works.2)
      (removes_raise first (partitions + from) (from + partitions + 1) (own_entries mid ++ works.0) (omega arith)
      (removes_task first 0 (from + partitions) (partitions + from) (own_entries mid) works.0 (omega arith) (subst (λ (n : ℕ). IsTaskOf n (partitions + from) works.0) number works.1) did))
]

removes_final : (first : ℕ → ℕ) (lock : LockId) (workers partitions from : ℕ) (mids news : List WorkerView) → AreWorkers lock workers mids → ((any : WorkerView) → MayWork (partitions + from) (get_or mids 0 any) (get_or news 0 any))
    → ((w : ℕ) (any : WorkerView) → w ≢ 0 → get_or news w any ≡ get_or mids w any) → EachRemoves first workers (from + partitions) mids → EachRemoves first workers (from + partitions + 1) news
removes_final first lock workers partitions from mids news are may others did zero any below =
    removes_last first partitions from (get_or mids 0 any) (get_or news 0 any) (are.1 0 any below).number_is (may any) (did 0 any below)
removes_final first lock workers partitions from mids news are may others did (suc w) any below =
    subst (λ (s : WorkerView). RemovesOwn first (from + partitions + 1) (own_entries s)) (sym (others (suc w) any (λ same. absurd (omega (arith, same)))))
    (removes_raise first (from + partitions) (from + partitions + 1) (own_entries (get_or mids (suc w) any)) (omega arith) (did (suc w) any below))

-- the tasks of a pass, and its final one
pub removes_pass : (first : ℕ → ℕ) (lock : LockId) (workers partitions from : ℕ) (olds mids news : List WorkerView) → 0 < workers → AreWorkers lock workers olds → AreWorkers lock workers mids
    → ((w : ℕ) (any : WorkerView) → w < length olds → DoesSome from (length olds) w partitions (get_or olds w any) (get_or mids w any)) → ((any : WorkerView) → MayWork (partitions + from) (get_or mids 0 any) (get_or news 0 any))
    → ((w : ℕ) (any : WorkerView) → w ≢ 0 → get_or news w any ≡ get_or mids w any) → EachRemoves first workers from olds → EachRemoves first workers (from + partitions + 1) news
removes_pass first lock workers partitions from olds mids news some old mid more may others did =
    let size : length olds ≡ workers = old.0 in
    removes_final first lock workers partitions from mids news mid may others
    (removes_each first lock workers partitions from olds mids some old (λ w any below. subst (λ (n : ℕ). DoesSome from n w partitions (get_or olds w any) (get_or mids w any)) size (more w any (omega (arith, below, size)))) did)

-- ---- and what is removed behind it

any_at : (x : ℕ) (xs : List ℕ) (k : ℕ) → k < length xs → slice_index_or xs k x ≡ x → list_any (λ d. d == x) xs ≡ true
any_at x [] k below is = absurd (omega (arith, below))
any_at x (y ∷ ys) zero below is = ap (λ (b : Bool). b || list_any (λ d. d == x) ys) (eq-eqb y x is)
any_at x (y ∷ ys) (suc k) below is = ap (λ (b : Bool). (y == x) || b) (any_at x ys k (omega (arith, below)) is) ∙ or_true (y == x)
  where
    or_true : (b : Bool) → (b || true) ≡ true
    or_true true = refl
    or_true false = refl

one_or : (b : Bool) (n most : ℕ) → n ≤ most → (if b then 1 else suc n) ≤ most + 1
one_or true n most low = omega arith
one_or false n most low = omega (arith, low)

until_least : (removals : List (List ℕ)) (dataset pass : ℕ) → Contains (slice_index_or removals pass []) dataset → passes_until removals dataset ≤ pass + 1
unfolding passes_until
until_least [] dataset pass within = absurd (omega (arith, within.1))
until_least (removed ∷ later) dataset zero within =
    subst (λ (b : Bool). (if b then 1 else suc (passes_until later dataset)) ≤ 0 + 1) (sym (any_at dataset removed within.0 within.1 within.2)) (omega arith)
until_least (removed ∷ later) dataset (suc pass) within =
    let rest = until_least later dataset pass within in
    one_or (list_any (λ d. d == dataset) removed) (passes_until later dataset) (suc pass) (omega (arith, rest))

pub removes_behind : (first : ℕ → ℕ) (workers limit : ℕ) (datasets : List ℕ) (mids news : List WorkerView) → ((dataset : ℕ) → Contains datasets dataset → first dataset ≤ limit)
    → ((any : WorkerView) → Clears datasets (get_or mids 0 any) (get_or news 0 any)) → ((w : ℕ) (any : WorkerView) → w ≢ 0 → get_or news w any ≡ get_or mids w any) → EachRemoves first workers limit mids → EachRemoves first workers limit news
removes_behind first workers limit datasets mids news low clears others did =
    cleared_each (λ w s. RemovesOwn first limit (own_entries s)) datasets workers mids news clears others
    (λ before after cleared did. subst (RemovesOwn first limit) (sym cleared.adds) (removes_cleared first limit before.number datasets (own_entries before) cleared.removed low cleared.all did)) did

-- what a plan removes behind a pass is free from the next pass on
pub free_behind : (plan : Plan) (partitions pass : ℕ) (datasets : List ℕ) → datasets ≡ slice_index_or (removed_in plan) pass [] → (dataset : ℕ) → Contains datasets dataset → free_from plan partitions dataset ≤ (pass + 1) * (partitions + 1)
free_behind plan partitions pass datasets are dataset within =
    mul-le-mul_right (partitions + 1) (until_least (removed_in plan) dataset pass (subst (λ (ds : List ℕ). Contains ds dataset) are within))

-- ---- in the journal

pub removes_late : (plan : Plan) (lock : LockId) (workers partitions limit : ℕ) (news : List WorkerView) (any : WorkerView) (journal : List Entry) → AreWorkers lock workers news → HasAll news journal
    → EachRemoves (free_from plan partitions) workers limit news → RemovesLate plan workers partitions journal
removes_late plan lock workers partitions limit news any journal are whole did w below =
    subst (RemovesBehind (free_from plan partitions)) (sym (whole_of lock workers news journal are whole w any below)) (did w any below).behind
