-- What the entries of one task begin and end.
use Rattle.std.proofs.Common.{◌≡◌, ◌∙◌, ℕ, zero, suc, ◌+◌, ◌<◌, ◌≤◌, ◌++◌, List, [], ◌∷◌, Option, Some, length, refl, sym, ap, subst, inl, inr, arith}
use Rattle.std.specs.Prelude.{◌==◌, slice_index_or, if◌then◌else◌}
use Rattle.std.specs.List.{AllByRecursion}
use Rattle.std.proofs.lemmas.Bool.{eq-eqb}
use Rattle.pool_ledger.specs.History.{begin_of, end_of, total, begun_after}
use Rattle.pool_ledger.specs.declared.entry.Entry.{Entry}
use Rattle.pool_ledger.specs.declared.entry.Event.{Event}
use Rattle.pool_ledger.specs.declared.entry.Event.TheVariants.{Begin, End}
use Rattle.pool_laws.specs.Growing.{entry_by}
use Rattle.pool_laws.specs.Owners.{IsByOwner}
use Rattle.task_pool.proofs.GoingOn.{all_append}
use Rattle.memory_lock.proofs.Staying.{all_imply}
use Rattle.task_pool.specs.Asks.{IsOfTask}
use Rattle.lineage.specs.Entries.{IsRowsWork}
use Rattle.task_runner.specs.Works.{IsInTask, IsTaskOf}
use Rattle.csv_program.specs.Doing.{IsRemovalOf}
use Rattle.job_ending.specs.Tasks.{begun_in}
use Rattle.csv_program.proofs.Journals.{total_append}

-- ---- the entries of one task

-- an event that begins and ends nothing
pub record Amid (entry : Entry) : Type 0 where
  pub begins_none : (task : ℕ) → begin_of task entry.event ≡ 0
  pub ends_none : (task : ℕ) → end_of task entry.event ≡ 0
  pub leaves : (later : List ℕ) → begun_after entry.event later ≡ later
  pub owned : (owner : ℕ → Option ℕ) (worker : ℕ) → IsByOwner owner worker entry.event

pub asks_amid : (worker task : ℕ) (entry : Entry) → IsOfTask worker task entry → Amid entry
asks_amid worker task entry is = elim is [
  | inl attempt ↦ subst Amid (sym attempt.4) (record { begins_none = λ t. refl; ends_none = λ t. refl; leaves = λ later. refl; owned = λ owner w. tt })
  | inr other ↦ elim other [
    | inl eviction ↦ subst Amid (sym eviction.4) (record { begins_none = λ t. refl; ends_none = λ t. refl; leaves = λ later. refl; owned = λ owner w. tt })
    | inr release ↦ subst Amid (sym release.1) (record { begins_none = λ t. refl; ends_none = λ t. refl; leaves = λ later. refl; owned = λ owner w. tt })
  ]
]

pub rows_amid : (worker : ℕ) (entry : Entry) → IsRowsWork worker entry → Amid entry
rows_amid worker entry is = elim is [
  | inl pinning ↦ elim pinning [
    | inl pin ↦ subst Amid (sym pin.3) (record { begins_none = λ t. refl; ends_none = λ t. refl; leaves = λ later. refl; owned = λ owner w. tt })
    | inr unpin ↦ subst Amid (sym unpin.2) (record { begins_none = λ t. refl; ends_none = λ t. refl; leaves = λ later. refl; owned = λ owner w. tt })
  ]
  | inr other ↦ elim other [
    | inl keeping ↦ elim keeping [
      | inl admit ↦ subst Amid (sym admit.6) (record { begins_none = λ t. refl; ends_none = λ t. refl; leaves = λ later. refl; owned = λ owner w. tt })
      | inr refused ↦ subst Amid (sym refused.5) (record { begins_none = λ t. refl; ends_none = λ t. refl; leaves = λ later. refl; owned = λ owner w. tt })
    ]
    | inr eviction ↦ subst Amid (sym eviction.4) (record { begins_none = λ t. refl; ends_none = λ t. refl; leaves = λ later. refl; owned = λ owner w. tt })
  ]
]

pub removal_amid : (worker : ℕ) (datasets : List ℕ) (entry : Entry) → IsRemovalOf worker datasets entry → Amid entry
removal_amid worker datasets entry is = subst Amid (sym is.4) (record { begins_none = λ t. refl; ends_none = λ t. refl; leaves = λ later. refl; owned = λ owner w. tt })

pub in_task_amid : (worker task : ℕ) (entry : Entry) → IsInTask worker task entry → Amid entry
in_task_amid worker task entry is = elim is [ inl asks ↦ asks_amid worker task entry asks | inr work ↦ rows_amid worker entry work ]

pub are_amid : (worker task : ℕ) (entries : List Entry) → AllByRecursion (IsInTask worker task) entries → AllByRecursion Amid entries
are_amid worker task entries all = all_imply (IsInTask worker task) Amid (in_task_amid worker task) entries all

pub none_begun : (t : ℕ) (entries : List Entry) → AllByRecursion Amid entries → total (begin_of t) entries ≡ 0
none_begun t [] all = refl
none_begun t (x ∷ rest) all = let first = all.0.begins_none t in let more = none_begun t rest all.1 in omega (arith, first, more)

pub none_ended : (t : ℕ) (entries : List Entry) → AllByRecursion Amid entries → total (end_of t) entries ≡ 0
none_ended t [] all = refl
none_ended t (x ∷ rest) all = let first = all.0.ends_none t in let more = none_ended t rest all.1 in omega (arith, first, more)

-- 1 for the task
abbrev pub mark : ℕ → ℕ → ℕ
mark task t = if task == t then 1 else 0

pub task_begins : (worker task t : ℕ) (entries : List Entry) → IsTaskOf worker task entries → total (begin_of t) entries ≡ mark task t
task_begins worker task t entries is =
    let last = entry_by worker (End task is.freed) in
    let whole : total (begin_of t) entries ≡ total (begin_of t) (is.amid ++ last ∷ []) + mark task t = ap (total (begin_of t)) is.are in
    let split = total_append (begin_of t) is.amid (last ∷ []) in
    let amid = none_begun t is.amid (are_amid worker task is.amid is.all) in
    omega (arith, whole, split, amid)

pub task_ends : (worker task t : ℕ) (entries : List Entry) → IsTaskOf worker task entries → total (end_of t) entries ≡ mark task t
task_ends worker task t entries is =
    let last = entry_by worker (End task is.freed) in
    let whole : total (end_of t) entries ≡ total (end_of t) (is.amid ++ last ∷ []) + 0 = ap (total (end_of t)) is.are in
    let split : total (end_of t) (is.amid ++ last ∷ []) ≡ total (end_of t) is.amid + (0 + mark task t) = total_append (end_of t) is.amid (last ∷ []) in
    let amid = none_ended t is.amid (are_amid worker task is.amid is.all) in
    omega (arith, whole, split, amid)

pub task_owned : (owner : ℕ → Option ℕ) (worker task : ℕ) (entries : List Entry) → IsTaskOf worker task entries → owner task ≡ Some worker → AllByRecursion (λ entry. IsByOwner owner worker entry.event) entries
task_owned owner worker task entries is owns =
    let last = entry_by worker (End task is.freed) in
    subst (AllByRecursion (λ entry. IsByOwner owner worker entry.event)) (sym is.are) (
      owns,
      all_append (λ entry. IsByOwner owner worker entry.event) is.amid (last ∷ [])
          (all_imply Amid (λ entry. IsByOwner owner worker entry.event) (λ entry amid. amid.owned owner worker) is.amid (are_amid worker task is.amid is.all)) (tt, tt),
    )

pub by_append : (event : Event) (xs ys : List ℕ) → begun_after event (xs ++ ys) ≡ begun_after event xs ++ ys
by_append (Begin task) xs ys = refl
by_append _ xs ys = refl

pub begun_append : (xs ys : List Entry) → begun_in (xs ++ ys) ≡ begun_in xs ++ begun_in ys
unfolding begun_in
begun_append [] ys = refl
begun_append (x ∷ xs) ys = ap (begun_after x.event) (begun_append xs ys) ∙ by_append x.event (begun_in xs) (begun_in ys)

pub amid_begun : (xs ys : List Entry) → AllByRecursion Amid xs → begun_in (xs ++ ys) ≡ begun_in ys
unfolding begun_in
amid_begun [] ys all = refl
amid_begun (x ∷ xs) ys all = all.0.leaves (begun_in (xs ++ ys)) ∙ amid_begun xs ys all.1

pub task_begun : (worker task : ℕ) (entries : List Entry) → IsTaskOf worker task entries → begun_in entries ≡ task ∷ []
unfolding begun_in
task_begun worker task entries is =
    let last = entry_by worker (End task is.freed) in
    ap begun_in is.are ∙ ap (λ (ts : List ℕ). task ∷ ts) (amid_begun is.amid (last ∷ []) (are_amid worker task is.amid is.all))

pub marked : (task : ℕ) → mark task task ≡ 1
marked task = rw (eq-eqb task task refl) refl

-- ---- lists that ascend

pub every_append : (P : ℕ → Type 0) (xs ys : List ℕ) → AllByRecursion P xs → AllByRecursion P ys → AllByRecursion P (xs ++ ys)
every_append P [] ys all rest = rest
every_append P (x ∷ xs) ys all rest = (all.0, every_append P xs ys all.1 rest)

pub all_raise : (limit higher : ℕ) (xs : List ℕ) → limit ≤ higher → AllByRecursion (λ x. x < limit) xs → AllByRecursion (λ x. x < higher) xs
all_raise limit higher [] most all = tt
all_raise limit higher (x ∷ xs) most all = (omega (arith, most, all.0), all_raise limit higher xs most all.1)

pub at_place : (P : ℕ → Type 0) (xs : List ℕ) (i d : ℕ) → AllByRecursion P xs → i < length xs → P (slice_index_or xs i d)
at_place P [] i d all within = absurd (omega (arith, within))
at_place P (x ∷ xs) zero d all within = all.0
at_place P (x ∷ xs) (suc i) d all within = at_place P xs i d all.1 (omega (arith, within))
