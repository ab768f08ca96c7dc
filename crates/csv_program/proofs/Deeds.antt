-- What a worker's own entries tell, where they are those of its tasks.
use Rattle.std.proofs.Common.{◌≡◌, ◌≢◌, ◌∙◌, ℕ, zero, suc, ◌+◌, ◌-◌, ◌*◌, ◌<◌, ◌≤◌, ◌++◌, ◌%◌, ◌/◌, Bool, false, cond, List, [], ◌∷◌, Option, Some, refl, sym, ap, subst, inl, inr, arith, append-nil, append_assoc}
use Rattle.std.specs.Prelude.{◌==◌, AllPairs}
use Rattle.std.specs.List.{AllByRecursion, list_any}
use Rattle.std.proofs.Math.Nat.{mul-lt-mul_of_pos_right, add-mul-mod_self_right, mod-add-div', mod-eq_of_lt}
use Rattle.std.proofs.lemmas.Bool.{cases_eq, cases_lt, eq-eqb, ne_eqb}
use Rattle.std.proofs.lemmas.List.Quantifiers.{all_pairs_push}
use Rattle.pool_ledger.specs.History.{History, begin_of, begins, begun, begun_after, end_of, ends, total, was_begun}
use Rattle.pool_ledger.specs.Journal.{history_of}
use Rattle.pool_ledger.specs.declared.entry.Entry.{Entry}
use Rattle.pool_ledger.specs.declared.entry.Event.{Event}
use Rattle.pool_ledger.specs.declared.entry.Event.TheVariants.{Begin}
use Rattle.pool_laws.specs.Owners.{IsByOwner}
use Rattle.task_pool.proofs.GoingOn.{all_append}
use Rattle.memory_lock.proofs.Staying.{all_imply}
use Rattle.task_runner.specs.Workers.{AreTasks, IsCount, part_at}
use Rattle.task_runner.specs.Works.{IsTaskOf}
use Rattle.csv_program.specs.Doing.{BeginsOwn, DoesOwn, IsRemovalOf}
use Rattle.job_ending.specs.Tasks.{begun_in}
use Rattle.csv_program.proofs.Journals.{total_append, total_reverse}
use Rattle.csv_program.proofs.TaskEntries.{Amid, all_raise, amid_begun, at_place, begun_append, every_append, mark, marked, none_begun, none_ended, removal_amid, task_begins, task_begun, task_ends, task_owned}

-- ---- what a worker did

pub does_none : (owner : ℕ → Option ℕ) (w limit : ℕ) (entries : List Entry) → entries ≡ [] → DoesOwn owner w limit entries
unfolding begun_in
does_none owner w limit entries none = subst (DoesOwn owner w limit) (sym none) record {
  owned = tt;
  below = tt;
  ascend = λ i j d below within. absurd (omega (arith, within));
  ended = λ task. refl;
}

pub does_raise : (owner : ℕ → Option ℕ) (w limit higher : ℕ) (entries : List Entry) → limit ≤ higher → DoesOwn owner w limit entries → DoesOwn owner w higher entries
does_raise owner w limit higher entries most did = record {
  owned = did.owned;
  below = all_raise limit higher (begun_in entries) most did.below;
  ascend = did.ascend;
  ended = did.ended;
}

ended_then : (t : ℕ) (entries added : List Entry) → ends (history_of entries) t ≡ begins (history_of entries) t → total (end_of t) added ≡ total (begin_of t) added
    → ends (history_of (entries ++ added)) t ≡ begins (history_of (entries ++ added)) t
ended_then t entries added before more =
    let ended = total_reverse (end_of t) entries in
    let began = total_reverse (begin_of t) entries in
    let all_ended = total_reverse (end_of t) (entries ++ added) in
    let all_began = total_reverse (begin_of t) (entries ++ added) in
    let split = total_append (end_of t) entries added in
    let other = total_append (begin_of t) entries added in
    omega (arith, before, more, ended, began, all_ended, all_began, split, other)

-- one task more, above those that it did
pub does_task : (owner : ℕ → Option ℕ) (w limit task : ℕ) (entries added : List Entry) → limit ≤ task → owner task ≡ Some w → IsTaskOf w task added → DoesOwn owner w limit entries → DoesOwn owner w (task + 1) (entries ++ added)
does_task owner w limit task entries added most owns is did =
    let begun : begun_in (entries ++ added) ≡ begun_in entries ++ task ∷ [] = begun_append entries added ∙ ap (λ (ts : List ℕ). begun_in entries ++ ts) (task_begun w task added is) in
    record {
      owned = all_append (λ entry. IsByOwner owner w entry.event) entries added did.owned (task_owned owner w task added is owns);
      below = subst (AllByRecursion (λ t. t < task + 1)) (sym begun) (every_append (λ t. t < task + 1) (begun_in entries) (task ∷ []) (all_raise limit (task + 1) (begun_in entries) (omega (arith, most)) did.below) (omega arith, tt));
      ascend = subst (AllPairs (λ earlier later. earlier < later)) (sym begun)
          (all_pairs_push (λ earlier later. earlier < later) (begun_in entries) task did.ascend (λ k d inside. at_place (λ t. t < task) (begun_in entries) k d (all_raise limit task (begun_in entries) most did.below) inside));
      ended = λ t. ended_then t entries added (did.ended t) (task_ends w task t added is ∙ sym (task_begins w task t added is));
    }

-- removals beside those that it did
pub does_cleared : (owner : ℕ → Option ℕ) (w limit number : ℕ) (datasets : List ℕ) (entries removed : List Entry) → AllByRecursion (IsRemovalOf number datasets) removed → DoesOwn owner w limit entries → DoesOwn owner w limit (entries ++ removed)
unfolding begun_in
does_cleared owner w limit number datasets entries removed all did =
    let amid : AllByRecursion Amid removed = all_imply (IsRemovalOf number datasets) Amid (removal_amid number datasets) removed all in
    let begun : begun_in (entries ++ removed) ≡ begun_in entries =
    begun_append entries removed ∙ ap (λ (ts : List ℕ). begun_in entries ++ ts) (ap begun_in (sym (append-nil removed)) ∙ amid_begun removed [] amid) ∙ append-nil (begun_in entries) in
    record {
      owned = all_append (λ entry. IsByOwner owner w entry.event) entries removed did.owned (all_imply Amid (λ entry. IsByOwner owner w entry.event) (λ entry amid. amid.owned owner w) removed amid);
      below = subst (AllByRecursion (λ t. t < limit)) (sym begun) did.below;
      ascend = subst (AllPairs (λ earlier later. earlier < later)) (sym begun) did.ascend;
      ended = λ t. ended_then t entries removed (did.ended t) (none_ended t removed amid ∙ sym (none_begun t removed amid));
    }

pub parts_rise : (workers w k : ℕ) → 0 < workers → (j : ℕ) → j < k → part_at workers w j < part_at workers w k
parts_rise workers w k some j below = let less : j * workers < k * workers = mul-lt-mul_of_pos_right below some in omega (arith, less)

-- the first tasks of a pass more, above those that it did
pub does_tasks : (owner : ℕ → Option ℕ) (first workers w limit bound k : ℕ) (entries added : List Entry) → 0 < workers → limit ≤ first → limit ≤ bound → ((j : ℕ) → j < k → part_at workers w j + first < bound)
    → ((j : ℕ) → j < k → owner (part_at workers w j + first) ≡ Some w) → AreTasks first workers w w k added → DoesOwn owner w limit entries → DoesOwn owner w bound (entries ++ added)
unfolding AreTasks
does_tasks owner first workers w limit bound zero entries added some low most within owns are did =
    subst (DoesOwn owner w bound) (sym (ap (λ (es : List Entry). entries ++ es) are ∙ append-nil entries)) (does_raise owner w limit bound entries most did)
does_tasks owner first workers w limit bound (suc k) entries added some low most within owns are did =
    let task = part_at workers w k + first in
    let before = does_tasks owner first workers w limit task k entries are.0 some low (omega (arith, low)) (λ j below. let less = parts_rise workers w k some j below in omega (arith, less)) (λ j below. owns j (omega (arith, below))) are.2 did in
    let is : entries ++ added ≡ (entries ++ are.0) ++ are.1 = ap (λ (es : List Entry). entries ++ es) are.4 ∙ sym (append_assoc entries are.0 are.1) in
    let last : task < bound = within k (omega arith) in
    subst (DoesOwn owner w bound) (sym is)
    (does_raise owner w (task + 1) bound ((entries ++ are.0) ++ are.1) (omega (arith, last)) (does_task owner w task task (entries ++ are.0) are.1 (omega arith) (owns k (omega arith)) are.3 before))

-- ---- what it began

-- what was begun stays begun
begins_more : (t : ℕ) (entries added : List Entry) → begins (history_of (entries ++ added)) t ≡ begins (history_of entries) t + total (begin_of t) added
begins_more t entries added =
    let began = total_reverse (begin_of t) entries in
    let all_began = total_reverse (begin_of t) (entries ++ added) in
    let split = total_append (begin_of t) entries added in
    omega (arith, began, all_began, split)

tasks_begin : (first workers w k j : ℕ) (entries : List Entry) → AreTasks first workers w w k entries → j < k → 1 ≤ total (begin_of (part_at workers w j + first)) entries
unfolding AreTasks
tasks_begin first workers w zero j entries are below = absurd (omega (arith, below))
tasks_begin first workers w (suc k) j entries are below =
    let t = part_at workers w j + first in
    let last = part_at workers w k + first in
    let began : total (begin_of t) entries ≡ total (begin_of t) (are.0 ++ are.1) = ap (total (begin_of t)) are.4 in
    let split = total_append (begin_of t) are.0 are.1 in
    elim (cases_lt j k) [
      | inl low ↦ let before = tasks_begin first workers w k j are.0 are.2 low in omega (arith, began, split, before)
      | inr high ↦
          let same : j ≡ k = omega (arith, below, high) in
          let here = task_begins w last t are.1 are.3 in
          let one : mark last t ≡ 1 = ap (λ (i : ℕ). mark last (part_at workers w i + first)) same ∙ marked last in
          omega (arith, began, split, here, one)
    ]

-- all tasks of a pass that are a worker's, but for the final one
pub begins_tasks : (owner : ℕ → Option ℕ) (first workers partitions w count : ℕ) (entries added : List Entry) → ((part : ℕ) → part < partitions → owner (part + first) ≡ Some (part % workers))
    → IsCount workers w partitions count → AreTasks first workers w w count added → BeginsOwn owner w first entries → BeginsOwn owner w (first + partitions) (entries ++ added)
begins_tasks owner first workers partitions w count entries added owns all are began task within mine =
    let more = begins_more task entries added in
    elim (cases_lt task first) [
      | inl low ↦ let before = began task low mine in omega (arith, more, before)
      | inr high ↦
          let part = task - first in
          let is : part + first ≡ task = omega (arith, high) in
          let inside : part < partitions = omega (arith, high, within) in
          let same : Some (part % workers) ≡ Some w = sym (owns part inside) ∙ ap owner is ∙ mine in
          let own : part % workers ≡ w = cc same in
          let k = part / workers in
          let place : part_at workers w k ≡ part = ap (λ (n : ℕ). part_at workers n k) (sym own) ∙ mod-add-div' part workers in
          let here = tasks_begin first workers w count k added are (all.covers k (omega (arith, place, inside))) in
          let least : 1 ≤ total (begin_of task) added = subst (λ (t : ℕ). 1 ≤ total (begin_of t) added) (ap (λ (n : ℕ). n + first) place ∙ is) here in
          omega (arith, more, least)
    ]

-- and the final one
pub begins_final : (owner : ℕ → Option ℕ) (first partitions w : ℕ) (entries added : List Entry) → IsTaskOf w (partitions + first) added → BeginsOwn owner w (first + partitions) entries → BeginsOwn owner w (first + partitions + 1) (entries ++ added)
begins_final owner first partitions w entries added is began task within mine =
    let more = begins_more task entries added in
    elim (cases_lt task (first + partitions)) [
      | inl low ↦ let before = began task low mine in omega (arith, more, before)
      | inr high ↦
          let same : partitions + first ≡ task = omega (arith, high, within) in
          let here = task_begins w (partitions + first) task added is in
          let one : mark (partitions + first) task ≡ 1 = ap (mark (partitions + first)) (sym same) ∙ marked (partitions + first) in
          omega (arith, more, here, one)
    ]

pub begins_cleared : (owner : ℕ → Option ℕ) (w limit number : ℕ) (datasets : List ℕ) (entries removed : List Entry) → AllByRecursion (IsRemovalOf number datasets) removed → BeginsOwn owner w limit entries → BeginsOwn owner w limit (entries ++ removed)
begins_cleared owner w limit number datasets entries removed all began task within mine =
    let more = begins_more task entries removed in
    let before = began task within mine in
    omega (arith, more, before)

-- which is the first worker's alone
pub begins_other : (owner : ℕ → Option ℕ) (first partitions w : ℕ) (entries : List Entry) → owner (partitions + first) ≡ Some 0 → w ≢ 0 → BeginsOwn owner w (first + partitions) entries → BeginsOwn owner w (first + partitions + 1) entries
begins_other owner first partitions w entries final other began task within mine = elim (cases_lt task (first + partitions)) [
  | inl low ↦ began task low mine
  | inr high ↦
      let same : task ≡ partitions + first = omega (arith, high, within) in
      let zero : Some w ≡ Some 0 = sym mine ∙ ap owner same ∙ final in
      absurd (other (cc zero))
]

-- ---- what it didn't begin

first_below : (event : Event) (later : List ℕ) (limit task : ℕ) → limit ≤ task → AllByRecursion (λ t. t < limit) (begun_after event later) → (begin_of task event ≡ 0) × AllByRecursion (λ t. t < limit) later
first_below (Begin t) later limit task most all = (ap (λ (b : Bool). cond {A = ℕ} b 1 0) (ne_eqb t task (λ same. absurd (omega (arith, same, most, all.0)))), all.1)
first_below _ later limit task most all = (refl, all)

none_from : (limit task : ℕ) (entries : List Entry) → limit ≤ task → AllByRecursion (λ t. t < limit) (begun_in entries) → total (begin_of task) entries ≡ 0
unfolding begun_in
none_from limit task [] most all = refl
none_from limit task (x ∷ rest) most all =
    let first = first_below x.event (begun_in rest) limit task most all in
    let more = none_from limit task rest most first.1 in
    omega (arith, first.0, more)

never_begun : (task : ℕ) (event : Event) (before : List ℕ) → begin_of task event ≡ 0 → list_any (λ t. t == task) before ≡ false → list_any (λ t. t == task) (begun_after event before) ≡ false
never_begun task (Begin t) before none old = elim (cases_eq t task) [
  | inl same ↦ absurd (let one = ap (λ (b : Bool). cond {A = ℕ} b 1 0) (eq-eqb t task same) in omega (arith, one, none))
  | inr apart ↦ rw (ne_eqb t task apart) old
]
never_begun task _ before none old = old

not_begun : (task : ℕ) (history : History) → begins history task ≡ 0 → was_begun history task ≡ false
not_begun task [] none = refl
not_begun task (entry ∷ before) none = never_begun task entry.event (begun before) (omega (arith, none)) (not_begun task before (omega (arith, none)))

-- no task from the limit on
pub fresh_from : (owner : ℕ → Option ℕ) (w limit task : ℕ) (entries : List Entry) → limit ≤ task → DoesOwn owner w limit entries → was_begun (history_of entries) task ≡ false
fresh_from owner w limit task entries most did = not_begun task (history_of entries) (total_reverse (begin_of task) entries ∙ none_from limit task entries most did.below)

-- ---- whose tasks they are

-- the partitions of a worker
pub worker_of : (workers w k : ℕ) → w < workers → part_at workers w k % workers ≡ w
worker_of workers w k below = add-mul-mod_self_right w k workers ∙ mod-eq_of_lt below

pub none_ascend : (entries : List Entry) → entries ≡ [] → AllPairs (λ earlier later. earlier < later) (begun_in entries)
unfolding begun_in
none_ascend entries none = subst (λ (es : List Entry). AllPairs (λ earlier later. earlier < later) (begun_in es)) (sym none) (λ i j d below within. absurd (omega (arith, within)))
