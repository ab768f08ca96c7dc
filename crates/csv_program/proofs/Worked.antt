-- What the posts and the answer of a run tell, where the final task left the consumers as they were.
use Rattle.std.proofs.Common.{◌≡◌, ◌∙◌, ℕ, ◌<◌, ◌≤◌, ◌⊎◌, ◌↔◌, ◌%◌, List, [], ◌∷◌, Option, Some, None, Result, Ok, Err, inl, inr, length, map, refl, sym, ap, subst, arith}
use Rattle.std.specs.Prelude.{All, IfSome, IsSome, OnOk, is_some, slice_get}
use Rattle.std.specs.Global.{Vec}
use Rattle.std.specs.List.{range_with_len}
use Rattle.std.specs.Option.{option_map, option_map_or}
use Rattle.std.proofs.Math.Nat.{mod-eq_of_lt}
use Rattle.std.proofs.lemmas.List.{get_or_default}
use Rattle.aggregate.specs.Totals.{Entry, total}
use Rattle.aggregate.specs.declared.kind.Kind.{Kind}
use Rattle.spill_disk.specs.Files.{Files}
use Rattle.run_file.specs.Runs.{Stands}
use Rattle.run_file.specs.declared.run.Run.{Run}
use Rattle.run_file.specs.Several.{HasEntries, HaveEntries, KeepsFile, concatenated, run_at, KeepsAll}
use Rattle.consumer_trait.specs.States.{State}
use Rattle.job_answer.specs.Parts.{PartsTellAll}
use Rattle.result_table.specs.Results.{HasResult}
use Rattle.memory_core.specs.Caches.{RowsByName}
use Rattle.task_memory.specs.RunLists.{runs_at}
use Rattle.task_memory.proofs.Places.{less_or_not}
use Rattle.task_runner.specs.Consumers.{KeepsConsumers}
use Rattle.task_runner.specs.Finals.{AreMergedTo, HasMerged, HaveLists, KeepsOtherFiles, MergeTotals}
use Rattle.task_runner.specs.PartAnswers.{HoldsAll}
use Rattle.task_runner.specs.Pass.{AnswerAllParts, AreInNewFiles, states_at}
use Rattle.task_runner.specs.PassViews.{PassView, parts_of, queries_of, rows_over}
use Rattle.task_runner.specs.Queries.{kind_in, made_in}
use Rattle.task_runner.specs.RunsApart.{AllOfLists, AreAllApart}
use Rattle.task_runner.specs.Workers.{IfSound, answer_at}
use Rattle.task_runner.specs.declared.post.Post.{Post}
use Rattle.task_runner.specs.declared.work_fault.WorkFault.{WorkFault}
use Rattle.task_runner.specs.declared.work_fault.WorkFault.TheVariants.{NoRoom, DiskFault, Damaged, NoMemory}
use Rattle.csv_program.specs.Passing.{HavePass, LeavesPosts}
use Rattle.csv_program.specs.Posts.{post_faults, post_files}
use Rattle.csv_program.proofs.Aside.{part_alike}
use Rattle.csv_program.proofs.StillThere.{others_kept}

-- ---- consumers

states_by : {D C : Type 0} (state : C → State) (post : Option (Post D C)) → option_map_or (λ post. map state post.consumers.items) post [] ≡ option_map_or (λ (consumers : Vec C). map state consumers.items) (option_map (λ post. post.consumers) post) []
states_by state None = refl
states_by state (Some post) = refl

pub states_alike : {D C : Type 0} (state : C → State) (some other : List (Post D C)) → map (λ post. post.consumers) some ≡ map (λ post. post.consumers) other → (i : ℕ) → states_at state some i ≡ states_at state other i
states_alike {D = D} {C = C} state some other same i =
    states_by state (slice_get some i)
    ∙ ap (λ (consumers : Option (Vec C)). option_map_or (λ (consumers : Vec C). map state consumers.items) consumers []) (part_alike (λ post. post.consumers) some other same i)
    ∙ sym (states_by state (slice_get other i))

pub place_same : {D C : Type 0} (state : C → State) (some other : List (Post D C)) (place : ℕ) → slice_get some place ≡ slice_get other place → states_at state some place ≡ states_at state other place
place_same {D = D} {C = C} state some other place same = ap (λ (post : Option (Post D C)). option_map_or (λ post. map state post.consumers.items) post []) same

-- ---- where the answers are

pub on_more : (few many : ℕ) (lists : List (List Run)) → few ≤ many → AllOfLists (λ run. run.disk < few) lists → AllOfLists (λ run. run.disk < many) lists
on_more few many lists least on i k any below = let low = on i k any below in omega (arith, low, least)

-- the answer to a query is on a disk of the workers
one_there : (workers : ℕ) (runs : List Run) (answer : Option Run) → 1 ≤ workers → All (λ run. run.disk < workers) runs → (answer ≡ None) ↔ (runs ≡ []) → ((run : Run) → runs ≡ run ∷ [] → answer ≡ Some run)
    → IfSome answer (λ run. 2 ≤ length runs → run.disk ≡ 0) → IfSome answer (λ run. run.disk < workers)
one_there workers runs None some on none alone first = tt
one_there workers [] (Some run) some on none alone first = absurd (let no = none.1 refl in cc no)
one_there workers (only ∷ []) (Some run) some on none alone first =
    let same : Some run ≡ Some only = alone only refl in let is : run ≡ only = cc same in subst (λ (r : Run). r.disk < workers) (sym is) (on 0 only (omega arith))
one_there workers (one ∷ (two ∷ more)) (Some run) some on none alone first = let low = first (omega arith) in omega (arith, low, some)

pub there_of : (workers : ℕ) (lists : List (List Run)) (answers : List (Option Run)) → 1 ≤ workers → AllOfLists (λ run. run.disk < workers) lists → AreMergedTo lists answers
    → All (λ answer. IfSome answer (λ run. run.disk < workers)) answers
there_of workers lists answers some on merged i any below =
    subst (λ (answer : Option Run). IfSome answer (λ run. run.disk < workers)) (sym (get_or_default answers i any None below))
    (one_there workers (runs_at lists i) (answer_at answers i) some (on i) (merged.none i) (merged.alone i) (merged.on i))

-- ---- what the answer is

stands_tells : (files : Option Files) (run : Run) (rows : List (List (List ℕ))) → Stands files run rows → IsSome files
stands_tells None run rows stands = absurd stands
stands_tells (Some files) run rows stands = refl

still_tells : (before after : Option Files) → KeepsFile before after 0 → IsSome before → IsSome after
still_tells None after kept tells = absurd (cc tells)
still_tells (Some before) None kept tells = absurd kept
still_tells (Some before) (Some after) kept tells = refl

-- the first worker's disk tells, where it has the rows of a partition
pub first_tells : (given : RowsByName) (pass : PassView) (workers : ℕ) (rows : ℕ → List (List (List ℕ))) (before after : ℕ → Option Files) → 0 < workers → 0 < parts_of pass → KeepsAll before after → HoldsAll before given pass workers rows → IsSome (after 0)
first_tells given pass workers rows before after some any kept holds =
    let one = holds 0 any in
    let tells = stands_tells (before (0 % workers)) (run_at pass.parts 0) (rows 0) one.0.stands in
    still_tells (before 0) (after 0) (kept 0 0) (subst (λ (i : ℕ). IsSome (before i)) (mod-eq_of_lt some) tells)

totals_each : {X : Type 0} (kind : Kind) (entries : X → List Entry) (xs : List X) → map (λ x. total kind (entries x)) xs ≡ map (total kind) (map entries xs)
totals_each kind entries [] = refl
totals_each kind entries (x ∷ xs) = ap (λ (lists : List (List Entry)). total kind (entries x) ∷ lists) (totals_each kind entries xs)

nothing : (kind : Kind) → total kind [] ≡ []
unfolding total
nothing kind = refl

result_by : (files : ℕ → Option Files) (kind : Kind) (lists : List (List Entry)) (all : List Entry) (answer : Option Run) → total kind (concatenated lists) ≡ total kind all
    → HasMerged files kind lists answer → HasResult files kind answer (total kind all)
result_by files kind lists all None same merges = sym same ∙ ap (λ (ls : List (List Entry)). total kind (concatenated ls)) merges ∙ nothing kind
result_by files kind lists all (Some run) same merges = subst (HasEntries (files run.disk) kind run) same merges

-- the entries of each query's runs, a list for each run
module _ (mid : ℕ → Option Files) (pass : PassView) (rows : ℕ → List (List (List ℕ))) (lists : List (List Run)) (tells : AnswerAllParts mid pass rows lists) where
  abbrev lists_if : (i : ℕ) → (i < queries_of pass) ⊎ (queries_of pass ≤ i) → List (List Entry)
  lists_if i (inl query) = (tells.each i query).lists
  lists_if i (inr past) = []

  abbrev lists_in : ℕ → List (List Entry)
  lists_in i = lists_if i (less_or_not i (queries_of pass))

  have_if : (i : ℕ) → i < queries_of pass → (found : (i < queries_of pass) ⊎ (queries_of pass ≤ i)) → HaveEntries mid (kind_in pass.plan pass.queries i) (runs_at lists i) (lists_if i found)
  have_if i below (inl query) = (tells.each i query).have
  have_if i below (inr past) = absurd (omega (arith, below, past))

  same_if : (i : ℕ) → i < queries_of pass → (found : (i < queries_of pass) ⊎ (queries_of pass ≤ i))
      → concatenated (lists_if i found) ≡ concatenated (map (λ part. total (kind_in pass.plan pass.queries i) (made_in pass.plan pass.queries (rows_over pass (rows part)) i)) (range_with_len 0 (parts_of pass)))
  same_if i below (inl query) = (tells.each i query).same
  same_if i below (inr past) = absurd (omega (arith, below, past))

  -- the merged runs of all partitions are the results of all rows
  pub result_of : (after : ℕ → Option Files) (result : Result (Vec (Option Run)) WorkFault) → PartsTellAll
      → ((entries : ℕ → List (List Entry)) → HaveLists mid pass lists entries → AreAllApart (λ disk. disk) lists → MergeTotals after pass entries result)
      → IfSound (λ answers. HavePass after pass rows answers.items) result
  result_of after result told merges = sound result (merges lists_in (λ i query. have_if i query (less_or_not i (queries_of pass))) tells.apart)
    where
      each : (answers : List (Option Run)) → ((i : ℕ) → i < queries_of pass → HasMerged after (kind_in pass.plan pass.queries i) (lists_in i) (answer_at answers i)) → HavePass after pass rows answers
      each answers merged i query =
          let kind = kind_in pass.plan pass.queries i in
          let entries : ℕ → List Entry = λ part. made_in pass.plan pass.queries (rows_over pass (rows part)) i in
          let parts = range_with_len 0 (parts_of pass) in
          let same : total kind (concatenated (lists_in i)) ≡ total kind (concatenated (map entries parts)) =
          ap (total kind) (same_if i query (less_or_not i (queries_of pass))) ∙ ap (λ (lists : List (List Entry)). total kind (concatenated lists)) (totals_each kind entries parts) ∙ told kind (map entries parts) in
          result_by after kind (lists_in i) (concatenated (map entries parts)) (answer_at answers i) same (merged i query)

      sound : (result : Result (Vec (Option Run)) WorkFault) → MergeTotals after pass lists_in result → IfSound (λ answers. HavePass after pass rows answers.items) result
      sound (Ok answers) merged = each answers.items merged
      sound (Err (NoRoom asked held floor)) merged = tt
      sound (Err (DiskFault post)) merged = tt
      sound (Err (Damaged damage)) merged = merged
      sound (Err NoMemory) merged = tt

-- without a partition there is no run, and no answer
pub result_none : (files : ℕ → Option Files) (pass : PassView) (rows : ℕ → List (List (List ℕ))) (lists : List (List Run)) (answers : List (Option Run)) → parts_of pass ≡ 0 → ((i : ℕ) → length (runs_at lists i) ≤ parts_of pass)
    → AreMergedTo lists answers → HavePass files pass rows answers
result_none files pass rows lists answers none few merged i query =
    let kind = kind_in pass.plan pass.queries i in
    let is : answer_at answers i ≡ None = (merged.none i).1 (empty (runs_at lists i) (let most = few i in omega (arith, most, none))) in
    subst (λ (a : Option Run). HasResult files kind a (total kind (concatenated (map (λ part. made_in pass.plan pass.queries (rows_over pass (rows part)) i) (range_with_len 0 (parts_of pass)))))) (sym is)
    (ap (λ (n : ℕ). total kind (concatenated (map (λ part. made_in pass.plan pass.queries (rows_over pass (rows part)) i) (range_with_len 0 n)))) none ∙ nothing kind)
  where
    empty : (runs : List Run) → length runs ≡ 0 → runs ≡ []
    empty [] same = refl
    empty (run ∷ runs) same = absurd (omega (arith, same))

-- ---- what the posts are

-- the posts as the workers left them, their consumers kept aside
pub leaves_rest : {D C : Type 0} (state : C → State) (files : D → Option Files) (faults : D → ℕ) (workers : ℕ) (before mid : Vec (Post D C))
    → ((place : ℕ) → workers ≤ place → slice_get mid.items place ≡ slice_get before.items place) → ((place : ℕ) → KeepsConsumers (states_at state before.items place) (states_at state mid.items place))
    → length mid.items ≡ length before.items → KeepsAll (post_files files before) (post_files files mid) → ((place : ℕ) → post_faults faults before place ≤ post_faults faults mid place)
    → LeavesPosts state files faults workers before mid
leaves_rest state files faults workers before mid others consumers size keeps later = record {
  others = λ place above. place_same state mid.items before.items place (others place above);
  consumers = consumers;
  same_posts = size;
  keeps = keeps;
  later = later;
}

-- and as the final task left those
pub leaves_merged : {D C : Type 0} (state : C → State) (files : D → Option Files) (faults : D → ℕ) (workers : ℕ) (before mid after : Vec (Post D C)) (lists : List (List Run)) → LeavesPosts state files faults workers before mid
    → map (λ post. post.consumers) after.items ≡ map (λ post. post.consumers) mid.items → length after.items ≡ length mid.items → AreInNewFiles (post_files files before) lists
    → ((place : ℕ) → is_some (post_files files after place) ≡ is_some (post_files files mid place)) → KeepsOtherFiles (λ disk. disk) (post_files files mid) (post_files files after) lists
    → ((place : ℕ) → post_faults faults mid place ≤ post_faults faults after place) → LeavesPosts state files faults workers before after
leaves_merged state files faults workers before mid after lists left kept size made tells merged later = record {
  others = λ place above. states_alike state after.items mid.items kept place ∙ left.others place above;
  consumers = λ place. subst (KeepsConsumers (states_at state before.items place)) (sym (states_alike state after.items mid.items kept place)) (left.consumers place);
  same_posts = size ∙ left.same_posts;
  keeps = others_kept (post_files files before) (post_files files mid) (post_files files after) lists left.keeps made tells merged;
  later = λ place. let low = left.later place in let high = later place in omega (arith, low, high);
}

-- ---- what holds anyway

pub on_ok_all : {T P : Type 0} (answer : Result T WorkFault) → P → OnOk answer P
on_ok_all (Ok x) holds = holds
on_ok_all (Err e) holds = tt

-- a fault that is no damage is sound for any answer
pub fault_sound : {T U : Type 0} (P : T → Type 0) (Q : U → Type 0) (fault : WorkFault) → IfSound P (Err fault) → IfSound Q (Err fault)
fault_sound P Q (NoRoom asked held floor) is = _
fault_sound P Q (DiskFault post) is = _
fault_sound P Q (Damaged damage) is = is
fault_sound P Q NoMemory is = _
