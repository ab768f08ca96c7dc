-- What the workers of a pass did and answered, as the pass tells it.
use Rattle.std.proofs.Common.{◌≡◌, ◌∙◌, ℕ, zero, suc, ◌<◌, ◌≤◌, ◌*◌, ◌%◌, ◌/◌, List, [], ◌∷◌, Option, Some, None, length, refl, sym, ap, subst, inl, inr, arith}
use Rattle.std.specs.Prelude.{All, IfSome, slice_get}
use Rattle.std.specs.List.{AllByRecursion}
use Rattle.std.proofs.Math.Nat.{mod-lt, mul-le-mul_right}
use Rattle.std.proofs.lemmas.Bool.{cases_lt}
use Rattle.std.proofs.lemmas.List.{get_or_past}
use Rattle.spill_disk.specs.Files.{Files}
use Rattle.run_file.specs.declared.run.Run.{Run}
use Rattle.run_file.specs.Several.{IsFileAmong, KeepsFile, run_at as run_in}
use Rattle.memory_core.specs.Caches.{RowsByName}
use Rattle.task_memory.specs.Disks.{KeepsFiles, SameAt}
use Rattle.task_memory.specs.RunLists.{runs_at, most_entry_cost}
use Rattle.run_file.specs.Shelved.{IsNotThere}
use Rattle.task_memory.proofs.Places.{less_or_not}
use Rattle.task_memory.proofs.Sameness.{same_at_self}
use Rattle.turn_lock.specs.Passes.{WorkerView}
use Rattle.consumer_trait.specs.States.{State}
use Rattle.task_runner.specs.AllWorkers.{Finished, Reached, answers_of, files_of, states_of}
use Rattle.task_runner.specs.Consumers.{KeepsConsumers}
use Rattle.task_runner.specs.Gathered.{answer_for, gathered}
use Rattle.task_runner.specs.PartAnswers.{AnswerParts, HoldsAll, answer_place}
use Rattle.task_runner.specs.Parts.{IsMade}
use Rattle.task_runner.specs.Pass.{AnswerAllParts, AnswerEachPart, FeedsParts, LeavesOnlyRuns}
use Rattle.task_runner.specs.PassViews.{PassView, parts_of, queries_of, rows_over}
use Rattle.task_runner.specs.Queries.{kind_in, made_in}
use Rattle.task_runner.specs.RunsApart.{AllOfLists, AreAllApart, IsFileOfLists}
use Rattle.task_runner.specs.Workers.{AnswersApart, HasAnswer, IsCount, answer_at, part_at}
use Rattle.task_runner.specs.declared.post.Post.{Post}
use Rattle.task_runner.proofs.Gathers.{gathered_among, gathered_apart, gathered_few, gathered_have, gathered_new, gathered_on, gathered_small, queries_apart}
use Rattle.task_runner.proofs.Idle.{keeps_consumers}
use Rattle.task_runner.proofs.KeptRuns.{at_within, earlier_task, task_and_query}
use Rattle.task_runner.proofs.OfPartitions.{part_is, task_of, task_within, worker_of}
use Rattle.task_runner.proofs.Reaching.{holds_of}

-- what holds of all holds at each place
pub all_of : {X : Type 0} (P : X → Type 0) (xs : List X) → AllByRecursion P xs → All P xs
all_of P [] all k d below = absurd (omega (arith, below))
all_of P (x ∷ xs) all zero d below = all.0
all_of P (x ∷ xs) all (suc k) d below = all_of P xs all.1 k d (omega (arith, below))

made_small : (before : Option Files) (answer : Option Run) → IfSome answer (IsMade before) → IfSome answer (λ run. run.greatest ≤ most_entry_cost)
made_small before None made = tt
made_small before (Some run) made = made.bounded

made_new : (before : Option Files) (answer : Option Run) → IfSome answer (IsMade before) → IfSome answer (λ run. IsNotThere before run.file)
made_new before None made = tt
made_new before (Some run) made = made.fresh

-- ---- the runs that all workers answered, a list for each query

module _ {D C : Type 0} (state : C → State) (files : D → Option Files) (faults : D → ℕ) (workers : ℕ) (given : RowsByName) (pass : PassView) (olds news : List WorkerView) (posts posts' : List (Post D C)) (all : List (List (Option Run))) (any : WorkerView)
    (some : 1 ≤ workers) (done : Finished state files faults workers workers given pass olds news posts posts' all) where
  abbrev n : ℕ
  n = queries_of pass

  abbrev before : ℕ → Option Files
  before place = files_of files (slice_get posts place)

  abbrev after : ℕ → Option Files
  after place = files_of files (slice_get posts' place)

  -- how many tasks each worker did
  abbrev tasks_of : (w : ℕ) → w < workers → ℕ
  tasks_of w below = (done.each w any below).tasks

  counts_of : (w : ℕ) (below : w < workers) → IsCount workers w (parts_of pass) (tasks_of w below)
  counts_of w below = (done.each w any below).count

  -- each partition has an answer to each query
  place_within : (part i : ℕ) → part < parts_of pass → i < n → answer_place n (part / workers) i < length (answers_of all (part % workers))
  place_within part i below query =
      let known : part % workers < workers = mod-lt part (omega (arith, some)) in
      let within = task_within workers part (parts_of pass) (tasks_of (part % workers) known) below (counts_of (part % workers) known) in
      let most : suc (part / workers) * n ≤ tasks_of (part % workers) known * n = mul-le-mul_right n (omega (arith, within)) in
      let many = (done.each (part % workers) any known).many in
      omega (arith, most, many, query)

  pub answered_of : (size : ℕ) → size ≡ workers → (part i : ℕ) → part < parts_of pass → i < n → answer_place n (part / size) i < length (answers_of all (part % size))
  answered_of size same part i below query = rw same (place_within part i below query)

  -- each worker's answers tell what its rows come to
  tells_of : (rows : ℕ → List (List (List ℕ))) → HoldsAll before given pass workers rows → (w : ℕ) → w < workers → AnswerParts (after w) pass workers w rows (answers_of all w)
  tells_of rows holds w below = (done.each w any below).tells rows (holds_of files given pass workers w rows posts below holds)

  -- each worker's consumers were fed the dataset's rows of all of its partitions
  pub feeds_parts : (w : ℕ) → w < workers → FeedsParts (states_of state (slice_get posts w)) (states_of state (slice_get posts' w)) (before w) given pass workers w
  feeds_parts w below =
      let fed = (done.each w any below).feeds in
      record {
        tasks = tasks_of w below;
        all = counts_of w below;
        count = fed.count;
        feeds = fed.feeds;
        known = fed.known;
      }

  module _ (size : ℕ) (lists : List (List Run)) (same : size ≡ workers) (count : length lists ≡ n) (is : (i : ℕ) → i < n → runs_at lists i ≡ gathered n i all size (parts_of pass)) where
    list_is : (i : ℕ) → i < n → runs_at lists i ≡ gathered n i all workers (parts_of pass)
    list_is i query = is i query ∙ ap (λ (m : ℕ). gathered n i all m (parts_of pass)) same

    -- what holds of the runs of each query, and of none, holds of each list
    by_list : (P : ℕ → List Run → Type 0) → ((i : ℕ) → i < n → P i (gathered n i all workers (parts_of pass))) → ((i : ℕ) → P i []) → (i : ℕ) → P i (runs_at lists i)
    by_list P each none i = elim (less_or_not i n) [
      | inl query ↦ subst (P i) (sym (list_is i query)) (each i query)
      | inr past ↦ subst (P i) (sym (get_or_past lists i [] (omega (arith, past, count)))) (none i)
    ]

    none_all : (P : Run → Type 0) → All P []
    none_all P k d below = absurd (omega (arith, below))

    -- at most one for each partition
    pub all_few : (i : ℕ) → length (runs_at lists i) ≤ parts_of pass
    all_few = by_list (λ i runs. length runs ≤ parts_of pass) (λ i query. gathered_few n i all workers (parts_of pass)) (λ i. omega arith)

    -- they are on the workers' disks
    pub all_there : AllOfLists (λ run. run.disk < workers) lists
    all_there = by_list (λ i runs. All (λ run. run.disk < workers) runs)
        (λ i query. all_of (λ run. run.disk < workers) (gathered n i all workers (parts_of pass)) (gathered_on n i all workers (parts_of pass) some)) (λ i. none_all (λ run. run.disk < workers))

    -- no row of theirs costs more than a merge can count on
    pub all_small : AllOfLists (λ run. run.greatest ≤ most_entry_cost) lists
    all_small = by_list (λ i runs. All (λ run. run.greatest ≤ most_entry_cost) runs)
        (λ i query. all_of (λ run. run.greatest ≤ most_entry_cost) (gathered n i all workers (parts_of pass)) (gathered_small most_entry_cost n i all workers (parts_of pass)
        (λ part below.
        let known : part % workers < workers = mod-lt part (omega (arith, some)) in
        made_small (before (part % workers)) (answer_for n i all workers part) ((done.each (part % workers) any known).made (answer_place n (part / workers) i)))))
        (λ i. none_all (λ run. run.greatest ≤ most_entry_cost))

    -- the file of each wasn't there before
    pub all_new : AllOfLists (λ run. IsNotThere (before run.disk) run.file) lists
    all_new = by_list (λ i runs. All (λ run. IsNotThere (before run.disk) run.file) runs)
        (λ i query. all_of (λ run. IsNotThere (before run.disk) run.file) (gathered n i all workers (parts_of pass)) (gathered_new before n i all workers (parts_of pass)
        (λ part below.
        let known : part % workers < workers = mod-lt part (omega (arith, some)) in
        made_new (before (part % workers)) (answer_for n i all workers part) ((done.each (part % workers) any known).made (answer_place n (part / workers) i)))))
        (λ i. none_all (λ run. IsNotThere (before run.disk) run.file))

    -- they tell what each query makes of the rows of all partitions
    pub tell_all : (rows : ℕ → List (List (List ℕ))) → HoldsAll before given pass workers rows → AnswerAllParts after pass rows lists
    tell_all rows holds =
        let tells = tells_of rows holds in
        record {
          each = λ i query.
              let kind = kind_in pass.plan pass.queries i in
              let have = gathered_have after kind (λ part. made_in pass.plan pass.queries (rows_over pass (rows part)) i) n i all workers (parts_of pass)
              (λ part below.
              let known : part % workers < workers = mod-lt part (omega (arith, some)) in
              subst (λ (p : ℕ). HasAnswer (after (part % workers)) kind (answer_for n i all workers part) (made_in pass.plan pass.queries (rows_over pass (rows p)) i)) (part_is workers part)
              ((tells (part % workers) known).each (part / workers) i query (place_within part i below query))) in
              subst (λ (runs : List Run). AnswerEachPart after pass i rows runs) (sym (list_is i query)) (record { lists = have.lists; have = have.have; same = have.same });
          apart = apart;
        }
      where
        own : (w : ℕ) → w < workers → AnswersApart (answers_of all w)
        own w below = (tells_of rows holds w below).apart

        pair : (i j k l : ℕ) → i < n → j < n → k < length (gathered n i all workers (parts_of pass)) → l < length (gathered n j all workers (parts_of pass))
            → (run_in (gathered n i all workers (parts_of pass)) k).disk ≡ (run_in (gathered n j all workers (parts_of pass)) l).disk
            → (run_in (gathered n i all workers (parts_of pass)) k).file ≡ (run_in (gathered n j all workers (parts_of pass)) l).file → (i ≡ j) × (k ≡ l)
        pair i j k l query query' below below' on called =
            let one : i ≡ j = queries_apart n i j all workers (parts_of pass) k l query query' some own below below' on called in
            let alike : gathered n j all workers (parts_of pass) ≡ gathered n i all workers (parts_of pass) = ap (λ (q : ℕ). gathered n q all workers (parts_of pass)) (sym one) in (
              one,
              gathered_apart n i all workers (parts_of pass) query some own k l below (subst (λ (rs : List Run). l < length rs) alike below')
                  (on ∙ ap (λ (rs : List Run). (run_in rs l).disk) alike) (called ∙ ap (λ (rs : List Run). (run_in rs l).file) alike),
            )

        apart : AreAllApart (λ disk. disk) lists
        apart i j k l below below' on called = by_list
            (λ i runs. (j k l : ℕ) → k < length runs → l < length (runs_at lists j) → (run_in runs k).disk ≡ (run_in (runs_at lists j) l).disk → (run_in runs k).file ≡ (run_in (runs_at lists j) l).file → (i ≡ j) × (k ≡ l))
            (λ i query. by_list
            (λ j runs. (k l : ℕ) → k < length (gathered n i all workers (parts_of pass)) → l < length runs → (run_in (gathered n i all workers (parts_of pass)) k).disk ≡ (run_in runs l).disk
            → (run_in (gathered n i all workers (parts_of pass)) k).file ≡ (run_in runs l).file → (i ≡ j) × (k ≡ l))
            (λ j query' k l below below' on called. pair i j k l query query' below below' on called)
            (λ j k l below below' on called. absurd (omega (arith, below'))))
            (λ i j k l below below' on called. absurd (omega (arith, below)))
            i j k l below below' on called

    -- no file was made or changed but those of the runs
    pub only_all : 1 ≤ n → Reached state files faults workers workers pass olds news posts posts' → LeavesOnlyRuns before after lists
    only_all queries so_far disk file apart =
        elim (cases_lt disk workers) [
          | inl low ↦
              (done.each disk any low).only file (λ k run answer called. apart (subst (λ (f : ℕ). IsFileOfLists (λ number. number) lists disk f) called (answer_among disk k low run answer)))
          | inr high ↦ subst (λ (p : Option (Post D C)). SameAt (before disk) (files_of files p) file) (sym (so_far.others disk high)) (same_at_self (before disk) file)
        ]
      where
        -- an answer of a worker is among the runs
        answer_among : (disk k : ℕ) → disk < workers → (run : Run) → answer_at (answers_of all disk) k ≡ Some run → IsFileOfLists (λ number. number) lists disk run.file
        answer_among disk k low run answer =
            let at : answer_place n (k / n) (k % n) ≡ k = task_and_query n k in
            let query : k % n < n = mod-lt k (omega (arith, queries)) in
            let many = (done.each disk any low).many in
            let inside = at_within (answers_of all disk) k run answer in
            let task = earlier_task n (k / n) (k % n) (tasks_of disk low) (omega (arith, inside, at, many)) in
            let part : ℕ = part_at workers disk (k / n) in
            let below : part < parts_of pass = (counts_of disk low).within (k / n) task in
            let worker : part % workers ≡ disk = worker_of workers disk (k / n) low in
            let its : part / workers ≡ k / n = task_of workers disk (k / n) low in
            let found : answer_for n (k % n) all workers part ≡ Some run =
            ap (λ (w : ℕ). answer_at (answers_of all w) (answer_place n (part / workers) (k % n))) worker
            ∙ ap (λ (t : ℕ). answer_at (answers_of all disk) (answer_place n t (k % n))) its ∙ ap (answer_at (answers_of all disk)) at ∙ answer in (
              k % n,
              subst (λ (rs : List Run). IsFileAmong (λ number. number) rs disk run.file) (sym (list_is (k % n) query))
                  (subst (λ (d : ℕ). IsFileAmong (λ number. number) (gathered n (k % n) all workers (parts_of pass)) d run.file) worker
                  (gathered_among n (k % n) all workers (parts_of pass) part run below found)),
            )

-- ---- what is left of the posts

keeps_one : (before after : Option Files) (file : ℕ) → KeepsFiles before after → KeepsFile before after file
keeps_one None None file kept = tt
keeps_one None (Some after) file kept = kept
keeps_one (Some before) None file kept = kept
keeps_one (Some before) (Some after) file kept = kept file

keeps_same : (before after : Option Files) (file : ℕ) → after ≡ before → KeepsFile before after file
keeps_same before after file same = subst (λ (files : Option Files). KeepsFile before files file) (sym same) (itself before)
  where
    itself : (files : Option Files) → KeepsFile files files file
    itself None = tt
    itself (Some files) = λ there. refl

pub keeps_all : {D C : Type 0} (state : C → State) (files : D → Option Files) (faults : D → ℕ) (workers n : ℕ) (pass : PassView) (olds news : List WorkerView) (posts posts' : List (Post D C)) (any : WorkerView)
    → Reached state files faults workers n pass olds news posts posts' → (disk file : ℕ) → KeepsFile (files_of files (slice_get posts disk)) (files_of files (slice_get posts' disk)) file
keeps_all {D = D} {C = C} state files faults workers n pass olds news posts posts' any so_far disk file =
    elim (cases_lt disk n) [
      | inl low ↦ keeps_one (files_of files (slice_get posts disk)) (files_of files (slice_get posts' disk)) file (so_far.each disk any low).disk.kept
      | inr high ↦ keeps_same (files_of files (slice_get posts disk)) (files_of files (slice_get posts' disk)) file (ap (λ (p : Option (Post D C)). files_of files p) (so_far.others disk high))
    ]

pub consumers_kept : {D C : Type 0} (state : C → State) (files : D → Option Files) (faults : D → ℕ) (workers n : ℕ) (pass : PassView) (olds news : List WorkerView) (posts posts' : List (Post D C)) (any : WorkerView)
    → Reached state files faults workers n pass olds news posts posts' → (w : ℕ) → KeepsConsumers (states_of state (slice_get posts w)) (states_of state (slice_get posts' w))
consumers_kept {D = D} {C = C} state files faults workers n pass olds news posts posts' any so_far w =
    elim (cases_lt w n) [
      | inl low ↦ (so_far.each w any low).consumers
      | inr high ↦ subst (λ (p : Option (Post D C)). KeepsConsumers (states_of state (slice_get posts w)) (states_of state p)) (sym (so_far.others w high)) (keeps_consumers (states_of state (slice_get posts w)))
    ]
