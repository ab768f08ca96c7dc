-- What a pass of a plan leaves: at the posts of the workers, and as answers.
-- This project's own.
use Rattle.std.specs.Prelude.{◌≡◌, ◌≢◌, ℕ, ◌≤◌, ◌<◌, ◌⊎◌, List, Option, length, map, slice_index}
use Rattle.std.specs.Global.{Vec}
use Rattle.std.specs.List.{range_with_len}
use Rattle.aggregate.specs.Totals.{total}
use Rattle.spill_disk.specs.Files.{Files}
use Rattle.run_file.specs.declared.run.Run.{Run}
use Rattle.run_file.specs.Several.{concatenated, KeepsAll}
use Rattle.consumer_trait.specs.States.{State}
use Rattle.job_plan.specs.Columns.{Fields}
use Rattle.result_table.specs.Results.{HasResult}
use Rattle.task_runner.specs.Consumers.{KeepsConsumers}
use Rattle.task_runner.specs.Pass.{states_at}
use Rattle.task_runner.specs.PassViews.{PassView, parts_of, queries_of, rows_over}
use Rattle.task_runner.specs.Queries.{kind_in, made_in}
use Rattle.task_runner.specs.Workers.{answer_at}
use Rattle.task_runner.specs.declared.post.Post.{Post}
use Rattle.csv_program.specs.Posts.{post_faults, post_files}

-- ---- the posts

-- what tasks of so many workers leave at the posts, whether all were done or not: the posts behind theirs have their
-- consumers as they were, consumers stay what they are, and files that were there are as they were
pub record LeavesPosts {D C : Type 0} (state : C → State) (files : D → Option Files) (faults : D → ℕ) (workers : ℕ)
    (posts posts' : Vec (Post D C)) : Type 0 where
  pub others : (place : ℕ) → workers ≤ place → states_at state posts'.items place ≡ states_at state posts.items place
  pub consumers : (place : ℕ) → KeepsConsumers (states_at state posts.items place) (states_at state posts'.items place)
  pub same_posts : length posts'.items ≡ length posts.items
  pub keeps : KeepsAll (post_files files posts) (post_files files posts')
  pub later : (place : ℕ) → post_faults faults posts place ≤ post_faults faults posts' place

-- ---- the answers

-- the answer to each query of a pass is the run of what it makes of the dataset's rows of all partitions
abbrev pub HavePass : (ℕ → Option Files) → PassView → (ℕ → List Fields) → List (Option Run) → Type 0
HavePass files pass rows answers =
    (i : ℕ) → i < queries_of pass → HasResult files (kind_in pass.plan pass.queries i) (answer_at answers i)
    (total (kind_in pass.plan pass.queries i)
    (concatenated (map (λ part. made_in pass.plan pass.queries (rows_over pass (rows part)) i)
    (range_with_len 0 (parts_of pass)))))

-- the answer to a query is that of one of the first of these places, where the query stands there; else it is as it was
abbrev pub IsPutAt : List ℕ → List (Option Run) → List (Option Run) → List (Option Run) → ℕ → ℕ → Type 0
IsPutAt queries found before after places query =
    ((i : ℕ) × (i < places) × (slice_index queries i ≡ query) × (answer_at after query ≡ answer_at found i))
    ⊎ (((i : ℕ) → i < places → slice_index queries i ≢ query) × (answer_at after query ≡ answer_at before query))

-- the answers to the queries of a pass are put among those to all queries
pub record ArePut (queries : List ℕ) (found before after : List (Option Run)) (places : ℕ) : Type 0 where
  pub count : length after ≡ length before
  pub each : (query : ℕ) → IsPutAt queries found before after places query
