use Rattle.std.proofs.Common.{◌≡◌, ℕ, ◌+◌, ◌*◌, ◌<◌, List, length}
use Rattle.std.specs.Prelude.{All, IfSome, slice_index_or}
use Rattle.turn_lock.specs.Passes.{WorkerView}
use Rattle.job_plan.specs.Plans.{kept_in}
use Rattle.task_runner.specs.Pass.{states_at}
use Rattle.csv_program.specs.Cached.{EachTells, GoesBehind}
use Rattle.csv_program.specs.Charges.{EachCharges}
use Rattle.job_ending.specs.Removals.{free_from}
use Rattle.csv_program.specs.Doing.{AreBetween, EachBegins, EachRemoves}
use Rattle.csv_program.specs.Passing.{LeavesPosts}
use Rattle.csv_program.specs.Posts.{post_files}
use Rattle.csv_program.specs.QueryResults.{HoldsParts, totals_of_parts}
use Rattle.csv_program.proofs.FedByPasses.{FeedsUpTo}
use Rattle.csv_program.proofs.Gathered.{HaveUpTo}
use Rattle.csv_program.proofs.pool.run_passes.Given as goal

abbrev pub invariant-loop-number : goal.invariant-loop-number
invariant-loop-number g l = record {
  count : length l.answers.items ≡ length (kept_in l.plan);
  there : All (λ answer. IfSome answer (λ run. run.disk < g.B.Basis.sizes.workers)) l.answers.items;
  answer : (rows : ℕ → List (List (List ℕ))) → HoldsParts (post_files g.D.Disk.files l.initial.posts) g.B.Basis.rows l.plan l.parts l.part_rows g.B.Basis.sizes.workers rows
      → HaveUpTo (post_files g.D.Disk.files l.posts) l.plan (totals_of_parts l.plan (length l.parts) rows) l.number l.answers.items;
  fed : (rows : ℕ → List (List (List ℕ))) → HoldsParts (post_files g.D.Disk.files l.initial.posts) g.B.Basis.rows l.plan l.parts l.part_rows g.B.Basis.sizes.workers rows
      → (worker : ℕ) → worker < g.B.Basis.sizes.workers
      → FeedsUpTo (states_at g.C.Consumer.state l.initial.posts.items worker) (states_at g.C.Consumer.state l.posts.items worker) l.plan (length l.parts) rows g.B.Basis.sizes.workers worker l.number;
  posts : LeavesPosts g.C.Consumer.state g.D.Disk.files g.D.Disk.faults g.B.Basis.sizes.workers l.initial.posts l.posts;
  workers : AreBetween l.executor.manager.now g.B.Basis.owner g.B.Basis.sizes.workers (l.number * (length l.parts + 1)) l.workers.items;
  charged : (rows : ℕ → List (List (List ℕ))) → HoldsParts (post_files g.D.Disk.files l.initial.posts) g.B.Basis.rows l.plan l.parts l.part_rows g.B.Basis.sizes.workers rows
      → EachCharges (states_at g.C.Consumer.state l.initial.posts.items) l.plan (length l.parts) rows g.B.Basis.sizes.workers l.number l.workers.items;
  told : EachTells l.plan g.B.Basis.sizes.workers (length l.parts) l.number l.workers.items;
  removes : EachRemoves (free_from l.plan (length l.parts)) g.B.Basis.sizes.workers (l.number * (length l.parts + 1)) l.workers.items;
  gone : (any : WorkerView) → GoesBehind l.plan (length l.parts) l.number (slice_index_or l.workers.items 0 any).seen;
  begun : EachBegins g.B.Basis.owner g.B.Basis.sizes.workers (l.number * (length l.parts + 1)) l.workers.items;
}
