use Rattle.std.proofs.Common.{◌≡◌, ◌<◌, ℕ, List, None}
use Rattle.aggregate.specs.Totals.{Entry}
use Rattle.job_answer.specs.Laws.{wide_total}
use Rattle.job_plan.specs.Plans.{kept_at}
use Rattle.run_file.specs.Shelved.{LeavesFiles, files_on}
use Rattle.csv_program.specs.QueryResults.{HaveResults}
use Rattle.csv_program.proofs.sums.check_sums.Given as goal

-- no sum of the queries so far is too wide
abbrev pub invariant-loop-query : goal.invariant-loop-query
invariant-loop-query g l = record {
  shelf : LeavesFiles g.H.Shelf.count_of g.H.Shelf.named g.H.Shelf.disk_of g.D.Disk.files g.D.Disk.faults l.fn.shelf l.shelf;
  none : (totals : ℕ → List Entry) → HaveResults (files_on g.H.Shelf.disk_of g.D.Disk.files l.fn.shelf) l.plan totals l.answers
      → (before : ℕ) → before < l.query → wide_total (kept_at l.plan before) (totals before) ≡ None;
}
