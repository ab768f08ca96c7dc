use Rattle.std.proofs.Common.{length}
use Rattle.job_plan.specs.Plans.{passes_in}
use Rattle.csv_program.specs.Basis.{said_by}
use Rattle.csv_program.specs.Posts.{post_files}
use Rattle.job_ending.specs.Tasks.{owner_of}
use Rattle.csv_program.proofs.top.run_job.Given as goal

abbrev pub ghosts-run_queries : goal.ghosts-run_queries
ghosts-run_queries g a = record { sizes = a.asked.now.pool; owner = owner_of 0 0 a.asked.now.pool.workers (length a.parts.now) (length (passes_in a.plan.now)); rows = said_by (g.D.Disk.files a.store) (post_files g.D.Disk.files a.posts.now) a.plan.now a.parts.now a.asked.now.pool.workers }
