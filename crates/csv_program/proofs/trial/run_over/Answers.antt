use Rattle.std.proofs.Common.{◌≡◌, ◌∙◌, ℕ, List, subst}
use Rattle.std.specs.Prelude.{IfSome}
use Rattle.landing.specs.Checks.{Checked}
use Rattle.task_runner.specs.Pass.{states_at}
use Rattle.trial_input.specs.Lines.{trial_output}
use Rattle.trial_input.specs.Sources.{text_left}
use Rattle.csv_program.specs.Charges.{ChargesRun}
use Rattle.csv_program.specs.Cached.{HasTasks}
use Rattle.job_ending.specs.Endings.{ending_of, partitions_of}
use Rattle.csv_program.proofs.Tried.{of_trial_run, trial_checked, trial_ending}
use Rattle.csv_program.proofs.trial.run_over.Goals as goal

pub returns-clause-ends : goal.returns-clause-ends
returns-clause-ends g c =
    let asked = c.args.asked.now in
    let bytes = text_left c.new-input.result in
    of_trial_run (ending_of asked bytes) (trial_output asked.max_rows) c.run_job.result.status (trial_ending asked bytes c.requires.trial (c.new-input.ensures ∙ c.requires.text) c.trials_are_good.ensures c.trials_fit.ensures)
    c.run_job.ensures.judged c.run_job.ensures.called c.run_job.ensures.read c.run_job.ensures.write c.run_job.ensures.recorded

pub returns-clause-tasks : goal.returns-clause-tasks
returns-clause-tasks g c =
    let asked = c.args.asked.now in
    subst (λ (bytes : List ℕ). IfSome c.run_job.result.setup (λ setup. (partitions : ℕ) × HasTasks asked.pool.workers partitions asked.job c.run_job.result.status c.run_job.result.journal × (partitions ≡ partitions_of asked bytes)))
    (c.new-input.ensures ∙ c.requires.text) c.run_job.ensures.tasks

pub returns-clause-charged : goal.returns-clause-charged
returns-clause-charged g c done tell =
    let asked = c.args.asked.now in
    let bytes = text_left c.new-input.result in
    subst (λ (what : Checked). ChargesRun asked what (states_at g.C.Consumer.state c.args.posts.now.items) c.run_job.result.journal)
    (trial_checked asked bytes c.requires.trial (c.new-input.ensures ∙ c.requires.text) c.trials_are_good.ensures) (c.run_job.ensures.charged done tell)
