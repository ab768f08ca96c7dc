use Rattle.std.proofs.Common.{◌∙◌, refl, subst, sym}
use Rattle.trial_input.specs.Generator.{trial_text}
use Rattle.trial_input.specs.Lines.{trial_lines, trial_output}
use Rattle.job_ending.specs.Endings.{Prints, partitions_of}
use Rattle.csv_program.specs.Posts.{post_faults}
use Rattle.csv_program.specs.Trials.{IsOfTrialRun}
use Rattle.csv_program.proofs.Completed.{completes}
use Rattle.csv_program.proofs.EndedRuns.{prefix_of_nothing}
use Rattle.csv_program.proofs.Tried.{ends_sound, run_of_trial, tasks_cut, want_not_done, write_not_done}
use Rattle.csv_program.proofs.trial.run_trial.Goals as goal

-- ---- the run isn't done

pub returns-in_default-status-clause-ends : goal.returns-in_default-status-clause-ends
returns-in_default-status-clause-ends g c = (run_of_trial c.run_over-outcome.result.status c.run_over-outcome.ensures.ends).0

pub returns-in_default-status-clause-judged : goal.returns-in_default-status-clause-judged
returns-in_default-status-clause-judged g c = (run_of_trial c.run_over-outcome.result.status c.run_over-outcome.ensures.ends).1

pub returns-in_default-status-clause-sound : goal.returns-in_default-status-clause-sound
returns-in_default-status-clause-sound g c tell =
    let text = trial_output c.args.asked.now.max_rows in
    ends_sound (Prints text) text c.run_over-outcome.result.status refl (c.run_over-outcome.ensures.ending tell)

pub returns-in_default-status-clause-complete : goal.returns-in_default-status-clause-complete
returns-in_default-status-clause-complete g c tell nothing all =
    let text = trial_output c.args.asked.now.max_rows in
    let ended = c.run_over-outcome.result.status in
    let faults = g.W.Sink.faults c.args.output.now in
    completes ended (Prints text) text c.args.asked.now.pool c.run_over-outcome.result.journal 0 0 faults faults 0 0 (post_faults g.D.Disk.faults c.args.posts.now) (post_faults g.D.Disk.faults c.run_over-outcome.new.posts) refl nothing all
    (λ is. absurd (subst IsOfTrialRun is c.run_over-outcome.ensures.ends)) (λ is. absurd (subst IsOfTrialRun is c.run_over-outcome.ensures.ends)) (λ is. absurd (subst IsOfTrialRun is c.run_over-outcome.ensures.ends))
    c.run_over-outcome.ensures.disk c.run_over-outcome.ensures.no_room (c.run_over-outcome.ensures.ending tell)

pub returns-in_default-status-clause-prefix : goal.returns-in_default-status-clause-prefix
returns-in_default-status-clause-prefix g c tell = prefix_of_nothing g.W.Sink.written c.args.output.now c.args.output.now (trial_lines c.args.asked.now.max_rows) refl

pub returns-in_default-status-clause-write : goal.returns-in_default-status-clause-write
returns-in_default-status-clause-write g c is = absurd (subst IsOfTrialRun is c.run_over-outcome.ensures.ends)

-- ---- the lines can't be written

pub returns-in-Err-Failed-clause-tasks : goal.returns-in-Err-Failed-clause-tasks
returns-in-Err-Failed-clause-tasks g c =
    let asked = c.args.asked.now in
    let outcome = c.run_over-outcome.result in
    tasks_cut outcome.setup c.ended_as.result.setup asked.pool.workers asked.job outcome.status c.ended_as.result.status outcome.journal c.ended_as.result.journal (partitions_of asked (trial_text asked.max_rows))
    c.ended_as.ensures.setup c.ended_as.ensures.journal (λ done. write_not_done (sym c.ended_as.ensures.status ∙ done)) c.run_over-outcome.ensures.tasks

pub returns-clause-tasks : goal.returns-clause-tasks
returns-clause-tasks g c =
    let asked = c.args.asked.now in
    let outcome = c.run_over-outcome.result in
    let ended = c.ended_as-in-Err-NoMemory.result in
    let told = c.ended_as-in-Err-NoMemory.ensures in
    tasks_cut outcome.setup ended.setup asked.pool.workers asked.job outcome.status ended.status outcome.journal ended.journal (partitions_of asked (trial_text asked.max_rows))
    told.setup told.journal (λ done. want_not_done (sym told.status ∙ done)) c.run_over-outcome.ensures.tasks
