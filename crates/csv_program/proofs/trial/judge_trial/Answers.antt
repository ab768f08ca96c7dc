use Rattle.words.specs.Texts.{texts}
use Rattle.csv_program.specs.Trials.{trial_of}
use Rattle.csv_program.proofs.Called.{no_run_not}
use Rattle.csv_program.proofs.trial.judge_trial.Goals as goal

pub returns-in-Ok-clause-ok : goal.returns-in-Ok-clause-ok
returns-in-Ok-clause-ok c = no_run_not (trial_of c.args.posts (texts c.args.words.now)) c.in-Ok._asked _ c.in-Ok.ensures.ok
