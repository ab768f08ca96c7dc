use Rattle.clap.specs.Words.{first_value, found_of}
use Rattle.words.specs.Commands.{with_flag}
use Rattle.words.specs.Programs.{journal_flag}
use Rattle.words.proofs.Plain.{passed_on}
use Rattle.words.proofs.Programs.{unfit_max_rows, unfit_run, unfit_work}
use Rattle.words.proofs.run.run_from.Goals as goal

pub returns-in_err-work_from-clause-bad : goal.returns-in_err-work_from-clause-bad
returns-in_err-work_from-clause-bad c =
    let look = with_flag journal_flag c.args.journal (first_value (found_of c.args.matches.now)) in
    passed_on c.from_residual.result c.in_err-work_from.field-0.0 _ c.from_residual.ensures.1
    (unfit_run look (unfit_work look c.in_err-work_from.ensures.bad))

pub returns-in_err-number-clause-bad : goal.returns-in_err-number-clause-bad
returns-in_err-number-clause-bad c =
    let look = with_flag journal_flag c.args.journal (first_value (found_of c.args.matches.now)) in
    passed_on c.from_residual-in_err-number.result c.in_err-number.field-0.0 _ c.from_residual-in_err-number.ensures.1
    (unfit_run look (unfit_max_rows look c.in_err-number.ensures.bad))
