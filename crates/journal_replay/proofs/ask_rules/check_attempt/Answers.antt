use Rattle.std.proofs.Common.{sym, ◌∙◌}
use Rattle.pool_ledger.specs.History.{open_task}
use Rattle.journal_audit.proofs.Tests.{the_is}
use Rattle.journal_replay.specs.Replays.{history_of}
use Rattle.journal_replay.proofs.ask_rules.check_attempt.Goals as goal

pub check_growth-requires-clause-its_task : goal.check_growth-requires-clause-its_task
check_growth-requires-clause-its_task c =
    the_is (open_task (history_of c.args.replay.now) c.args.worker) c.args.task (sym c.is_task.ensures ∙ c.if-not-is_task.false)
