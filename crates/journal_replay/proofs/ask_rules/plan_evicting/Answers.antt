use Rattle.std.proofs.Common.{arith}
use Rattle.journal_replay.proofs.ask_rules.plan_evicting.Goals as goal

pub share-requires-clause-held : goal.share-requires-clause-held
share-requires-clause-held c = omega (arith, c.held.ensures, c.exec.ensures, c.ledger_keeps_laws.ensures.laws.tasks_fit c.args.task)
