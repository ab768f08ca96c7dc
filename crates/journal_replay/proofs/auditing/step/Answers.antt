use Rattle.std.proofs.Common.{sym, ◌∙◌}
use Rattle.journal_audit.proofs.Tests.{none_is}
use Rattle.journal_replay.specs.Replays.{history_of, setup_of}
use Rattle.journal_replay.proofs.auditing.step.Goals as goal

pub add-requires-clause-next : goal.add-requires-clause-next
add-requires-clause-next c =
    (c.rules_are_those_of_legal_journals.ensures (setup_of c.args.replay.now) (history_of c.args.replay.now) c.args.entry).0
    (sym c.check-broken.ensures ∙ none_is c.check-broken.result (sym c.is_some.ensures ∙ c.if-is_some.false))
