use Rattle.journal_audit.proofs.Follows.{may_follow, breaks_none}
use Rattle.journal_audit.proofs.laws.rules_are_those_of_legal_journals.Goals as goal

pub returns : goal.returns
returns c setup history entry = (may_follow setup history entry, breaks_none setup history entry)
