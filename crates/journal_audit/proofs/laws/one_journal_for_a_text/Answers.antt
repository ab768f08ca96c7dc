use Rattle.journal_audit.specs.Text.{lines_text}
use Rattle.journal_audit.proofs.Journals.{same_heads, same_entries}
use Rattle.journal_audit.proofs.laws.one_journal_for_a_text.Goals as goal

pub returns-clause-version : goal.returns-clause-version
returns-clause-version c v w a b one two sa sb same = (same_heads v w a b (lines_text one) (lines_text two) sa sb same).0

pub returns-clause-setup : goal.returns-clause-setup
returns-clause-setup c v w a b one two sa sb same = (same_heads v w a b (lines_text one) (lines_text two) sa sb same).1

pub returns-clause-journal : goal.returns-clause-journal
returns-clause-journal c v w a b one two sa sb fa fb same =
    same_entries one two fa fb (same_heads v w a b (lines_text one) (lines_text two) sa sb same).2
