use Rattle.journal_audit.proofs.Found.{entry_found, no_entry}
use Rattle.journal_audit.proofs.lines.take_entry.Goals as goal

pub returns-clause-found : goal.returns-clause-found
returns-clause-found c = entry_found (λ rest. rest.now) c.args.version c.args.bytes.now c.read_line.result c.read_line.ensures

pub returns-clause-none : goal.returns-clause-none
returns-clause-none c = no_entry (λ rest. rest.now) c.args.version c.args.bytes.now c.read_line.result c.read_line.ensures
