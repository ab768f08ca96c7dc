use Rattle.journal_audit.proofs.Found.{setup_found, no_setup}
use Rattle.journal_audit.proofs.lines.take_setup.Goals as goal

pub returns-clause-found : goal.returns-clause-found
returns-clause-found c = setup_found (λ rest. rest.now) c.args.bytes.now c.read_head_line.result c.read_head_line.ensures

pub returns-clause-none : goal.returns-clause-none
returns-clause-none c = no_setup (λ rest. rest.now) c.args.bytes.now c.read_head_line.result c.read_head_line.ensures
