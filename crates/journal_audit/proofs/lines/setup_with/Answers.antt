use Rattle.journal_audit.proofs.Found.{setup_is}
use Rattle.journal_audit.proofs.lines.setup_with.Goals as goal

pub returns : goal.returns
returns c =
    setup_is c.args.max c.args.region c.args.workers c.with_sizes.result c.with_sizes.ensures.some c.with_sizes.ensures.exact
