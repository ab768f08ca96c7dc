use Rattle.journal_audit.proofs.Wholes.{whole_is}
use Rattle.journal_audit.proofs.fields.take_whole.Goals as goal

pub returns : goal.returns
returns c = whole_is c.args.text.now c.number_of.result c.number_of.ensures.found c.number_of.ensures.only
