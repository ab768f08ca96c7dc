use Rattle.job_text.proofs.Places.{found_of, only_of, refused_of}
use Rattle.job_text.proofs.Grammars.{whole_of}
use Rattle.job_text.proofs.reading.read.Goals as goal

pub returns-clause-found : goal.returns-clause-found
returns-clause-found c = found_of c.args.text.now c.read_all.result c.read_all.ensures

pub returns-clause-only : goal.returns-clause-only
returns-clause-only c = only_of c.args.text.now c.read_all.result c.read_all.ensures

pub returns-clause-refused : goal.returns-clause-refused
returns-clause-refused c = refused_of c.args.text.now c.read_all.result c.read_all.ensures

pub returns-clause-whole : goal.returns-clause-whole
returns-clause-whole c = whole_of c.args.text.now c.read_all.result c.read_all.ensures
