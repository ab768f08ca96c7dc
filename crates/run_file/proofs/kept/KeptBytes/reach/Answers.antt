use Rattle.row_page.specs.Grammar.{IsPieceThen}
use Rattle.run_file.proofs.Reaching.{piece_shown}
use Rattle.run_file.proofs.kept.KeptBytes.reach.Goals as goal

pub returns-in-Some-clause-shows : goal.returns-in-Some-clause-shows
returns-in-Some-clause-shows g c =
    let parts = c.in-Some.field-0 in
    let here : IsPieceThen c.args.self.now.rest parts.0.now parts.1.now = rw c.rest.ensures at c.in-Some.ensures.found in
    piece_shown (g.D.Disk.files c.args.disk.now) c.args.run.now c.args.self.now parts.0.now parts.1.now here
