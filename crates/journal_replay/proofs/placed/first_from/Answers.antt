use Rattle.journal_replay.proofs.EntriesFrom.{first_is}
use Rattle.journal_replay.proofs.placed.first_from.Goals as goal

pub returns-in-Some-clause-list : goal.returns-in-Some-clause-list
returns-in-Some-clause-list c =
    first_is c.args.from c.args.blocks.now.entries c.range.result c.next.new.self (c.in-Some.place.now, c.in-Some.placed.now) c.range.ensures.ordered
    (c.range.ensures.between tt) c.in-Some.ensures.steps
