use Rattle.journal_replay.proofs.Answered.{lines_more}
use Rattle.journal_replay.proofs.auditing.read_entries.Goals as goal

pub loop-rest-preserved : goal.loop-rest-preserved
loop-rest-preserved c =
    lines_more c.args.version c.args.lines.now c.loop-rest.entries.items c.push.new.self.items c.loop-rest.rest.now c.in-Some.behind.now c.in-Some.entry c.loop-rest.invariant c.in_ok-push.ensures.items c.in-Some.ensures.found
