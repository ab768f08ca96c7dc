use Rattle.consumer_trait.proofs.AtMember.{state_at-is, state_at-set, only_at-set}
use Rattle.consumer_trait.proofs.members.feed_at.Goals as goal

pub returns-clause-feeds : goal.returns-clause-feeds
returns-clause-feeds g c =
    let state_of = g.C.Consumer.state in
    let old = state_at-is state_of c.args.members.now c.args.i c.index-members-i.result c.requires.within in
    let new = state_at-set state_of c.args.members.now c.args.i c.feed.new.self c.requires.within in
    rw (old, new) c.feed.ensures

pub returns-clause-others : goal.returns-clause-others
returns-clause-others g c = only_at-set g.C.Consumer.state c.args.members.now c.args.i c.feed.new.self c.requires.within
