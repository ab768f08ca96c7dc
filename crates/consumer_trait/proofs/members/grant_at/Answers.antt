use Rattle.std.proofs.Common.{ap, set, map}
use Rattle.std.proofs.lemmas.List.{map-set}
use Rattle.consumer_trait.proofs.AtMember.{state_at-is}
use Rattle.consumer_trait.proofs.members.grant_at.Goals as goal

pub returns : goal.returns
returns g c =
    let state_of = g.C.Consumer.state in
    let old = state_at-is state_of c.args.members.now c.args.i c.index-members-i.result c.requires.within in
    rw (map-set, old) (ap (λ s. set (map state_of c.args.members.now) c.args.i s) c.granted.ensures)
