use Rattle.std.proofs.Common.{sym, ap, set, map, ◌∙◌}
use Rattle.std.proofs.lemmas.List.{map-set, set-get_or}
use Rattle.std.proofs.lemmas.Result.{on_ok_weaker, on_err_weaker}
use Rattle.consumer_trait.specs.Members.{blank}
use Rattle.consumer_trait.proofs.AtMember.{state_at-is}
use Rattle.consumer_trait.proofs.members.begin_at.Goals as goal

pub returns-clause-ok : goal.returns-clause-ok
returns-clause-ok g c =
    let state_of = g.C.Consumer.state in
    let old = state_at-is state_of c.args.members.now c.args.i c.index-members-i.result c.requires.within in
    on_ok_weaker c.begin.result (λ e. rw (map-set, old) (ap (λ s. set (map state_of c.args.members.now) c.args.i s) e)) c.begin.ensures.ok

pub returns-clause-err : goal.returns-clause-err
returns-clause-err g c =
    let state_of = g.C.Consumer.state in
    let states = map state_of c.args.members.now in
    let old = state_at-is state_of c.args.members.now c.args.i c.index-members-i.result c.requires.within in
    on_err_weaker c.begin.result
    (λ e. map-set state_of c.args.members.now c.args.i c.begin.new.self ∙ ap (λ s. set states c.args.i s) (e ∙ sym old) ∙ set-get_or states c.args.i blank)
    c.begin.ensures.err
