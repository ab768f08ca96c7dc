use Rattle.std.proofs.Common.{◌≡◌, ◌&&◌, List, ap, arith, length, map, nat_eq, sym, ◌∙◌}
use Rattle.std.proofs.lemmas.List.{length-map}
use Rattle.pool_ledger.specs.declared.entry.Entry.{Entry}
use Rattle.pool_ledger.specs.Legal.{Evicted}
use Rattle.journal_audit.specs.Rules.{are_evicted}
use Rattle.journal_replay.specs.Checks.{go_first}
use Rattle.journal_replay.specs.Replays.{gone_of}
use Rattle.journal_replay.specs.UseOrder.{candidates_of}
use Rattle.journal_replay.proofs.Lists.{listed_before}
use Rattle.journal_replay.proofs.Gone.{goes_alike, goes_unlike, goes_untold}
use Rattle.journal_replay.proofs.victims.have_gone.Goals as goal

pub returns-then-len-count : goal.returns-then-len-count
returns-then-len-count c = λ blocks are.
    let waiting = c.args.replay.now.turns.waiting.items in
    goes_unlike c.args.replay.now.turns.ledger.history c.args.except (map gone_of waiting) c.args.count c.args.told blocks are c.requires.few
    (λ e. omega (arith, e, length-map waiting gone_of, c.if-len-count.true))
    ∙ ap (λ (gone : List Evicted). are_evicted gone blocks && nat_eq c.args.told (length blocks)) (sym c.requires.tells.turns.gone)

pub returns-then-told-count : goal.returns-then-told-count
returns-then-told-count c = λ blocks are.
    let waiting = c.args.replay.now.turns.waiting.items in
    goes_untold c.args.replay.now.turns.ledger.history c.args.except (map gone_of waiting) c.args.count c.args.told blocks are c.requires.few c.if-told-count.true
    ∙ ap (λ (gone : List Evicted). are_evicted gone blocks && nat_eq c.args.told (length blocks)) (sym c.requires.tells.turns.gone)

pub returns : goal.returns
returns c = λ blocks are.
    let waiting = c.args.replay.now.turns.waiting.items in
    let long : length (map gone_of waiting) ≡ c.args.count = omega (arith, length-map waiting gone_of, c.if-len-count.false) in
    let list = candidates_of c.args.replay.now.tables.pins c.args.replay.now.turns.before.order.placed.entries in
    c.go_first.ensures
    ∙ ap (λ (entries : List Entry). go_first c.args.except (map gone_of entries) list) c.deref.ensures.value
    ∙ goes_alike c.args.replay.now.turns.ledger.history c.args.except list (map gone_of waiting) c.args.count c.args.told blocks are c.requires.few (listed_before c.args.replay.now c.requires.tells) long c.if-told-count.false
    ∙ ap (λ (gone : List Evicted). are_evicted gone blocks && nat_eq c.args.told (length blocks)) (sym c.requires.tells.turns.gone)
