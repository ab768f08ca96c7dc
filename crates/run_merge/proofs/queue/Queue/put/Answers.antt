use Rattle.std.proofs.Common.{◌≡◌, ◌<◌, ◌≤◌, ◌+◌, ◌-◌, ℕ, List, ap, drop, length, set, sym, ◌∙◌, arith, rules}
use Rattle.std.proofs.lemmas.List.{length-drop, with_items_is}
use Rattle.std.specs.List.{insert}
use Rattle.run_merge.proofs.Queues.{gap_filled}
use Rattle.run_merge.proofs.queue.Queue.put.Goals as goal

pub returns-clause-ok : goal.returns-clause-ok
returns-clause-ok c =
    let queue = c.self.inside in
    let old = queue.places.items in
    let new = c.move_down.new.places in
    let some : 1 ≤ queue.gone = search rules in
    let on : queue.gone - 1 + 1 ≡ queue.gone = omega (arith, some) in
    let within : queue.gone - 1 + c.args.at < length old =
    omega (arith, some, ap length c.self.view_is, length-drop queue.gone old, c.requires, c.self.invariant) in
    let count : length new ≡ length old = rw c.deref_mut.ensures.value at c.move_down.ensures.length in
    ap (λ (places : List ℕ). drop (queue.gone - 1) (set places (queue.gone - 1 + c.args.at) c.args.place))
    (with_items_is queue.places new (count ∙ sym queue.places.ok.0))
    ∙ gap_filled old new (queue.gone - 1) c.args.at c.args.place count within
    (rw c.deref_mut.ensures.value at c.move_down.ensures.moved) (rw c.deref_mut.ensures.value at c.move_down.ensures.behind)
    ∙ ap (λ (n : ℕ). insert (drop n old) c.args.at c.args.place) on
    ∙ ap (λ (places : List ℕ). insert places c.args.at c.args.place) c.self.view_is
