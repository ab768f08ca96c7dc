use Rattle.std.proofs.Common.{[], ◌∷◌, Option, ap, ◌∙◌}
use Rattle.std.specs.Option.{option_map_or}
use Rattle.journal_replay.specs.declared.placed.Placed.{Placed}
use Rattle.journal_replay.specs.UseOrder.{resident_in, residents_in}
use Rattle.journal_replay.proofs.Known.{in_order_later, taken_absent}
use Rattle.journal_replay.proofs.use_order.move_last.Goals as goal

pub put_last-requires-clause-in_order : goal.put_last-requires-clause-in_order
put_last-requires-clause-in_order c = c.in_ok-placed.ensures.in_order c.args.place c.requires.in_order

pub put_last-requires-clause-absent : goal.put_last-requires-clause-absent
put_last-requires-clause-absent c =
    let old = residents_in c.args.order.now.placed.entries in
    taken_absent c.args.dataset c.args.part old (residents_in c.take_out.new.order.placed.entries) c.in-Some.placed c.in_ok-placed.ensures.blocks
    (c.in_ok-placed.ensures.taken ∙ ap (λ (o : Option Placed). option_map_or (λ x. resident_in x ∷ []) o []) c.in-Some.is)

pub returns-in-None-clause-in_order : goal.returns-in-None-clause-in_order
returns-in-None-clause-in_order c = in_order_later c.take_out.new.order c.args.place (c.in_ok-placed.ensures.in_order c.args.place c.requires.in_order)
