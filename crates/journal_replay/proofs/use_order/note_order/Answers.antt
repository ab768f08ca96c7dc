use Rattle.std.proofs.lemmas.Result.{on_ok_weaker}
use Rattle.journal_replay.proofs.use_order.note_order.Goals as goal

pub returns-in-Evict-clause-in_order : goal.returns-in-Evict-clause-in_order
returns-in-Evict-clause-in_order c = on_ok_weaker c.drop_block.result (λ later. later c.args.place c.requires.in_order) c.drop_block.ensures.in_order

pub returns-in-Remove-clause-in_order : goal.returns-in-Remove-clause-in_order
returns-in-Remove-clause-in_order c =
    on_ok_weaker c.drop_block-in-Remove.result (λ later. later c.args.place c.requires.in_order) c.drop_block-in-Remove.ensures.in_order
