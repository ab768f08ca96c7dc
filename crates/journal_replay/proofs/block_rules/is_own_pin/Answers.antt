use Rattle.std.proofs.Common.{ap, ◌∙◌}
use Rattle.pool_ledger.specs.Blocks.{worker_pin}
use Rattle.journal_replay.specs.Replays.{history_of}
use Rattle.journal_replay.specs.Tables.{is_pin}
use Rattle.journal_replay.proofs.Noted.{same_pin}
use Rattle.journal_replay.proofs.block_rules.is_own_pin.Goals as goal

pub returns : goal.returns
returns c =
    c.is_pin.ensures ∙ ap (is_pin c.args.dataset c.args.part) c.worker_pin.ensures
    ∙ same_pin (worker_pin (history_of c.args.replay.now) c.args.worker) c.args.dataset c.args.part
