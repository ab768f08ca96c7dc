use Rattle.std.proofs.Common.{ap, ◌∙◌, Option}
use Rattle.std.specs.Prelude.{is_some}
use Rattle.pool_ledger.specs.Blocks.{worker_pin}
use Rattle.journal_replay.specs.declared.block_name.BlockName.{BlockName}
use Rattle.journal_replay.specs.Replays.{history_of}
use Rattle.journal_replay.proofs.Noted.{same_some}
use Rattle.journal_replay.proofs.block_rules.has_pin.Goals as goal

pub returns : goal.returns
returns c =
    c.is_some.ensures ∙ ap (λ (o : Option BlockName). is_some o) c.worker_pin.ensures
    ∙ same_some (worker_pin (history_of c.args.replay.now) c.args.worker)
