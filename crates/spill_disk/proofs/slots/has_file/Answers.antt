use Rattle.std.proofs.Common.{arith}
use Rattle.std.proofs.lemmas.Bool.{false≢true}
use Rattle.spill_disk.proofs.LookUps.{there_within, there_tells}
use Rattle.spill_disk.proofs.slots.has_file.Goals as goal

pub returns-then-file-slots : goal.returns-then-file-slots
returns-then-file-slots c =
    (λ no. absurd (false≢true no), λ there. absurd (omega (arith, there_within c.args.slots.now c.args.file there, c.if-file-slots.true)))

pub returns : goal.returns
returns c =
    rw (← c.index-slots-file.is) (there_tells c.args.slots.now c.args.file c.index-slots-file.result (omega (arith, c.if-file-slots.false)) c.index-slots-file.is)
