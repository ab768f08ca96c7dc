use Rattle.std.proofs.Common.{◌∙◌, Bool, [], cond, sym, ap, arith}
use Rattle.spill_disk.proofs.LookUps.{bytes_at, bytes_past}
use Rattle.spill_disk.proofs.slots.bytes_at.Goals as goal

pub returns-then-file-slots : goal.returns-then-file-slots
returns-then-file-slots c = sym (bytes_past c.args.slots.now c.args.file (omega (arith, c.if-file-slots.true)))

pub returns-then-stored : goal.returns-then-stored
returns-then-stored c =
    let stored = c.index-slots-file.result in
    c.deref.ensures.value ∙ sym (bytes_at c.args.slots.now c.args.file stored (omega (arith, c.if-file-slots.false)) c.index-slots-file.is ∙ ap (λ (b : Bool). cond b stored.bytes.items []) c.if-stored.true)

pub returns-else-stored : goal.returns-else-stored
returns-else-stored c =
    let stored = c.index-slots-file.result in
    sym (bytes_at c.args.slots.now c.args.file stored (omega (arith, c.if-file-slots.false)) c.index-slots-file.is ∙ ap (λ (b : Bool). cond b stored.bytes.items []) c.if-stored.false)
