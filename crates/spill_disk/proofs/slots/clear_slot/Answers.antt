use Rattle.std.proofs.Common.{false, refl, rules}
use Rattle.spill_disk.proofs.LookUps.{take_slot, take_none}
use Rattle.spill_disk.proofs.slots.clear_slot.Goals as goal

pub returns-then-file-len-clause-files : goal.returns-then-file-len-clause-files
returns-then-file-len-clause-files c =
    take_slot c.args.slots.now.items c.args.file (record { is_there = false; bytes = c.new.result }) (search rules) refl

pub returns-else-file-len-clause-files : goal.returns-else-file-len-clause-files
returns-else-file-len-clause-files c = take_none c.args.slots.now.items c.args.file (search rules)
