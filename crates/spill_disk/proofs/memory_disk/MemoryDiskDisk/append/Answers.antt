use Rattle.std.proofs.Common.{◌/◌, length, ap, ◌∙◌}
use Rattle.spill_disk.specs.Kept.{files_from}
use Rattle.std.proofs.lemmas.Result.{err_from_is_err_and}
use Rattle.spill_disk.proofs.Partly.{front_added, none_added}
use Rattle.spill_disk.proofs.memory_disk.MemoryDiskDisk.append.Goals as goal

pub returns-in-Err-clause-err : goal.returns-in-Err-clause-err
returns-in-Err-clause-err c =
    let same = ap (λ slots. files_from 0 slots.items) c.begin_call.ensures.same in
    front_added c.add_bytes.result (files_from 0 c.args.self.now.slots.items) (files_from 0 c.add_bytes.new.slots.items) c.args.file (length c.args.bytes.now / 2) c.args.bytes.now c.requires.there (rw same at c.add_bytes.ensures.ok) (rw same at c.add_bytes.ensures.err)

pub returns-in_err-add_bytes-clause-err : goal.returns-in_err-add_bytes-clause-err
returns-in_err-add_bytes-clause-err c =
    let same = ap (λ slots. files_from 0 slots.items) c.begin_call.ensures.same in
    let p = err_from_is_err_and c.from_residual.result c.from_residual.ensures.1 in
    rw p.1 (none_added (files_from 0 c.args.self.now.slots.items) (files_from 0 c.add_bytes-2.new.slots.items) c.args.file c.args.bytes.now c.requires.there (c.in_err-add_bytes.ensures.err ∙ same))
