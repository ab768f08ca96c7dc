use Rattle.std.proofs.Common.{◌∙◌, sym}
use Rattle.block_store.proofs.Copied.{copied_rows}
use Rattle.block_store.proofs.store.Store.has_copy.Goals as goal

pub returns-clause-rows : goal.returns-clause-rows
returns-clause-rows g c tells =
    copied_rows (g.K.Disk.files c.args.self.now.disk) (g.K.Disk.next_number c.args.self.now.disk) c.args.self.now.copies.list c.args.dataset c.args.part c.args.self.now.stored tells ∙ sym c.has.ensures
