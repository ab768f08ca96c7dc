use Rattle.block_store.proofs.Forgetting.{datasets_kept, dataset_gone}
use Rattle.block_store.proofs.store.Store.forget.Goals as goal

pub returns-clause-gone : goal.returns-clause-gone
returns-clause-gone g c part =
    dataset_gone c.args.dataset part c.args.self.now.copies.list c.forget_copies.new.copies.list c.forget_copies.ensures.list

pub returns-clause-others : goal.returns-clause-others
returns-clause-others g c =
    datasets_kept c.args.dataset (g.K.Disk.files c.args.self.now.disk) (g.K.Disk.files c.forget_copies.new.disk) (g.K.Disk.next_number c.args.self.now.disk) c.args.self.now.copies.list c.forget_copies.new.copies.list c.args.self.now.stored c.forget_copies.ensures.tells c.forget_copies.ensures.files c.forget_copies.ensures.list
