use Rattle.std.proofs.Common.{◌∙◌, arith}
use Rattle.block_store.proofs.Forgetting.{forgets_more}
use Rattle.block_store.proofs.copying.forget_copies.Goals as goal

pub loop-copy-preserved : goal.loop-copy-preserved
loop-copy-preserved g c =
    let files = g.K.Disk.files in (
      forgets_more c.args.dataset (files c.args.disk.now) (files c.loop-copy.disk) (files c.remove.new.self) (g.K.Disk.next_number c.loop-copy.disk) (g.K.Disk.next_number c.remove.new.self) c.args.copies.now.list c.loop-copy.copies.list c.take_of.new.self.list c.in-Some.ensures.taken.0 c.in-Some.copy c.remove.result
          c.loop-copy.invariant.0 c.in-Some.ensures.taken.1 c.in-Some.ensures.of c.in-Some.ensures.taken.2 c.remove.ensures.tells c.remove.ensures.same c.remove.ensures.ok c.remove.ensures.err,
      c.take_of.ensures.room ∙ c.loop-copy.invariant.1,
      omega (arith, c.loop-copy.invariant.2, c.remove.ensures.cause.later),
    )
