use Rattle.std.proofs.Common.{◌≡◌, ◌≤◌, length}
use Rattle.block_store.proofs.Forgetting.{Forgets}
use Rattle.block_store.proofs.copying.forget_copies.Given as goal

abbrev pub invariant-loop-copy : goal.invariant-loop-copy
invariant-loop-copy g l =
    Forgets l.dataset (g.K.Disk.files l.fn.disk) (g.K.Disk.files l.disk) (g.K.Disk.next_number l.disk) l.fn.copies.list l.copies.list
    × (l.copies.room ≡ l.fn.copies.room) × (g.K.Disk.faults l.fn.disk ≤ g.K.Disk.faults l.disk)

abbrev pub decreases-loop-copy : goal.decreases-loop-copy
decreases-loop-copy g l = length l.copies.list
