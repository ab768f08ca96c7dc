use Rattle.std.proofs.Common.{◌≡◌, ◌∙◌, ◌+◌, inl, rules}
use Rattle.std.specs.Arc.{arc_value}
use Rattle.lineage.specs.LineageViews.{name_for}
use Rattle.lineage.proofs.Kept.{own_copy}
use Rattle.lineage.proofs.Told.{copy_told, hit_told, told_later}
use Rattle.lineage.proofs.Working.{pin_then}
use Rattle.lineage.proofs.looking.take_block.Goals as goal

pub returns-then-is_right-clause-told : goal.returns-then-is_right-clause-told
returns-then-is_right-clause-told g c =
    let name : c.base.result + c.args.dataset ≡ name_for c.args.lineage.now.chain c.args.dataset = search rules in
    hit_told c.in_ok-block.field-0 c.in-Hit.block _ _ c.args.part c.args.worker.now c.pin.new.worker c.in-Hit.is name c.pin.ensures.sees c.in_ok-block.ensures.ok

pub returns-else-is_right-clause-told : goal.returns-else-is_right-clause-told
returns-else-is_right-clause-told g c = λ kept.
    let name : c.base.result + c.args.dataset ≡ name_for c.args.lineage.now.chain c.args.dataset = search rules in
    inl (told_later _ c.args.part c.args.worker.now c.pin.new.worker c.unpin.new.worker
    (hit_told c.in_ok-block.field-0 c.in-Hit.block _ _ c.args.part c.args.worker.now c.pin.new.worker c.in-Hit.is name c.pin.ensures.sees c.in_ok-block.ensures.ok) c.unpin.ensures.sees)

pub returns-in_err-keep_block-in-OnDisk-clause-works : goal.returns-in_err-keep_block-in-OnDisk-clause-works
returns-in_err-keep_block-in-OnDisk-clause-works g c =
    pin_then c.in_ok-block.field-0 _ c.args.part c.args.worker.now c.pin.new.worker c.keep_block.new.worker c.pin.ensures.task c.pin.ensures.sees c.in_ok-block.ensures.ok c.keep_block.ensures.works

pub returns-in_ok-keep_block-in-OnDisk-clause-works : goal.returns-in_ok-keep_block-in-OnDisk-clause-works
returns-in_ok-keep_block-in-OnDisk-clause-works g c =
    pin_then c.in_ok-block.field-0 _ c.args.part c.args.worker.now c.pin.new.worker c.keep_block.new.worker c.pin.ensures.task c.pin.ensures.sees c.in_ok-block.ensures.ok c.keep_block.ensures.works

pub returns-in_ok-keep_block-in-OnDisk-clause-told : goal.returns-in_ok-keep_block-in-OnDisk-clause-told
returns-in_ok-keep_block-in-OnDisk-clause-told g c =
    let name : c.base.result + c.args.dataset ≡ name_for c.args.lineage.now.chain c.args.dataset = search rules in
    told_later _ c.args.part c.args.worker.now c.pin.new.worker c.keep_block.new.worker
    (copy_told c.in_ok-block.field-0 c.in-OnDisk.block _ _ c.args.part c.args.worker.now c.pin.new.worker c.in-OnDisk.is name c.pin.ensures.sees c.in_ok-block.ensures.ok) c.keep_block.ensures.works.sees

pub returns-in_ok-keep_block-in-OnDisk-clause-own : goal.returns-in_ok-keep_block-in-OnDisk-clause-own
returns-in_ok-keep_block-in-OnDisk-clause-own g c =
    let name : c.base.result + c.args.dataset ≡ name_for c.args.lineage.now.chain c.args.dataset = search rules in
    let named = rw c.in-OnDisk.is at c.in_ok-block.ensures.named in
    own_copy c.args.lineage.now.chain c.args.dataset c.args.part (arc_value c.in-OnDisk.block) c.args.worker.now c.pin.new.worker c.keep_block.new.worker (named.0 ∙ name) named.1 c.pin.ensures.sees
    c.in_ok-keep_block-in-OnDisk.ensures.told
