use Rattle.std.proofs.Common.{◌≡◌, ◌≢◌, ◌∙◌, ◌<◌, ℕ, List, sym, ap, subst, rules, arith}
use Rattle.row_filter.specs.Chains.{parent_at}
use Rattle.row_filter.specs.Derived.{derived}
use Rattle.row_filter.proofs.Lineage.{input_whole}
use Rattle.lineage.specs.Handed.{GivesRows, rows_in}
use Rattle.lineage.specs.Telling.{TellsNearest}
use Rattle.lineage.proofs.FormedRows.{own_formed}
use Rattle.lineage.proofs.Given.{block_derived, made_derived, made_given}
use Rattle.lineage.proofs.Kept.{own_input, own_made, tells_made}
use Rattle.lineage.proofs.Right.{right_formed}
use Rattle.lineage.proofs.Working.{adds_through}
use Rattle.lineage.proofs.handing.+rows_of.Goals as goal

pub returns-then-dataset-eq0-clause-rows : goal.returns-then-dataset-eq0-clause-rows
returns-then-dataset-eq0-clause-rows g t c = λ input holds kept.
    let chain = c.args.lineage.now.chain in
    let whole : derived chain c.args.dataset input ≡ input = ap (λ (d : ℕ). derived chain d input) c.if-dataset-eq0.true ∙ input_whole chain input in
    subst (λ (rows : List (List (List ℕ))). GivesRows rows c.input_rows.result) (sym whole) (c.input_rows.ensures.rows input holds)

pub returns-in-Some-clause-rows : goal.returns-in-Some-clause-rows
returns-in-Some-clause-rows g t c = λ input holds kept.
    let some : 0 < c.args.dataset = omega arith in
    block_derived g.B.Basis.rows (g.D.Disk.files c.args.disk.now) c.args.lineage.now c.args.part c.args.dataset (rows_in c.in-Some.rows) input some c.requires.there c.requires.basis
    holds kept (rw c.in-Some.is at c.in-Ok.ensures.found).kept (rw c.in-Some.is at c.in-Ok.ensures.given)

pub returns-in-Some-clause-formed : goal.returns-in-Some-clause-formed
returns-in-Some-clause-formed g t c = right_formed c.args.lineage.now c.args.part (rows_in c.in-Some.rows) (rw c.in-Some.is at c.in-Ok.ensures.found).right

pub make_rows-requires-clause-given : goal.make_rows-requires-clause-given
make_rows-requires-clause-given g t c =
    let some : 0 < c.args.dataset = omega arith in
    let other : c.args.dataset ≢ 0 = omega arith in
    let parent : c.parent-parent.result ≡ parent_at c.args.lineage.now.chain c.args.dataset = search rules in
    made_given g.B.Basis.rows (g.D.Disk.files c.args.disk.now) c.args.lineage.now c.args.part c.args.dataset c.parent-parent.result parent other c.requires.lineage.ordered
    (rows_in c.in-Ok-rows_of.rows) some c.requires.there c.requires.basis (λ input holds kept. c.in-Ok-rows_of.ensures.rows input holds kept)

pub returns-in-Ok-make_rows-clause-rows : goal.returns-in-Ok-make_rows-clause-rows
returns-in-Ok-make_rows-clause-rows g t c = λ input holds kept.
    let other : c.args.dataset ≢ 0 = omega arith in
    let parent : c.parent-parent.result ≡ parent_at c.args.lineage.now.chain c.args.dataset = search rules in
    made_derived g.B.Basis.rows (g.D.Disk.files c.args.disk.now) c.args.lineage.now c.args.part c.args.dataset c.parent-parent.result parent other c.requires.lineage.ordered
    (rows_in c.in-Ok-rows_of.rows) (rows_in c.in-Ok-make_rows.rows) input c.in-Ok-make_rows.ensures.rows (c.in-Ok-rows_of.ensures.rows input holds kept)

pub returns-in-Ok-make_rows-clause-formed : goal.returns-in-Ok-make_rows-clause-formed
returns-in-Ok-make_rows-clause-formed g t c =
    own_formed c.args.lineage.now c.args.part c.args.dataset (rows_in c.in-Ok-rows_of.rows) (rows_in c.in-Ok-make_rows.rows) c.in-Ok-make_rows.ensures.rows c.in-Ok-rows_of.ensures.formed

pub returns-in-Ok-make_rows-clause-adds : goal.returns-in-Ok-make_rows-clause-adds
returns-in-Ok-make_rows-clause-adds g t c =
    let handed = c.in-Ok-rows_of.ensures in
    adds_through c.args.worker.now c.take_block.new.worker c.rows_of.new.worker c.make_rows.new.worker c.take_block.ensures.works handed.task handed.sees handed.adds c.make_rows.ensures.works

pub returns-in-Ok-make_rows-clause-told_of_block : goal.returns-in-Ok-make_rows-clause-told_of_block
returns-in-Ok-make_rows-clause-told_of_block g t c =
    let chain = c.args.lineage.now.chain in
    let handed = c.in-Ok-rows_of.ensures in
    let other : c.args.dataset ≢ 0 = omega arith in
    let parent : c.parent-parent.result ≡ parent_at chain c.args.dataset = search rules in
    tells_made chain c.args.dataset c.args.part c.args.worker.now c.take_block.new.worker c.rows_of.new.worker c.make_rows.new.worker other c.requires.lineage.ordered
    c.take_block.ensures.works.sees handed.sees c.make_rows.ensures.works.sees (rw c.in_default-found.is at c.in-Ok.ensures.told)
    (subst (λ (d : ℕ). TellsNearest chain d c.args.part c.take_block.new.worker c.rows_of.new.worker) parent handed.told_of_block) c.in-Ok-make_rows.ensures.told

pub returns-in-Err-make_rows-clause-adds : goal.returns-in-Err-make_rows-clause-adds
returns-in-Err-make_rows-clause-adds g t c =
    let handed = c.in-Ok-rows_of.ensures in
    adds_through c.args.worker.now c.take_block.new.worker c.rows_of.new.worker c.make_rows.new.worker c.take_block.ensures.works handed.task handed.sees handed.adds c.make_rows.ensures.works

pub returns-then-dataset-eq0-clause-kept : goal.returns-then-dataset-eq0-clause-kept
returns-then-dataset-eq0-clause-kept g t c = own_input c.args.lineage.now.chain c.args.dataset c.args.part c.args.worker.now c.args.worker.now c.input_rows.result c.if-dataset-eq0.true

pub returns-in-Ok-make_rows-clause-kept : goal.returns-in-Ok-make_rows-clause-kept
returns-in-Ok-make_rows-clause-kept g t c =
    own_made c.args.lineage.now.chain c.args.dataset c.args.part c.args.worker.now c.take_block.new.worker c.rows_of.new.worker c.make_rows.new.worker c.in-Ok-make_rows.rows
    c.take_block.ensures.works.sees c.in-Ok-rows_of.ensures.sees c.in-Ok-make_rows.ensures.told
