use Rattle.std.proofs.Common.{sym, subst, ap, ◌∙◌, List, length, refl, arith}
use Rattle.block_store.specs.declared.block_copy.BlockCopy.{BlockCopy}
use Rattle.block_store.specs.Copies.{AreStored, copy_rows}
use Rattle.block_store.specs.Evictions.{KeepsOthers}
use Rattle.block_store.proofs.Copied.{same_on, stored_same, stored_more, rows_written, others_more, others_same}
use Rattle.block_store.proofs.copying.write_copy.Goals as goal

pub returns-in-Ok-clause-rows : goal.returns-in-Ok-clause-rows
returns-in-Ok-clause-rows g c is tells =
    let copy : BlockCopy = record { dataset = c.args.dataset; part = c.args.part; file = c.in-Ok.file; bytes = length c.bytes-bytes.result.now } in
    ap (λ (xs : List BlockCopy). copy_rows (g.K.Disk.files c.write_file.new.disk) xs c.args.dataset c.args.part) c.add.ensures.list
    ∙ rows_written (g.K.Disk.files c.args.disk.now) (g.K.Disk.files c.write_file.new.disk) c.args.copies.now.list copy c.bytes-bytes.result.now c.args.page.now.rows c.requires.uncopied c.in-Ok.ensures.ok c.bytes-bytes.ensures.grammar tells

pub returns-in-Ok-clause-others : goal.returns-in-Ok-clause-others
returns-in-Ok-clause-others g c =
    let copy : BlockCopy = record { dataset = c.args.dataset; part = c.args.part; file = c.in-Ok.file; bytes = length c.bytes-bytes.result.now } in
    let before = g.K.Disk.files c.args.disk.now in
    let after = g.K.Disk.files c.write_file.new.disk in
    subst (λ (xs : List BlockCopy). KeepsOthers c.args.dataset c.args.part before c.args.copies.now.list after xs) (sym c.add.ensures.list)
    (others_more before after c.args.copies.now.list copy c.write_file.ensures.tells (same_on before after (g.K.Disk.next_number c.args.disk.now) c.args.copies.now.list c.requires.stored c.write_file.ensures.same))

pub returns-in-Ok-clause-stored : goal.returns-in-Ok-clause-stored
returns-in-Ok-clause-stored g c =
    let copy : BlockCopy = record { dataset = c.args.dataset; part = c.args.part; file = c.in-Ok.file; bytes = length c.bytes-bytes.result.now } in
    let before = g.K.Disk.files c.args.disk.now in
    let after = g.K.Disk.files c.write_file.new.disk in
    subst (AreStored after (g.K.Disk.next_number c.write_file.new.disk)) (sym c.add.ensures.list)
    (stored_more before after (g.K.Disk.next_number c.args.disk.now) (g.K.Disk.next_number c.write_file.new.disk) c.args.copies.now.list copy c.bytes-bytes.result.now c.requires.stored c.write_file.ensures.same c.write_file.ensures.tells c.write_file.ensures.numbers c.in-Ok.ensures.fresh c.in-Ok.ensures.given c.in-Ok.ensures.ok (c.args.page.now.rows, c.bytes-bytes.ensures.grammar) refl (omega (arith, c.bytes-bytes.ensures.length, c.bytes-bytes.ensures.fits, c.bytes-bytes.ensures.small)) c.requires.uncopied)

pub returns-in-Err-Failed-clause-others : goal.returns-in-Err-Failed-clause-others
returns-in-Err-Failed-clause-others g c =
    let before = g.K.Disk.files c.args.disk.now in
    let after = g.K.Disk.files c.write_file.new.disk in
    others_same before after c.args.copies.now.list c.args.dataset c.args.part c.write_file.ensures.tells (same_on before after (g.K.Disk.next_number c.args.disk.now) c.args.copies.now.list c.requires.stored c.write_file.ensures.same)

pub returns-in-Err-Failed-clause-stored : goal.returns-in-Err-Failed-clause-stored
returns-in-Err-Failed-clause-stored g c =
    let before = g.K.Disk.files c.args.disk.now in
    let after = g.K.Disk.files c.write_file.new.disk in
    stored_same before after (g.K.Disk.next_number c.args.disk.now) (g.K.Disk.next_number c.write_file.new.disk) c.args.copies.now.list c.write_file.ensures.tells (same_on before after (g.K.Disk.next_number c.args.disk.now) c.args.copies.now.list c.requires.stored c.write_file.ensures.same) c.write_file.ensures.numbers c.requires.stored

pub returns-in-Err-NoMemory-clause-others : goal.returns-in-Err-NoMemory-clause-others
returns-in-Err-NoMemory-clause-others g c =
    let before = g.K.Disk.files c.args.disk.now in
    let after = g.K.Disk.files c.write_file.new.disk in
    others_same before after c.args.copies.now.list c.args.dataset c.args.part c.write_file.ensures.tells (same_on before after (g.K.Disk.next_number c.args.disk.now) c.args.copies.now.list c.requires.stored c.write_file.ensures.same)

pub returns-in-Err-NoMemory-clause-stored : goal.returns-in-Err-NoMemory-clause-stored
returns-in-Err-NoMemory-clause-stored g c =
    let before = g.K.Disk.files c.args.disk.now in
    let after = g.K.Disk.files c.write_file.new.disk in
    stored_same before after (g.K.Disk.next_number c.args.disk.now) (g.K.Disk.next_number c.write_file.new.disk) c.args.copies.now.list c.write_file.ensures.tells (same_on before after (g.K.Disk.next_number c.args.disk.now) c.args.copies.now.list c.requires.stored c.write_file.ensures.same) c.write_file.ensures.numbers c.requires.stored
