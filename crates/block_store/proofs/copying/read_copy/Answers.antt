use Rattle.std.proofs.Common.{◌<◌, ap, sym, ◌∙◌, length, arith}
use Rattle.std.specs.Prelude.{Some}
use Rattle.row_page.proofs.PageRows.{length_page}
use Rattle.row_page.specs.Grammar.{IsPage}
use Rattle.block_store.specs.declared.block.Block.{Block}
use Rattle.block_store.specs.Stores.{Rows}
use Rattle.block_store.specs.Evictions.{IsFront}
use Rattle.block_store.proofs.Copied.{length_was_read, page_was_read, rows_were_read}
use Rattle.block_store.proofs.copying.read_copy.Goals as goal

pub returns-in_default-2-clause-lost : goal.returns-in_default-2-clause-lost
returns-in_default-2-clause-lost g c tells =
    let front : IsFront (g.K.Disk.files c.args.disk.now) c.args.copy.file c.args.copy.bytes c.in-Some.bytes.items = rw c.in-Some.is at c.in_ok-bytes.ensures.front in
    let none : (rows : Rows) → IsPage c.in-Some.bytes.items rows → c.args.copy.bytes < length c.in-Some.bytes.items = rw c.in_default-2.is at c.in_ok-page.ensures.none in
    absurd (page_was_read (g.K.Disk.files c.args.disk.now) c.args.copy c.in-Some.bytes.items tells c.requires.stored front none)

pub returns-clause-rows : goal.returns-clause-rows
returns-clause-rows g c tells =
    let front : IsFront (g.K.Disk.files c.args.disk.now) c.args.copy.file c.args.copy.bytes c.in-Some.bytes.items = rw c.in-Some.is at c.in_ok-bytes.ensures.front in
    let page : IsPage c.in-Some.bytes.items c.in-Some-2.page.rows = (rw c.in-Some-2.is at c.in_ok-page.ensures.found).0 in
    rows_were_read (g.K.Disk.files c.args.disk.now) c.args.copy c.in-Some.bytes.items c.in-Some-2.page.rows tells c.requires.stored front page
    ∙ ap (λ (b : Block). Some b.page.rows) (sym c.in_ok-new.ensures.ok)

-- a file that was cut doesn't tell
pub returns-then-len-copy-clause-lost : goal.returns-then-len-copy-clause-lost
returns-then-len-copy-clause-lost g c tells =
    let front : IsFront (g.K.Disk.files c.args.disk.now) c.args.copy.file c.args.copy.bytes c.in-Some.bytes.items = rw c.in-Some.is at c.in_ok-bytes.ensures.front in
    let size = length_was_read (g.K.Disk.files c.args.disk.now) c.args.copy c.in-Some.bytes.items tells c.requires.stored front in
    absurd (omega (arith, size))

pub returns-clause-whole : goal.returns-clause-whole
returns-clause-whole g c =
    let page : IsPage c.in-Some.bytes.items c.in-Some-2.page.rows = (rw c.in-Some-2.is at c.in_ok-page.ensures.found).0 in
    let size = length_page c.in-Some.bytes.items c.in-Some-2.page.rows page in
    rw c.in_ok-new.ensures.ok (omega (arith, size))
