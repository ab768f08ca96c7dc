use Rattle.std.proofs.Common.{ap, Err, arith}
use Rattle.lineage.proofs.FormedRows.{kept_length}
use Rattle.lineage.proofs.making.filter_page.Goals as goal

pub unreachable-requires : goal.unreachable-requires
unreachable-requires c =
    let passed = c.in-Err-Full.ensures.passes (ap Err c.in-Err-Full.field-0-is) in
    let room = c.bytes.ensures.length in
    let least = kept_length c.args.filter.now c.args.from.now.rows in
    let passed = rw c.new-page.ensures at passed in
    omega (arith, passed, room, least)
