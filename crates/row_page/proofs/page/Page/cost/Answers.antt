use Rattle.std.proofs.Common.{arith}
use Rattle.row_page.specs.Reading.{rows_of}
use Rattle.row_page.proofs.PageRows.{length_page, rows_bound, cost_is}
use Rattle.row_page.proofs.page.Page.cost.Goals as goal

pub overflow_mul-result : goal.overflow_mul-result
overflow_mul-result c =
    let sound = c.self.invariant in
    let rows = rows_of c.self.inside.bytes in
    omega (arith, sound.fits, sound.small, sound.count, length_page _ rows sound.grammar, rows_bound rows, c.len-2.ensures)

pub overflow_add-result-2 : goal.overflow_add-result-2
overflow_add-result-2 c =
    let sound = c.self.invariant in
    let rows = rows_of c.self.inside.bytes in
    omega (arith, sound.fits, sound.small, sound.count, length_page _ rows sound.grammar, rows_bound rows, c.len.ensures, c.len-2.ensures)

pub returns : goal.returns
returns c =
    let sound = c.self.invariant in
    let rows = rows_of c.self.inside.bytes in
    rw (← c.self.view_is) (omega (arith, sound.count, length_page _ rows sound.grammar, cost_is rows, c.len.ensures, c.len-2.ensures))
