use Rattle.std.proofs.Common.{arith}
use Rattle.row_page.proofs.PageRows.{rows_spell, length_page}
use Rattle.row_page.proofs.page.Page.bytes.Goals as goal

pub returns-clause-spelling : goal.returns-clause-spelling
returns-clause-spelling c = rw (← c.self.view_is, c.as_slice.ensures) (rows_spell _ _ c.self.invariant.grammar)

pub returns-clause-length : goal.returns-clause-length
returns-clause-length c = rw (← c.self.view_is, c.as_slice.ensures) (length_page _ _ c.self.invariant.grammar)

pub returns-clause-fits : goal.returns-clause-fits
returns-clause-fits c =
    let sound = c.self.invariant in
    rw (← c.self.view_is) (omega (arith, sound.fits, length_page _ _ sound.grammar))

pub returns-clause-small : goal.returns-clause-small
returns-clause-small c = rw (← c.self.view_is) c.self.invariant.small
