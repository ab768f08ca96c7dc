use Rattle.std.proofs.Common.{[], refl}
use Rattle.row_page.proofs.PagePlaces.{sound_empty, sound_shown}
use Rattle.row_page.proofs.page.Page.new.Goals as goal

pub invariant_of-result : goal.invariant_of-result
invariant_of-result c =
    rw (c.new.ensures, c.new-2.ensures.items)
    (sound_shown [] [] c.args.room [] (sound_empty c.args.room c.requires)).0

pub returns : goal.returns
returns c =
    rw (c.new.ensures, (sound_shown [] [] c.args.room [] (sound_empty c.args.room c.requires)).1) refl
