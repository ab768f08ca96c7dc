use Rattle.std.proofs.Common.{[], refl}
use Rattle.row_page.proofs.PagePlaces.{sound_empty, sound_shown}
use Rattle.row_page.proofs.page.Page.clear.Goals as goal

pub invariant_of-self : goal.invariant_of-self
invariant_of-self c =
    rw (c.clear.ensures, c.clear-2.ensures.items)
    (sound_shown [] [] c.self.inside.room [] (sound_empty c.self.inside.room c.self.invariant.small)).0

pub returns : goal.returns
returns c =
    rw (c.clear.ensures, (sound_shown [] [] c.self.inside.room [] (sound_empty c.self.inside.room c.self.invariant.small)).1, ← c.self.view_is) refl
