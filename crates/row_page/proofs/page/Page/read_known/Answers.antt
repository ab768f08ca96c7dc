use Rattle.std.proofs.Common.{refl}
use Rattle.row_page.proofs.PageRows.{page_shown}
use Rattle.row_page.proofs.page.Page.read_known.Goals as goal

pub invariant_of-result : goal.invariant_of-result
invariant_of-result c =
    rw c.of.ensures
    record {
      grammar = page_shown c.args.bytes.items c.requires.known;
      count = rw c.deref.ensures.value at c.in_ok-starts.ensures.count;
      places = rw c.deref.ensures.value at c.in_ok-starts.ensures.places;
      fits = c.requires.fits;
      small = c.requires.room;
    }

pub returns : goal.returns
returns c = (rw c.of.ensures (page_shown c.args.bytes.items c.requires.known), refl)
