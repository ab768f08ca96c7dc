use Rattle.std.proofs.Common.{arith, refl}
use Rattle.row_page.proofs.PageRows.{page_shown}
use Rattle.row_page.proofs.page.Page.read.Goals as goal

pub invariant_of-result : goal.invariant_of-result
invariant_of-result c =
    rw c.of.ensures
    record {
      grammar = page_shown c.args.bytes.items (rw (c.in-Some.is, c.deref.ensures.value) at c.in_ok-starts.ensures.page);
      count = rw (c.in-Some.is, c.deref.ensures.value) at c.in_ok-starts.ensures.count;
      places = rw (c.in-Some.is, c.deref.ensures.value) at c.in_ok-starts.ensures.places;
      fits = omega (arith, c.if-len-room.false, c.len.ensures);
      small = c.requires;
    }

pub returns-clause-found : goal.returns-clause-found
returns-clause-found c =
    (rw c.of.ensures (page_shown c.args.bytes.items (rw (c.in-Some.is, c.deref.ensures.value) at c.in_ok-starts.ensures.page)), refl)
