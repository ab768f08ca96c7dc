use Rattle.std.proofs.Common.{◌≡◌, ◌+◌, ◌<◌, ℕ, Bool, List, [], Ok, false, length, set, map, get_or, sym, subst, ◌∙◌, arith, rules}
use Rattle.std.proofs.lemmas.List.{get_or-set_same, length-set, set-get_or}
use Rattle.std.proofs.lemmas.Result.{err_from_is_err_and}
use Rattle.run_file.specs.Readers.{run_of}
use Rattle.run_file.specs.Shelved.{files_on}
use Rattle.run_merge.specs.Heads.{has_head, AreAtEntries, AreFronts, HasFront}
use Rattle.run_merge.specs.Merging.{IsLeft, rows_ahead}
use Rattle.run_merge.specs.Giving.{LetsOn}
use Rattle.run_merge.proofs.Orders.{order_let_on}
use Rattle.run_merge.proofs.Places.{all_let_on, damage_set, each_set, front_set, head_read, heads_more, kinds_set, left_at, left_by-set, left_set, no_damage, number_read, on_shelf, other_head, runs_set, stand_set}
use Rattle.run_merge.proofs.heads.let_all_on.Goals as goal

pub let_on-requires-clause-there : goal.let_on-requires-clause-there
let_on-requires-clause-there g c =
    let lt : c.loop-i.i < length c.loop-i.readers.items = search rules in
    on_shelf (g.H.Shelf.count_of c.loop-i.shelf) c.loop-i.readers.items c.loop-i.i c.index_mut.result.now lt c.index_mut.ensures.value c.loop-i.invariant.there

pub returns-in_err-stands-clause-gives : goal.returns-in_err-stands-clause-gives
returns-in_err-stands-clause-gives g c lists left =
    let readers = c.loop-i.readers.items in
    let heads = c.loop-i.heads.items in
    let p = err_from_is_err_and c.from_residual.result c.from_residual.ensures.1 in
    let lt : c.loop-i.i < length readers = search rules in
    let head = head_read heads c.loop-i.i c.index-head.result.now (omega (arith, lt, c.loop-i.invariant.heads)) c.index-head.ensures in
    let now = c.loop-i.invariant.gives lists left in
    let rows = left_at (files_on g.H.Shelf.disk_of g.D.Disk.files c.loop-i.shelf) readers heads lists false c.loop-i.i c.index_mut.result.now lt c.index_mut.ensures.value now.0 in
    rw (p.1, p.2) (no_damage c.in_err-stands.field-0.0 (c.in_err-stands.ensures.gives (get_or lists c.loop-i.i []) (rw head at rows)))

pub returns-in_err-stands-clause-order : goal.returns-in_err-stands-clause-order
returns-in_err-stands-clause-order g c =
    let lt : c.loop-i.i < length c.loop-i.readers.items = search rules in
    let head = head_read c.loop-i.heads.items c.loop-i.i c.index-head.result.now (omega (arith, lt, c.loop-i.invariant.heads)) c.index-head.ensures in
    order_let_on c.loop-i.readers.items c.loop-i.heads.items c.loop-i.order c.loop-i.i c.index_mut.result.now c.let_on.new.reader c.index_mut.ensures.value (λ stood. c.let_on.ensures.keeps (sym head ∙ stood)) c.loop-i.invariant.order

pub returns-in_err-stands-clause-damaged : goal.returns-in_err-stands-clause-damaged
returns-in_err-stands-clause-damaged g c =
    let p = err_from_is_err_and c.from_residual.result c.from_residual.ensures.1 in
    let lt : c.loop-i.i < length c.loop-i.readers.items = search rules in
    rw (p.1, p.2) (damage_set c.loop-i.readers.items c.loop-i.i c.index_mut.result.now c.let_on.new.reader c.in_err-stands.field-0.0 lt c.let_on.ensures.run c.in_err-stands.ensures.found c.in_err-stands.ensures.damaged)

pub returns-in_err-stands-clause-runs : goal.returns-in_err-stands-clause-runs
returns-in_err-stands-clause-runs g c =
    runs_set c.loop-i.readers.items c.loop-i.i c.index_mut.result.now c.let_on.new.reader c.index_mut.ensures.value c.let_on.ensures.run ∙ c.loop-i.invariant.runs

pub put_in_order-requires-clause-stand : goal.put_in_order-requires-clause-stand
put_in_order-requires-clause-stand g c =
    let readers = c.loop-i.readers.items in
    let heads = c.loop-i.heads.items in
    let kind = c.requires.stand.0 in
    let of_kind = c.requires.stand.1 in
    let lt : c.loop-i.i < length readers = search rules in
    let lt_heads : c.loop-i.i < length heads = omega (arith, lt, c.loop-i.invariant.heads) in
    let head = head_read heads c.loop-i.i c.index-head.result.now lt_heads c.index-head.ensures in (
      kind,
      rw c.deref.ensures.value (stand_set kind readers heads c.loop-i.i c.index_mut.result.now c.let_on.new.reader c.in_ok-stands.stands lt lt_heads c.index_mut.ensures.value
          (c.loop-i.invariant.kinds kind of_kind) (c.loop-i.invariant.stand kind of_kind c.requires.stand.2)
          (λ form was is. c.in_ok-stands.ensures.stands kind form (rw head at was) is)),
    )

pub put_in_order-requires-clause-fronts : goal.put_in_order-requires-clause-fronts
put_in_order-requires-clause-fronts g c =
    let readers = c.loop-i.readers.items in
    let heads = c.loop-i.heads.items in
    let fronts = c.loop-i.fronts.items in
    let i = c.loop-i.i in
    let old = c.index_mut.result.now in
    let lt : i < length readers = search rules in
    let lt_heads : i < length heads = omega (arith, lt, c.loop-i.invariant.heads) in
    let lt_fronts : i < length fronts = omega (arith, lt, c.loop-i.invariant.as_many) in
    let head = head_read heads i c.index-head.result.now lt_heads c.index-head.ensures in
    let front_was = number_read fronts i c.index_mut-in-loop-i.result.now lt_fronts c.index_mut-in-loop-i.ensures.value in
    rw (c.deref.ensures.value, c.deref-in-loop-i.ensures.value) (front_set readers heads fronts i c.let_on.new.front_now old c.let_on.new.reader c.in_ok-stands.stands lt lt_heads lt_fronts c.index_mut.ensures.value c.loop-i.invariant.fronts
    (λ was is. c.in_ok-stands.ensures.front (λ stood. subst (HasFront old) front_was (was (head ∙ stood))) is))

pub put_in_order-requires-clause-order : goal.put_in_order-requires-clause-order
put_in_order-requires-clause-order g c =
    let lt : c.loop-i.i < length c.loop-i.readers.items = search rules in
    let head = head_read c.loop-i.heads.items c.loop-i.i c.index-head.result.now (omega (arith, lt, c.loop-i.invariant.heads)) c.index-head.ensures in
    rw c.deref.ensures.value (order_let_on c.loop-i.readers.items c.loop-i.heads.items c.loop-i.order c.loop-i.i c.index_mut.result.now c.let_on.new.reader c.index_mut.ensures.value (λ stood. c.let_on.ensures.keeps (sym head ∙ stood)) c.loop-i.invariant.order)

pub returns-in_default-clause-fronts : goal.returns-in_default-clause-fronts
returns-in_default-clause-fronts g c =
    let readers = c.loop-i.readers.items in
    let heads = c.loop-i.heads.items in
    let fronts = c.loop-i.fronts.items in
    let i = c.loop-i.i in
    let old = c.index_mut.result.now in
    let new = c.let_on.new.reader in
    let lt : i < length readers = search rules in
    let lt_heads : i < length heads = omega (arith, lt, c.loop-i.invariant.heads) in
    let lt_fronts : i < length fronts = omega (arith, lt, c.loop-i.invariant.as_many) in
    let head = head_read heads i c.index-head.result.now lt_heads c.index-head.ensures in
    let front_was = number_read fronts i c.index_mut-in-loop-i.result.now lt_fronts c.index_mut-in-loop-i.ensures.value in
    let after = front_set readers heads fronts i c.let_on.new.front_now old new (has_head heads i) lt lt_heads lt_fronts c.index_mut.ensures.value c.loop-i.invariant.fronts
    (λ was is. c.in_ok-stands.ensures.front (λ stood. subst (HasFront old) front_was (was (head ∙ stood))) (c.in_ok-stands.ensures.stays (sym head ∙ is))) in
    rw c.in_default.ensures.err (subst (λ (hs : List Bool). AreFronts (set readers i new) hs (set fronts i c.let_on.new.front_now)) (set-get_or heads i false) after)

pub returns-in_default-clause-stand : goal.returns-in_default-clause-stand
returns-in_default-clause-stand g c kind of_kind at =
    let readers = c.loop-i.readers.items in
    let heads = c.loop-i.heads.items in
    let lt : c.loop-i.i < length readers = search rules in
    let lt_heads : c.loop-i.i < length heads = omega (arith, lt, c.loop-i.invariant.heads) in
    let head = head_read heads c.loop-i.i c.index-head.result.now lt_heads c.index-head.ensures in
    let after = stand_set kind readers heads c.loop-i.i c.index_mut.result.now c.let_on.new.reader (has_head heads c.loop-i.i) lt lt_heads c.index_mut.ensures.value
    (c.loop-i.invariant.kinds kind of_kind) (c.loop-i.invariant.stand kind of_kind at)
    (λ form was is. c.in_ok-stands.ensures.stands kind form (rw head at was) (c.in_ok-stands.ensures.stays (sym head ∙ is))) in
    rw c.in_default.ensures.err (subst (AreAtEntries kind (set readers c.loop-i.i c.let_on.new.reader)) (set-get_or heads c.loop-i.i false) after)

pub returns-in_default-clause-runs : goal.returns-in_default-clause-runs
returns-in_default-clause-runs g c =
    runs_set c.loop-i.readers.items c.loop-i.i c.index_mut.result.now c.let_on.new.reader c.index_mut.ensures.value c.let_on.ensures.run ∙ c.loop-i.invariant.runs

pub loop-i-preserved : goal.loop-i-preserved
loop-i-preserved g c =
    let readers = c.loop-i.readers.items in
    let heads = c.loop-i.heads.items in
    let fronts = c.loop-i.fronts.items in
    let i = c.loop-i.i in
    let old = c.index_mut.result.now in
    let new = c.let_on.new.reader in
    let stands = c.in_ok-stands.stands in
    let lt : i < length readers = search rules in
    let lt_heads : i < length heads = omega (arith, lt, c.loop-i.invariant.heads) in
    let lt_fronts : i < length fronts = omega (arith, lt, c.loop-i.invariant.as_many) in
    let head = head_read heads i c.index-head.result.now lt_heads c.index-head.ensures in
    let front_was = number_read fronts i c.index_mut-in-loop-i.result.now lt_fronts c.index_mut-in-loop-i.ensures.value in
    let on : map run_of (set readers i new) ≡ map run_of readers = runs_set readers i old new c.index_mut.ensures.value c.let_on.ensures.run in
    let flags : c.put_in_order.new.heads.items ≡ set heads i stands = c.in-Ok.ensures.ok in
    let order = rw (flags, c.deref.ensures.value) at c.in-Ok.ensures.order in
    rw flags (record {
      heads = length-set heads i stands ∙ c.loop-i.invariant.heads ∙ sym (length-set readers i new);
      whole = length-set readers i new ∙ c.loop-i.invariant.whole;
      there = rw (on, c.let_on.ensures.shelf.count) c.loop-i.invariant.there;
      as_many = length-set fronts i c.let_on.new.front_now ∙ c.loop-i.invariant.as_many ∙ sym (length-set readers i new);
      fronts = front_set readers heads fronts i c.let_on.new.front_now old new stands lt lt_heads lt_fronts c.index_mut.ensures.value c.loop-i.invariant.fronts
          (λ was is. c.in_ok-stands.ensures.front (λ stood. subst (HasFront old) front_was (was (head ∙ stood))) is);
      order = order;
      gives = λ lists left.
          let now = c.loop-i.invariant.gives lists left in
          let lets : (rows : List (List (List ℕ))) → IsLeft (files_on g.H.Shelf.disk_of g.D.Disk.files c.loop-i.shelf) old (has_head heads i) rows → LetsOn (files_on g.H.Shelf.disk_of g.D.Disk.files c.let_on.new.shelf) new rows (Ok stands) =
          λ rows h. c.in_ok-stands.ensures.gives rows (rw head at h) in
          let after = left_set (files_on g.H.Shelf.disk_of g.D.Disk.files c.loop-i.shelf) (files_on g.H.Shelf.disk_of g.D.Disk.files c.let_on.new.shelf) c.let_on.ensures.shelf.same readers heads lists i old new stands lt c.index_mut.ensures.value lets now.0 in
          (after.0, heads_more heads i stands (λ k. get_or lists k [] ≡ []) (λ k. get_or lists k [] ≡ []) lt_heads now.1 (λ k apart h. h) after.1);
      end = each_set readers i new (λ k reader. k < i → has_head heads k ≡ false → rows_ahead reader ≡ 0) (λ k reader. k < i + 1 → has_head (set heads i stands) k ≡ false → rows_ahead reader ≡ 0) lt c.loop-i.invariant.end
          (λ k reader apart h below none. h (omega (arith, apart, below)) (sym (other_head heads i k stands apart) ∙ none))
          (λ below none. c.in_ok-stands.ensures.end (sym (get_or-set_same heads i stands false lt_heads) ∙ none));
      left = left_by-set readers heads i old new stands lt lt_heads c.index_mut.ensures.value
          (rw head c.in_ok-stands.ensures.left) ∙ c.loop-i.invariant.left;
      kinds = λ kind of_kind. kinds_set kind readers i old new lt c.index_mut.ensures.value c.let_on.ensures.form (c.loop-i.invariant.kinds kind of_kind);
      stand = λ kind of_kind at.
          stand_set kind readers heads i old new stands lt lt_heads c.index_mut.ensures.value
          (c.loop-i.invariant.kinds kind of_kind) (c.loop-i.invariant.stand kind of_kind at)
          (λ form was is. c.in_ok-stands.ensures.stands kind form (rw head at was) is);
      runs = on ∙ c.loop-i.invariant.runs;
      shelf = record {
        count = c.let_on.ensures.shelf.count ∙ c.loop-i.invariant.shelf.count;
        names = λ j. c.let_on.ensures.shelf.names j ∙ c.loop-i.invariant.shelf.names j;
        same = λ j. c.let_on.ensures.shelf.same j ∙ c.loop-i.invariant.shelf.same j;
        later = λ j. omega (arith, c.let_on.ensures.shelf.later j, c.loop-i.invariant.shelf.later j);
      };
    })

pub returns-clause-gives : goal.returns-clause-gives
returns-clause-gives g c lists left =
    let now = c.loop-i.invariant.gives lists left in
    let end : length c.loop-i.readers.items ≡ c.len-i-end.result = search rules in
    all_let_on (files_on g.H.Shelf.disk_of g.D.Disk.files c.loop-i.shelf) c.loop-i.readers.items c.loop-i.heads.items lists (λ k lt none. now.1 k (omega (arith, end, c.loop-i-test.false)) none) now.0
