use Rattle.std.proofs.Common.{◌≡◌, ◌≢◌, ◌<◌, ℕ, cond, Some, sym}
use Rattle.std.specs.BTreeMap.{is_at}
use Rattle.std.specs.Ordering.{nat_cmp}
use Rattle.std.proofs.lemmas.List.Elements.{All-weaker}
use Rattle.journal_replay.specs.declared.placed.Placed.{Placed}
use Rattle.journal_replay.specs.Tables.{named, same_name}
use Rattle.journal_replay.specs.UseOrder.{block_by, is_start, place_of}
use Rattle.journal_replay.proofs.Known.{before_put, each_at, known_put, no_block, not_here, all_before, put_last_residents}
use Rattle.journal_replay.proofs.Stretches.{parted_put}
use Rattle.journal_replay.proofs.use_order.put_last.Goals as goal

pub begin_stretch-requires-clause-behind : goal.begin_stretch-requires-clause-behind
begin_stretch-requires-clause-behind c = all_before c.args.order.now c.args.place c.requires.in_order

pub returns-clause-blocks : goal.returns-clause-blocks
returns-clause-blocks c =
    let blocks = c.args.order.now.placed in
    let place = c.args.place in
    let before = all_before c.args.order.now place c.requires.in_order in
    put_last_residents place c.args.placed blocks.entries c.insert.new.self.entries
    (All-weaker (λ (e : ℕ × Placed). block_by blocks e.0 ≡ Some e.1) (λ (e : ℕ × Placed). e.0 < place) (λ e there. before e.0 e.1 there) blocks.entries
    (each_at blocks c.len-count.ensures.ordered))
    c.in_ok-insert.ensures.entries

pub returns-clause-in_order : goal.returns-clause-in_order
returns-clause-in_order c =
    let order = c.requires.in_order in
    let blocks = c.args.order.now.placed in
    let at = block_by blocks in
    let new_at = block_by c.insert.new.self in
    let kept = place_of c.args.order.now.places in
    let new_kept = place_of c.insert-2.new.self in
    let place = c.args.place in
    let others : (q : ℕ) → q ≢ place → new_at q ≡ at q = λ q other. c.in_ok-insert.ensures.updates.2 q (not_here place q (λ e. other (sym e))) in
    let noted : (d p : ℕ) → new_kept d p ≡ cond (same_name c.args.placed.name (named d p)) (Some place) (kept d p) = λ d p. c.in_ok-insert-2.ensures.updates.0 (named d p) in
    record {
      known = known_put at new_at kept new_kept place c.args.placed order.known order.before
          (λ q x at_q. no_block c.args.placed.name.dataset c.args.placed.name.part (is_at (nat_cmp q)) blocks.entries x c.requires.absent at_q)
          c.in_ok-insert.ensures.updates.1 others noted;
      before = before_put at new_at kept new_kept place c.args.placed order.before noted;
      stretches = parted_put at new_at (is_start c.args.order.now.starts) (is_start c.begin_stretch.new.starts) place c.args.placed order.stretches
          (all_before c.args.order.now place order) c.in_ok-insert.ensures.updates.1 others c.in_ok-begin_stretch.ensures.kept c.in_ok-begin_stretch.ensures.last;
    }
