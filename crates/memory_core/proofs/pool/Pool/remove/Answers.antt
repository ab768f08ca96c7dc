use Rattle.std.proofs.Common.{◌≡◌, ℕ, ◌+◌, false, [], ◌∷◌, ◌++◌, refl, subst, ◌∙◌, arith}
use Rattle.std.specs.List.{list_any}
use Rattle.std.proofs.lemmas.List.Sorted.{IsPermutation-refl}
use Rattle.memory_core.specs.Changes.{RemovesInTurn, may_be_removed_below, removable_of}
use Rattle.memory_core.proofs.Removals.{goes_all, goes_more, none_below_0, none_left, removes_more}
use Rattle.memory_core.proofs.pool.Pool.remove.Goals as goal

pub loop-step-init : goal.loop-step-init
loop-step-init g c = record {
  amid = c.requires.amid;
  whole = c.requires.whole;
  setup_is = refl;
  counted = omega (arith, c.requires.count);
  none_before = none_below_0 c.args.dataset c.args.self.now.cache.blocks;
  removes = ([], (omega arith, refl, refl), IsPermutation-refl (removable_of c.args.dataset c.args.self.now.cache.blocks));
  disk = record { copies = refl; files = refl; faults = refl };
  room_left = omega arith;
}

pub loop-step-preserved : goal.loop-step-preserved
loop-step-preserved g c =
    let so_far = c.loop-step.invariant in
    let next = c.remove_next-part.ensures in
    let part : c.remove_next-part.result + 1 ≡ c.from-from.result + 1 = omega (arith, c.from-from.ensures) in
    record {
      amid = next.amid;
      whole = next.whole;
      setup_is = next.setup ∙ so_far.setup_is;
      counted = omega (arith, next.count, so_far.counted);
      none_before = subst (λ (n : ℕ). list_any (may_be_removed_below c.args.dataset n) c.remove_next-part.new.self.cache.blocks ≡ false) part next.from;
      removes = (
        so_far.removes.0 ++ next.removes.0 ∷ [],
        removes_more c.args.worker c.args.dataset 0 c.loop-step.from (c.from-from.result + 1) so_far.removes.0 next.removes.0
            c.args.self.now.history c.loop-step.self.history c.remove_next-part.new.self.history c.args.self.now.cache.blocks c.loop-step.self.cache.blocks c.remove_next-part.new.self.cache.blocks so_far.removes.1
            (subst (λ (n : ℕ). RemovesInTurn c.args.worker c.args.dataset c.loop-step.from n (next.removes.0 ∷ []) c.loop-step.self.history c.loop-step.self.cache.blocks c.remove_next-part.new.self.history c.remove_next-part.new.self.cache.blocks) part next.removes.2),
        goes_more so_far.removes.0 _ _ _ next.removes.0 so_far.removes.2 next.removes.3,
      );
      disk = record {
        copies = next.disk.copies ∙ so_far.disk.copies;
        files = next.disk.files ∙ so_far.disk.files;
        faults = next.disk.faults ∙ so_far.disk.faults;
      };
      room_left = omega (arith, next.spare, so_far.room_left);
    }

pub returns-clause-none_left : goal.returns-clause-none_left
returns-clause-none_left g c =
    none_left c.args.dataset c.loop-step.self.cache.blocks (omega (arith, c.loop-step.invariant.counted, c.loop-step-test.false))

pub returns-clause-removes : goal.returns-clause-removes
returns-clause-removes g c =
    let so_far = c.loop-step.invariant in
    let none = none_left c.args.dataset c.loop-step.self.cache.blocks (omega (arith, so_far.counted, c.loop-step-test.false)) in
    (so_far.removes.0, c.loop-step.from, so_far.removes.1, goes_all c.args.dataset so_far.removes.0 _ c.loop-step.self.cache.blocks none so_far.removes.2)
