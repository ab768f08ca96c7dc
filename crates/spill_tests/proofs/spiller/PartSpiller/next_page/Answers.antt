use Rattle.std.proofs.Common.{◌≡◌, Bool, List, true, refl, sym, ap, subst, rules}
use Rattle.std.specs.List.{All}
use Rattle.aggregate.specs.Totals.{Entry}
use Rattle.consumer_trait.specs.States.{total_by}
use Rattle.consumer_trait.specs.Calls.{IsEntryRow}
use Rattle.consumer_trait.specs.Usages.{order_if}
use Rattle.spill_tests.proofs.Fronts.{Moved, moved}
use Rattle.spill_tests.proofs.spiller.PartSpiller.next_page.Goals as goal

pub invariant_of-self-clause-ascends : goal.invariant_of-self-clause-ascends
invariant_of-self-clause-ascends c =
    let m : Moved c.args.self.now.rows.items c.drop_front.new.rows.items c.args.self.now.todo c.in_ok-count.count c.put_front.new.out.rows =
    moved _ _ _ _ _ _ _ _ refl c.deref.ensures.value c.in_ok-count.ensures.puts (search rules) (search rules) c.drop_front.ensures.rows c.args.self.now.ascends in
    m.ascends

pub returns-clause-ok : goal.returns-clause-ok
returns-clause-ok c =
    let m : Moved c.args.self.now.rows.items c.drop_front.new.rows.items c.args.self.now.todo c.in_ok-count.count c.put_front.new.out.rows =
    moved _ _ _ _ _ _ _ _ refl c.deref.ensures.value c.in_ok-count.ensures.puts (search rules) (search rules) c.drop_front.ensures.rows c.args.self.now.ascends in
    let spills : c.args.self.now.usage.spilling ≡ true = search rules in
    record {
      same = search rules;
      total = ap (λ (es : List Entry). total_by (order_if c.args.self.now.ready) es) m.all;
      some = search (rules, m.count_is);
      moved = m.sizes;
      formed = subst (λ (ready : Bool). All (IsEntryRow (order_if ready)) c.put_front.new.out.rows) (sym c.requires.ready) m.formed;
      ascends = rw c.requires.ready (search (rules, m.written, spills));
      follows = λ wrote. search (rules, m.chosen);
      covered = search rules;
    }
