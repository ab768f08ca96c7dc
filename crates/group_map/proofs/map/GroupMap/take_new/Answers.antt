use Rattle.std.proofs.Common.{◌≡◌, ◌∙◌, List, ◌++◌, [], ap, arith, rules, subst, sym}
use Rattle.aggregate.specs.Totals.{Entry, costs}
use Rattle.consumer_trait.specs.Usages.{Numbers}
use Rattle.entry_list.specs.Lists.{entries_of_list}
use Rattle.group_map.specs.Pairs.{AreApart, entries_of_groups}
use Rattle.group_map.proofs.Formed.{entry_width, formed_as, formed_more}
use Rattle.group_map.proofs.Taking.{apart_more, charge_more}
use Rattle.group_map.proofs.map.GroupMap.take_new.Goals as goal

pub invariant_of-self-2-clause-charged : goal.invariant_of-self-2-clause-charged
invariant_of-self-2-clause-charged c =
    let map = c.args.self.now in
    let entry : Entry = record { key = c.args.key.now; value = c.args.value.now } in
    let more = charge_more (entries_of_groups map.groups) (entries_of_groups c.push.new.self) (entries_of_list map.chunk) entry c.in_ok-push.ensures.ok in
    let costs_is = ap (λ (numbers : Numbers). numbers.costs) c.take.ensures in
    omega (arith, more, costs_is, map.charged, c.cost_of.ensures)

pub invariant_of-self-2-clause-apart : goal.invariant_of-self-2-clause-apart
invariant_of-self-2-clause-apart c =
    let map = c.args.self.now in
    let none : entries_of_list map.chunk ≡ [] = search rules in
    apart_more (entries_of_groups map.groups) (entries_of_groups c.push.new.self) (entries_of_list map.chunk) (record { key = c.args.key.now; value = c.args.value.now }) none c.in_ok-push.ensures.ok c.requires.new map.apart

pub invariant_of-self-2-clause-formed : goal.invariant_of-self-2-clause-formed
invariant_of-self-2-clause-formed c =
    let map = c.args.self.now in
    let none : entries_of_list map.chunk ≡ [] = search rules in
    formed_more map.aggs (entries_of_groups map.groups) (entries_of_groups c.push.new.self) (entries_of_list map.chunk) (record { key = c.args.key.now; value = c.args.value.now }) none c.in_ok-push.ensures.ok c.requires.entry map.formed

pub push-requires-clause-value : goal.push-requires-clause-value
push-requires-clause-value c =
    let map = c.args.self.now in
    entry_width map.aggs (record { key = c.args.key.now; value = c.args.value.now }) c.requires.kind c.requires.entry ∙ sym map.width

pub invariant_of-self : goal.invariant_of-self
invariant_of-self c =
    let map = c.args.self.now in
    let chunk : List Entry = entries_of_list map.chunk in
    let same : entries_of_groups c.push.new.self ++ chunk ≡ entries_of_groups map.groups ++ chunk = ap (λ (es : List Entry). es ++ chunk) c.in_err-push.ensures.err in
    record {
      width = c.push.ensures.width ∙ map.width;
      formed = formed_as map.aggs _ _ same map.formed;
      charged = map.charged ∙ ap costs (sym same);
      apart = subst AreApart (sym same) map.apart;
      ascends = map.ascends;
      idle = map.idle;
      gained = λ spills some. map.gained spills (λ none. some (same ∙ none));
      owes = λ wrote kept some. map.owes wrote kept (λ none. some (same ∙ none));
      owes_all = map.owes_all;
    }
