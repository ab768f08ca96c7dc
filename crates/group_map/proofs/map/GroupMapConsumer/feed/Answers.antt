use Rattle.std.proofs.Common.{◌≡◌, List, [], ◌++◌, ap, sym, subst, ◌∙◌, append-nil, arith, rules}
use Rattle.std.proofs.lemmas.List.Sums.{sum_by-append}
use Rattle.aggregate.specs.Totals.{Entry, cost, costs}
use Rattle.consumer_trait.specs.Usages.{Numbers}
use Rattle.entry_list.specs.Lists.{entries_of_list}
use Rattle.group_map.specs.Pairs.{AreApart, entries_of_groups}
use Rattle.group_map.proofs.Formed.{formed_front, formed_same, formed_taken}
use Rattle.group_map.proofs.map.GroupMapConsumer.feed.Goals as goal

pub invariant_of-self-clause-charged : goal.invariant_of-self-clause-charged
invariant_of-self-clause-charged c =
    let map = c.args.self.now in
    let takes = c.combine_known.ensures.takes c.if-combine_known.true in
    let costs_is = ap (λ (numbers : Numbers). numbers.costs) c.take.ensures in
    let old = sum_by-append cost (entries_of_groups map.groups) (entries_of_list map.chunk) in
    let new = sum_by-append cost (entries_of_groups c.combine_known.new.self) (entries_of_list map.chunk) in
    omega (arith, takes.charged, costs_is, old, new, map.charged)

pub invariant_of-self-clause-apart : goal.invariant_of-self-clause-apart
invariant_of-self-clause-apart c =
    let more : List Entry = entries_of_groups c.combine_known.new.self in
    let takes = c.combine_known.ensures.takes c.if-combine_known.true in
    let none : entries_of_list c.args.self.now.chunk ≡ [] = search rules in
    subst (λ (es : List Entry). AreApart es) (sym (ap (λ (es : List Entry). more ++ es) none ∙ append-nil more)) takes.apart

pub invariant_of-self-clause-formed : goal.invariant_of-self-clause-formed
invariant_of-self-clause-formed c =
    let map = c.args.self.now in
    formed_taken map.aggs c.in-Some.aggs (entries_of_groups map.groups) (entries_of_groups c.combine_known.new.self) (entries_of_list map.chunk) c.in-Some.is (c.combine_known.ensures.takes c.if-combine_known.true).formed map.formed

pub combine_known-requires-clause-formed : goal.combine_known-requires-clause-formed
combine_known-requires-clause-formed c =
    let map = c.args.self.now in
    formed_front map.aggs c.in-Some.aggs (entries_of_groups map.groups) (entries_of_list map.chunk) c.in-Some.is map.formed

pub invariant_of-self-else-combine_known-clause-formed : goal.invariant_of-self-else-combine_known-clause-formed
invariant_of-self-else-combine_known-clause-formed c =
    let map = c.args.self.now in
    formed_same map.aggs (entries_of_groups map.groups) (entries_of_groups c.combine_known.new.self) (entries_of_list map.chunk) (c.combine_known.ensures.same c.if-combine_known.false) map.formed

pub invariant_of-self-else-combine_known-clause-charged : goal.invariant_of-self-else-combine_known-clause-charged
invariant_of-self-else-combine_known-clause-charged c =
    let map = c.args.self.now in
    map.charged ∙ ap (λ (es : List Entry). costs (es ++ entries_of_list map.chunk)) (sym (c.combine_known.ensures.same c.if-combine_known.false))

pub invariant_of-self-else-combine_known-clause-apart : goal.invariant_of-self-else-combine_known-clause-apart
invariant_of-self-else-combine_known-clause-apart c =
    let map = c.args.self.now in
    subst (λ (es : List Entry). AreApart (es ++ entries_of_list map.chunk)) (sym (c.combine_known.ensures.same c.if-combine_known.false)) map.apart
