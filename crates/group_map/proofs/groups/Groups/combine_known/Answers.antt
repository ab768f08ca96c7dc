use Rattle.std.proofs.Common.{◌≡◌, ◌+◌, ◌*◌, ◌-◌, Some, [], length, sym, ◌∙◌, ap, arith}
use Rattle.std.proofs.lemmas.List.{with_items_is}
use Rattle.std.specs.List.{position}
use Rattle.std.specs.Prelude.{is_some}
use Rattle.aggregate.proofs.Tested.{length_value}
use Rattle.group_map.proofs.ByPlace.{is_key, known_is}
use Rattle.group_map.proofs.Places.{combined_known, found_charged, found_formed}
use Rattle.group_map.proofs.groups.Groups.combine_known.Goals as goal
use borrow.Rule.Slice.PartMut.{put_mid, same_len_mid}

pub returns-in_default-clause-known : goal.returns-in_default-clause-known
returns-in_default-clause-known c =
    let groups = c.args.self.now in
    ap is_some (sym c.in_default.is) ∙ c.place_of.ensures.known ∙ sym (known_is c.args.key.now groups.width groups.keys.keys groups.values.items)

pub returns-clause-known : goal.returns-clause-known
returns-clause-known c =
    let groups = c.args.self.now in
    ap is_some (sym c.in-Some.is) ∙ c.place_of.ensures.known ∙ sym (known_is c.args.key.now groups.width groups.keys.keys groups.values.items)

pub returns-clause-takes : goal.returns-clause-takes
returns-clause-takes c = λ known.
    let groups = c.args.self.now in
    let at = groups.width * c.in-Some.place in
    let n = at + groups.width - at in
    let bytes = put_mid at n c.deref_mut.result.now c.combine.new.into in
    let long : length bytes ≡ length groups.values.items = same_len_mid at n c.deref_mut.result.now c.combine.new.into c.combine.auto.into ∙ ap length c.deref_mut.ensures.value in
    let found : position (is_key c.args.key.now) groups.keys.keys ≡ Some c.in-Some.place = sym c.place_of.ensures.place ∙ c.in-Some.is in
    combined_known c.combine_is_associative.ensures c.combined_values_stay_formed.ensures c.args.aggs.now groups.width groups.keys.keys groups.values.items c.deref_mut.result.now _ c.args.key.now c.args.value.now c.combine.new.into c.in-Some.place n []
    found c.requires.apart groups.whole c.requires.width c.deref_mut.ensures.value (omega arith)
    (with_items_is groups.values bytes (long ∙ sym groups.values.ok.0)) c.combine.ensures

pub returns-clause-enough : goal.returns-clause-enough
returns-clause-enough c = λ known.
    let groups = c.args.self.now in
    let found : position (is_key c.args.key.now) groups.keys.keys ≡ Some c.in-Some.place = sym c.place_of.ensures.place ∙ c.in-Some.is in
    found_charged groups.width groups.keys.keys groups.values.items c.args.key.now c.args.value.now c.in-Some.place [] found groups.whole (length_value c.args.aggs.now c.args.value.now c.requires.value ∙ sym c.requires.width)

pub combine-requires-clause-into : goal.combine-requires-clause-into
combine-requires-clause-into c =
    let groups = c.args.self.now in
    let at = groups.width * c.in-Some.place in
    let n = at + groups.width - at in
    let found : position (is_key c.args.key.now) groups.keys.keys ≡ Some c.in-Some.place = sym c.place_of.ensures.place ∙ c.in-Some.is in
    found_formed c.args.aggs.now groups.width groups.keys.keys groups.values.items c.deref_mut.result.now c.args.key.now c.in-Some.place n []
    found groups.whole c.deref_mut.ensures.value (omega arith) c.requires.formed
