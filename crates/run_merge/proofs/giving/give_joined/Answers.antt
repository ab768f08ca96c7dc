use Rattle.std.proofs.Common.{◌≡◌, ◌∷◌, [], length, refl, sym, ap, subst, ◌∙◌}
use Rattle.std.proofs.lemmas.List.{take_at}
use Rattle.std.specs.Prelude.{Some}
use Rattle.aggregate.specs.declared.kind.Kind.TheVariants.{Group}
use Rattle.aggregate.specs.Values.{IsValueOf}
use Rattle.run_file.specs.AtEntries.{entry_at}
use Rattle.run_merge.specs.Giving.{IsTaken}
use Rattle.run_merge.specs.Heads.{row_lent}
use Rattle.run_merge.proofs.Finishing.{formed_among}
use Rattle.run_merge.proofs.Firsts.{read_again}
use Rattle.run_merge.proofs.Formed.{formed_alike, own_row, value_formed}
use Rattle.run_merge.proofs.Joining.{group_given, group_taken}
use Rattle.run_merge.proofs.giving.give_joined.Goals as goal

pub join_others-requires-clause-value : goal.join_others-requires-clause-value
join_others-requires-clause-value c =
    let place = c.take_first-first.result in
    let reader = c.index-readers-first.result in
    let first = c.take_first-first.ensures.first in
    let at = c.requires.stand place reader first.within c.index-readers-first.is first.stands in
    let put : c.deref_mut.result.now ≡ (entry_at reader).value = rw (c.deref_mut.ensures.value, c.in_ok-extend_from_slice.ensures.items, c.clear.ensures.items) c.value.ensures in
    subst (IsValueOf (Group c.args.aggs.now)) (sym put) (value_formed c.args.aggs.now reader at)

pub returns-then-not-join_others-clause-gives : goal.returns-then-not-join_others-clause-gives
returns-then-not-join_others-clause-gives c files entries coming =
    let readers = c.args.readers.now in
    let place = c.take_first-first.result in
    let reader = c.index-readers-first.result in
    let first = c.take_first-first.ensures.first in
    let at = c.requires.stand place reader first.within c.index-readers-first.is first.stands in
    let put : c.deref_mut.result.now ≡ (entry_at reader).value = rw (c.deref_mut.ensures.value, c.in_ok-extend_from_slice.ensures.items, c.clear.ensures.items) c.value.ensures in
    let taken = group_taken files c.args.aggs.now readers c.args.heads.now.items place reader entries c.index-readers-first.is first coming in
    let read : IsTaken files (Group c.args.aggs.now) readers c.take_first-first.new.heads.items (record { key = c.key-key.result.now; value = c.deref_mut.result.now }) entries =
    rw (c.key-key.ensures, put, c.take_first-first.ensures.heads) taken in
    let joined = c.join_others.ensures.joins files entries read in
    let own = c.join_others.ensures.none c.if-not-join_others.true in
    let row_is : row_lent readers (Some place) c.args.row.now ≡ c.key-key.result.now ∷ (c.join_others.new.value ∷ []) =
    own_row (Group c.args.aggs.now) readers place reader c.args.row.now first.within c.index-readers-first.is at ∙ rw (own, put, c.key-key.ensures) refl in
    let count = c.join_others.ensures.heads.count ∙ c.take_first-first.ensures.falls.count ∙ c.requires.heads in
    group_given files c.args.aggs.now readers c.join_others.new.heads.items c.join_others.new.order (row_lent readers (Some place) c.args.row.now) (record { key = c.key-key.result.now; value = c.join_others.new.value }) entries row_is count c.join_others.ensures.order c.join_others.ensures.apart joined

pub returns-then-not-join_others-clause-formed : goal.returns-then-not-join_others-clause-formed
returns-then-not-join_others-clause-formed c =
    let readers = c.args.readers.now in
    let place = c.take_first-first.result in
    let first = c.take_first-first.ensures.first in
    formed_among (Group c.args.aggs.now) readers place (row_lent readers (Some place) c.args.row.now) first.within
    (λ reader is.
    let at = c.requires.stand place reader first.within is first.stands in
    formed_alike (Group c.args.aggs.now) reader (row_lent readers (Some place) c.args.row.now) (entry_at reader).value at (value_formed c.args.aggs.now reader at) refl (own_row (Group c.args.aggs.now) readers place reader c.args.row.now first.within is at))

pub returns-clause-gives : goal.returns-clause-gives
returns-clause-gives c files entries coming =
    let readers = c.args.readers.now in
    let place = c.take_first-first.result in
    let reader = c.index-readers-first.result in
    let first = c.take_first-first.ensures.first in
    let put : c.deref_mut.result.now ≡ (entry_at reader).value = rw (c.deref_mut.ensures.value, c.in_ok-extend_from_slice.ensures.items, c.clear.ensures.items) c.value.ensures in
    let whole : c.deref.result.now ≡ c.join_others.new.value = c.deref.ensures.value ∙ take_at c.join_others.new.value _ c.extend_from_slice.new.self.len (c.join_others.auto.value ∙ c.deref_mut.ensures.len) in
    let taken = group_taken files c.args.aggs.now readers c.args.heads.now.items place reader entries c.index-readers-first.is first coming in
    let read : IsTaken files (Group c.args.aggs.now) readers c.take_first-first.new.heads.items (record { key = c.key-key.result.now; value = c.deref_mut.result.now }) entries =
    rw (c.key-key.ensures, put, c.take_first-first.ensures.heads) taken in
    let joined = c.join_others.ensures.joins files entries read in
    let row_is : c.put_row.new.row ≡ c.key-key.result.now ∷ (c.join_others.new.value ∷ []) = c.in_ok-put_row.ensures ∙ rw whole refl in
    let count = c.join_others.ensures.heads.count ∙ c.take_first-first.ensures.falls.count ∙ c.requires.heads in
    group_given files c.args.aggs.now readers c.join_others.new.heads.items c.join_others.new.order c.put_row.new.row (record { key = c.key-key.result.now; value = c.join_others.new.value }) entries row_is count c.join_others.ensures.order c.join_others.ensures.apart joined

pub returns-clause-formed : goal.returns-clause-formed
returns-clause-formed c =
    let readers = c.args.readers.now in
    let place = c.take_first-first.result in
    let reader = c.index-readers-first.result in
    let first = c.take_first-first.ensures.first in
    let at = c.requires.stand place reader first.within c.index-readers-first.is first.stands in
    let put : c.deref_mut.result.now ≡ (entry_at reader).value = rw (c.deref_mut.ensures.value, c.in_ok-extend_from_slice.ensures.items, c.clear.ensures.items) c.value.ensures in
    let whole : c.deref.result.now ≡ c.join_others.new.value = c.deref.ensures.value ∙ take_at c.join_others.new.value _ c.extend_from_slice.new.self.len (c.join_others.auto.value ∙ c.deref_mut.ensures.len) in
    let row_is : c.put_row.new.row ≡ (entry_at reader).key ∷ (c.join_others.new.value ∷ []) = c.in_ok-put_row.ensures ∙ rw (whole, c.key-key.ensures) refl in
    formed_among (Group c.args.aggs.now) readers place c.put_row.new.row first.within
    (λ each is.
    rw (read_again readers place place reader each first.within refl c.index-readers-first.is is) (formed_alike (Group c.args.aggs.now) reader c.put_row.new.row c.join_others.new.value at c.join_others.ensures.value (c.join_others.auto.value ∙ ap length put) row_is))
