use Rattle.std.proofs.Common.{refl}
use Rattle.std.specs.Prelude.{Some}
use Rattle.aggregate.specs.declared.kind.Kind.TheVariants.{Order}
use Rattle.run_file.specs.AtEntries.{entry_at}
use Rattle.run_merge.specs.Heads.{row_lent}
use Rattle.run_merge.proofs.Finishing.{formed_among, reader_at}
use Rattle.run_merge.proofs.Formed.{formed_alike, lends, own_row}
use Rattle.run_merge.proofs.Joining.{order_given}
use Rattle.run_merge.proofs.giving.give_alone.Goals as goal

pub returns-clause-gives : goal.returns-clause-gives
returns-clause-gives c row files entries coming =
    let readers = c.args.readers.now in
    let place = c.take_first.result in
    let first = c.take_first.ensures.first in
    let r = reader_at readers place first.within in
    let at = c.requires.stand place r.0 first.within r.1 first.stands in
    rw c.take_first.ensures.heads (order_given files readers c.args.heads.now.items place r.0 (row_lent readers (Some place) row) entries (own_row Order readers place r.0 row first.within r.1 at) r.1 first coming)

pub returns-clause-formed : goal.returns-clause-formed
returns-clause-formed c row =
    let readers = c.args.readers.now in
    let place = c.take_first.result in
    let first = c.take_first.ensures.first in
    formed_among Order readers place (row_lent readers (Some place) row) first.within
    (λ reader is.
    let at = c.requires.stand place reader first.within is first.stands in
    formed_alike Order reader (row_lent readers (Some place) row) (entry_at reader).value at tt refl (own_row Order readers place reader row first.within is at))

pub returns-clause-lent : goal.returns-clause-lent
returns-clause-lent c =
    let first = c.take_first.ensures.first in
    lends Order c.args.readers.now c.take_first.result first.within (λ reader is. c.requires.stand c.take_first.result reader first.within is first.stands)
