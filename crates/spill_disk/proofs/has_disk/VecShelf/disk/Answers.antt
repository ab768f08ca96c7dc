use Rattle.std.proofs.Common.{◌≡◌, Some, refl, arith}
use Rattle.std.specs.Prelude.{slice_get, vec_len}
use Rattle.std.proofs.lemmas.Option.{slice_get_read}
use Rattle.spill_disk.proofs.has_disk.VecShelf.disk.Goals as goal

pub returns : goal.returns
returns g c =
    let owners = c.args.self.now in
    let owner = c.index_mut-owner.result.now in
    let found : slice_get owners.items c.args.number ≡ Some owner =
    slice_get_read owners.items (vec_len owners) c.args.number owner owners.ok.0 (omega (arith, c.requires)) c.index_mut-owner.ensures.value in
    ((refl, λ w. rw found refl), record { lent = tt; value = rw (found, c.disk.ensures.value) refl })
