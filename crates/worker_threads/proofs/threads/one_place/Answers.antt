use Rattle.std.proofs.Common.{refl}
use Rattle.worker_threads.proofs.threads.one_place.Goals as goal

pub returns : goal.returns
returns g c = record {
  one = _;
  one_is = refl;
  other = _;
  other_is = refl;
  one_after = _;
  other_after = _;
  call = c.f.ensures;
  one_left = refl;
  other_left = refl;
}
