use Rattle.std.proofs.Common.{rules}
use Rattle.pool_tests.proofs.Crew.{all_back, is_new, starts}
use Rattle.pool_tests.proofs.tests.crews.play_all.Goals as goal

pub map_vec-requires-after_bounds : goal.map_vec-requires-after_bounds
map_vec-requires-after_bounds g c κs within = λ i x below is. (
  starts c.args.manager.now g.B.Basis.sizes.workers c.args.workers.items c.requires.workers i x below is,
  is_new c.args.workers.items c.requires.new i x below is,
  c.requires.owner,
  c.requires.rows,
)

pub returns : goal.returns
returns g c =
    all_back c.args.manager.now g.B.Basis.sizes.workers c.args.workers.items c.in_ok-after.after.items c.requires.workers (search rules)
    (λ i d within. let at = (c.in_ok-after.ensures.each i d within).1 in record { before = at.job; stood = at.job_read; its = at.call.met })
