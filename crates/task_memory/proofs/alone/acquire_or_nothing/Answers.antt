use Rattle.task_memory.proofs.alone.acquire_or_nothing.Goals as goal

pub returns-clause-first : goal.returns-clause-first
returns-clause-first g c =
    c.pools_go_on.ensures.asks c.args.wish (g.P.Pool.state c.args.pool.now) (g.P.Pool.state c.acquire.new.self) (g.P.Pool.state c.release.new.self) c.in_ok-got.ensures.first c.release.ensures.goes
