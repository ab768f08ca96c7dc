use Rattle.std.proofs.Common.{rules, ◌≡◌, ℕ, map, take, arith}
use Rattle.std.specs.Prelude.{Err}
use Rattle.task_pool.specs.Accounts.{Held}
use Rattle.task_memory.specs.Leasts.{leasts_of}
use Rattle.task_memory.proofs.Leasts.{leasts_more, lacks_least}
use Rattle.task_memory.proofs.Refused.{no_room_weaker}
use Rattle.task_memory.proofs.starting.take_leasts.Goals.{then-least-gt0+in_ok-sum, else-least-gt0}
use Rattle.task_memory.proofs.starting.take_leasts.Goals as goal

pub returns-in_err-sum-clause-no_room : goal.returns-in_err-sum-clause-no_room
returns-in_err-sum-clause-no_room g c =
    let so_far = c.loop-j.invariant in
    let states = map g.C.Consumer.state c.args.consumers.now in
    let before : Held = (g.P.Pool.state c.loop-j.pool).account in
    let after : Held = (g.P.Pool.state c.acquire_alone.new.pool).account in
    let total : before.held ≡ leasts_of (take c.loop-j.j c.args.picks.now) states = omega (arith, so_far.holds, so_far.sum) in
    let fault = c.in_err-sum.field-0.0 in
    let is : c.from_residual.result ≡ Err fault = search rules in
    rw is (no_room_weaker ℕ ℕ fault after _ _ (λ asked lacks. lacks_least before after c.args.picks.now states c.loop-j.j c.least_at-least.result asked c.loop-j-test.true c.least_at-least.ensures.value total lacks.too_little) c.in_err-sum.ensures.no_room)

pub loop-j-preserved : goal.loop-j-preserved
loop-j-preserved g c =
    let so_far = c.loop-j.invariant in
    let states = map g.C.Consumer.state c.args.consumers.now in
    let more = leasts_more c.args.picks.now states c.loop-j.j c.loop-j-test.true in
    let least = c.least_at-least.ensures.value in
    elim c.if-least-gt0.branch [
      | then-least-gt0+in_ok-sum w ↦
          let gets = w.in_ok-sum.ensures.gets in
          record {
            sum = omega (arith, w.sum-is, more, least, so_far.sum, gets.enough, gets.few);
            holds = rw (w.pool-is, w.sum-is) (omega (arith, gets.holds, so_far.holds));
            small = rw w.pool-is gets.small;
            goes = rw w.pool-is (c.pools_go_on.ensures.more _ _ _ so_far.goes w.acquire_alone.ensures.goes);
          }
      | else-least-gt0 w ↦ record {
        sum = omega (arith, w.sum-is, more, least, so_far.sum, w.if-least-gt0.false);
        holds = rw (w.pool-is, w.sum-is) so_far.holds;
        small = rw w.pool-is so_far.small;
        goes = rw w.pool-is so_far.goes;
      }
    ]
