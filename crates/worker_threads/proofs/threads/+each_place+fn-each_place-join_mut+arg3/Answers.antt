use Rattle.std.proofs.Common.{rules, ap, length, arith}
use Rattle.worker_threads.specs.Calls.{AcceptsCall, Called}
use Rattle.worker_threads.proofs.Steps.{all_places, first_of_both, rest_of_both, few_rest, same_rest}
use Rattle.worker_threads.proofs.threads.+each_place+fn-each_place-join_mut+arg3.Goals as goal

pub join_mut-requires-after_bounds : goal.join_mut-requires-after_bounds
join_mut-requires-after_bounds g t c κs within =
    let w = c.in-Some.ensures.cases.0 in
    let p = c.in-Some-split_first_mut.ensures.cases.0 in
    let a = c.in-Some-split_first_mut-2.ensures.cases.0 in (
      first_of_both (AcceptsCall g.F.Fn c.args.f.now) c.args.base _ _ _ _ _ _ w p c.requires.accepts,
      (
        search rules,
        (
          (λ b m. m),
          (
            (λ b m. m),
            (
              (λ b m. m),
              (
                (λ b m. m),
                (
                  (λ b m. m),
                  (
                    (
                      search rules,
                      search rules,
                      search rules,
                      search rules,
                      search rules,
                      omega (arith, ap length w, c.requires.room),
                      few_rest _ _ _ _ _ _ w p c.requires.posts,
                      same_rest _ _ _ _ _ _ w a c.requires.answers,
                      rest_of_both (AcceptsCall g.F.Fn c.args.f.now) c.args.base _ _ _ _ _ _ w p c.requires.accepts,
                    ),
                    search rules,
                  ),
                ),
              ),
            ),
          ),
        ),
      ),
    )

pub returns : goal.returns
returns g t c =
    let all = all_places (Called g.F.Fn c.args.f.now) c.args.base _ _ _ _ _ _ _ _ _ _ _ _ c.in-Some.ensures.cases.0 c.in-Some-split_first_mut.ensures.cases.0
    c.join_mut.ensures.0.met.1 c.join_mut.ensures.1.met.1 in
    search rules
