use Rattle.std.proofs.Common.{rules, ◌∙◌, map, length, sym, subst, ℕ, refl, arith}
use Rattle.std.proofs.lemmas.List.{length-map}
use Rattle.task_memory.specs.declared.starting.Started.{Started}
use Rattle.task_memory.specs.Leasts.{IsLeastLacking}
use Rattle.task_memory.proofs.Readied.{IsStarted, dry_is, leasts_kept, started_between}
use Rattle.task_memory.proofs.Refused.{no_room_weaker}
use Rattle.task_memory.specs.Stacks.{stack_of}
use Rattle.task_memory.proofs.starting.start.Goals as goal

pub returns-in-Ok-take_leasts-clause-starts : goal.returns-in-Ok-take_leasts-clause-starts
returns-in-Ok-take_leasts-clause-starts g c =
    let state_of = g.C.Consumer.state in
    let leasts = c.in-Ok-take_leasts.ensures.takes in
    let account = (g.P.Pool.state c.take_leasts.new.pool).account in
    record {
      live = λ files faults.
          let started : IsStarted (stack_of (map state_of c.begin_all.new.consumers) files account c.in-Ok-new.spills) c.in-Ok-take_leasts.leasts =
          started_between c.args.picks.now c.args.kinds.now (map state_of c.args.consumers.now) (map state_of c.begin_all.new.consumers) files account
          c.in-Ok-new.spills c.in-Ok-take_leasts.leasts (length c.begin_all.new.consumers) c.requires.places c.in-Ok.ensures.ok c.in-Ok-new.ensures.picks c.in-Ok-new.ensures.runs c.in-Ok-new.ensures.deepest c.in-Ok-new.ensures.asks
          (sym (length-map c.begin_all.new.consumers state_of)) leasts.holds leasts.small in
          record {
            between = record {
              rests = record { ready = started.ready; page = c.in-Ok-new.ensures.page; at_work = c.take_leasts.ensures.goes.at_work };
              begun = started.begun;
              holds = omega (arith, started.holds);
            };
            live = refl;
          };
      leasts = leasts.all ∙ leasts_kept c.args.picks.now c.args.kinds.now (map g.C.Consumer.state c.args.consumers.now) (map g.C.Consumer.state c.begin_all.new.consumers) c.in-Ok.ensures.ok;
      picked = c.in-Ok-new.ensures.picks;
      runs = search rules;
      begun = c.in-Ok.ensures.ok;
    }

pub returns-in-Err-clause-no_room : goal.returns-in-Err-clause-no_room
returns-in-Err-clause-no_room g c =
    let before = map g.C.Consumer.state c.args.consumers.now in
    let after = map g.C.Consumer.state c.begin_all.new.consumers in
    let account = (g.P.Pool.state c.take_leasts.new.pool).account in
    let begins = c.in-Ok.ensures.ok in
    let leasts = leasts_kept c.args.picks.now c.args.kinds.now before after begins in
    no_room_weaker ℕ Started c.in-Err.fault account _ _
    (λ asked lacks. record {
      lacks = subst (λ (sum : ℕ). IsLeastLacking account sum asked) leasts lacks;
      dry = dry_is c.args.picks.now c.args.kinds.now before after begins;
    }) c.in-Err.ensures.no_room
