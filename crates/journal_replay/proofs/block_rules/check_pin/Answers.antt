use Rattle.std.proofs.Common.{◌≡◌, Bool, subst, sym}
use Rattle.pool_ledger.specs.declared.entry.Event.TheVariants.{Pin}
use Rattle.journal_audit.specs.Rules.{event_checks, first_in}
use Rattle.journal_replay.specs.Replays.{history_of, setup_of}
use Rattle.journal_replay.proofs.block_rules.check_pin.Goals as goal

pub returns-then-copy : goal.returns-then-copy
returns-then-copy c =
    subst (λ (t : Bool). c.check_copy.result ≡ first_in (event_checks (setup_of c.args.replay.now) (history_of c.args.replay.now) c.args.worker (Pin c.args.dataset c.args.part t))) (sym c.if-copy.true) c.check_copy.ensures

pub returns : goal.returns
returns c =
    subst (λ (t : Bool). c.check_hit.result ≡ first_in (event_checks (setup_of c.args.replay.now) (history_of c.args.replay.now) c.args.worker (Pin c.args.dataset c.args.part t))) (sym c.if-copy.false) c.check_hit.ensures
