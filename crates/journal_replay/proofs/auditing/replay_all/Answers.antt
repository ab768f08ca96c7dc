use Rattle.std.proofs.Common.{arith, sym, ◌∙◌}
use Rattle.pool_ledger.specs.declared.entry.Entry.{Entry}
use Rattle.pool_ledger.specs.declared.entry.Event.TheVariants.{Begin}
use Rattle.journal_replay.proofs.Answered.{answer_amid, answer_no, answer_yes, tells_more}
use Rattle.journal_replay.proofs.Lists.{is_replay}
use Rattle.pool_ledger.specs.Journal.{after}
use Rattle.journal_replay.proofs.auditing.replay_all.Goals as goal

pub step-requires : goal.step-requires
step-requires c = is_replay c.loop-index.replay (after c.loop-index.index c.args.entries.now) c.loop-index.invariant.0

pub returns-in-Some : goal.returns-in-Some
returns-in-Some c =
    let any : Entry = record { worker = 0; event = Begin 0 } in
    answer_no c.args.setup c.args.entries.now c.loop-index.replay c.loop-index.invariant.1 c.loop-index.index any c.in-Some.rule c.loop-index.invariant.0 (omega arith) (sym c.in_ok-broken.ensures.broken ∙ c.in-Some.is)

pub loop-index-preserved : goal.loop-index-preserved
loop-index-preserved c =
    let any : Entry = record { worker = 0; event = Begin 0 } in (
      tells_more c.loop-index.replay c.step.new.replay c.args.entries.now c.loop-index.index any c.loop-index.invariant.0 (omega arith) (c.in_ok-broken.ensures.next c.in_default.is),
      c.in_ok-broken.ensures.setup c.in_default.is ∙ c.loop-index.invariant.1,
    )

pub returns-then-is_some : goal.returns-then-is_some
returns-then-is_some c = answer_amid c.args.setup c.args.entries.now c.loop-index.replay c.loop-index.invariant.1 c.loop-index.index c.loop-index.invariant.0 (omega arith) (sym c.is_some.ensures ∙ c.if-is_some.true)

pub returns : goal.returns
returns c = answer_yes c.args.setup c.args.entries.now c.loop-index.replay c.loop-index.invariant.1 c.loop-index.index c.loop-index.invariant.0 (omega arith) (sym c.is_some.ensures ∙ c.if-is_some.false)
