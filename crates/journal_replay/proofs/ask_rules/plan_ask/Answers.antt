use Rattle.std.proofs.Common.{ap, sym, ◌∙◌}
use Rattle.pool_ledger.specs.History.{History}
use Rattle.pool_ledger.specs.Answers.{answer}
use Rattle.journal_replay.specs.Replays.{history_of, setup_of}
use Rattle.journal_replay.proofs.TurnsKept.{open_base}
use Rattle.journal_replay.proofs.ask_rules.plan_ask.Goals as goal

pub plan_attempt-requires-clause-its_task : goal.plan_attempt-requires-clause-its_task
plan_attempt-requires-clause-its_task c =
    (c.args.worker, open_base c.args.replay.now.turns (history_of c.args.replay.now) c.requires.tells.turns c.args.worker ∙ c.requires.its_task)

pub returns-then-room-eq0-clause-got : goal.returns-then-room-eq0-clause-got
returns-then-room-eq0-clause-got c =
    c.plan_attempt.ensures.got ∙ ap (λ (h : History). answer (setup_of c.args.replay.now) h c.args.task c.args.asked) (sym c.requires.tells.turns.base)

pub plan_evicting-requires-clause-its_task : goal.plan_evicting-requires-clause-its_task
plan_evicting-requires-clause-its_task c =
    (c.args.worker, open_base c.args.replay.now.turns (history_of c.args.replay.now) c.requires.tells.turns c.args.worker ∙ c.requires.its_task)

pub returns-clause-got : goal.returns-clause-got
returns-clause-got c =
    c.plan_evicting.ensures.got ∙ ap (λ (h : History). answer (setup_of c.args.replay.now) h c.args.task c.args.asked) (sym c.requires.tells.turns.base)
