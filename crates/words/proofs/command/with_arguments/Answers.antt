use Rattle.std.proofs.Common.{◌∙◌, sym, ap₂}
use Rattle.clap.specs.Words.{app_of, with_rule}
use Rattle.words.proofs.AddedRules.{one_rule_more}
use Rattle.words.proofs.command.with_arguments.Goals as goal

pub loop-name-preserved : goal.loop-name-preserved
loop-name-preserved c =
    c.in_ok-command.ensures.shape c.argument.ensures.local ∙ ap₂ with_rule c.loop-name.invariant c.argument.ensures.rule
    ∙ sym (one_rule_more (app_of c.args.command) c.args.form c.args.names.now c.loop-name.name-index _ c.loop-name-test.true)
