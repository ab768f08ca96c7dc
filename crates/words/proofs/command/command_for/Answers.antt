use Rattle.std.proofs.Common.{◌≡◌, ◌∙◌, [], ap, true}
use Rattle.std.proofs.lemmas.Result.{IfOk-weaker}
use Rattle.clap.specs.Words.{App, app_of}
use Rattle.clap.specs.Simple.{app_of_fields}
use Rattle.words.specs.Commands.{app_for, grammar_of}
use Rattle.words.proofs.AddedRules.{whole_command}
use Rattle.words.proofs.command.command_for.Goals as goal

pub returns : goal.returns
returns c =
    let start : app_of c.disable_help_flag-command.result ≡ app_for c.args.program.now (record { options = []; flags = []; places = [] }) =
    ap app_of_fields c.disable_help_flag-command.ensures ∙ ap (λ (a : App). record a { top = record a.top { disable_help_flag = true } }) c.new.ensures.app in
    IfOk-weaker c.with_arguments-3.result _ _
    (λ r h. whole_command c.args.program.now (grammar_of c.args.names) _ _ _ (app_of r) start c.in_ok-command.ensures c.in_ok-command-2.ensures h)
    c.with_arguments-3.ensures
