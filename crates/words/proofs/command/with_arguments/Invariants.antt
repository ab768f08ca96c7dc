use Rattle.std.proofs.Common.{◌≡◌, map, take}
use Rattle.std.specs.List.{fold}
use Rattle.clap.specs.Words.{app_of, with_rule}
use Rattle.words.specs.Commands.{argument_of}
use Rattle.words.specs.Texts.{texts}
use Rattle.words.proofs.command.with_arguments.Given as goal

abbrev pub invariant-loop-name : goal.invariant-loop-name
invariant-loop-name l =
    app_of l.command ≡ fold with_rule (app_of l.initial.command) (map (argument_of l.form) (texts (take l.name-index l.names)))
