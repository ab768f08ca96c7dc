-- A grammar as a command of `clap`: an argument for each name, and no help of its own.
-- This project's own, in the words of `clap`'s contracts.
use Rattle.std.specs.Prelude.{◌≡◌, ◌++◌, Bool, List, [], Option, Some, None, map, true, codes, if◌then◌else◌}
use Rattle.std.specs.Str.{bytes_eq}
use Rattle.clap.specs.Walk.{Rule, rows_of}
use Rattle.clap.specs.Simple.{App, matches_of, new_rule, new_shape}
use Rattle.clap.specs.Faults.{fault_of}
use Rattle.clap.specs.declared.builder.action.ArgAction.TheVariants.{Set, SetTrue}
use Rattle.clap.specs.declared.parser.matches.Found.{Found}
use Rattle.words.specs.Reading.{Grammar, Text}
use Rattle.words.specs.Texts.{texts}
use Rattle.words.specs.declared.command.Form.{Form}
use Rattle.words.specs.declared.command.Form.TheVariants as forms
use Rattle.words.specs.declared.command.Names.{Names}

-- `--name` with a value
abbrev pub option_argument : Text → Rule
option_argument name = record (new_rule name) { long = Some name; action = Some Set }

-- `--name` without one
abbrev pub flag_argument : Text → Rule
flag_argument name = record (new_rule name) { long = Some name; action = Some SetTrue }

-- an argument of a form
abbrev pub argument_of : Form → Text → Rule
argument_of forms.Option name = option_argument name
argument_of forms.Flag name = flag_argument name
argument_of forms.Place name = new_rule name

-- the arguments of a grammar
abbrev pub arguments_for : Grammar → List Rule
arguments_for g = map option_argument g.options ++ (map flag_argument g.flags ++ map new_rule g.places)

-- the command of a program
abbrev pub app_for : Text → Grammar → App
app_for name g = record {
  top = record (new_shape name) { rules = arguments_for g; disable_help_flag = true };
  subs = [];
}

-- the grammar of these names
abbrev pub grammar_of : Names → Grammar
grammar_of names = record {
  options = texts names.options.now;
  flags = texts names.flags.now;
  places = texts names.places.now;
}

-- words in which the command finds no fault, and what it finds
abbrev pub Parses : App → List Text → Found → Type 0
Parses app words found = (fault_of app words ≡ []) × (rows_of found ≡ matches_of app words)

-- the values of names, where a flag is given or isn't: `clap` has a value for it in both cases
abbrev pub with_flag : Text → Bool → (Text → Option Text) → Text → Option Text
with_flag flag is_given look name =
    if bytes_eq flag name then (if is_given then Some (codes "true") else None) else look name
