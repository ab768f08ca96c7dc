-- A command that takes argument after argument has their rules, behind its own.
use Rattle.std.proofs.Common.{◌≡◌, ◌∙◌, ◌<◌, ◌+◌, ◌++◌, ℕ, zero, suc, refl, sym, ap, List, [], ◌∷◌, map, length, take, get_or, arith, subst, append_assoc, append-nil, true}
use Rattle.std.specs.List.{fold}
use Rattle.std.specs.Borrow.{Bor}
use Rattle.clap.specs.Walk.{Rule}
use Rattle.clap.specs.Simple.{App, new_shape, with_rule}
use Rattle.words.specs.Commands.{app_for, argument_of}
use Rattle.words.specs.Reading.{Grammar, Text}
use Rattle.words.specs.Texts.{texts}
use Rattle.words.specs.declared.command.Form.{Form}
use Rattle.words.specs.declared.command.Form.TheVariants as forms

-- what a command has behind the first names
abbrev added : App → Form → List (Bor Text) → App
added app form names = fold with_rule app (map (argument_of form) (texts names))

next_rule : (app : App) (form : Form) (names : List (Bor Text)) (i : ℕ) (d : Bor Text) → i < length names
    → added app form (take (suc i) names) ≡ with_rule (added app form (take i names)) (argument_of form (get_or names i d).now)
next_rule app form [] i d lt = absurd (omega arith)
next_rule app form (n ∷ ns) zero d lt = refl
next_rule app form (n ∷ ns) (suc i) d lt = next_rule (with_rule app (argument_of form n.now)) form ns i d (omega arith)

pub one_rule_more : (app : App) (form : Form) (names : List (Bor Text)) (i : ℕ) (d : Bor Text) → i < length names
    → added app form (take (i + 1) names) ≡ with_rule (added app form (take i names)) (argument_of form (get_or names i d).now)
one_rule_more app form names i d lt =
    let e : suc i ≡ i + 1 = omega arith in
    subst (λ k. added app form (take k names) ≡ with_rule (added app form (take i names)) (argument_of form (get_or names i d).now)) e
    (next_rule app form names i d lt)

-- a command with these rules behind its own
abbrev pub with_rules : App → List Rule → App
with_rules app rules = record app { top = record app.top { rules = app.top.rules ++ rules } }

pub fold_with_rule : (app : App) (rules : List Rule) → fold with_rule app rules ≡ with_rules app rules
fold_with_rule app [] = ap (λ rs. record app { top = record app.top { rules = rs } }) (sym (append-nil app.top.rules))
fold_with_rule app (r ∷ rs) =
    fold_with_rule (with_rule app r) rs
    ∙ ap (λ all. record app { top = record app.top { rules = all } }) (append_assoc app.top.rules (r ∷ []) rs)

-- the command of a program, in three steps
pub whole_command : (program : Text) (g : Grammar) (start one two three : App)
    → start ≡ app_for program (record { options = []; flags = []; places = [] })
    → one ≡ fold with_rule start (map (argument_of forms.Option) g.options)
    → two ≡ fold with_rule one (map (argument_of forms.Flag) g.flags)
    → three ≡ fold with_rule two (map (argument_of forms.Place) g.places)
    → three ≡ app_for program g
whole_command program g start one two three begun options flags places =
    let os = map (argument_of forms.Option) g.options in
    let fs = map (argument_of forms.Flag) g.flags in
    let ps = map (argument_of forms.Place) g.places in
    let first : one ≡ with_rules (app_for program (record { options = []; flags = []; places = [] })) os =
    options ∙ fold_with_rule start os ∙ ap (λ a. with_rules a os) begun in
    let second = flags ∙ fold_with_rule one fs ∙ ap (λ a. with_rules a fs) first in
    places ∙ fold_with_rule two ps ∙ ap (λ a. with_rules a ps) second
    ∙ ap (λ rs. record { top = record (new_shape program) { rules = rs; disable_help_flag = true }; subs = [] }) (append_assoc os fs ps)
