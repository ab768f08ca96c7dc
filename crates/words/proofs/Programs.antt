-- The grammars of the programs: their commands are plain, and no value that begins with `-` comes to a reading.
use Rattle.std.proofs.Common.{◌≡◌, ◌∙◌, ◌&&◌, ◌++◌, Bool, cond, codes, true, false, not, refl, ap, List, [], ◌∷◌, Option, Some, None, option_map, map}
use Rattle.std.proofs.lemmas.List.Folds.{list_all-append}
use Rattle.std.proofs.Math.Bool.{and-false}
use Rattle.std.specs.Prelude.{option_and_then}
use Rattle.std.specs.List.{list_all}
use Rattle.clap.specs.Matches.{first_value}
use Rattle.clap.specs.declared.parser.matches.Found.{Found}
use Rattle.words.specs.Reading.{Text, value_of}
use Rattle.words.specs.Commands.{with_flag}
use Rattle.words.specs.Numbers.{fits, is_number}
use Rattle.words.specs.Options.{max_rows_option, work_options}
use Rattle.words.specs.Programs.{audit_grammar, job, journal_flag, plan_grammar, row_count, run_from, run_grammar, run_of, run_values, trial_from, trial_grammar, trial_of, trial_values}
use Rattle.words.proofs.Grammars.{is_option, place_rules}
use Rattle.words.proofs.Rules.{option_rule}
use Rattle.words.proofs.Literal.{unfit}
use Rattle.words.proofs.FlagValues.{AnswersFlag, flag_alike, flag_value}
use Rattle.words.proofs.Plain.{Plain, Refuses, Taken, plain_of}

pub run_plain : Plain (codes "run") run_grammar
run_plain = plain_of (codes "run") run_grammar (λ c. refl) (refl, refl, refl) refl (λ n rows. refl) refl (λ words. refl)

pub trial_plain : Plain (codes "trial") trial_grammar
trial_plain = plain_of (codes "trial") trial_grammar (λ c. refl) (refl, refl, refl) refl (λ n rows. refl) refl (λ words. refl)

pub plan_plain : Plain (codes "plan") plan_grammar
plan_plain = plain_of (codes "plan") plan_grammar (λ c. refl) (refl, refl, refl) refl (λ n rows. refl) refl (λ words. refl)

pub audit_plain : Plain (codes "audit") audit_grammar
audit_plain = plain_of (codes "audit") audit_grammar (λ c. refl) refl refl (λ n rows. refl) refl (λ words. refl)

-- ---- values that begin with `-`

pub unfit_work : (look : Text → Option Text) → list_all (fits look) work_options ≡ false → list_all (fits look) (work_options ++ max_rows_option ∷ []) ≡ false
unfit_work look e =
    list_all-append (fits look) work_options (max_rows_option ∷ []) ∙ ap (λ b. b && list_all (fits look) (max_rows_option ∷ [])) e

pub unfit_max_rows : (look : Text → Option Text) → fits look max_rows_option ≡ false → list_all (fits look) (work_options ++ max_rows_option ∷ []) ≡ false
unfit_max_rows look e =
    list_all-append (fits look) work_options (max_rows_option ∷ [])
    ∙ ap (λ b. list_all (fits look) work_options && (b && true)) e ∙ and-false (list_all (fits look) work_options)

pub unfit_run : (look : Text → Option Text) → list_all (fits look) (work_options ++ max_rows_option ∷ []) ≡ false → run_from look ≡ None
unfit_run look e = go (look job)
  where
    go : (o : Option Text) → option_and_then (λ text. cond (list_all (fits look) (work_options ++ max_rows_option ∷ [])) (Some (run_values look text)) None) o ≡ None
    go None = refl
    go (Some text) = ap (λ b. cond b (Some (run_values look text)) None) e

pub run_refuses : Refuses run_grammar run_of
run_refuses r u bad found =
    unfit_run (λ n. value_of n r)
    (unfit (work_options ++ max_rows_option ∷ []) r u.name u.value (is_option run_grammar u.name bad.option) (ap (option_map (λ v. v.value)) found) bad.dash)

unfit_trial : (look : Text → Option Text) → list_all (fits look) work_options ≡ false → trial_from look ≡ None
unfit_trial look e = go (look row_count)
  where
    inner : (b : Bool) (text : Text) → cond b (cond (list_all (fits look) work_options) (Some (trial_values look text)) None) None ≡ None
    inner true text = ap (λ b. cond b (Some (trial_values look text)) None) e
    inner false text = refl

    go : (o : Option Text) → option_and_then (λ text. cond (is_number 1 1000000 text) (cond (list_all (fits look) work_options) (Some (trial_values look text)) None) None) o ≡ None
    go None = refl
    go (Some text) = inner (is_number 1 1000000 text) text

pub trial_refuses : Refuses trial_grammar trial_of
trial_refuses r u bad found =
    unfit_trial (λ n. value_of n r)
    (unfit work_options r u.name u.value (is_option trial_grammar u.name bad.option) (ap (option_map (λ v. v.value)) found) bad.dash)

pub plan_refuses : Refuses plan_grammar (value_of job)
plan_refuses r u bad found = let k = bad.option in let no : ⊥ = cc k in absurd no

pub audit_refuses : Refuses audit_grammar (λ us. Some us)
audit_refuses r u bad found = let k = bad.option in let no : ⊥ = cc k in absurd no

pub as_it_is : {X : Type 0} (o : Option X) → o ≡ option_and_then (λ x. Some x) o
as_it_is None = refl
as_it_is (Some x) = refl

-- ---- the flag

-- the values that the words of a run give are those of the parse, and of `--journal` by its answer for the flag
pub journal_alike : {words : List Text} {found : Found} (t : Taken run_grammar run_of words found) (given : Bool) → AnswersFlag found journal_flag given
    → (λ (n : Text). value_of n t.uses) ≡ with_flag journal_flag given (first_value found)
journal_alike t given answers =
    flag_alike t journal_flag given
    (flag_value t journal_flag given (map option_rule run_grammar.options) (place_rules 1 run_grammar.places) refl (refl, tt) refl refl refl answers)
    (λ m other. ap (λ b. not b && true) other)
