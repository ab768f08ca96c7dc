use Rattle.std.proofs.Common.{◌∙◌, List, ap, codes}
use Rattle.std.proofs.lemmas.Result.{IfErr-weaker, IfOk-weaker}
use Rattle.clap.specs.Matches.{found_of}
use Rattle.words.specs.Programs.{run_from, run_grammar, run_of}
use Rattle.words.specs.Reading.{Text}
use Rattle.words.specs.Texts.{texts}
use Rattle.words.proofs.Plain.{passed_on, refused, taken}
use Rattle.words.proofs.Programs.{journal_alike, run_plain, run_refuses}
use Rattle.words.proofs.run.read_run_words.Goals as goal

pub returns-in_err-matches-clause-bad : goal.returns-in_err-matches-clause-bad
returns-in_err-matches-clause-bad c =
    let words : List Text = texts c.args.words.now in
    passed_on c.from_residual.result c.in_err-matches.field-0.0 _ c.from_residual.ensures.1
    (λ bad. refused (codes "run") run_grammar run_plain run_of run_refuses words c.parse.ensures.texts (c.in_err-matches.ensures.bad bad))

pub returns-clause-ok : goal.returns-clause-ok
returns-clause-ok c =
    let words : List Text = texts c.args.words.now in
    let t = taken (codes "run") run_grammar run_plain run_of run_refuses words c.parse.ensures.texts (found_of c.in_ok-matches.matches) c.in_ok-matches.ensures.ok in
    let alike = journal_alike t c.get_flag.result (c.get_flag.ensures.value, c.get_flag.ensures.other) in
    IfOk-weaker c.run_from.result _ _ (λ r h. t.reads ∙ ap run_from alike ∙ h) c.run_from.ensures.ok

pub returns-clause-bad : goal.returns-clause-bad
returns-clause-bad c =
    let words : List Text = texts c.args.words.now in
    let t = taken (codes "run") run_grammar run_plain run_of run_refuses words c.parse.ensures.texts (found_of c.in_ok-matches.matches) c.in_ok-matches.ensures.ok in
    let alike = journal_alike t c.get_flag.result (c.get_flag.ensures.value, c.get_flag.ensures.other) in
    IfErr-weaker c.run_from.result _ _ (λ e h bad. t.reads ∙ ap run_from alike ∙ h) c.run_from.ensures.bad
