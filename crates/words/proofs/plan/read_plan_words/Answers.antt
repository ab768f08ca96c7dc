use Rattle.std.proofs.Common.{◌∙◌, List, codes, refl, sym}
use Rattle.clap.specs.Matches.{found_of}
use Rattle.words.specs.Programs.{job, plan_grammar}
use Rattle.words.specs.Reading.{Text, value_of}
use Rattle.words.specs.Texts.{texts}
use Rattle.words.proofs.Plain.{passed_on, refused, taken}
use Rattle.words.proofs.Programs.{plan_plain, plan_refuses}
use Rattle.words.proofs.plan.read_plan_words.Goals as goal

pub returns-in_err-matches-clause-bad : goal.returns-in_err-matches-clause-bad
returns-in_err-matches-clause-bad c =
    let words : List Text = texts c.args.words.now in
    passed_on c.from_residual.result c.in_err-matches.field-0.0 _ c.from_residual.ensures.1
    (λ bad. refused (codes "plan") plan_grammar plan_plain (value_of job) plan_refuses words c.parse.ensures.texts (c.in_err-matches.ensures.bad bad))

pub returns-in-Some-clause-ok : goal.returns-in-Some-clause-ok
returns-in-Some-clause-ok c =
    let words : List Text = texts c.args.words.now in
    let t = taken (codes "plan") plan_grammar plan_plain (value_of job) plan_refuses words c.parse.ensures.texts (found_of c.in_ok-matches.matches) c.in_ok-matches.ensures.ok in
    t.reads ∙ sym (t.look job refl) ∙ sym c.in-Some.ensures

pub returns-clause-bad : goal.returns-clause-bad
returns-clause-bad c bad =
    let words : List Text = texts c.args.words.now in
    let t = taken (codes "plan") plan_grammar plan_plain (value_of job) plan_refuses words c.parse.ensures.texts (found_of c.in_ok-matches.matches) c.in_ok-matches.ensures.ok in
    t.reads ∙ sym (t.look job refl) ∙ sym c.in-None.ensures
