use Rattle.std.proofs.Common.{◌∙◌, List, Some, ap, codes, drop, is_some}
use Rattle.clap.specs.Matches.{found_of}
use Rattle.words.specs.Programs.{audit_grammar}
use Rattle.words.specs.Reading.{Text, given}
use Rattle.words.specs.Texts.{texts}
use Rattle.words.proofs.Plain.{passed_on, refused, taken}
use Rattle.words.proofs.Programs.{as_it_is, audit_plain, audit_refuses}
use Rattle.words.proofs.audit.read_audit_words.Goals as goal

pub returns-in_err-_matches-clause-bad : goal.returns-in_err-_matches-clause-bad
returns-in_err-_matches-clause-bad c =
    let words : List Text = texts c.args.words.now in
    passed_on c.from_residual.result c.in_err-_matches.field-0.0 _ c.from_residual.ensures.1
    (λ bad. ap is_some (as_it_is (given audit_grammar (drop 1 words))
    ∙ refused (codes "audit") audit_grammar audit_plain (λ us. Some us) audit_refuses words c.parse.ensures.texts (c.in_err-_matches.ensures.bad bad)))

pub returns-clause-ok : goal.returns-clause-ok
returns-clause-ok c =
    let words : List Text = texts c.args.words.now in
    let t = taken (codes "audit") audit_grammar audit_plain (λ us. Some us) audit_refuses words c.parse.ensures.texts (found_of c.in_ok-_matches._matches) c.in_ok-_matches.ensures.ok in
    ap is_some (as_it_is (given audit_grammar (drop 1 words)) ∙ t.reads)
