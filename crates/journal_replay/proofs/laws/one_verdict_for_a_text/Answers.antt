use Rattle.std.proofs.Common.{refl}
use Rattle.std.proofs.lemmas.List.Elements.{All-weaker}
use Rattle.journal_audit.specs.declared.version.Version.TheVariants.{Second}
use Rattle.journal_audit.specs.Text.{Fits, FitsIn}
use Rattle.journal_audit.proofs.Journals.{in_second}
use Rattle.journal_replay.proofs.OneVerdict.{one_verdict}
use Rattle.journal_replay.proofs.laws.one_verdict_for_a_text.Goals as goal

pub returns-clause-one : goal.returns-clause-one
returns-clause-one c = one_verdict

pub returns-clause-legal : goal.returns-clause-legal
returns-clause-legal c = λ setup entries is_setup fits legal. record {
  setup = setup;
  entries = entries;
  of = record { version = Second; setup_is = is_setup; fits = All-weaker Fits (FitsIn Second) in_second entries fits; text_is = refl };
  answer = (legal, refl);
}

pub returns-clause-versions : goal.returns-clause-versions
returns-clause-versions c = λ version setup entries is_setup fits legal.
    record { setup = setup; entries = entries; of = record { version = version; setup_is = is_setup; fits = fits; text_is = refl }; answer = (legal, refl) }
