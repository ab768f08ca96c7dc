use Rattle.std.proofs.Common.{ℕ, List, subst}
use Rattle.journal_replay.specs.Verdicts.{IsVerdict}
use Rattle.audit_program.proofs.WholeInput.{verdict_of_all}
use Rattle.audit_program.proofs.call.read_verdict.Goals as goal

pub returns-in-Ok-clause-ok : goal.returns-in-Ok-clause-ok
returns-in-Ok-clause-ok g c =
    verdict_of_all (g.S.Source.left c.args.input.now) (g.S.Source.left c.read_all.new.input) c.in_ok-bytes.bytes.items c.in-Ok.verdict c.in_ok-bytes.ensures.ok
    (subst (λ (bytes : List ℕ). IsVerdict bytes c.in-Ok.verdict) c.deref.ensures.value c.in-Ok.ensures.verdict)
