-- The verdict of bytes that were all that an input had left.
use Rattle.std.proofs.Common.{◌≡◌, ℕ, ◌++◌, List, Option, Some, None, sym, ap, subst, ◌∙◌, append-nil}
use Rattle.journal_replay.specs.Verdicts.{IsVerdict}
use Rattle.journal_replay.specs.declared.verdict.Verdict.{Verdict}
use Rattle.audit_program.specs.Calls.{IsVerdictOf, ReadsAll}

pub verdict_of_all : (before after : Option (List ℕ)) (bytes : List ℕ) (verdict : Verdict) → ReadsAll before after bytes → IsVerdict bytes verdict → IsVerdictOf before verdict
verdict_of_all None after bytes verdict reads is = tt
verdict_of_all (Some all) None bytes verdict reads is = absurd reads.taken
verdict_of_all (Some all) (Some left) bytes verdict reads is =
    let same : all ≡ bytes = reads.taken ∙ ap (λ (l : List ℕ). bytes ++ l) reads.end ∙ append-nil bytes in
    subst (λ (l : List ℕ). IsVerdict l verdict) (sym same) is
