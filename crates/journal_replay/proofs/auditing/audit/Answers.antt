use Rattle.std.proofs.Common.{◌≡◌, List, ℕ}
use Rattle.std.specs.Prelude.{Result, Ok, Err, IfOk}
use Rattle.journal_replay.specs.Verdicts.{IsVerdict}
use Rattle.journal_replay.specs.declared.verdict.Verdict.{Verdict}
use Rattle.journal_replay.proofs.OneVerdict.{one_verdict}
use Rattle.journal_replay.proofs.auditing.audit.Goals as goal

only_one : {E : Type 0} (text : List ℕ) (result : Result Verdict E) → IfOk result (IsVerdict text) → IfOk result (λ told. (verdict : Verdict) → IsVerdict text verdict → told ≡ verdict)
only_one text (Ok told) is = λ verdict also. one_verdict text told verdict is also
only_one text (Err failed) is = tt

pub returns-clause-only : goal.returns-clause-only
returns-clause-only c = only_one c.args.text.now c.read_and_replay.result c.read_and_replay.ensures
