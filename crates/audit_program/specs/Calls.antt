-- What a call of `audit` is for, and what it prints.
-- This project's own.
use Rattle.std.specs.Prelude.{◌≡◌, ◌⊎◌, ℕ, Bool, false, List, [], ◌∷◌, ◌++◌, Option, Some, None, IfSome, codes, decimal, ⊤}
use Rattle.std.specs.Option.{option_map_or}
use Rattle.std.specs.Io.KnownBytes.{Consumes, IsAtEnd, Keeps}
use Rattle.byte_io.specs.Sinks.{AppendsPrefix}
use Rattle.journal_audit.specs.declared.rules.Rule.{Rule}
use Rattle.journal_audit.specs.declared.rules.Rule.TheVariants as rule
use Rattle.journal_replay.specs.Verdicts.{IsVerdict}
use Rattle.journal_replay.specs.declared.verdict.Verdict.{Verdict}
use Rattle.journal_replay.specs.declared.verdict.Verdict.TheVariants.{Yes, No, BadLine}
use Rattle.words.specs.Calls.{behind_first}
use Rattle.words.specs.Programs.{audit_words}
use Rattle.audit_program.specs.declared.status.AuditStatus.{AuditStatus}
use Rattle.audit_program.specs.declared.status.AuditStatus.TheVariants as status

-- whether the words are a call of `audit`: the first one is its name, and the others are words of it
abbrev pub is_audit : List (List ℕ) → Bool
is_audit words = option_map_or audit_words (behind_first (codes "audit") words) false

-- the status of a verdict
abbrev pub status_of : Verdict → AuditStatus
status_of (Yes events) = status.Yes events
status_of (No event broken) = status.No event broken
status_of (BadLine line) = status.BadLine line

-- the number that the process ends with
abbrev pub number_of : AuditStatus → ℕ
number_of (status.Yes events) = 0
number_of status.BadWords = 2
number_of status.ReadFault = 13
number_of status.WriteFault = 14
number_of status.NoMemory = 18
number_of (status.No event broken) = 20
number_of (status.BadLine line) = 21

-- the word of a rule
abbrev pub rule_word : Rule → List ℕ
rule_word rule.Worker = codes "worker"
rule_word rule.Pending = codes "pending"
rule_word rule.Task = codes "task"
rule_word rule.Asked = codes "asked"
rule_word rule.Block = codes "block"
rule_word rule.Pin = codes "pin"
rule_word rule.Victims = codes "victims"
rule_word rule.Growth = codes "growth"
rule_word rule.Share = codes "share"
rule_word rule.Store = codes "store"
rule_word rule.Freed = codes "freed"
rule_word rule.Grow = codes "grow"

-- the line of a verdict, without its line feed
abbrev pub verdict_text : Verdict → List ℕ
verdict_text (Yes events) = codes "yes " ++ decimal events
verdict_text (No event broken) = codes "no " ++ decimal event ++ (32 ∷ rule_word broken)
verdict_text (BadLine line) = codes "bad line " ++ decimal line

-- the line of a verdict
abbrev pub line_of : Verdict → List ℕ
line_of verdict = verdict_text verdict ++ 10 ∷ []

-- the verdict that a status is of
abbrev pub verdict_in : AuditStatus → Option Verdict
verdict_in (status.Yes events) = Some (Yes events)
verdict_in (status.No event broken) = Some (No event broken)
verdict_in (status.BadLine line) = Some (BadLine line)
verdict_in _ = None

-- P of its verdict, where a status is of one
abbrev pub IfVerdict : AuditStatus → (Verdict → Type 0) → Type 0
IfVerdict ended P = IfSome (verdict_in ended) P

-- the verdict is that of the bytes, where they are known
abbrev pub IsVerdictOf : Option (List ℕ) → Verdict → Type 0
IsVerdictOf left verdict = IfSome left (λ bytes. IsVerdict bytes verdict)

-- what was written grew by a part of the line of a verdict of the input, from the front
pub record PrintsPart (left before after : Option (List ℕ)) : Type 0 where
  pub verdict : Verdict
  pub is : IsVerdictOf left verdict
  pub printed : AppendsPrefix before after (line_of verdict)

-- such a part, or nothing
abbrev pub MayPrint : Option (List ℕ) → Option (List ℕ) → Option (List ℕ) → Type 0
MayPrint left before after = Keeps before after ⊎ PrintsPart left before after

-- a failed write of the output, or want of memory: a part of the line may be written
abbrev pub IsCut : AuditStatus → Type 0
IsCut status.WriteFault = ⊤
IsCut status.NoMemory = ⊤
IsCut _ = ⊥

-- faulty words, or a failed read of the input: nothing is written
abbrev pub PrintsNothing : AuditStatus → Type 0
PrintsNothing status.BadWords = ⊤
PrintsNothing status.ReadFault = ⊤
PrintsNothing _ = ⊥

-- known bytes were these, and none is left
pub record ReadsAll (before after : Option (List ℕ)) (bytes : List ℕ) : Type 0 where
  pub taken : Consumes before after bytes
  pub end : IsAtEnd after

-- words are refused as no call of `audit`, or for want of memory
abbrev pub RefusesWords : Bool → AuditStatus → Type 0
RefusesWords asked ended = ((ended ≡ status.BadWords) × (asked ≡ false)) ⊎ (ended ≡ status.NoMemory)

-- the print of a verdict ends with its status, or is cut
abbrev pub EndsPrint : Verdict → AuditStatus → Type 0
EndsPrint verdict ended = (ended ≡ status_of verdict) ⊎ IsCut ended
