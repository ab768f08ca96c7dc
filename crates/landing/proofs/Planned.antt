-- A header, and the plan of a job over it.
use Rattle.std.proofs.Common.{◌≡◌, ◌∷◌, List, [], Option, Some, None, false, refl}
use Rattle.std.specs.Prelude.{IfSome}
use Rattle.csv.specs.Records.{Row, fields_of}
use Rattle.byte_io.specs.Records.{GivesRow}
use Rattle.job_text.specs.declared.job.Job.{Job}
use Rattle.job_plan.specs.Columns.{Fields}
use Rattle.landing.specs.Checks.{Refused, checked, first_refusal, is_too_long}
use Rattle.landing.specs.Headers.{IsPlanOver, checked_header}
use Rattle.landing.specs.Ruling.{AreRules}
use Rattle.landing.specs.declared.fault.LandFault.{LandFault}
use Rattle.landing.specs.declared.rules.Rules.{Rules as RulesOf}

pub known_plan : (job : Job) (rules : RulesOf) (before after : Option (List Fields)) (header : Row) → GivesRow before after (Some header) → AreRules job (fields_of header) rules → is_too_long (fields_of header) ≡ false
    → IfSome before (IsPlanOver job rules.plan)
unfolding first_refusal
known_plan job rules None after header given are short = tt
known_plan job rules (Some records) None header given are short = absurd given
known_plan job rules (Some records) (Some rows) header given are short = record {
  header = fields_of header;
  passed = rw (given, short, are.planned.found) refl;
  planned = are.planned;
}

pub refused_plan : (job : Job) (before after : Option (List Fields)) (header : Row) (why : LandFault) → GivesRow before after (Some header)
    → ((rows : List Fields) → checked job 0 (fields_of header ∷ rows) ≡ Refused why) → IfSome before (λ records. checked_header job records ≡ Refused why)
refused_plan job None after header why given refused = tt
refused_plan job (Some records) None header why given refused = absurd given
refused_plan job (Some records) (Some rows) header why given refused = rw given (refused [])
