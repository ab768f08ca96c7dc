-- A header and the rows below it: what the checks of a job make of them.
use Rattle.std.proofs.Common.{◌≡◌, ◌+◌, ◌∷◌, ◌∙◌, [], ℕ, List, Option, Some, None, false, length, refl, sym, ap, arith}
use Rattle.std.specs.Prelude.{IfSome, IfErr, IsErrOf, Result, Ok, Err, option_map}
use Rattle.csv.specs.Records.{Row, fields_of}
use Rattle.byte_io.specs.Records.{GivesRow}
use Rattle.spill_disk.specs.Files.{Files}
use Rattle.run_file.specs.declared.run.Run.{Run}
use Rattle.row_form.specs.declared.number_list.NumberPlace.{NumberPlace}
use Rattle.job_text.specs.declared.job.Job.{Job}
use Rattle.job_plan.specs.Columns.{Fields}
use Rattle.landing.specs.Checks.{Refused, checked, first_of_two, first_refusal, is_too_long, number_heads, refusal_of}
use Rattle.landing.specs.Explaining.{Explains, FailsAmong}
use Rattle.landing.specs.Filling.{LandsRows}
use Rattle.landing.specs.Landed.{PassChecks, HasCauseAmong, IsOfInput, Lands}
use Rattle.landing.specs.Ruling.{ArePassed, AreRules, first_refusal_in, refusal_by, refusal_in}
use Rattle.landing.specs.declared.fault.LandFault.{LandFault}
use Rattle.landing.specs.declared.fault.LandFault.TheVariants.{NoHeader, NoColumn, Ragged, RowTooLong, BadNumber, TooManyRows, ReadFault, DiskFault, NoMemory}
use Rattle.landing.specs.declared.rules.Rules.{Rules}

-- ---- the rules refuse what the checks refuse

same_refusal : (job : Job) (header : Fields) (max_rows : ℕ) (rules : Rules) (n : ℕ) (row : Fields) → AreRules job header rules → rules.max_rows ≡ max_rows → refusal_of job header max_rows n row ≡ refusal_in rules n row
same_refusal job header max_rows rules n row are most =
    sym (ap (λ (heads : List NumberPlace). refusal_by heads rules.count rules.max_rows n row) are.heads
    ∙ ap (λ (count : ℕ). refusal_by (number_heads job header) count rules.max_rows n row) are.count
    ∙ ap (λ (top : ℕ). refusal_by (number_heads job header) (length header) top n row) most)

same_first : (job : Job) (header : Fields) (max_rows : ℕ) (rules : Rules) (n : ℕ) (rows : List Fields) → AreRules job header rules → rules.max_rows ≡ max_rows → first_refusal job header max_rows n rows ≡ first_refusal_in rules n rows
unfolding first_refusal first_refusal_in
same_first job header max_rows rules n [] are most = refl
same_first job header max_rows rules n (row ∷ rows) are most =
    ap (λ (why : Option LandFault). first_of_two why (first_refusal job header max_rows (n + 1) rows)) (same_refusal job header max_rows rules n row are most)
    ∙ ap (first_of_two (refusal_in rules n row)) (same_first job header max_rows rules (n + 1) rows are most)

-- ---- what is refused

pub refused_header : (job : Job) (max_rows : ℕ) (before after : Option (List Fields)) (header : Row) (why : LandFault) → GivesRow before after (Some header)
    → ((rows : List Fields) → checked job max_rows (fields_of header ∷ rows) ≡ Refused why) → IfSome before (λ records. checked job max_rows records ≡ Refused why)
refused_header job max_rows None after header why given refused = tt
refused_header job max_rows (Some records) None header why given refused = absurd given
refused_header job max_rows (Some records) (Some rows) header why given refused = rw given (refused rows)

pub refused_below : (job : Job) (max_rows : ℕ) (rules : Rules) (before after : Option (List Fields)) (header : Row) (why : LandFault)
    → GivesRow before after (Some header) → AreRules job (fields_of header) rules → rules.max_rows ≡ max_rows → is_too_long (fields_of header) ≡ false
    → IfSome after (λ rows. first_refusal_in rules 1 rows ≡ Some why) → IfSome before (λ records. checked job max_rows records ≡ Refused why)
refused_below job max_rows rules None after header why given are most short refused = tt
refused_below job max_rows rules (Some records) None header why given are most short refused = absurd given
refused_below job max_rows rules (Some records) (Some rows) header why given are most short refused =
    let first = same_first job (fields_of header) max_rows rules 1 rows are most ∙ refused in
    rw (given, short, are.planned.found, first) refl

-- ---- what is landed

known_rows : (job : Job) (max_rows : ℕ) (rules : Rules) (landed : List Fields) (before after : Option (List Fields)) (header : Row)
    → GivesRow before after (Some header) → AreRules job (fields_of header) rules → rules.max_rows ≡ max_rows → is_too_long (fields_of header) ≡ false
    → IfSome after (ArePassed rules 1 landed) → IfSome before (PassChecks job max_rows rules.plan landed)
known_rows job max_rows rules landed None after header given are most short passed = tt
known_rows job max_rows rules landed (Some records) None header given are most short passed = absurd given
known_rows job max_rows rules landed (Some records) (Some rows) header given are most short passed =
    let first = same_first job (fields_of header) max_rows rules 1 rows are most ∙ passed.pass in
    record {
      header = fields_of header;
      rows = rows;
      passed = rw (given, short, are.planned.found, first) refl;
      planned = are.planned;
      landed_are = passed.are;
    }

pub lands_all : (files : ℕ → Option Files) (job : Job) (max_rows part_rows workers : ℕ) (rules : Rules) (parts : List Run) (count : ℕ) (before after : Option (List Fields)) (header : Row)
    → GivesRow before after (Some header) → AreRules job (fields_of header) rules → rules.max_rows ≡ max_rows → is_too_long (fields_of header) ≡ false
    → LandsRows files rules part_rows workers parts count after → Lands files job max_rows part_rows workers rules.plan parts count before
lands_all files job max_rows part_rows workers rules parts count before after header given are most short l = record {
  header = fields_of header;
  planned = are.planned;
  rows = l.rows;
  counts = l.counts;
  few = omega (arith, l.few, most);
  are_checked = l.are_checked;
  are_landed = l.are_landed;
  are_short = l.are_short;
  are_known = known_rows job max_rows rules l.rows before after header given are most short l.are_known;
}

-- ---- why it gave up

pub explained_refused : {T : Type 0} (R : LandFault → Type 0) (Q : Type 0) (D : ℕ → Type 0) (r : Result T LandFault) (why : LandFault) → IfErr r (Explains R Q D) → IsOfInput why → IsErrOf r why → R why
explained_refused R Q D (Ok x) why h input is = cc is
explained_refused R Q D (Err e) why h input is = go e why h input (cc is)
  where
    go : (e why : LandFault) → Explains R Q D e → IsOfInput why → e ≡ why → R why
    go e NoHeader h input is = rw is at h
    go e (NoColumn column) h input is = rw is at h
    go e (Ragged row) h input is = rw is at h
    go e (RowTooLong row) h input is = rw is at h
    go e (BadNumber row column) h input is = rw is at h
    go e TooManyRows h input is = rw is at h
    go e ReadFault h input is = absurd input
    go e (DiskFault disk) h input is = absurd input
    go e NoMemory h input is = absurd input

pub explained_read : {T : Type 0} (R : LandFault → Type 0) (Q : Type 0) (D : ℕ → Type 0) (r : Result T LandFault) → IfErr r (Explains R Q D) → IsErrOf r ReadFault → Q
explained_read R Q D (Ok x) h is = cc is
explained_read R Q D (Err e) h is = let same : e ≡ ReadFault = cc is in rw same at h

pub explained_cause : {T : Type 0} (R : LandFault → Type 0) (Q : Type 0) (workers : ℕ) (before now : ℕ → ℕ) (r : Result T LandFault) → IfErr r (Explains R Q (FailsAmong workers before now)) → IfErr r (HasCauseAmong workers before now)
explained_cause R Q workers before now (Ok x) h = tt
explained_cause R Q workers before now (Err NoHeader) h = tt
explained_cause R Q workers before now (Err (NoColumn column)) h = tt
explained_cause R Q workers before now (Err (Ragged row)) h = tt
explained_cause R Q workers before now (Err (RowTooLong row)) h = tt
explained_cause R Q workers before now (Err (BadNumber row column)) h = tt
explained_cause R Q workers before now (Err TooManyRows) h = tt
explained_cause R Q workers before now (Err ReadFault) h = tt
explained_cause R Q workers before now (Err (DiskFault disk)) h = h
explained_cause R Q workers before now (Err NoMemory) h = tt

-- bytes that are known are the records of these bytes
pub of_bytes : (rows_of : List ℕ → List Fields) (o : Option (List ℕ)) (P : List Fields → Type 0) → IfSome (option_map rows_of o) P → IfSome o (λ bytes. P (rows_of bytes))
of_bytes rows_of None P h = tt
of_bytes rows_of (Some bytes) P h = h
