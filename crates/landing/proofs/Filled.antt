-- A partition that is filled row by row.
use Rattle.std.proofs.Common.{◌≡◌, ◌+◌, ◌≤◌, ◌∷◌, ◌++◌, [], ℕ, List, Option, Some, None, Bool, true, length, refl, subst, arith}
use Rattle.std.specs.Prelude.{IfSome, if◌then◌else◌}
use Rattle.std.proofs.lemmas.List.{length-append}
use Rattle.csv.specs.Records.{Row, fields_of}
use Rattle.byte_io.specs.Records.{GivesRow}
use Rattle.spill_disk.specs.Files.{Files}
use Rattle.row_form.specs.declared.form.Form.{Form}
use Rattle.run_file.specs.Writing.{IsSoFar, WriterView}
use Rattle.run_file.proofs.Among.{all_join}
use Rattle.job_plan.specs.Columns.{Fields}
use Rattle.job_plan.specs.Plans.{form_in}
use Rattle.job_plan.specs.Rows.{AreBytes}
use Rattle.landing.specs.Filling.{IsFilling}
use Rattle.landing.specs.Landed.{AreChecked}
use Rattle.landing.specs.Ruling.{Follows, IsRuled, ahead, first_refusal_in, refusal_in, row_in}
use Rattle.landing.specs.declared.fault.LandFault.{LandFault}
use Rattle.landing.specs.declared.rules.Rules.{Rules}
use Rattle.landing.proofs.Following.{follows_more, follows_read, follows_refused, follows_start}
use Rattle.landing.proofs.Keeping.{is_kept, passes}

pub checked_append : (form : Form) (first next : List Fields) → AreChecked form first → AreChecked form next → AreChecked form (first ++ next)
checked_append form first next f g = record {
  formed = all_join _ first next f.formed g.formed;
  short = all_join _ first next f.short g.short;
  bytes = all_join _ first next f.bytes g.bytes;
}

checked_one : (rules : Rules) (n : ℕ) (row : Fields) → IsRuled rules → refusal_in rules n row ≡ None → AreBytes (row_in rules n row) → AreChecked (form_in rules.plan) (row_in rules n row ∷ [])
checked_one rules n row ruled pass bytes =
    let kept = is_kept rules n row ruled pass in
    record { formed = (kept.has_form, tt); short = (kept.short, tt); bytes = (bytes, tt) }

pub filling_none : (files : Option Files) (rules : Rules) (first : ℕ) (writer : WriterView) (o : Option (List Fields))
    → IsSoFar files writer [] → first ≤ rules.max_rows → IsFilling files rules first 0 writer o o
filling_none files rules first writer o begun few = record {
  rows = [];
  so_far = begun;
  counts = refl;
  few = omega arith;
  are_checked = record { formed = tt; short = tt; bytes = tt };
  follows = follows_start rules (first + 1) o;
}

-- the row in hand is put to the others, and the next record is taken in hand
pub filling_more : (files files' : Option Files) (rules : Rules) (first count : ℕ) (writer writer' : WriterView) (before left left' : Option (List Fields)) (row row' : Row) (more more' : Bool)
    → more ≡ true → IsRuled rules → IsFilling files rules first count writer before (ahead more row left)
    → refusal_in rules (first + count + 1) (fields_of row) ≡ None → AreBytes (row_in rules (first + count + 1) (fields_of row))
    → ((rows : List Fields) → IsSoFar files writer rows → IsSoFar files' writer' (rows ++ row_in rules (first + count + 1) (fields_of row) ∷ []))
    → GivesRow left left' (if more' then Some row' else None)
    → IsFilling files' rules first (count + 1) writer' before (ahead more' row' left')
filling_more files files' rules first count writer writer' before left left' row row' more more' is ruled f pass bytes put given =
    let n = first + count + 1 in
    let new = row_in rules n (fields_of row) in
    let at : n ≡ first + 1 + length f.rows = omega (arith, f.counts) in
    let few = (passes rules.heads.items rules.count rules.max_rows n (fields_of row) pass).few in
    let hand = subst (λ (b : Bool). Follows rules (first + 1) f.rows before (ahead b row left)) is f.follows in
    record {
      rows = f.rows ++ new ∷ [];
      so_far = put f.rows f.so_far;
      counts = omega (arith, f.counts, length-append f.rows (new ∷ []));
      few = omega (arith, few);
      are_checked = checked_append (form_in rules.plan) f.rows (new ∷ []) f.are_checked (checked_one rules n (fields_of row) ruled pass bytes);
      follows = follows_read rules (first + 1) (f.rows ++ new ∷ []) before left left' more' row' (follows_more rules (first + 1) n f.rows before left row at hand pass) given;
    }

-- the row in hand is refused
pub filling_refused : (files : Option Files) (rules : Rules) (first count : ℕ) (writer : WriterView) (before left : Option (List Fields)) (row : Row) (more : Bool) (why : LandFault)
    → more ≡ true → IsFilling files rules first count writer before (ahead more row left) → refusal_in rules (first + count + 1) (fields_of row) ≡ Some why
    → IfSome before (λ rows. first_refusal_in rules (first + 1) rows ≡ Some why)
filling_refused files rules first count writer before left row more why is f refused =
    let hand = subst (λ (b : Bool). Follows rules (first + 1) f.rows before (ahead b row left)) is f.follows in
    follows_refused rules (first + 1) (first + count + 1) f.rows before left row why (omega (arith, f.counts)) hand refused
