-- Partitions that are landed one after another.
use Rattle.std.proofs.Common.{◌≡◌, ◌+◌, ◌-◌, ◌*◌, ◌/◌, ◌%◌, ◌≤◌, ◌<◌, ◌∷◌, ◌++◌, ◌∙◌, [], ℕ, List, Option, Some, None, Bool, true, false, length, take, drop, refl, sym, ap, subst, inl, inr, arith, length-append, length-drop}
use Rattle.std.specs.Prelude.{IsSome, IfSome, is_some}
use Rattle.std.specs.List.{AllByRecursion}
use Rattle.std.proofs.Math.Nat.{mul-le-mul_right}
use Rattle.std.proofs.Math.Seq.{drop-append_seam}
use Rattle.std.proofs.lemmas.Bool.{cases_lt}
use Rattle.std.proofs.lemmas.List.{drop-append-le, get_or_append_left, get_or_at, take-append-le, take_all}
use Rattle.std.proofs.lemmas.List.Elements.{All-append, All-cons, All-nil}
use Rattle.std.proofs.lemmas.List.Sums.{sum_by-cons}
use Rattle.std.proofs.lemmas.Nat.{div-mul-add}
use Rattle.csv.specs.Records.{Row}
use Rattle.row_page.specs.Spelling.{row_length}
use Rattle.spill_disk.specs.Files.{Files}
use Rattle.row_form.specs.declared.form.Form.{Form}
use Rattle.row_form.specs.declared.form.Form.TheVariants.{Landed}
use Rattle.run_file.specs.declared.run.Run.{Run}
use Rattle.row_form.specs.Forms.{HasForm, columns_of}
use Rattle.run_file.specs.Runs.{CountsRows, Stands, greatest_cost}
use Rattle.run_file.specs.Several.{KeepsFile, no_run, run_at, KeepsAll}
use Rattle.row_form.specs.declared.number_list.NumberPlace.{NumberPlace}
use Rattle.job_plan.specs.Columns.{Fields, kept, number_places}
use Rattle.job_plan.specs.Entries.{field_bytes}
use Rattle.job_plan.specs.Plans.{form_in}
use Rattle.landing.specs.Filling.{AreLandedSoFar, LandsPart, LandsRows}
use Rattle.landing.specs.Landed.{AreChecked, AreLanded, partition_of}
use Rattle.landing.specs.Ruling.{Follows, IsRuled, ahead, first_refusal_in}
use Rattle.landing.specs.declared.fault.LandFault.{LandFault}
use Rattle.landing.specs.declared.rules.Rules.{Rules}
use Rattle.landing.proofs.Filled.{checked_append}
use Rattle.landing.proofs.Following.{follows_end, follows_trans, refused_behind}
use Rattle.landing.proofs.Keeping.{row_total}

-- ---- how many there are, and their rows

count_is : (x parts part_rows rest : ℕ) → x ≡ parts * part_rows + rest → rest < part_rows → x / part_rows ≡ parts
count_is x parts part_rows rest e lt = ap (λ (y : ℕ). y / part_rows) e ∙ div-mul-add parts part_rows rest lt

part_before : (part_rows part parts : ℕ) (rows next : List Fields) → part < parts → length rows ≡ parts * part_rows → partition_of part_rows part (rows ++ next) ≡ partition_of part_rows part rows
part_before part_rows part parts rows next lt full =
    let most : (part + 1) * part_rows ≤ parts * part_rows = mul-le-mul_right part_rows (omega arith) in
    let front : part * part_rows ≤ length rows = omega (arith, most, full) in
    let behind : part_rows ≤ length (drop (part * part_rows) rows) = omega (arith, most, full, length-drop (part * part_rows) rows) in
    ap (take part_rows) (drop-append-le (part * part_rows) rows next front) ∙ take-append-le part_rows (drop (part * part_rows) rows) next behind

part_here : (part_rows parts : ℕ) (rows next : List Fields) → length rows ≡ parts * part_rows → length next ≤ part_rows → partition_of part_rows parts (rows ++ next) ≡ next
part_here part_rows parts rows next full most =
    ap (λ (n : ℕ). take part_rows (drop n (rows ++ next))) (sym full) ∙ ap (take part_rows) (drop-append_seam rows next) ∙ take_all part_rows next most

-- ---- runs that stand

stands_kept : (before after : Option Files) (run : Run) (rows : List Fields) → Stands before run rows → KeepsFile before after run.file → Stands after run rows
stands_kept None after run rows stands kept = absurd stands
stands_kept (Some before) None run rows stands kept = absurd kept
stands_kept (Some before) (Some after) run rows stands kept = rw (kept stands.0) stands

one_more : (part_rows : ℕ) (parts : List Run) (run : Run) → length (parts ++ run ∷ []) * part_rows ≡ length parts * part_rows + part_rows
one_more part_rows parts run =
    let several : length (parts ++ run ∷ []) ≡ length parts + 1 = omega (arith, length-append parts (run ∷ [])) in
    omega (arith, ap (λ (n : ℕ). n * part_rows) several)

-- the partition behind full ones
landed_push : (files files' : ℕ → Option Files) (part_rows workers : ℕ) (parts : List Run) (rows next : List Fields) (run : Run) (to : ℕ)
    → AreLanded files part_rows workers parts rows → length rows ≡ length parts * part_rows → 1 ≤ length next → length next ≤ part_rows
    → run.disk ≡ to → to ≡ length parts % workers → (IsSome (files' to) → Stands (files' to) run next)
    → KeepsAll files files' → ((j : ℕ) → is_some (files' j) ≡ is_some (files j)) → AreLanded files' part_rows workers (parts ++ run ∷ []) (rows ++ next)
landed_push files files' part_rows workers parts rows next run to before full some most disk to_is stands kept tells = record {
  count = sym (count_is (length (rows ++ next) + (part_rows - 1)) (length (parts ++ run ∷ [])) part_rows (length next - 1) (omega (arith, length-append rows next, one_more part_rows parts run, full)) (omega arith));
  disks = λ part lt. elim (cases_lt part (length parts)) [
    | inl below ↦ ap (λ (r : Run). r.disk) (get_or_append_left parts (run ∷ []) no_run part below) ∙ before.disks part below
    | inr from ↦
        let at : length parts ≡ part = omega (arith, length-append parts (run ∷ [])) in
        ap (λ (r : Run). r.disk) (get_or_at parts run [] no_run part at) ∙ disk ∙ to_is ∙ ap (λ (n : ℕ). n % workers) at
  ];
  stand = λ part lt told. elim (cases_lt part (length parts)) [
    | inl below ↦
        let old = before.stand part below (sym (tells (part % workers)) ∙ told) in
        let same = kept (part % workers) (run_at parts part).file in
        rw (get_or_append_left parts (run ∷ []) no_run part below, part_before part_rows part (length parts) rows next below full)
        (stands_kept (files (part % workers)) (files' (part % workers)) (run_at parts part) (partition_of part_rows part rows) old same)
    | inr from ↦
        let at : length parts ≡ part = omega (arith, length-append parts (run ∷ [])) in
        let on : to ≡ part % workers = to_is ∙ ap (λ (n : ℕ). n % workers) at in
        let here = stands (subst (λ (n : ℕ). IsSome (files' n)) (sym on) told) in
        let rows_are : partition_of part_rows part (rows ++ next) ≡ next = ap (λ (n : ℕ). partition_of part_rows n (rows ++ next)) (sym at) ∙ part_here part_rows (length parts) rows next full most in
        rw (get_or_at parts run [] no_run part at, rows_are) (subst (λ (n : ℕ). Stands (files' n) run next) on here)
  ];
}

-- ---- the greatest row

row_cost : (columns : ℕ) (numbers : List NumberPlace) (row : Fields) → HasForm (Landed columns numbers) row → field_bytes row ≤ 65536 → 24 + row_length row ≤ 36 + 4 * columns + 65536
row_cost columns numbers [] form short = absurd (omega (arith, form.0))
row_cost columns numbers (first ∷ fields) form short =
    omega (arith, form.0, form.1, row_total fields, sum_by-cons (λ (f : List ℕ). 4 + length f) first fields)

cost_within : (columns : ℕ) (numbers : List NumberPlace) (rows : List Fields) → AllByRecursion (HasForm (Landed columns numbers)) rows → AllByRecursion (λ row. field_bytes row ≤ 65536) rows → greatest_cost rows ≤ 36 + 4 * columns + 65536
cost_within columns numbers [] formed short = omega arith
cost_within columns numbers (row ∷ rows) formed short = omega (arith, row_cost columns numbers row formed.0 short.0, cost_within columns numbers rows formed.1 short.1)

run_short : (form : Form) (columns : ℕ) (numbers : List NumberPlace) (run : Run) (rows : List Fields) → form ≡ Landed columns numbers → CountsRows run rows → AreChecked form rows → run.greatest ≤ 36 + 4 * columns_of form + 65536
run_short form columns numbers run rows is counts checked =
    let formed = subst (λ (f : Form). AllByRecursion (HasForm f) rows) is checked.formed in
    rw is (omega (arith, counts.greatest, cost_within columns numbers rows formed checked.short))

-- ---- one after another

pub so_far_none : (files : ℕ → Option Files) (rules : Rules) (part_rows workers : ℕ) (more : Bool) (before after : Option (List Fields))
    → 1 ≤ part_rows → Follows rules 1 [] before after → AreLandedSoFar files rules part_rows workers [] 0 more before after
so_far_none files rules part_rows workers more before after some follows = record {
  rows = [];
  counts = refl;
  few = omega arith;
  full = λ goes. omega arith;
  are_checked = record { formed = tt; short = tt; bytes = tt };
  are_landed = record {
    count = sym (count_is (0 + (part_rows - 1)) 0 part_rows (part_rows - 1) (omega arith) (omega arith));
    disks = λ part lt. absurd (omega arith);
    stand = λ part lt. absurd (omega arith);
  };
  are_short = All-nil (λ (r : Run). r.greatest ≤ 36 + 4 * columns_of (form_in rules.plan) + 65536);
  follows = follows;
}

pub so_far_more : (files files' : ℕ → Option Files) (rules : Rules) (part_rows workers : ℕ) (parts : List Run) (count : ℕ) (run : Run) (to : ℕ) (more more' : Bool) (row : Row) (left before after : Option (List Fields))
    → more ≡ true → IsRuled rules → AreLandedSoFar files rules part_rows workers parts count more before (ahead more row left)
    → LandsPart (files' to) rules count part_rows run more' (ahead true row left) after → run.disk ≡ to → to ≡ length parts % workers
    → KeepsAll files files' → ((j : ℕ) → is_some (files' j) ≡ is_some (files j)) → AreLandedSoFar files' rules part_rows workers (parts ++ run ∷ []) (count + run.count) more' before after
so_far_more files files' rules part_rows workers parts count run to more more' row left before after goes ruled s l disk to_is keeps tells =
    let hand = subst (λ (b : Bool). Follows rules 1 s.rows before (ahead b row left)) goes s.follows in
    let full = s.full goes in
    let is_short = λ (r : Run). r.greatest ≤ 36 + 4 * columns_of (form_in rules.plan) + 65536 in
    record {
      rows = s.rows ++ l.rows;
      counts = omega (arith, s.counts, l.counts.count, length-append s.rows l.rows);
      few = omega (arith, l.counts.count, l.are.few);
      full = λ goes'. omega (arith, full, l.are.full goes', length-append s.rows l.rows, one_more part_rows parts run);
      are_checked = checked_append (form_in rules.plan) s.rows l.rows s.are_checked l.are.are_checked;
      are_landed = landed_push files files' part_rows workers parts s.rows l.rows run to s.are_landed full l.are.some l.are.most disk to_is l.stands keeps tells;
      are_short = All-append is_short parts (run ∷ []) s.are_short (All-cons is_short run [] (run_short (form_in rules.plan) (length (kept ruled.job.names ruled.header)) (number_places ruled.job ruled.header) run l.rows ruled.are.planned.form l.counts l.are.are_checked) (All-nil is_short));
      follows = follows_trans rules 1 (count + 1) s.rows l.rows before (ahead true row left) after (omega (arith, s.counts)) hand l.are.follows;
    }

pub so_far_all : (files : ℕ → Option Files) (rules : Rules) (part_rows workers : ℕ) (parts : List Run) (count : ℕ) (more : Bool) (row : Row) (left before : Option (List Fields))
    → more ≡ false → AreLandedSoFar files rules part_rows workers parts count more before (ahead more row left) → LandsRows files rules part_rows workers parts count before
so_far_all files rules part_rows workers parts count more row left before over s = record {
  rows = s.rows;
  counts = s.counts;
  few = omega (arith, s.counts, s.few);
  are_checked = s.are_checked;
  are_landed = s.are_landed;
  are_short = s.are_short;
  are_known = follows_end rules 1 s.rows before left more row over s.follows;
}

pub so_far_refused : (files : ℕ → Option Files) (rules : Rules) (part_rows workers : ℕ) (parts : List Run) (count : ℕ) (more : Bool) (row : Row) (left before : Option (List Fields)) (why : LandFault)
    → more ≡ true → AreLandedSoFar files rules part_rows workers parts count more before (ahead more row left) → IfSome (ahead true row left) (λ rows. first_refusal_in rules (count + 1) rows ≡ Some why)
    → IfSome before (λ rows. first_refusal_in rules 1 rows ≡ Some why)
so_far_refused files rules part_rows workers parts count more row left before why goes s refused =
    let hand = subst (λ (b : Bool). Follows rules 1 s.rows before (ahead b row left)) goes s.follows in
    refused_behind rules 1 (count + 1) s.rows before (ahead true row left) why (omega (arith, s.counts)) hand refused
