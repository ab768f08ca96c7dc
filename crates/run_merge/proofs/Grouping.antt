-- A new run that was written with all that a merge gave, of runs whose files are gone then.
use Rattle.std.proofs.Common.{◌≡◌, ℕ, ◌<◌, ◌≤◌, List, [], ◌∷◌, Option, Some, None, sym, ap, subst, ◌∙◌, arith}
use Rattle.std.specs.Prelude.{IsSome, is_some, sum_by}
use Rattle.std.specs.List.{AllByRecursion}
use Rattle.std.proofs.lemmas.Bool.{false≢true}
use Rattle.std.proofs.lemmas.List.{append-nil}
use Rattle.std.proofs.lemmas.List.Sums.{sum_by-cons}
use Rattle.aggregate.specs.declared.kind.Kind.{Kind}
use Rattle.aggregate.specs.Rows.{entries_of}
use Rattle.aggregate.specs.Totals.{Entry, total}
use Rattle.spill_disk.specs.Files.{Files, IsThere}
use Rattle.row_form.specs.declared.form.Form.{Form}
use Rattle.row_form.specs.declared.form.Form.TheVariants.{Entries}
use Rattle.run_file.specs.declared.run.Run.{Run}
use Rattle.row_form.specs.Forms.{HasForm, IsWellFormed}
use Rattle.run_file.specs.Runs.{CountsRows, IsFileOf, Stands, greatest_cost}
use Rattle.run_file.specs.Several.{SameOthers, IsFileAmong, HasEntries, HaveEntries, concatenated, greatest_of, run_at}
use Rattle.run_file.specs.Shelved.{IsNotThere, IsNotThereOn, SameBut}
use Rattle.run_file.proofs.Among.{among_one, apart_one, is_among_one}
use Rattle.run_merge.specs.declared.merge.Merge.{Merge}
use Rattle.run_merge.specs.Becoming.{AreGone, Becomes, WritesAll}
use Rattle.run_merge.specs.Merging.{Begins, IsToCome, kind_of, left_of, runs_of}
use Rattle.run_merge.proofs.Ascending.{own_total, total_ascends}
use Rattle.run_merge.proofs.Damage.{one_is}
use Rattle.run_merge.proofs.Kept.{has_kept, have_kept, have_there, kept_beside}

-- a run of written rows stands
abbrev pub WrittenStand : Type 0
WrittenStand =
    (files : Files) (run : Run) (rows : List (List (List ℕ))) → IsThere (Some files) run.file → IsFileOf (Some files) run.file rows → CountsRows run rows → Stands (Some files) run rows

-- the calls of one group: the run was begun, written, and then the files of the others were taken away
pub record IsMerged (named : ℕ → ℕ) (before begun written after : ℕ → Option Files) (to : ℕ) (kind : Kind) (merge : Merge) (runs : List Run) (run : Run) (apart : Type 0) : Type 0 where
  pub tells : (j : ℕ) → is_some (after j) ≡ is_some (before j)
  pub told : is_some (written to) ≡ is_some (before to)
  pub disk : run.disk ≡ to
  pub fresh : IsNotThereOn named before to run.file
  pub first : SameBut named before begun to run.file
  pub next : SameBut named begun written to run.file
  pub gone : AreGone named after runs
  pub others : SameOthers named written after runs
  pub there : IsThere (written to) run.file
  pub all : WritesAll begun merge (written to) run apart
  pub is_apart : (IsFileAmong named runs to run.file → ⊥) → apart
  pub runs_are : runs_of merge ≡ runs
  pub kind_is : kind_of merge ≡ kind
  pub begins : Begins merge
  pub left : left_of merge ≡ sum_by (λ run. run.count) runs

form_of_rows : (form : Form) (greatest : ℕ) (rows : List (List (List ℕ))) → AllByRecursion (IsWellFormed form greatest) rows → AllByRecursion (HasForm form) rows
form_of_rows form greatest [] formed = tt
form_of_rows form greatest (row ∷ rows) formed = (formed.0.has_form, form_of_rows form greatest rows formed.1)

cost_of_rows : (form : Form) (greatest : ℕ) (rows : List (List (List ℕ))) → AllByRecursion (IsWellFormed form greatest) rows → greatest_cost rows ≤ greatest
cost_of_rows form greatest [] formed = omega arith
cost_of_rows form greatest (row ∷ rows) formed = let rest = cost_of_rows form greatest rows formed.1 in omega (arith, formed.0.cost, rest)

stands_there : WrittenStand → (files : Option Files) (run : Run) (rows : List (List (List ℕ))) → IsSome files → IsThere files run.file → IsFileOf files run.file rows → CountsRows run rows → Stands files run rows
stands_there law None run rows told there file counts = absurd (false≢true told)
stands_there law (Some files) run rows told there file counts = law files run rows there file counts

-- the new run is none of the others, where those stand
pub new_beside : (named : ℕ → ℕ) (before : ℕ → Option Files) (kind : Kind) (to file : ℕ) (runs : List Run) (lists : List (List Entry)) → IsNotThereOn named before to file → HaveEntries before kind runs lists → IsFileAmong named runs to file → ⊥
new_beside named before kind to file runs lists fresh have (i, within, on, is) =
    have_there before kind runs lists have i within (subst (λ (f : ℕ). IsNotThere (before (run_at runs i).disk) f) (sym is) (fresh (run_at runs i).disk on))

-- what the merge is to give then: the total of the runs
pub to_come : (named : ℕ → ℕ) (before begun : ℕ → Option Files) (to file : ℕ) (kind : Kind) (merge : Merge) (runs : List Run) (lists : List (List Entry)) → IsNotThereOn named before to file → SameBut named before begun to file → runs_of merge ≡ runs → kind_of merge ≡ kind → Begins merge → HaveEntries before kind runs lists
    → IsToCome begun merge (total kind (concatenated lists))
to_come named before begun to file kind merge runs lists fresh first runs_are kind_is begins have =
    let beside = new_beside named before kind to file runs lists fresh have in
    let kept = have_kept before begun kind runs lists (kept_beside named before begun to file runs first beside) have in
    subst (λ (k : Kind). IsToCome begun merge (total k (concatenated lists))) kind_is (begins begun lists (rw (kind_is, runs_are) kept))

total_has : WrittenStand → (named : ℕ → ℕ) (before begun written after : ℕ → Option Files) (to : ℕ) (kind : Kind) (merge : Merge) (runs : List Run) (run : Run) (apart : Type 0) → IsMerged named before begun written after to kind merge runs run apart → IsSome (before to) → (lists : List (List Entry)) → HaveEntries before kind runs lists
    → HasEntries (after run.disk) kind run (total kind (concatenated lists))
total_has law named before begun written after to kind merge runs run apart made told lists have =
    let beside = new_beside named before kind to run.file runs lists made.fresh have in
    let all = made.all in
    let are : entries_of all.rows ≡ total kind (concatenated lists) =
    all.are (made.is_apart beside) (total kind (concatenated lists)) (to_come named before begun to run.file kind merge runs lists made.fresh made.first made.runs_are made.kind_is made.begins have) in
    let formed : AllByRecursion (HasForm (Entries kind)) all.rows =
    subst (λ (k : Kind). AllByRecursion (HasForm (Entries k)) all.rows) made.kind_is (form_of_rows (Entries (kind_of merge)) (greatest_of (runs_of merge)) all.rows all.formed) in
    let here : HasEntries (written to) kind run (total kind (concatenated lists)) = record {
      rows = all.rows;
      stands = stands_there law (written to) run all.rows (made.told ∙ told) made.there all.file all.counts;
      formed = formed;
      are = sym are;
      ascends = total_ascends kind (concatenated lists);
    } in
    subst (λ (d : ℕ). HasEntries (after d) kind run (total kind (concatenated lists))) (sym made.disk)
    (has_kept (written to) (after to) kind run (total kind (concatenated lists)) (made.others to run.file beside) here)

pub merged_becomes : WrittenStand → (count : ℕ) (named : ℕ → ℕ) (before begun written after : ℕ → Option Files) (to : ℕ) (kind : Kind) (merge : Merge) (runs : List Run) (run : Run) (apart : Type 0) → to < count → IsMerged named before begun written after to kind merge runs run apart
    → Becomes count named before after kind to runs (run ∷ [])
merged_becomes law count named before begun written after to kind merge runs run apart within made = record {
  tells = made.tells;
  gone = λ disk file here other. made.gone disk file here;
  others = λ disk file other other'.
      let new : (named disk ≡ named to) × (file ≡ run.file) → ⊥ = λ same. other' (is_among_one named run disk file (ap named made.disk ∙ sym same.0) (sym same.1)) in
      made.others disk file other ∙ made.next disk file new ∙ made.first disk file new;
  fresh = λ disk file one other.
      let is = among_one named run disk file one in
      subst (λ (f : ℕ). IsNotThere (before disk) f) is.1 (made.fresh disk (sym is.0 ∙ ap named made.disk));
  same = λ told lists have apart'. record {
    own = total kind (concatenated lists) ∷ [];
    stand = (total_has law named before begun written after to kind merge runs run apart made told lists have, tt);
    apart = apart_one named run;
    same = ap (total kind) (append-nil (total kind (concatenated lists))) ∙ own_total kind (total kind (concatenated lists)) (total_ascends kind (concatenated lists));
  };
  bounded =
      let cost = cost_of_rows (Entries (kind_of merge)) (greatest_of (runs_of merge)) made.all.rows made.all.formed in
      let greatest : greatest_of (runs_of merge) ≡ greatest_of runs = ap greatest_of made.runs_are in
      omega (arith, cost, greatest, made.all.counts.greatest);
  on = λ on. (subst (λ (d : ℕ). d < count) (sym made.disk) within, tt);
  placed = λ disk file rows here none. sym (one_is run disk file rows here) ∙ made.disk;
  counted = λ order.
      let rows = made.all.counted (made.kind_is ∙ order) in
      omega (arith, sum_by-cons (λ (each : Run). each.count) run [], made.all.counts.count, rows, made.left);
}
