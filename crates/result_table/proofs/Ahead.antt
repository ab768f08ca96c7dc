-- The entries that are ahead of a reader are those that its rows are.
use Rattle.std.proofs.Common.{◌≡◌, ℕ, ◌<◌, ◌≤◌, Bool, true, false, List, [], ◌∷◌, Option, Some, None, Ok, Err, refl, sym, ap, subst, arith, inl, inr}
use Rattle.std.specs.Prelude.{◌↔◌, Result}
use Rattle.std.specs.List.{AllByRecursion}
use Rattle.std.proofs.lemmas.Bool.{cases_lt}
use Rattle.aggregate.specs.declared.kind.Kind.{Kind}
use Rattle.aggregate.specs.Rows.{entries_of, entry_of}
use Rattle.aggregate.specs.Totals.{Entry}
use Rattle.spill_disk.specs.Files.{Files}
use Rattle.row_form.specs.declared.form.Form.{Form}
use Rattle.row_form.specs.declared.form.Form.TheVariants.{Entries}
use Rattle.run_file.specs.declared.run.Run.{Run}
use Rattle.run_file.specs.declared.run.RunFault.{RunFault}
use Rattle.row_form.specs.Forms.{HasForm, IsWellFormed}
use Rattle.run_file.specs.Readers.{ReaderView}
use Rattle.run_file.specs.Reading.{Begins, ReadsOn, IsAhead}
use Rattle.run_file.specs.Runs.{Stands, greatest_cost}
use Rattle.run_file.specs.Several.{HasEntries}
use Rattle.run_file.proofs.Standing.{row_at-is}
use Rattle.result_table.specs.Ahead.{AreAhead, GoesTo}

abbrev Row : Type 0
Row = List (List ℕ)

-- rows of the form that cost no more than the greatest are well formed
formed_rows : (kind : Kind) (greatest : ℕ) (rows : List Row) → greatest_cost rows ≤ greatest → AllByRecursion (HasForm (Entries kind)) rows → AllByRecursion (IsWellFormed (Entries kind) greatest) rows
formed_rows kind greatest [] le all = tt
formed_rows kind greatest (row ∷ rows) le all =
    (record { has_form = all.0; cost = omega (arith, le) }, formed_rows kind greatest rows (omega (arith, le)) all.1)

counted : (files : Option Files) (run : Run) (rows : List Row) → Stands files run rows → run.greatest ≡ greatest_cost rows
counted None run rows h = absurd h
counted (Some files) run rows h = h.2.greatest

-- a reader begins with the entries of its run
pub begins_with : (kind : Kind) (run : Run) (after : ReaderView) → after.run ≡ run → after.form ≡ Entries kind → Begins after
    → (files : Option Files) (entries : List Entry) → HasEntries files kind run entries → AreAhead files after entries
begins_with kind run after same form begins files entries h =
    let stands : Stands files after.run h.rows = subst (λ (r : Run). Stands files r h.rows) (sym same) h.stands in
    let le : greatest_cost h.rows ≤ after.run.greatest = omega (arith, counted files after.run h.rows stands) in
    let formed = formed_rows kind after.run.greatest h.rows le h.formed in
    record {
      rows = h.rows;
      ahead = begins files h.rows stands (subst (λ (f : Form). AllByRecursion (IsWellFormed f after.run.greatest) h.rows) (sym form) formed);
      are = h.are;
    }

-- a reader that goes on to the first of its rows goes to the first of its entries
pub goes_to : (files now : Option Files) (before after : ReaderView) (entries : List Entry) (result : Result Bool RunFault)
    → ((rows : List Row) → IsAhead files before rows → ReadsOn now after rows result)
    → AreAhead files before entries → GoesTo now after entries result
goes_to files now before after entries result goes h =
    subst (λ (es : List Entry). GoesTo now after es result) (sym h.are) (by_rows h.rows result (goes h.rows h.ahead))
  where
    by_rows : (rows : List Row) (result : Result Bool RunFault) → ReadsOn now after rows result → GoesTo now after (entries_of rows) result
    by_rows [] (Ok true) gone = absurd gone
    by_rows [] (Ok false) gone = tt
    by_rows [] (Err fault) gone = absurd gone
    by_rows (row ∷ rows) (Ok true) gone =
        (ap entry_of (row_at-is after row gone.0), record { rows = rows; ahead = gone.1; are = refl })
    by_rows (row ∷ rows) (Ok false) gone = absurd gone
    by_rows (row ∷ rows) (Err fault) gone = gone

abbrev pub said : Bool → Result Bool RunFault
said more = Ok more

-- a reader that takes a row gave fewer than its run has
pub gave_fewer : (count given : ℕ) (more : Bool) → ((said more ≡ said false) ↔ (count ≤ given)) → more ≡ true → given < count
gave_fewer count given more end is = elim (cases_lt given count) [
  | inl below ↦ below
  | inr above ↦ let no : said more ≡ said false = end.1 above in absurd cc
]

-- where it goes to is said of the disk of its own run
pub goes_on_run : (was now : ℕ → Option Files) (before after : ReaderView) (run : Run) (result : Result Bool RunFault) → before.run ≡ run
    → ((entries : List Entry) → AreAhead (was before.run.disk) before entries → GoesTo (now before.run.disk) after entries result)
    → (entries : List Entry) → AreAhead (was run.disk) before entries → GoesTo (now run.disk) after entries result
goes_on_run was now before after run result same goes entries =
    subst (λ (r : Run). AreAhead (was r.disk) before entries → GoesTo (now r.disk) after entries result) same (goes entries)

-- an entry is its key and its value
pub same_entry : (entry : Entry) (key value : List ℕ) → key ≡ entry.key → value ≡ entry.value → record { key = key; value = value } ≡ entry
same_entry entry key value one two = rw (one, two) refl
