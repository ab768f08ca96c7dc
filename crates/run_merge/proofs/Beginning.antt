-- Readers of runs that stand with their entries have those entries still to give.
use Rattle.std.proofs.Common.{◌≡◌, ℕ, zero, suc, ◌+◌, ◌<◌, ◌≤◌, Bool, false, List, [], ◌∷◌, ◌++◌, length, map, take, Option, None, Some, refl, sym, ap, subst, ◌∙◌, inl, inr, arith}
use Rattle.std.specs.Prelude.{sum_by}
use Rattle.std.specs.List.{AllByRecursion}
use Rattle.std.proofs.lemmas.Bool.{cases_lt}
use Rattle.std.proofs.lemmas.List.{get_or_append_left, get_or_at, length_push, map-append, map_push, take_more}
use Rattle.std.proofs.lemmas.List.Sums.{sum_by-append}
use Rattle.aggregate.specs.declared.kind.Kind.{Kind}
use Rattle.aggregate.specs.Rows.{Ascends, entries_of, entry_of}
use Rattle.aggregate.specs.Totals.{Entry, total}
use Rattle.spill_disk.specs.Files.{Files}
use Rattle.row_form.specs.declared.form.Form.{Form}
use Rattle.row_form.specs.declared.form.Form.TheVariants.{Entries}
use Rattle.run_file.specs.declared.run.Run.{Run}
use Rattle.run_file.specs.Readers.{ReaderView, form_of, found_of, run_of}
use Rattle.row_form.specs.Forms.{HasForm, IsWellFormed}
use Rattle.run_file.specs.Reading.{IsAhead, Begins}
use Rattle.run_file.specs.Runs.{Stands, greatest_cost}
use Rattle.run_file.specs.Several.{HasEntries, HaveEntries, concatenated, no_run, run_at}
use Rattle.run_merge.specs.Giving.{AreComing}
use Rattle.run_merge.specs.Heads.{EachReader, has_head, one_if}
use Rattle.run_merge.specs.Merging.{AreLeft, IsLeft, left_by, rows_ahead}

abbrev Row : Type 0
Row = List (List ℕ)

-- rows of the form that cost no more than the greatest are well formed
formed_rows : (kind : Kind) (greatest : ℕ) (rows : List Row) → greatest_cost rows ≤ greatest → AllByRecursion (HasForm (Entries kind)) rows → AllByRecursion (IsWellFormed (Entries kind) greatest) rows
formed_rows kind greatest [] le all = tt
formed_rows kind greatest (row ∷ rows) le all =
    (record { has_form = all.0; cost = omega (arith, le) }, formed_rows kind greatest rows (omega (arith, le)) all.1)

counted : (files : Option Files) (run : Run) (rows : List Row) → Stands files run rows → run.greatest ≡ greatest_cost rows
counted None run rows h = absurd h
counted (Some files) run rows h = h.2.greatest

-- it begins with the entries of its run
begins_one : (files : Option Files) (kind : Kind) (reader : ReaderView) (entries : List Entry) → Begins reader → form_of reader ≡ Entries kind → (h : HasEntries files kind (run_of reader) entries) → IsAhead files reader h.rows
begins_one files kind reader entries begins form h =
    let le : greatest_cost h.rows ≤ (run_of reader).greatest = omega (arith, counted files (run_of reader) h.rows h.stands) in
    let formed = formed_rows kind (run_of reader).greatest h.rows le h.formed in
    begins files h.rows h.stands (subst (λ (f : Form). AllByRecursion (IsWellFormed f (run_of reader).greatest) h.rows) (sym form) formed)

-- so do all
record Beginning (files : ℕ → Option Files) (kind : Kind) (readers : List ReaderView) (heads : List Bool) (lists : List (List Entry)) : Type 0 where
  rows : List (List Row)
  left : AreLeft files false readers heads rows
  formed : AllByRecursion (λ rs. AllByRecursion (HasForm (Entries kind)) rs) rows
  ascend : AllByRecursion (λ rs. Ascends (Some kind) (entries_of rs)) rows
  are : concatenated lists ≡ entries_of (concatenated rows)

begin_all : (files : ℕ → Option Files) (kind : Kind) (readers : List ReaderView) (heads : List Bool) (lists : List (List Entry)) → length heads ≡ length readers → ((k : ℕ) → has_head heads k ≡ false)
    → EachReader readers (λ k reader. Begins reader) → EachReader readers (λ k reader. form_of reader ≡ Entries kind) → HaveEntries files kind (map run_of readers) lists → Beginning files kind readers heads lists
begin_all files kind [] [] [] count none begins forms have = record { rows = []; left = tt; formed = tt; ascend = tt; are = refl }
begin_all files kind [] (head ∷ heads) lists count none begins forms have = absurd (omega (arith, count))
begin_all files kind [] [] (list ∷ lists) count none begins forms have = absurd have
begin_all files kind (reader ∷ readers) [] lists count none begins forms have = absurd (omega (arith, count))
begin_all files kind (reader ∷ readers) (head ∷ heads) [] count none begins forms have = absurd have
begin_all files kind (reader ∷ readers) (head ∷ heads) (list ∷ lists) count none begins forms have =
    let others = begin_all files kind readers heads lists (omega (arith, count)) (λ k. none (suc k)) (λ k r lt is. begins (suc k) r (omega arith) is) (λ k r lt is. forms (suc k) r (omega arith) is) have.1 in
    let ahead = begins_one (files (run_of reader).disk) kind reader list (begins 0 reader (omega arith) refl) (forms 0 reader (omega arith) refl) have.0 in
    record {
      rows = have.0.rows ∷ others.rows;
      left = (subst (λ (b : Bool). IsLeft files reader b have.0.rows) (sym (none 0)) ahead, λ e. absurd cc, others.left);
      formed = (have.0.formed, others.formed);
      ascend = (subst (λ (es : List Entry). Ascends (Some kind) es) have.0.are have.0.ascends, others.ascend);
      are = ap (λ (es : List Entry). es ++ concatenated lists) have.0.are ∙ ap (λ (es : List Entry). entries_of have.0.rows ++ es) others.are ∙ sym (map-append entry_of have.0.rows (concatenated others.rows));
    }

pub all_begin : (files : ℕ → Option Files) (kind : Kind) (readers : List ReaderView) (heads : List Bool) (lists : List (List Entry)) → length heads ≡ length readers → ((k : ℕ) → has_head heads k ≡ false)
    → EachReader readers (λ k reader. Begins reader) → EachReader readers (λ k reader. form_of reader ≡ Entries kind) → HaveEntries files kind (map run_of readers) lists → AreComing files false kind readers heads (total kind (concatenated lists))
all_begin files kind readers heads lists count none begins forms have =
    let b = begin_all files kind readers heads lists count none begins forms have in
    record { lists = b.rows; left = b.left; formed = b.formed; ascend = b.ascend; are = ap (total kind) b.are }

-- one reader more
pub each_push : (readers : List ReaderView) (new : ReaderView) (P Q : ℕ → ReaderView → Type 0) → EachReader readers P → ((k : ℕ) (reader : ReaderView) → k < length readers → P k reader → Q k reader) → Q (length readers) new → EachReader (readers ++ new ∷ []) Q
each_push readers new P Q each keep here k reader lt is =
    elim (cases_lt k (length readers)) [
      | inl below ↦ keep k reader below (each k reader below (is ∙ get_or_append_left readers (new ∷ []) reader k below))
      | inr from ↦
          let place : length readers ≡ k = omega (arith, length_push readers new) in
          let same : reader ≡ new = is ∙ get_or_at readers new [] reader k place in
          subst (λ (r : ReaderView). Q k r) (sym same) (subst (λ (n : ℕ). Q n new) place here)
    ]

pub heads_push : (heads : List Bool) → ((k : ℕ) → has_head heads k ≡ false) → (k : ℕ) → has_head (heads ++ false ∷ []) k ≡ false
heads_push [] none zero = refl
heads_push [] none (suc k) = refl
heads_push (head ∷ heads) none zero = none 0
heads_push (head ∷ heads) none (suc k) = heads_push heads (λ n. none (suc n)) k

pub runs_push : (runs : List Run) (i : ℕ) (readers : List ReaderView) (new : ReaderView) → i < length runs → run_of new ≡ run_at runs i → map run_of readers ≡ take i runs → map run_of (readers ++ new ∷ []) ≡ take (i + 1) runs
runs_push runs i readers new lt run so_far =
    map_push run_of readers new ∙ ap (λ (rs : List Run). rs ++ run_of new ∷ []) so_far ∙ ap (λ (r : Run). take i runs ++ r ∷ []) run ∙ sym (take_more runs i no_run lt)

pub left_push : (runs : List Run) (i : ℕ) (readers : List ReaderView) (heads : List Bool) (new : ReaderView) → i < length runs → run_of new ≡ run_at runs i → found_of new ≡ 0 → left_by readers heads ≡ sum_by (λ run. run.count) (take i runs)
    → left_by (readers ++ new ∷ []) (heads ++ false ∷ []) ≡ sum_by (λ run. run.count) (take (i + 1) runs)
left_push runs i readers heads new lt run found left =
    let rows = sum_by-append rows_ahead readers (new ∷ []) in
    let ones = sum_by-append one_if heads (false ∷ []) in
    let counts = sum_by-append (λ (r : Run). r.count) (take i runs) (run_at runs i ∷ []) in
    let more : sum_by (λ run. run.count) (take (i + 1) runs) ≡ sum_by (λ run. run.count) (take i runs ++ run_at runs i ∷ []) = ap (sum_by (λ (r : Run). r.count)) (take_more runs i no_run lt) in
    omega (arith, rows, ones, counts, more, left, found, ap (λ (r : Run). r.count) run)
