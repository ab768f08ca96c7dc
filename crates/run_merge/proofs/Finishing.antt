-- Where no reader stands at a row once all were let on, nothing is left; and what is given is an entry of some run.
use Rattle.std.proofs.Common.{◌≡◌, ℕ, zero, suc, ◌<◌, ◌≤◌, Bool, true, false, List, [], ◌∷◌, length, get_or, map, Option, refl, sym, ap, subst, ◌∙◌, arith}
use Rattle.std.specs.Prelude.{sum_by}
use Rattle.std.proofs.lemmas.List.Sums.{sum_by-cons}
use Rattle.aggregate.specs.declared.kind.Kind.{Kind}
use Rattle.aggregate.specs.Rows.{entries_of}
use Rattle.aggregate.specs.Totals.{Entry, total}
use Rattle.spill_disk.specs.Files.{Files}
use Rattle.row_form.specs.declared.form.Form.TheVariants.{Entries}
use Rattle.run_file.specs.Readers.{ReaderView, run_of}
use Rattle.row_form.specs.Forms.{IsWellFormed}
use Rattle.run_file.specs.Several.{concatenated, greatest_of}
use Rattle.run_merge.specs.Giving.{AreComing, Gives}
use Rattle.run_merge.specs.Heads.{EachReader, has_head, one_if}
use Rattle.run_merge.specs.Merging.{left_by, rows_ahead}
use Rattle.run_merge.proofs.Taking.{none_left}

abbrev Row : Type 0
Row = List (List ℕ)

none_in_all : (lists : List (List Row)) → ((k : ℕ) → get_or lists k [] ≡ []) → concatenated lists ≡ []
none_in_all [] none = refl
none_in_all (list ∷ lists) none = rw (none 0) (none_in_all lists (λ k. none (suc k)))

pub none_coming : (files : ℕ → Option Files) (kind : Kind) (readers : List ReaderView) (heads : List Bool) (entries : List Entry) → ((k : ℕ) → has_head heads k ≡ false) → AreComing files true kind readers heads entries → entries ≡ []
unfolding total
none_coming files kind readers heads entries none coming =
    let each : (k : ℕ) → get_or coming.lists k [] ≡ [] = λ k.
    none_left files readers heads coming.lists coming.left k (none k) in
    coming.are ∙ ap (λ (rows : List Row). total kind (entries_of rows)) (none_in_all coming.lists each)

-- no row is ahead, and none is stood at
no_heads : (heads : List Bool) → ((k : ℕ) → k < length heads → has_head heads k ≡ false) → sum_by one_if heads ≡ 0
no_heads [] none = refl
no_heads (head ∷ heads) none =
    omega (arith, sum_by-cons one_if head heads, no_heads heads (λ k lt. none (suc k) (omega arith)), ap one_if (none 0 (omega arith)))

none_ahead : (readers : List ReaderView) → EachReader readers (λ k reader. rows_ahead reader ≡ 0) → sum_by rows_ahead readers ≡ 0
none_ahead [] none = refl
none_ahead (reader ∷ readers) none =
    omega (arith, sum_by-cons rows_ahead reader readers, none 0 reader (omega arith) refl, none_ahead readers (λ k r lt is. none (suc k) r (omega arith) is))

pub nothing_left : (readers : List ReaderView) (heads : List Bool) → length heads ≡ length readers → ((k : ℕ) → has_head heads k ≡ false) → EachReader readers (λ k reader. has_head heads k ≡ false → rows_ahead reader ≡ 0) → left_by readers heads ≡ 0
nothing_left readers heads count none end =
    omega (arith, no_heads heads (λ k lt. none k), none_ahead readers (λ k reader lt is. end k reader lt is (none k)))

-- what is given is the first of those that were to come
pub given_one : (files : ℕ → Option Files) (kind other : Kind) (readers : List ReaderView) (heads : List Bool) (row : Row) (entry : Entry) (entries : List Entry) → other ≡ kind → Gives files kind readers heads row (entry ∷ entries)
    → (row ≡ entry.key ∷ (entry.value ∷ [])) × AreComing files false other readers heads entries
given_one files kind other readers heads row entry entries is gives =
    (gives.0, subst (λ (k : Kind). AreComing files false k readers heads entries) (sym is) gives.1)

-- there is a reader at each place
pub reader_at : (readers : List ReaderView) (i : ℕ) → i < length readers → (reader : ReaderView) × (reader ≡ get_or readers i reader)
reader_at [] i lt = absurd (omega arith)
reader_at (reader ∷ readers) zero lt = (reader, refl)
reader_at (reader ∷ readers) (suc i) lt = reader_at readers i (omega arith)

-- its run's greatest cost is within that of all
greatest_within : (readers : List ReaderView) (i : ℕ) (reader : ReaderView) → i < length readers → reader ≡ get_or readers i reader → (run_of reader).greatest ≤ greatest_of (map run_of readers)
greatest_within [] i reader lt is = absurd (omega arith)
greatest_within (r ∷ readers) zero reader lt is = omega (arith, ap (λ (x : ReaderView). (run_of x).greatest) is)
greatest_within (r ∷ readers) (suc i) reader lt is = omega (arith, greatest_within readers i reader (omega arith) is)

pub formed_among : (kind : Kind) (readers : List ReaderView) (i : ℕ) (row : Row) → i < length readers → ((reader : ReaderView) → reader ≡ get_or readers i reader → IsWellFormed (Entries kind) (run_of reader).greatest row) → IsWellFormed (Entries kind) (greatest_of (map run_of readers)) row
formed_among kind readers i row lt formed =
    let r = reader_at readers i lt in
    let h = formed r.0 r.1 in
    record { has_form = h.has_form; cost = omega (arith, h.cost, greatest_within readers i r.0 lt r.1) }
