-- One of several readers is let on: what that changes of the facts of all of them.
use Rattle.std.proofs.Common.{◌≡◌, ℕ, zero, suc, ◌+◌, ◌<◌, Bool, true, false, List, [], ◌∷◌, length, get_or, set, map, Option, Some, Ok, Err, refl, sym, ap, subst, ◌∙◌, inl, inr, arith}
use Rattle.std.specs.Prelude.{slice_get, slice_index}
use Rattle.std.proofs.Math.Logic.{∥∥₁_elim}
use mathlib.Core.Logic.{∥∥₁_prop}
use Rattle.std.proofs.lemmas.Bool.{cases_eq}
use Rattle.std.proofs.lemmas.List.{get_or-set_same, get_or-set_other, length-set, map-set, length-map, get_or-map, set-get_or, get_or_default}
use Rattle.std.proofs.lemmas.List.Sums.{sum_by-set}
use Rattle.std.proofs.lemmas.List.Elements.{All-from_recursion}
use Rattle.aggregate.specs.declared.kind.Kind.{Kind}
use Rattle.spill_disk.specs.Files.{Files}
use Rattle.run_file.specs.declared.run.Run.{Run}
use Rattle.run_file.specs.declared.run.RunFault.{RunFault}
use Rattle.run_file.specs.declared.run.RunFault.TheVariants.{DiskFault, Damaged, NoMemory}
use Rattle.run_file.specs.Readers.{ReaderView, form_of, found_of, run_of}
use Rattle.run_file.specs.Causes.{NotDamaged, damage_in}
use Rattle.row_form.specs.declared.form.Form.{Form}
use Rattle.row_form.specs.declared.form.Form.TheVariants.{Entries}
use Rattle.run_file.specs.Reading.{IsAhead, TellsDamage}
use Rattle.run_file.specs.AtEntries.{IsAtEntry}
use Rattle.run_file.specs.Several.{AreOn}
use Rattle.run_merge.specs.Giving.{LetsOn}
use Rattle.run_merge.specs.Heads.{EachReader, has_head, HasFront, AreFronts, AreAtEntries, AreOfKind, one_if}
use Rattle.run_merge.specs.Merging.{IsLeft, AreLeft, TellsDamageIn, left_by, rows_ahead}

-- a fact of each reader, after one of them became another
pub each_set : (readers : List ReaderView) (i : ℕ) (new : ReaderView) (P Q : ℕ → ReaderView → Type 0) → i < length readers → EachReader readers P
    → ((k : ℕ) (reader : ReaderView) → (k ≡ i → ⊥) → P k reader → Q k reader) → Q i new → EachReader (set readers i new) Q
each_set readers i new P Q within each keep here k reader lt is =
    elim (cases_eq k i) [
      | inl same ↦
          let there : reader ≡ new = is ∙ ap (λ (n : ℕ). get_or (set readers i new) n reader) same ∙ get_or-set_same readers i new reader within in
          subst (λ (n : ℕ). Q n reader) (sym same) (subst (Q i) (sym there) here)
      | inr apart ↦
          keep k reader apart (each k reader (omega (arith, length-set readers i new)) (is ∙ get_or-set_other readers i k new reader apart))
    ]

-- a flag or a number of another place
pub other_head : (heads : List Bool) (i k : ℕ) (b : Bool) → (k ≡ i → ⊥) → has_head (set heads i b) k ≡ has_head heads k
other_head heads i k b apart = get_or-set_other heads i k b false apart

pub other_number : (numbers : List ℕ) (i k n : ℕ) → (k ≡ i → ⊥) → slice_index (set numbers i n) k ≡ slice_index numbers k
other_number numbers i k n apart = get_or-set_other numbers i k n 0 apart

-- what is read at a place is the flag or the number there
pub head_read : (heads : List Bool) (i : ℕ) (b : Bool) → i < length heads → b ≡ get_or heads i b → has_head heads i ≡ b
head_read heads i b lt is = sym (is ∙ get_or_default heads i b false lt)

pub number_read : (numbers : List ℕ) (i n : ℕ) → i < length numbers → n ≡ get_or numbers i n → slice_index numbers i ≡ n
number_read numbers i n lt is = sym (is ∙ get_or_default numbers i n 0 lt)

-- the rows that are left stay where the files do
left_moved_one : (files moved : ℕ → Option Files) → ((j : ℕ) → moved j ≡ files j) → (reader : ReaderView) (head : Bool) (rows : List (List (List ℕ))) → IsLeft files reader head rows → IsLeft moved reader head rows
left_moved_one files moved same reader true [] h = h
left_moved_one files moved same reader true (row ∷ rows) h = (h.0, subst (λ (f : Option Files). IsAhead f reader rows) (sym (same (run_of reader).disk)) h.1)
left_moved_one files moved same reader false rows h = subst (λ (f : Option Files). IsAhead f reader rows) (sym (same (run_of reader).disk)) h

pub left_moved : (files moved : ℕ → Option Files) → ((j : ℕ) → moved j ≡ files j) → (begun : Bool) (readers : List ReaderView) (heads : List Bool) (lists : List (List (List (List ℕ)))) → AreLeft files begun readers heads lists → AreLeft moved begun readers heads lists
left_moved files moved same begun [] [] [] h = tt
left_moved files moved same begun [] [] (rows ∷ lists) h = h
left_moved files moved same begun [] (head ∷ heads) lists h = h
left_moved files moved same begun (reader ∷ readers) [] lists h = h
left_moved files moved same begun (reader ∷ readers) (head ∷ heads) [] h = h
left_moved files moved same begun (reader ∷ readers) (head ∷ heads) (rows ∷ lists) h =
    (left_moved_one files moved same reader head rows h.0, h.1, left_moved files moved same begun readers heads lists h.2)

-- what a reader has still to give, and what it has after it was let on
pub left_set : (files moved : ℕ → Option Files) → ((j : ℕ) → moved j ≡ files j) → (readers : List ReaderView) (heads : List Bool) (lists : List (List (List (List ℕ)))) (i : ℕ) (old new : ReaderView) (stands : Bool) → i < length readers → old ≡ get_or readers i old
    → ((rows : List (List (List ℕ))) → IsLeft files old (has_head heads i) rows → LetsOn moved new rows (Ok stands))
    → AreLeft files false readers heads lists → AreLeft moved false (set readers i new) (set heads i stands) lists × (stands ≡ false → get_or lists i [] ≡ [])
left_set files moved same [] heads lists i old new stands lt is lets h = absurd (omega arith)
left_set files moved same (reader ∷ readers) [] lists i old new stands lt is lets h = absurd h
left_set files moved same (reader ∷ readers) (head ∷ heads) [] i old new stands lt is lets h = absurd h
left_set files moved same (reader ∷ readers) (head ∷ heads) (rows ∷ lists) zero old new stands lt is lets h =
    let here = lets rows (subst (λ (r : ReaderView). IsLeft files r head rows) (sym is) h.0) in
    ((here.0, λ e. absurd cc, left_moved files moved same false readers heads lists h.2), here.1)
left_set files moved same (reader ∷ readers) (head ∷ heads) (rows ∷ lists) (suc i) old new stands lt is lets h =
    let others = left_set files moved same readers heads lists i old new stands (omega arith) is lets h.2 in
    ((left_moved_one files moved same reader head rows h.0, λ e. absurd cc, others.0), others.1)

-- the rows that one of them has still to give
pub left_at : (files : ℕ → Option Files) (readers : List ReaderView) (heads : List Bool) (lists : List (List (List (List ℕ)))) (begun : Bool) (i : ℕ) (old : ReaderView) → i < length readers → old ≡ get_or readers i old → AreLeft files begun readers heads lists → IsLeft files old (has_head heads i) (get_or lists i [])
left_at files [] heads lists begun i old lt is h = absurd (omega arith)
left_at files (reader ∷ readers) [] lists begun i old lt is h = absurd h
left_at files (reader ∷ readers) (head ∷ heads) [] begun i old lt is h = absurd h
left_at files (reader ∷ readers) (head ∷ heads) (rows ∷ lists) begun zero old lt is h = subst (λ (r : ReaderView). IsLeft files r head rows) (sym is) h.0
left_at files (reader ∷ readers) (head ∷ heads) (rows ∷ lists) begun (suc i) old lt is h = left_at files readers heads lists begun i old (omega arith) is h.2

-- each that stands at no row has none
pub all_let_on : (files : ℕ → Option Files) (readers : List ReaderView) (heads : List Bool) (lists : List (List (List (List ℕ)))) → ((k : ℕ) → k < length readers → has_head heads k ≡ false → get_or lists k [] ≡ []) → AreLeft files false readers heads lists → AreLeft files true readers heads lists
all_let_on files [] [] [] ended h = tt
all_let_on files [] [] (rows ∷ lists) ended h = h
all_let_on files [] (head ∷ heads) lists ended h = h
all_let_on files (reader ∷ readers) [] lists ended h = h
all_let_on files (reader ∷ readers) (head ∷ heads) [] ended h = h
all_let_on files (reader ∷ readers) (head ∷ heads) (rows ∷ lists) ended h =
    (h.0, λ e none. ended 0 (omega arith) none, all_let_on files readers heads lists (λ k lt none. ended (suc k) (omega arith) none) h.2)

pub no_damage : (fault : RunFault) → NotDamaged {T = Bool} (Err fault) → NotDamaged {T = Unit {0}} (Err fault)
no_damage (DiskFault disk) h = tt
no_damage (Damaged damage) h = h
no_damage NoMemory h = tt

-- how many rows are left, once one of them was let on
pub left_by-set : (readers : List ReaderView) (heads : List Bool) (i : ℕ) (old new : ReaderView) (stands : Bool) → i < length readers → i < length heads → old ≡ get_or readers i old
    → rows_ahead new + one_if stands ≡ rows_ahead old + one_if (has_head heads i)
    → left_by (set readers i new) (set heads i stands) ≡ left_by readers heads
left_by-set readers heads i old new stands lt lt_heads is e =
    let rows = sum_by-set rows_ahead readers i new old lt in
    let ones = sum_by-set one_if heads i stands false lt_heads in
    let same = ap rows_ahead is in
    omega (arith, rows, ones, same, e)

-- one that can't be let on, as its next row isn't well formed
slice_get-set : (readers : List ReaderView) (i : ℕ) (new : ReaderView) → i < length readers → slice_get (set readers i new) i ≡ Some new
slice_get-set [] i new lt = absurd (omega arith)
slice_get-set (reader ∷ readers) zero new lt = refl
slice_get-set (reader ∷ readers) (suc i) new lt = slice_get-set readers i new (omega arith)

pub damage_set : (readers : List ReaderView) (i : ℕ) (old new : ReaderView) (fault : RunFault) → i < length readers → run_of new ≡ run_of old → found_of new ≡ found_of old → TellsDamage old new (Err fault) → TellsDamageIn {T = Unit {0}} (set readers i new) (Err fault)
damage_set readers i old new (DiskFault disk) lt run found told = tt
damage_set readers i old new NoMemory lt run found told = tt
damage_set readers i old new (Damaged damage) lt run found told =
    record {
      place = i;
      within = omega (arith, length-set readers i new);
      reader = new;
      there = slice_get-set readers i new lt;
      told = told.0 ∙ ap (λ (r : Run). damage_in r (found_of old)) (sym run) ∙ ap (damage_in (run_of new)) (sym found);
      fewer = rw (run, found) told.1;
      damaged = told.2;
    }

-- the disk of one of them is on the shelf
pub on_shelf : (count : ℕ) (readers : List ReaderView) (i : ℕ) (old : ReaderView) → i < length readers → old ≡ get_or readers i old → AreOn count (map run_of readers) → (run_of old).disk < count
on_shelf count readers i old lt is on =
    let all = All-from_recursion (λ (run : Run). run.disk < count) (map run_of readers) on in
    let there : get_or (map run_of readers) i (run_of old) ≡ run_of old = get_or-map run_of readers i old (run_of old) lt ∙ ap run_of (sym is) in
    subst (λ (run : Run). run.disk < count) there (all i (run_of old) (omega (arith, length-map readers run_of)))

-- nor do the runs change
pub runs_set : (readers : List ReaderView) (i : ℕ) (old new : ReaderView) → old ≡ get_or readers i old → run_of new ≡ run_of old → map run_of (set readers i new) ≡ map run_of readers
runs_set readers i old new is run =
    map-set run_of readers i new ∙ ap (set (map run_of readers) i) run ∙ sym (map-set run_of readers i old)
    ∙ ap (λ (r : ReaderView). map run_of (set readers i r)) is ∙ ap (map run_of) (set-get_or readers i old)

-- each reader that stands at a row still does, and so does the one that was let on
pub stand_set : (kind : Kind) (readers : List ReaderView) (heads : List Bool) (i : ℕ) (old new : ReaderView) (stands : Bool) → i < length readers → i < length heads → old ≡ get_or readers i old
    → AreOfKind kind readers → AreAtEntries kind readers heads
    → (form_of old ≡ Entries kind → (has_head heads i ≡ true → ∥ IsAtEntry kind old ∥₁) → stands ≡ true → ∥ IsAtEntry kind new ∥₁)
    → AreAtEntries kind (set readers i new) (set heads i stands)
stand_set kind readers heads i old new stands lt lt_heads is of_kind at lets =
    each_set readers i new (λ k reader. has_head heads k ≡ true → ∥ IsAtEntry kind reader ∥₁) (λ k reader. has_head (set heads i stands) k ≡ true → ∥ IsAtEntry kind reader ∥₁) lt at
    (λ k reader apart h head. h (sym (other_head heads i k stands apart) ∙ head))
    (λ head. ∥∥₁_elim (of_kind i old lt is) ∥∥₁_prop (λ form. lets form (at i old lt is) (sym (get_or-set_same heads i stands false lt_heads) ∙ head)))

pub kinds_set : (kind : Kind) (readers : List ReaderView) (i : ℕ) (old new : ReaderView) → i < length readers → old ≡ get_or readers i old → form_of new ≡ form_of old → AreOfKind kind readers → AreOfKind kind (set readers i new)
kinds_set kind readers i old new lt is form of_kind =
    each_set readers i new (λ k reader. ∥ form_of reader ≡ Entries kind ∥₁) (λ k reader. ∥ form_of reader ≡ Entries kind ∥₁) lt of_kind (λ k reader apart h. h)
    (subst (λ (f : Form). ∥ f ≡ Entries kind ∥₁) (sym form) (of_kind i old lt is))

pub front_set : (readers : List ReaderView) (heads : List Bool) (fronts : List ℕ) (i front : ℕ) (old new : ReaderView) (stands : Bool) → i < length readers → i < length heads → i < length fronts → old ≡ get_or readers i old → AreFronts readers heads fronts
    → ((has_head heads i ≡ true → HasFront old (slice_index fronts i)) → stands ≡ true → HasFront new front) → AreFronts (set readers i new) (set heads i stands) (set fronts i front)
front_set readers heads fronts i front old new stands lt lt_heads lt_fronts is each lets =
    each_set readers i new (λ k reader. has_head heads k ≡ true → HasFront reader (slice_index fronts k)) (λ k reader. has_head (set heads i stands) k ≡ true → HasFront reader (slice_index (set fronts i front) k)) lt each
    (λ k reader apart h head. subst (HasFront reader) (sym (other_number fronts i k front apart)) (h (sym (other_head heads i k stands apart) ∙ head)))
    (λ head. subst (HasFront new) (sym (get_or-set_same fronts i front 0 lt_fronts)) (lets (each i old lt is) (sym (get_or-set_same heads i stands false lt_heads) ∙ head)))

-- what holds of each flag or number below i + 1, where it did below i
pub heads_more : (heads : List Bool) (i : ℕ) (stands : Bool) (P Q : ℕ → Type 0) → i < length heads → ((k : ℕ) → k < i → has_head heads k ≡ false → P k) → ((k : ℕ) → (k ≡ i → ⊥) → P k → Q k) → (stands ≡ false → Q i)
    → (k : ℕ) → k < i + 1 → has_head (set heads i stands) k ≡ false → Q k
heads_more heads i stands P Q lt below keep here k within none =
    elim (cases_eq k i) [
      | inl same ↦
          let there : has_head (set heads i stands) k ≡ stands = ap (has_head (set heads i stands)) same ∙ get_or-set_same heads i stands false lt in
          subst Q (sym same) (here (sym there ∙ none))
      | inr apart ↦ keep k apart (below k (omega (arith, apart)) (sym (other_head heads i k stands apart) ∙ none))
    ]
