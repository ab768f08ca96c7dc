-- The copies of a dataset are taken out one by one, each with its file.
use Rattle.std.proofs.Common.{◌≡◌, ℕ, zero, suc, ◌≤◌, Bool, true, false, not, cond, eqb, ◌||◌, List, [], ◌∷◌, Option, Some, None, Result, refl, sym, ap, subst, ◌∙◌, inl, inr, arith}
use Rattle.std.specs.Prelude.{is_some, slice_get, OnOk, OnErr}
use Rattle.std.specs.List.{find, filter, list_any, remove}
use Rattle.std.specs.Option.{option_map, option_and_then}
use Rattle.std.specs.FinMap as map
use Rattle.std.proofs.lemmas.Bool.{cases_Bool, eqb-true, eq-eqb, and_parts, both_ways}
use Rattle.std.proofs.lemmas.Option.{none-some, same_Some}
use Rattle.std.proofs.lemmas.Map.Views.{any-filter_same}
use Rattle.row_page.specs.Reading.{rows_of}
use Rattle.spill_disk.specs.Files.{Files, Removes}
use Rattle.block_store.specs.declared.block_copy.BlockCopy.{BlockCopy}
use Rattle.block_store.specs.Copies.{is_copy, copy_at, has_copy, has_file, copy_rows, of_others, only_of, AreStored}
use Rattle.block_store.specs.Evictions.{file_at, KeepsDatasets}
use Rattle.block_store.proofs.Places.{any_at, any_parts, none_filtered}
use Rattle.block_store.proofs.Filing.{removal_same}
use Rattle.block_store.proofs.Copied.{SameOn, stored_same, rows_same}

-- whether it is the file of this copy
abbrev is_file : ℕ → BlockCopy → Bool
is_file file copy = eqb copy.file file

turned : (m n : ℕ) → eqb m n ≡ false → eqb n m ≡ false
turned m n apart =
    elim (cases_Bool (eqb n m)) [
      | inl same ↦ absurd (both_ways (eqb m n) apart (eq-eqb m n (sym (eqb-true n m same))))
      | inr differ ↦ differ
    ]

none_removed : (test : BlockCopy → Bool) (copies : List BlockCopy) (i : ℕ) → list_any test copies ≡ false → list_any test (remove copies i) ≡ false
none_removed test [] zero none = refl
none_removed test [] (suc i) none = refl
none_removed test (c ∷ cs) zero none = (any_parts test c cs none).1
none_removed test (c ∷ cs) (suc i) none =
    let parts = any_parts test c cs none in
    ap (λ b. b || list_any test (remove cs i)) parts.0 ∙ none_removed test cs i parts.1

stored_removed : (files : Option Files) (next : ℕ) (copies : List BlockCopy) (i : ℕ) → AreStored files next copies → AreStored files next (remove copies i)
stored_removed files next [] zero h = tt
stored_removed files next [] (suc i) h = tt
stored_removed files next (c ∷ cs) zero h = h.1.1.1.1
stored_removed files next (c ∷ cs) (suc i) h =
    (h.0, (h.1.0, (none_removed (is_copy c.dataset c.part) cs i h.1.1.0, (none_removed (is_file c.file) cs i h.1.1.1.0, stored_removed files next cs i h.1.1.1.1))))

-- a copy's file is no other's
apart_file : (files : Option Files) (next : ℕ) (copies : List BlockCopy) (i : ℕ) (copy : BlockCopy) → AreStored files next copies → slice_get copies i ≡ Some copy → has_file (remove copies i) copy.file ≡ false
apart_file files next [] i copy h here = absurd (none-some copy here)
apart_file files next (c ∷ cs) zero copy h here =
    ap (λ (x : BlockCopy). has_file cs x.file) (sym (same_Some c copy here)) ∙ h.1.1.1.0
apart_file files next (c ∷ cs) (suc i) copy h here =
    let first : eqb c.file copy.file ≡ false =
    elim (cases_Bool (eqb c.file copy.file)) [
      | inl same ↦ absurd (both_ways (has_file cs c.file) h.1.1.1.0 (any_at (is_file c.file) cs i copy here (eq-eqb copy.file c.file (sym (eqb-true c.file copy.file same)))))
      | inr differ ↦ differ
    ] in
    ap (λ b. b || has_file (remove cs i) copy.file) first ∙ apart_file files next cs i copy h.1.1.1.1 here

-- one of the dataset is taken out: the others are as before
others_removed : (d : ℕ) (copies : List BlockCopy) (i : ℕ) (copy : BlockCopy) → slice_get copies i ≡ Some copy → copy.dataset ≡ d → of_others d (remove copies i) ≡ of_others d copies
others_removed d [] i copy here of = absurd (none-some copy here)
others_removed d (c ∷ cs) zero copy here of =
    let named : eqb c.dataset d ≡ true = eq-eqb c.dataset d (ap (λ (x : BlockCopy). x.dataset) (same_Some c copy here) ∙ of) in
    sym (ap (λ b. cond (not b) (c ∷ of_others d cs) (of_others d cs)) named)
others_removed d (c ∷ cs) (suc i) copy here of =
    ap (λ (xs : List BlockCopy). cond (not (eqb c.dataset d)) (c ∷ xs) xs) (others_removed d cs i copy here of)

-- no file comes to the copies of the dataset
only_removed : (d : ℕ) (copies : List BlockCopy) (i : ℕ) (file : ℕ) → has_file (only_of d copies) file ≡ false → has_file (only_of d (remove copies i)) file ≡ false
only_removed d [] zero file none = refl
only_removed d [] (suc i) file none = refl
only_removed d (c ∷ cs) zero file none =
    elim (cases_Bool (eqb c.dataset d)) [
      | inl named ↦ (any_parts (is_file file) c (only_of d cs) (sym (ap (λ b. has_file (cond b (c ∷ only_of d cs) (only_of d cs)) file) named) ∙ none)).1
      | inr other ↦ sym (ap (λ b. has_file (cond b (c ∷ only_of d cs) (only_of d cs)) file) other) ∙ none
    ]
only_removed d (c ∷ cs) (suc i) file none =
    elim (cases_Bool (eqb c.dataset d)) [
      | inl named ↦
          let parts = any_parts (is_file file) c (only_of d cs) (sym (ap (λ b. has_file (cond b (c ∷ only_of d cs) (only_of d cs)) file) named) ∙ none) in
          ap (λ b. has_file (cond b (c ∷ only_of d (remove cs i)) (only_of d (remove cs i))) file) named ∙ ap (λ b. b || has_file (only_of d (remove cs i)) file) parts.0 ∙ only_removed d cs i file parts.1
      | inr other ↦
          ap (λ b. has_file (cond b (c ∷ only_of d (remove cs i)) (only_of d (remove cs i))) file) other
          ∙ only_removed d cs i file (sym (ap (λ b. has_file (cond b (c ∷ only_of d cs) (only_of d cs)) file) other) ∙ none)
    ]

or_right : (a b : Bool) → b ≡ true → (a || b) ≡ true
or_right true b e = refl
or_right false b e = e

only_has : (d : ℕ) (copies : List BlockCopy) (i : ℕ) (copy : BlockCopy) → slice_get copies i ≡ Some copy → copy.dataset ≡ d → has_file (only_of d copies) copy.file ≡ true
only_has d [] i copy here of = absurd (none-some copy here)
only_has d (c ∷ cs) zero copy here of =
    let same : c ≡ copy = same_Some c copy here in
    let named : eqb c.dataset d ≡ true = eq-eqb c.dataset d (ap (λ (x : BlockCopy). x.dataset) same ∙ of) in
    ap (λ b. has_file (cond b (c ∷ only_of d cs) (only_of d cs)) copy.file) named ∙ ap (λ b. b || has_file (only_of d cs) copy.file) (eq-eqb c.file copy.file (ap (λ (x : BlockCopy). x.file) same))
only_has d (c ∷ cs) (suc i) copy here of =
    let rest : has_file (only_of d cs) copy.file ≡ true = only_has d cs i copy here of in
    elim (cases_Bool (eqb c.dataset d)) [
      | inl named ↦ ap (λ b. has_file (cond b (c ∷ only_of d cs) (only_of d cs)) copy.file) named ∙ or_right (eqb c.file copy.file) (has_file (only_of d cs) copy.file) rest
      | inr other ↦ ap (λ b. has_file (cond b (c ∷ only_of d cs) (only_of d cs)) copy.file) other ∙ rest
    ]

-- some copies of the dataset are taken out, with their files
pub record Forgets (dataset : ℕ) (before after : Option Files) (next : ℕ) (old left : List BlockCopy) : Type 0 where
  pub stored : AreStored after next left
  pub others : of_others dataset left ≡ of_others dataset old
  pub same : (file : ℕ) → has_file (only_of dataset old) file ≡ false → file_at after file ≡ file_at before file
  pub fewer : (file : ℕ) → has_file (only_of dataset old) file ≡ false → has_file (only_of dataset left) file ≡ false
  pub tells : is_some after ≡ is_some before

pub forgets_none : (dataset : ℕ) (files : Option Files) (next : ℕ) (old : List BlockCopy) → AreStored files next old → Forgets dataset files files next old old
forgets_none dataset files next old h =
    record { stored = h; others = refl; same = λ file none. refl; fewer = λ file none. none; tells = refl }

pub forgets_more : {E : Type 0} (dataset : ℕ) (before after last : Option Files) (next later : ℕ) (old left fewer : List BlockCopy) (i : ℕ) (copy : BlockCopy) (answer : Result (Unit {0}) E) → Forgets dataset before after next old left → slice_get left i ≡ Some copy → copy.dataset ≡ dataset → fewer ≡ remove left i → is_some last ≡ is_some after → later ≡ next → OnOk answer (Removes after last copy.file) → OnErr answer (last ≡ after) → Forgets dataset before last later old fewer
forgets_more dataset before after last next later old left fewer i copy answer h here of less tells numbers ok err =
    let unchanged : (file : ℕ) → (file ≡ copy.file → ⊥) → file_at last file ≡ file_at after file = λ file apart. removal_same after last copy.file answer file tells ok err apart in
    let same_left : SameOn (remove left i) after last = λ file is. unchanged file (λ e. both_ways (has_file (remove left i) copy.file) (apart_file after next left i copy h.stored here) (ap (has_file (remove left i)) (sym e) ∙ is)) in
    let le : next ≤ later = omega arith in
    record {
      stored = subst (AreStored last later) (sym less) (stored_same after last next later (remove left i) tells same_left le (stored_removed after next left i h.stored));
      others = ap (of_others dataset) less ∙ others_removed dataset left i copy here of ∙ h.others;
      same = λ file none. unchanged file (λ e. both_ways (has_file (only_of dataset left) copy.file) (ap (has_file (only_of dataset left)) (sym e) ∙ h.fewer file none) (only_has dataset left i copy here of)) ∙ h.same file none;
      fewer = λ file none. ap (λ (xs : List BlockCopy). has_file (only_of dataset xs) file) less ∙ only_removed dataset left i file (h.fewer file none);
      tells = tells ∙ h.tells;
    }

-- what is left of the copies of the other datasets

-- a file is of one dataset
parted : (files : Option Files) (next d : ℕ) (copies : List BlockCopy) (file : ℕ) → AreStored files next copies → has_file (of_others d copies) file ≡ true → has_file (only_of d copies) file ≡ false
parted files next d [] file h is = refl
parted files next d (c ∷ cs) file h is =
    elim (cases_Bool (eqb c.dataset d)) [
      | inl named ↦
          let rest : has_file (of_others d cs) file ≡ true = sym (ap (λ b. has_file (cond (not b) (c ∷ of_others d cs) (of_others d cs)) file) named) ∙ is in
          let first : eqb c.file file ≡ false =
          elim (cases_Bool (eqb c.file file)) [
            | inl same ↦ absurd (both_ways (has_file (of_others d cs) file) (none_filtered (is_file file) (λ x. not (eqb x.dataset d)) cs (ap (has_file cs) (sym (eqb-true c.file file same)) ∙ h.1.1.1.0)) rest)
            | inr differ ↦ differ
          ] in
          ap (λ b. has_file (cond b (c ∷ only_of d cs) (only_of d cs)) file) named ∙ ap (λ b. b || has_file (only_of d cs) file) first ∙ parted files next d cs file h.1.1.1.1 rest
      | inr other ↦
          ap (λ b. has_file (cond b (c ∷ only_of d cs) (only_of d cs)) file) other
          ∙ elim (cases_Bool (eqb c.file file)) [
            | inl same ↦ none_filtered (is_file file) (λ x. eqb x.dataset d) cs (ap (has_file cs) (sym (eqb-true c.file file same)) ∙ h.1.1.1.0)
            | inr differ ↦ parted files next d cs file h.1.1.1.1 (sym (ap (λ b. has_file (cond (not b) (c ∷ of_others d cs) (of_others d cs)) file) other ∙ ap (λ b. b || has_file (of_others d cs) file) differ) ∙ is)
          ]
    ]

find_filtered : {X : Type 0} (test keeps : X → Bool) (xs : List X) → ((x : X) → test x ≡ true → keeps x ≡ true) → find test (filter keeps xs) ≡ find test xs
find_filtered test keeps [] all = refl
find_filtered test keeps (x ∷ xs) all =
    elim (cases_Bool (test x)) [
      | inl holds ↦
          ap (λ b. find test (cond b (x ∷ filter keeps xs) (filter keeps xs))) (all x holds) ∙ ap (λ b. cond b (Some x) (find test (filter keeps xs))) holds ∙ sym (ap (λ b. cond b (Some x) (find test xs)) holds)
      | inr fails ↦
          by_kept (keeps x) fails ∙ find_filtered test keeps xs all ∙ sym (ap (λ b. cond b (Some x) (find test xs)) fails)
    ]
  where
    by_kept : (b : Bool) → test x ≡ false → find test (cond b (x ∷ filter keeps xs) (filter keeps xs)) ≡ find test (filter keeps xs)
    by_kept true fails = ap (λ t. cond t (Some x) (find test (filter keeps xs))) fails
    by_kept false fails = refl

other_kept : (dataset d p : ℕ) → eqb d dataset ≡ false → (copy : BlockCopy) → is_copy d p copy ≡ true → not (eqb copy.dataset dataset) ≡ true
other_kept dataset d p apart copy is =
    let parts = and_parts (eqb copy.dataset d) (eqb copy.part p) is in
    ap not (ap (λ n. eqb n dataset) (eqb-true copy.dataset d parts.0) ∙ apart)

rows_by : (files : Option Files) (old new : List BlockCopy) (d p : ℕ) → copy_at new d p ≡ copy_at old d p → copy_rows files new d p ≡ copy_rows files old d p
rows_by None old new d p e = refl
rows_by (Some f) old new d p e = ap (option_and_then (λ (c : BlockCopy). option_map rows_of (map.get f c.file))) e

pub datasets_kept : (dataset : ℕ) (before after : Option Files) (next : ℕ) (old new : List BlockCopy) → AreStored before next old → is_some after ≡ is_some before → ((file : ℕ) → has_file (only_of dataset old) file ≡ false → file_at after file ≡ file_at before file) → new ≡ of_others dataset old → KeepsDatasets dataset before old after new
datasets_kept dataset before after next old new h tells same left d p apart =
    let on : SameOn (of_others dataset old) before after = λ file is. same file (parted before next dataset old file h is) in (
      ap (λ (xs : List BlockCopy). has_copy xs d p) left ∙ any-filter_same (is_copy d p) (λ copy. not (eqb copy.dataset dataset)) true (other_kept dataset d p apart) old,
      ap (λ (xs : List BlockCopy). copy_rows after xs d p) left
          ∙ rows_same before after (of_others dataset old) d p tells on
          ∙ rows_by before old (of_others dataset old) d p (find_filtered (is_copy d p) (λ copy. not (eqb copy.dataset dataset)) old (other_kept dataset d p apart)),
    )

pub dataset_gone : (dataset part : ℕ) (old new : List BlockCopy) → new ≡ of_others dataset old → has_copy new dataset part ≡ false
dataset_gone dataset part old new left =
    ap (λ (xs : List BlockCopy). has_copy xs dataset part) left ∙ any-filter_same (is_copy dataset part) (λ copy. not (eqb copy.dataset dataset)) false own old
  where
    own : (copy : BlockCopy) → is_copy dataset part copy ≡ true → not (eqb copy.dataset dataset) ≡ false
    own copy is = ap not (and_parts (eqb copy.dataset dataset) (eqb copy.part part) is).0
