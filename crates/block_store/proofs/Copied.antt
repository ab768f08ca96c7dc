-- The copies of a store as the disk's files change: which are stored, and which rows they have.
use Rattle.std.proofs.Common.{◌≡◌, ℕ, ◌<◌, ◌≤◌, ◌^◌, Bool, true, false, cond, eqb, ◌||◌, List, [], ◌∷◌, ◌++◌, length, take, Option, Some, None, refl, sym, ap, subst, ◌∙◌, inl, inr, arith}
use Rattle.std.specs.Prelude.{is_some, unwrap_or}
use Rattle.std.specs.List.{find, list_any}
use Rattle.std.specs.Option.{option_map, option_and_then, option_or}
use Rattle.std.specs.FinMap as map
use Rattle.std.proofs.Math.Logic.{∥∥₁_elim}
use Rattle.std.proofs.lemmas.Bool.{cases_Bool, true≢false, false≢true, eqb-true, eq-eqb, and_parts, and_from, both_ways}
use Rattle.std.proofs.lemmas.Option.{none-some, same_Some}
use Rattle.std.proofs.lemmas.List.Folds.{list_any-append, find-append}
use mathlib.Core.HLevel.{⊥_prop}
use Rattle.row_page.specs.Grammar.{IsPage, HasRows}
use Rattle.row_page.specs.Reading.{rows_of}
use Rattle.row_page.proofs.Shown.{rows_shown}
use Rattle.spill_disk.specs.Files.{Files}
use Rattle.block_store.specs.declared.block_copy.BlockCopy.{BlockCopy}
use Rattle.block_store.specs.Stores.{Rows}
use Rattle.block_store.specs.Copies.{is_copy, copy_at, has_copy, has_file, copy_rows, HasPage, IsStored, AreStored}
use Rattle.block_store.specs.Evictions.{file_at, WritesCopy, SameBelow, IsFront, is_name, KeepsOthers}
use Rattle.block_store.proofs.Places.{any_parts, find_none}

-- the files of these copies are as before
abbrev pub SameOn : List BlockCopy → Option Files → Option Files → Type 0
SameOn copies before after = (file : ℕ) → has_file copies file ≡ true → file_at after file ≡ file_at before file

or_right : (a b : Bool) → b ≡ true → (a || b) ≡ true
or_right true b e = refl
or_right false b e = e

-- of the first, and of the others
same_first : (copy : BlockCopy) (others : List BlockCopy) (before after : Option Files) → SameOn (copy ∷ others) before after → file_at after copy.file ≡ file_at before copy.file
same_first copy others before after same =
    same copy.file (ap (λ b. b || has_file others copy.file) (eq-eqb copy.file copy.file refl))

same_rest : (copy : BlockCopy) (others : List BlockCopy) (before after : Option Files) → SameOn (copy ∷ others) before after → SameOn others before after
same_rest copy others before after same file is = same file (or_right (eqb copy.file file) (has_file others file) is)

is_stored_same : (before after : Option Files) (copy : BlockCopy) → is_some after ≡ is_some before → file_at after copy.file ≡ file_at before copy.file → IsStored before copy → IsStored after copy
is_stored_same None None copy tells same h = tt
is_stored_same None (Some a) copy tells same h = absurd (true≢false tells)
is_stored_same (Some b) None copy tells same h = tt
is_stored_same (Some b) (Some a) copy tells same h = subst (λ (o : Option (List ℕ)). HasPage o copy.bytes) (sym same) h

pub stored_same : (before after : Option Files) (next later : ℕ) (copies : List BlockCopy) → is_some after ≡ is_some before → SameOn copies before after → next ≤ later → AreStored before next copies → AreStored after later copies
stored_same before after next later [] tells same le h = tt
stored_same before after next later (copy ∷ others) tells same le h =
    let below : copy.file < later = omega (arith, h.0) in
    (below, ((h.1.0.0, is_stored_same before after copy tells (same_first copy others before after same) h.1.0.1), (h.1.1.0, (h.1.1.1.0, stored_same before after next later others tells (same_rest copy others before after same) le h.1.1.1.1))))

pub rows_same : (before after : Option Files) (copies : List BlockCopy) (d p : ℕ) → is_some after ≡ is_some before → SameOn copies before after → copy_rows after copies d p ≡ copy_rows before copies d p
rows_same None None copies d p tells same = refl
rows_same None (Some a) copies d p tells same = absurd (true≢false tells)
rows_same (Some b) None copies d p tells same = absurd (false≢true tells)
rows_same (Some b) (Some a) [] d p tells same = refl
rows_same (Some b) (Some a) (copy ∷ others) d p tells same =
    by_first (is_copy d p copy) (ap (option_map rows_of) (same_first copy others (Some b) (Some a) same)) (rows_same (Some b) (Some a) others d p tells (same_rest copy others (Some b) (Some a) same))
  where
    by_first : (t : Bool) → option_map rows_of (map.get a copy.file) ≡ option_map rows_of (map.get b copy.file) → copy_rows (Some a) others d p ≡ copy_rows (Some b) others d p → option_and_then (λ (c : BlockCopy). option_map rows_of (map.get a c.file)) (cond t (Some copy) (copy_at others d p)) ≡ option_and_then (λ (c : BlockCopy). option_map rows_of (map.get b c.file)) (cond t (Some copy) (copy_at others d p))
    by_first true here rest = here
    by_first false here rest = rest

-- each copy's file is below the next number
pub file_below : (files : Option Files) (next : ℕ) (copies : List BlockCopy) (file : ℕ) → AreStored files next copies → has_file copies file ≡ true → file < next
file_below files next [] file h is = absurd (false≢true is)
file_below files next (copy ∷ others) file h is =
    elim (cases_Bool (eqb copy.file file)) [
      | inl first ↦ let here : copy.file ≡ file = eqb-true copy.file file first in omega (arith, h.0, here)
      | inr later ↦ file_below files next others file h.1.1.1.1 (sym (ap (λ b. b || has_file others file) later) ∙ is)
    ]

pub same_on : (before after : Option Files) (next : ℕ) (copies : List BlockCopy) → AreStored before next copies → SameBelow next before after → SameOn copies before after
same_on before after next copies h same file is = same file (file_below before next copies file h is)

-- a number that wasn't given out is of no copy
fresh_file : (files : Option Files) (next : ℕ) (copies : List BlockCopy) (file : ℕ) → AreStored files next copies → next ≤ file → has_file copies file ≡ false
fresh_file files next copies file h le =
    elim (cases_Bool (has_file copies file)) [
      | inl is ↦ let lt : file < next = file_below files next copies file h is in absurd (omega arith)
      | inr not_there ↦ not_there
    ]

-- one copy more
stored_end : (files : Option Files) (next : ℕ) (copies : List BlockCopy) (copy : BlockCopy) → AreStored files next copies → copy.file < next → copy.bytes ≤ 2 ^ 40 → IsStored files copy → has_copy copies copy.dataset copy.part ≡ false → has_file copies copy.file ≡ false → AreStored files next (copies ++ copy ∷ [])
stored_end files next [] copy h below small stored name file = (below, ((small, stored), (refl, (refl, tt))))
stored_end files next (c ∷ cs) copy h below small stored name file =
    let names = any_parts (is_copy copy.dataset copy.part) c cs name in
    let files_apart = any_parts (λ x. eqb x.file copy.file) c cs file in (
      h.0,
      (
        h.1.0,
        (
          list_any-append (is_copy c.dataset c.part) cs (copy ∷ []) ∙ ap (λ t. t || list_any (is_copy c.dataset c.part) (copy ∷ [])) h.1.1.0 ∙ ap (λ t. t || false) (names_turned c copy names.0),
          (
            list_any-append (λ x. eqb x.file c.file) cs (copy ∷ []) ∙ ap (λ t. t || list_any (λ x. eqb x.file c.file) (copy ∷ [])) h.1.1.1.0 ∙ ap (λ t. t || false) (numbers_turned c.file copy.file files_apart.0),
            stored_end files next cs copy h.1.1.1.1 below small stored names.1 files_apart.1,
          ),
        ),
      ),
    )
  where
    numbers_turned : (m n : ℕ) → eqb m n ≡ false → eqb n m ≡ false
    numbers_turned m n apart =
        elim (cases_Bool (eqb n m)) [
          | inl same ↦ absurd (both_ways (eqb m n) apart (eq-eqb m n (sym (eqb-true n m same))))
          | inr differ ↦ differ
        ]

    names_turned : (a b : BlockCopy) → is_copy b.dataset b.part a ≡ false → is_copy a.dataset a.part b ≡ false
    names_turned a b apart =
        elim (cases_Bool (is_copy a.dataset a.part b)) [
          | inl same ↦
              let parts = and_parts (eqb b.dataset a.dataset) (eqb b.part a.part) same in
              absurd (both_ways (is_copy b.dataset b.part a) apart (and_from (eqb a.dataset b.dataset) (eqb a.part b.part) (eq-eqb a.dataset b.dataset (sym (eqb-true b.dataset a.dataset parts.0))) (eq-eqb a.part b.part (sym (eqb-true b.part a.part parts.1)))))
          | inr differ ↦ differ
        ]

is_stored_written : (before after : Option Files) (copy : BlockCopy) (bytes : List ℕ) → is_some after ≡ is_some before → WritesCopy before after copy.file bytes → HasRows bytes → length bytes ≡ copy.bytes → IsStored after copy
is_stored_written before None copy bytes tells written rows count = tt
is_stored_written None (Some a) copy bytes tells written rows count = absurd (true≢false tells)
is_stored_written (Some b) (Some a) copy bytes tells written rows count =
    subst (λ (o : Option (List ℕ)). HasPage o copy.bytes) (sym written.0) (count, ∣ rows ∣₁)

-- the copies with the one that was written
pub stored_more : (before after : Option Files) (next later : ℕ) (copies : List BlockCopy) (copy : BlockCopy) (bytes : List ℕ) → AreStored before next copies → SameBelow next before after → is_some after ≡ is_some before → next ≤ later → next ≤ copy.file → copy.file < later → WritesCopy before after copy.file bytes → HasRows bytes → length bytes ≡ copy.bytes → copy.bytes ≤ 2 ^ 40 → has_copy copies copy.dataset copy.part ≡ false → AreStored after later (copies ++ copy ∷ [])
stored_more before after next later copies copy bytes h same tells le fresh below written rows count small name =
    stored_end after later copies copy (stored_same before after next later copies tells (same_on before after next copies h same) le h) below small (is_stored_written before after copy bytes tells written rows count) name (fresh_file before next copies copy.file h fresh)

copy_at_end : (copies : List BlockCopy) (copy : BlockCopy) → has_copy copies copy.dataset copy.part ≡ false → copy_at (copies ++ copy ∷ []) copy.dataset copy.part ≡ Some copy
copy_at_end copies copy none =
    find-append (is_copy copy.dataset copy.part) copies (copy ∷ [])
    ∙ ap (λ (o : Option BlockCopy). option_or o (find (is_copy copy.dataset copy.part) (copy ∷ []))) (find_none (is_copy copy.dataset copy.part) copies none)
    ∙ ap (λ t. cond t (Some copy) None) (and_from (eqb copy.dataset copy.dataset) (eqb copy.part copy.part) (eq-eqb copy.dataset copy.dataset refl) (eq-eqb copy.part copy.part refl))

-- the copy that was written has the rows of its bytes
pub rows_written : (before after : Option Files) (copies : List BlockCopy) (copy : BlockCopy) (bytes : List ℕ) (rows : Rows) → has_copy copies copy.dataset copy.part ≡ false → WritesCopy before after copy.file bytes → IsPage bytes rows → is_some before ≡ true → copy_rows after (copies ++ copy ∷ []) copy.dataset copy.part ≡ Some rows
rows_written None after copies copy bytes rows none written page tells = absurd (false≢true tells)
rows_written (Some b) None copies copy bytes rows none written page tells = absurd written
rows_written (Some b) (Some a) copies copy bytes rows none written page tells =
    ap (option_and_then (λ (c : BlockCopy). option_map rows_of (map.get a c.file))) (copy_at_end copies copy none)
    ∙ ap (option_map rows_of) written.0
    ∙ ap Some (rows_shown bytes rows page)

-- no other name is that of the copy that was added
other_name : (d p : ℕ) (copy : BlockCopy) → is_name copy.dataset copy.part d p ≡ false → is_copy d p copy ≡ false
other_name d p copy apart =
    elim (cases_Bool (is_copy d p copy)) [
      | inl same ↦
          let parts = and_parts (eqb copy.dataset d) (eqb copy.part p) same in
          absurd (both_ways (is_name copy.dataset copy.part d p) apart (and_from (eqb d copy.dataset) (eqb p copy.part) (eq-eqb d copy.dataset (sym (eqb-true copy.dataset d parts.0))) (eq-eqb p copy.part (sym (eqb-true copy.part p parts.1)))))
      | inr differ ↦ differ
    ]

pub others_more : (before after : Option Files) (copies : List BlockCopy) (copy : BlockCopy) → is_some after ≡ is_some before → SameOn copies before after → KeepsOthers copy.dataset copy.part before copies after (copies ++ copy ∷ [])
others_more before after copies copy tells same d p apart =
    let other : is_copy d p copy ≡ false = other_name d p copy apart in
    let found : copy_at (copies ++ copy ∷ []) d p ≡ copy_at copies d p =
    find-append (is_copy d p) copies (copy ∷ []) ∙ ap (λ t. option_or (copy_at copies d p) (cond t (Some copy) None)) other ∙ or_none (copy_at copies d p) in (
      list_any-append (is_copy d p) copies (copy ∷ []) ∙ ap (λ t. list_any (is_copy d p) copies || (t || false)) other ∙ or_nothing (list_any (is_copy d p) copies),
      rows_by after copies (copies ++ copy ∷ []) d p found ∙ rows_same before after copies d p tells same,
    )
  where
    or_none : (o : Option BlockCopy) → option_or o None ≡ o
    or_none None = refl
    or_none (Some x) = refl

    or_nothing : (b : Bool) → (b || false) ≡ b
    or_nothing true = refl
    or_nothing false = refl

    rows_by : (files : Option Files) (old new : List BlockCopy) (d p : ℕ) → copy_at new d p ≡ copy_at old d p → copy_rows files new d p ≡ copy_rows files old d p
    rows_by None old new d p e = refl
    rows_by (Some f) old new d p e = ap (option_and_then (λ (c : BlockCopy). option_map rows_of (map.get f c.file))) e

pub others_same : (before after : Option Files) (copies : List BlockCopy) (dataset part : ℕ) → is_some after ≡ is_some before → SameOn copies before after → KeepsOthers dataset part before copies after copies
others_same before after copies dataset part tells same d p apart = (refl, rows_same before after copies d p tells same)

-- what is read of a copy

-- its bytes are all of its file's
whole : (file : Option (List ℕ)) (count : ℕ) (bytes : List ℕ) → HasPage file count → bytes ≡ take count (unwrap_or file []) → file ≡ Some bytes
whole None count bytes h front = absurd h
whole (Some all) count bytes h front = ap Some (sym (front ∙ ap (λ n. take n all) (sym h.0) ∙ take_whole all))
  where
    take_whole : (xs : List ℕ) → take (length xs) xs ≡ xs
    take_whole [] = refl
    take_whole (x ∷ xs) = ap (λ (ys : List ℕ). x ∷ ys) (take_whole xs)

has_rows : (file : Option (List ℕ)) (count : ℕ) (bytes : List ℕ) → HasPage file count → file ≡ Some bytes → (length bytes ≡ count) × ∥ HasRows bytes ∥₁
has_rows file count bytes h e = subst (λ (o : Option (List ℕ)). HasPage o count) e h

-- what was read of a copy is a page
pub page_was_read : (files : Option Files) (copy : BlockCopy) (bytes : List ℕ) → is_some files ≡ true → IsStored files copy → IsFront files copy.file copy.bytes bytes → ((rows : Rows) → IsPage bytes rows → copy.bytes < length bytes) → ⊥
page_was_read None copy bytes tells h front none = absurd (false≢true tells)
page_was_read (Some f) copy bytes tells h front none =
    let all : map.get f copy.file ≡ Some bytes = whole (map.get f copy.file) copy.bytes bytes h front in
    let known = has_rows (map.get f copy.file) copy.bytes bytes h all in
    ∥∥₁_elim known.1 ⊥_prop (λ (rows : HasRows bytes). let past : copy.bytes < length bytes = none rows.0 rows.1 in absurd (omega (arith, known.0)))

-- and as long as the copy
pub length_was_read : (files : Option Files) (copy : BlockCopy) (bytes : List ℕ) → is_some files ≡ true → IsStored files copy → IsFront files copy.file copy.bytes bytes → length bytes ≡ copy.bytes
length_was_read None copy bytes tells h front = absurd (false≢true tells)
length_was_read (Some f) copy bytes tells h front =
    let all : map.get f copy.file ≡ Some bytes = whole (map.get f copy.file) copy.bytes bytes h front in
    (has_rows (map.get f copy.file) copy.bytes bytes h all).0

pub rows_were_read : (files : Option Files) (copy : BlockCopy) (bytes : List ℕ) (rows : Rows) → is_some files ≡ true → IsStored files copy → IsFront files copy.file copy.bytes bytes → IsPage bytes rows → option_map rows_of (file_at files copy.file) ≡ Some rows
rows_were_read None copy bytes rows tells h front page = absurd (false≢true tells)
rows_were_read (Some f) copy bytes rows tells h front page =
    ap (option_map rows_of) (whole (map.get f copy.file) copy.bytes bytes h front) ∙ ap Some (rows_shown bytes rows page)

-- a copy that is found
pub found_stored : (files : Option Files) (next : ℕ) (copies : List BlockCopy) (d p : ℕ) (copy : BlockCopy) → AreStored files next copies → copy_at copies d p ≡ Some copy → (copy.bytes ≤ 2 ^ 40) × IsStored files copy
found_stored files next [] d p copy h e = absurd (none-some copy e)
found_stored files next (c ∷ cs) d p copy h e =
    elim (cases_Bool (is_copy d p c)) [
      | inl here ↦ subst (λ (x : BlockCopy). (x.bytes ≤ 2 ^ 40) × IsStored files x) (same_Some c copy (sym (ap (λ t. cond t (Some c) (copy_at cs d p)) here) ∙ e)) h.1.0
      | inr later ↦ found_stored files next cs d p copy h.1.1.1.1 (sym (ap (λ t. cond t (Some c) (copy_at cs d p)) later) ∙ e)
    ]

pub found_name : (copies : List BlockCopy) (d p : ℕ) (copy : BlockCopy) → copy_at copies d p ≡ Some copy → (copy.dataset ≡ d) × (copy.part ≡ p)
found_name [] d p copy e = absurd (none-some copy e)
found_name (c ∷ cs) d p copy e =
    elim (cases_Bool (is_copy d p c)) [
      | inl here ↦
          let same : c ≡ copy = same_Some c copy (sym (ap (λ t. cond t (Some c) (copy_at cs d p)) here) ∙ e) in
          let parts = and_parts (eqb c.dataset d) (eqb c.part p) here in
          (sym (ap (λ (x : BlockCopy). x.dataset) same) ∙ eqb-true c.dataset d parts.0, sym (ap (λ (x : BlockCopy). x.part) same) ∙ eqb-true c.part p parts.1)
      | inr later ↦ found_name cs d p copy (sym (ap (λ t. cond t (Some c) (copy_at cs d p)) later) ∙ e)
    ]

pub found_is : (copies : List BlockCopy) (d p : ℕ) → is_some (copy_at copies d p) ≡ has_copy copies d p
found_is [] d p = refl
found_is (c ∷ cs) d p = by_first (is_copy d p c) (found_is cs d p)
  where
    by_first : (t : Bool) → is_some (copy_at cs d p) ≡ has_copy cs d p → is_some (cond t (Some c) (copy_at cs d p)) ≡ (t || has_copy cs d p)
    by_first true rest = refl
    by_first false rest = rest

-- on a disk that tells a copy has rows
pub copied_rows : (files : Option Files) (next : ℕ) (copies : List BlockCopy) (d p : ℕ) → AreStored files next copies → is_some files ≡ true → is_some (copy_rows files copies d p) ≡ has_copy copies d p
copied_rows None next copies d p h tells = absurd (false≢true tells)
copied_rows (Some f) next [] d p h tells = refl
copied_rows (Some f) next (c ∷ cs) d p h tells =
    by_first (is_copy d p c) (shows (map.get f c.file) c.bytes h.1.0.1) (copied_rows (Some f) next cs d p h.1.1.1.1 tells)
  where
    shows : (file : Option (List ℕ)) (count : ℕ) → HasPage file count → is_some (option_map rows_of file) ≡ true
    shows None count page = absurd page
    shows (Some bytes) count page = refl

    by_first : (t : Bool) → is_some (option_map rows_of (map.get f c.file)) ≡ true → is_some (copy_rows (Some f) cs d p) ≡ has_copy cs d p → is_some (option_and_then (λ (x : BlockCopy). option_map rows_of (map.get f x.file)) (cond t (Some c) (copy_at cs d p))) ≡ (t || has_copy cs d p)
    by_first true here rest = here
    by_first false here rest = rest
