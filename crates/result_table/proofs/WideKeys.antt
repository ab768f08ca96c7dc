-- The first entry with a number outside `i64`: entries before it are passed, whatever follows.
use Rattle.std.proofs.Common.{◌≡◌, ◌<◌, ◌+◌, ℕ, ℤ, Bool, true, false, List, [], ◌∷◌, Option, Some, None, Ok, Err, length, sym, ap, ◌∙◌, arith, get_or, inl, inr, refl}
use Rattle.std.specs.Prelude.{not}
use Rattle.std.specs.List.{list_any}
use Rattle.std.proofs.lemmas.Bool.{cases_Bool}
use Rattle.std.proofs.lemmas.List.Folds.{list_any-append, list_any_at}
use Rattle.std.proofs.lemmas.List.FromFn.{map-range_with_len_more, get_or-map-range_with_len, length-map-range_with_len}
use Rattle.aggregate.specs.Partial.{finished_of, fits_i64, partial_at}
use Rattle.aggregate.specs.declared.partial.Finished.TheVariants.{Missing, Number, Wide}
use Rattle.aggregate.specs.Totals.{Entry}
use Rattle.spill_disk.specs.Files.{Files}
use Rattle.run_file.specs.Causes.{NotDamaged}
use Rattle.run_file.specs.declared.run.RunFault.{RunFault}
use Rattle.run_file.specs.declared.run.RunFault.TheVariants.{DiskFault, Damaged, NoMemory}
use Rattle.job_plan.specs.Telling.{is_wide, leaves_i64, value_partials}
use Rattle.run_file.specs.AtEntries.{entry_at}
use Rattle.result_table.specs.Ahead.{AreAhead, GoesTo}
use Rattle.result_table.specs.Results.{wide_key}
use Rattle.run_file.specs.Readers.{ReaderView}

-- ---- the partial values of a value, one after the other

pub any_more : (value : List ℕ) (place : ℕ) → list_any leaves_i64 (value_partials place value) ≡ false → leaves_i64 (partial_at place value) ≡ false
    → list_any leaves_i64 (value_partials (place + 1) value) ≡ false
any_more value place none stays =
    ap (list_any leaves_i64) (map-range_with_len_more (λ k. partial_at k value) 0 place place (omega arith))
    ∙ list_any-append leaves_i64 (value_partials place value) (partial_at place value ∷ []) ∙ rw (none, stays) refl

pub any_here : (value : List ℕ) (place count : ℕ) → place < count → leaves_i64 (partial_at place value) ≡ true
    → list_any leaves_i64 (value_partials count value) ≡ true
any_here value place count lt leaves =
    let read : get_or (value_partials count value) place (partial_at place value) ≡ partial_at place value =
    get_or-map-range_with_len (λ k. partial_at k value) 0 count place place (partial_at place value) lt (omega arith) in
    let long : length (value_partials count value) ≡ count = length-map-range_with_len (λ k. partial_at k value) 0 count in
    list_any_at leaves_i64 (value_partials count value) place (partial_at place value) (omega (arith, long)) (rw read leaves)

-- ---- what is told of a partial value

pub not_false : (b : Bool) → not b ≡ false → b ≡ true
not_false true is = refl
not_false false is = absurd (cc is)

pub not_true : (b : Bool) → not b ≡ true → b ≡ false
not_true true is = absurd (cc is)
not_true false is = refl

pub told_missing : (partial : Option ℤ) → Missing ≡ finished_of partial → partial ≡ None
told_missing None is = refl
told_missing (Some z) is = elim (cases_Bool (fits_i64 z)) [
  | inl fits ↦ absurd (let no = rw fits at is in cc no)
  | inr leaves ↦ absurd (let no = rw leaves at is in cc no)
]

pub told_number : (n : ℤ) (partial : Option ℤ) → Number n ≡ finished_of partial → (partial ≡ Some n) × (leaves_i64 partial ≡ false)
told_number n None is = absurd (cc is)
told_number n (Some z) is = elim (cases_Bool (fits_i64 z)) [
  | inl fits ↦ (let same = rw fits at is in (cc same, ap not fits))
  | inr leaves ↦ absurd (let no = rw leaves at is in cc no)
]

pub told_wide : (partial : Option ℤ) → Wide ≡ finished_of partial → leaves_i64 partial ≡ true
told_wide None is = absurd (cc is)
told_wide (Some z) is = elim (cases_Bool (fits_i64 z)) [
  | inl fits ↦ absurd (let no = rw fits at is in cc no)
  | inr leaves ↦ ap not leaves
]

-- ---- entries that are passed
passed : (count : ℕ) (entry : Entry) (entries : List Entry) → is_wide count entry ≡ false → wide_key count (entry ∷ entries) ≡ wide_key count entries
passed count entry entries narrow = rw narrow refl

stopped : (count : ℕ) (entry : Entry) (entries : List Entry) → is_wide count entry ≡ true → wide_key count (entry ∷ entries) ≡ Some entry.key
stopped count entry entries wide = rw wide refl

-- of some entries those that are ahead have the same first one with a number outside `i64`
abbrev pub StillWide : ℕ → Option Files → ReaderView → List Entry → Type 0
StillWide count files reader entries =
    (rest : List Entry) × AreAhead files reader rest × (wide_key count entries ≡ wide_key count rest)

pub wide_next : (count : ℕ) (now : Option Files) (after : ReaderView) (entries rest : List Entry) → wide_key count entries ≡ wide_key count rest
    → GoesTo now after rest (Ok true) → is_wide count (entry_at after) ≡ false → StillWide count now after entries
wide_next count now after entries [] same goes narrow = absurd goes
wide_next count now after entries (entry ∷ rest) same goes narrow =
    (rest, goes.1, same ∙ passed count entry rest (ap (is_wide count) (sym goes.0) ∙ narrow))

pub wide_found : (count : ℕ) (now : Option Files) (after : ReaderView) (entries rest : List Entry) → wide_key count entries ≡ wide_key count rest
    → GoesTo now after rest (Ok true) → is_wide count (entry_at after) ≡ true → Some (entry_at after).key ≡ wide_key count entries
wide_found count now after entries [] same goes wide = absurd goes
wide_found count now after entries (entry ∷ rest) same goes wide =
    ap (λ (e : Entry). Some e.key) goes.0 ∙ sym (same ∙ stopped count entry rest (ap (is_wide count) (sym goes.0) ∙ wide))

pub wide_ended : (count : ℕ) (now : Option Files) (after : ReaderView) (entries rest : List Entry) → wide_key count entries ≡ wide_key count rest
    → GoesTo now after rest (Ok false) → None ≡ wide_key count entries
wide_ended count now after entries [] same goes = sym same
wide_ended count now after entries (entry ∷ rest) same goes = absurd goes

-- a fault of a reader with such entries ahead is no damage
pub goes_sound : (T : Type 0) (now : Option Files) (after : ReaderView) (rest : List Entry) (fault : RunFault)
    → GoesTo now after rest (Err fault) → NotDamaged {T = T} (Err fault)
goes_sound T now after [] fault goes = absurd goes
goes_sound T now after (entry ∷ rest) (DiskFault disk) goes = tt
goes_sound T now after (entry ∷ rest) (Damaged damage) goes = absurd goes
goes_sound T now after (entry ∷ rest) NoMemory goes = tt
