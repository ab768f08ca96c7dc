-- The rows of a run, checked one by one.
use Rattle.std.proofs.Common.{◌≡◌, ℕ, zero, suc, ◌+◌, ◌<◌, ◌≤◌, List, [], ◌∷◌, ◌++◌, length, take, drop, Option, Some, None, Result, Ok, Err, refl, sym, ap, subst, ◌∙◌, arith}
use Rattle.std.specs.List.{AllByRecursion}
use Rattle.std.specs.Prelude.{IfSome}
use Rattle.std.proofs.lemmas.List.{drop-drop, length-append, length-take, length-drop}
use Rattle.row_page.proofs.Fronts.{one_front, front_length}
use Rattle.row_page.proofs.PagePlaces.{drop_front}
use Rattle.row_page.proofs.Shown.{rows_shown}
use Rattle.row_page.specs.Grammar.{IsPieceThen, IsPage}
use Rattle.spill_disk.specs.Files.{Files}
use Rattle.run_file.specs.declared.run.Run.{Run}
use Rattle.run_file.specs.declared.run.RunFault.{RunFault}
use Rattle.row_form.specs.declared.form.Form.{Form}
use Rattle.run_file.specs.declared.run.RunFault.TheVariants.{DiskFault, Damaged, NoMemory}
use Rattle.run_file.specs.Causes.{HasCauseOn, NoDiskFault}
use Rattle.run_file.specs.Filling.{BeginsRow}
use Rattle.row_form.specs.Forms.{HasForm, IsWellFormed}
use Rattle.run_file.specs.Reading.{BeginsDamaged}
use Rattle.run_file.specs.Runs.{Stands, greatest_cost}
use Rattle.run_file.specs.Whole.{AreRowsOf, BeginsRows, FindsDamage, ReadsRun, bytes_in}
use Rattle.run_file.proofs.Reaching.{front_cut}
use Rattle.run_file.proofs.Writing.{is_page-append}

-- so many rows were checked; those that are left are rows of the run, where all the bytes are
pub record Checked (form : Form) (run : Run) (bytes : List ℕ) (at found : ℕ) : Type 0 where
  pub begins : BeginsRows form run.greatest bytes at found
  pub inside : at ≤ length bytes
  pub few : found ≤ run.count
  pub left : (all : List (List (List ℕ))) → AreRowsOf form run bytes all
      → (rest : List (List (List ℕ))) × IsPage (drop at bytes) rest × (length rest + found ≡ run.count) × AllByRecursion (IsWellFormed form run.greatest) rest

-- the first piece of bytes, and nothing behind it
piece_alone : (bytes piece behind : List ℕ) → IsPieceThen bytes piece behind → IsPieceThen (take (4 + length piece) bytes) piece []
piece_alone bytes piece behind h =
    let n = 4 + length piece in
    let cut = front_cut n bytes piece behind h (omega arith) in
    let none : length cut.0 ≡ 0 = omega (arith, front_length (take n bytes) piece cut.0 cut.1, length-take n bytes) in
    subst (λ (t : List ℕ). IsPieceThen (take n bytes) piece t) (empty cut.0 none) cut.1
  where
    empty : (xs : List ℕ) → length xs ≡ 0 → xs ≡ []
    empty [] e = refl
    empty (x ∷ xs) e = absurd (omega (arith, e))

take_on : (at n : ℕ) (xs : List ℕ) → take (at + n) xs ≡ take at xs ++ take n (drop at xs)
take_on zero n xs = ap (λ (k : ℕ). take k xs) (omega arith)
take_on (suc at) zero [] =
    let on : suc at + 0 ≡ suc at = omega arith in
    ap (λ (k : ℕ). take k []) on
take_on (suc at) (suc n) [] =
    let on : suc at + suc n ≡ suc (at + suc n) = omega arith in
    ap (λ (k : ℕ). take k []) on
take_on (suc at) n (x ∷ xs) =
    let on : suc at + n ≡ suc (at + n) = omega arith in
    ap (λ (k : ℕ). take k (x ∷ xs)) on ∙ ap (λ (l : List ℕ). x ∷ l) (take_on at n xs)

all_snoc : (form : Form) (greatest : ℕ) (rows : List (List (List ℕ))) (row : List (List ℕ)) → AllByRecursion (IsWellFormed form greatest) rows → IsWellFormed form greatest row → AllByRecursion (IsWellFormed form greatest) (rows ++ row ∷ [])
all_snoc form greatest [] row all last = (last, tt)
all_snoc form greatest (r ∷ rows) row all last = (all.0, all_snoc form greatest rows row all.1 last)

-- one row more
pub one_checked : (form : Form) (run : Run) (bytes : List ℕ) (at found size : ℕ) → Checked form run bytes at found → found < run.count → BeginsRow form run.greatest (drop at bytes) size → 4 + size ≤ length (drop at bytes) → Checked form run bytes (at + (4 + size)) (found + 1)
one_checked form run bytes at found size so_far more next fits =
    let n = 4 + size in
    let begins = so_far.begins in
    let n_is : 4 + length next.piece ≡ n = omega (arith, next.size_is) in
    let alone : IsPieceThen (take n (drop at bytes)) next.piece [] = subst (λ (k : ℕ). IsPieceThen (take k (drop at bytes)) next.piece []) n_is (piece_alone (drop at bytes) next.piece next.behind next.front) in
    let last : IsPage (take n (drop at bytes)) (next.row ∷ []) = (next.piece, [], alone, next.is, refl) in
    record {
      begins = record {
        rows = begins.rows ++ next.row ∷ [];
        page = subst (λ (t : List ℕ). IsPage t (begins.rows ++ next.row ∷ [])) (sym (take_on at n bytes)) (is_page-append (take at bytes) (take n (drop at bytes)) begins.rows (next.row ∷ []) begins.page last);
        count_is = omega (arith, length-append begins.rows (next.row ∷ []), begins.count_is);
        formed = all_snoc form run.greatest begins.rows next.row begins.formed next.formed;
      };
      inside = omega (arith, length-drop at bytes, fits, so_far.inside);
      few = omega (arith, more);
      left = λ all are. behind_one (so_far.left all are);
    }
  where
    behind_one : (rest : List (List (List ℕ))) × IsPage (drop at bytes) rest × (length rest + found ≡ run.count) × AllByRecursion (IsWellFormed form run.greatest) rest
        → (rest : List (List (List ℕ))) × IsPage (drop (at + (4 + size)) bytes) rest × (length rest + (found + 1) ≡ run.count) × AllByRecursion (IsWellFormed form run.greatest) rest
    behind_one ([], page, count, formed) = absurd (omega (arith, more, count))
    behind_one ((row ∷ rest), page, count, formed) =
        let same = one_front (drop at bytes) page.0 next.piece page.1 next.behind page.2 next.front in
        let gone : drop (at + (4 + size)) bytes ≡ page.1 =
        sym (drop-drop (4 + size) at bytes) ∙ ap (λ (k : ℕ). drop k (drop at bytes)) (omega (arith, next.size_is)) ∙ drop_front (drop at bytes) next.piece next.behind next.front ∙ sym same.1 in
        (rest, subst (λ (t : List ℕ). IsPage t rest) (sym gone) page.4, omega (arith, count), formed.1)

-- no row of the run is damaged
pub none_damaged : (form : Form) (run : Run) (bytes : List ℕ) (at found : ℕ) → Checked form run bytes at found → found < run.count → BeginsDamaged form run.greatest (drop at bytes) → (all : List (List (List ℕ))) → AreRowsOf form run bytes all → ⊥
none_damaged form run bytes at found so_far more damaged all are = by_rest (so_far.left all are)
  where
    by_rest : (rest : List (List (List ℕ))) × IsPage (drop at bytes) rest × (length rest + found ≡ run.count) × AllByRecursion (IsWellFormed form run.greatest) rest → ⊥
    by_rest ([], page, count, formed) = absurd (omega (arith, more, count))
    by_rest ((row ∷ rest), page, count, formed) = damaged row page.0 page.1 page.2 page.3 formed.0

-- behind the last nothing is left
pub all_used : (form : Form) (run : Run) (bytes : List ℕ) (at found : ℕ) → Checked form run bytes at found → run.count ≤ found → (all : List (List (List ℕ))) → AreRowsOf form run bytes all → at ≡ length bytes
all_used form run bytes at found so_far ended all are = by_rest (so_far.left all are)
  where
    by_rest : (rest : List (List (List ℕ))) × IsPage (drop at bytes) rest × (length rest + found ≡ run.count) × AllByRecursion (IsWellFormed form run.greatest) rest → at ≡ length bytes
    by_rest ([], page, count, formed) = omega (arith, ap length page, length-drop at bytes, so_far.inside)
    by_rest ((row ∷ rest), page, count, formed) = absurd (omega (arith, ended, count))

-- the rows of a page are those that its bytes are
pub same_rows : (bytes : List ℕ) (a b : List (List (List ℕ))) → IsPage bytes a → IsPage bytes b → a ≡ b
same_rows bytes a b first other = sym (rows_shown bytes a first) ∙ rows_shown bytes b other

-- rows that stand cost no more than the greatest of them
costs : (rows : List (List (List ℕ))) (form : Form) (greatest : ℕ) → greatest_cost rows ≤ greatest → AllByRecursion (HasForm form) rows → AllByRecursion (IsWellFormed form greatest) rows
costs [] form greatest le formed = tt
costs (row ∷ rows) form greatest le formed = (record { has_form = formed.0; cost = omega (arith, le) }, costs rows form greatest (omega (arith, le)) formed.1)

pub rows_stand : (files : Option Files) (run : Run) (form : Form) (bytes : List ℕ) (rows : List (List (List ℕ))) → ReadsRun files run bytes → Stands files run rows → AllByRecursion (HasForm form) rows → AreRowsOf form run bytes rows
rows_stand None run form bytes rows read stands formed = absurd stands
rows_stand (Some files) run form bytes rows read stands formed = record {
  page = subst (λ (t : List ℕ). IsPage t rows) (sym read) stands.1;
  count = sym stands.2.count;
  formed = costs rows form run.greatest (omega (arith, stands.2.greatest)) formed;
}

-- where no disk failed, nothing has to have happened outside
pub cause_inside : {T : Type 0} (disk before now : ℕ) (r : Result T RunFault) → NoDiskFault r → HasCauseOn disk before now r
cause_inside disk before now (Ok x) h = tt
cause_inside disk before now (Err (DiskFault named)) h = absurd h
cause_inside disk before now (Err (Damaged damage)) h = tt
cause_inside disk before now (Err NoMemory) h = tt

-- what was read is what the disk has, where it tells
pub found_in : {T : Type 0} (files : Option Files) (run : Run) (form : Form) (bytes : List ℕ) (result : Result T RunFault) → ReadsRun files run bytes → FindsDamage form run.greatest bytes result
    → IfSome (bytes_in files run) (λ known. FindsDamage form run.greatest known result)
found_in None run form bytes result read finds = tt
found_in (Some files) run form bytes result read finds = subst (λ (known : List ℕ). FindsDamage form run.greatest known result) read finds
