-- The least entry of the readers is taken, and in a group those of its key are joined to it.
use Rattle.std.proofs.Common.{◌≡◌, ℕ, zero, suc, ◌<◌, Bool, true, false, List, [], ◌∷◌, length, get_or, set, refl, sym, ap, subst, arith}
use Rattle.std.specs.Prelude.{Option}
use Rattle.spill_disk.specs.Files.{Files}
use Rattle.run_file.specs.Readers.{ReaderView}
use Rattle.run_file.specs.Reading.{row_at}
use Rattle.run_file.proofs.Standing.{row_at-is}
use Rattle.run_merge.specs.Heads.{has_head}
use Rattle.run_merge.specs.Merging.{AreLeft, IsLeft}
use Rattle.run_merge.proofs.Places.{left_at}

abbrev Row : Type 0
Row = List (List ℕ)

-- there is a list for each reader
pub lists_left : (files : ℕ → Option Files) (begun : Bool) (readers : List ReaderView) (heads : List Bool) (lists : List (List Row)) → AreLeft files begun readers heads lists → length lists ≡ length readers
lists_left files begun [] [] [] h = refl
lists_left files begun [] [] (rows ∷ lists) h = absurd h
lists_left files begun [] (head ∷ heads) lists h = absurd h
lists_left files begun (reader ∷ readers) [] lists h = absurd h
lists_left files begun (reader ∷ readers) (head ∷ heads) [] h = absurd h
lists_left files begun (reader ∷ readers) (head ∷ heads) (rows ∷ lists) h = omega (arith, lists_left files begun readers heads lists h.2)

-- where each was let on, one that stands at no row has none
pub none_left : (files : ℕ → Option Files) (readers : List ReaderView) (heads : List Bool) (lists : List (List Row)) → AreLeft files true readers heads lists → (k : ℕ) → has_head heads k ≡ false → get_or lists k [] ≡ []
none_left files [] [] [] h k none = refl
none_left files [] [] (rows ∷ lists) h k none = absurd h
none_left files [] (head ∷ heads) lists h k none = absurd h
none_left files (reader ∷ readers) [] lists h k none = absurd h
none_left files (reader ∷ readers) (head ∷ heads) [] h k none = absurd h
none_left files (reader ∷ readers) (head ∷ heads) (rows ∷ lists) h zero none = h.1 refl none
none_left files (reader ∷ readers) (head ∷ heads) (rows ∷ lists) h (suc k) none = none_left files readers heads lists h.2 k none

-- what is left once the row at which one of them stands was taken
pub left_taken : (files : ℕ → Option Files) (begun : Bool) (readers : List ReaderView) (heads : List Bool) (lists : List (List Row)) (i : ℕ) (row : Row) (rows : List Row) → has_head heads i ≡ true → get_or lists i [] ≡ row ∷ rows
    → AreLeft files begun readers heads lists → AreLeft files false readers (set heads i false) (set lists i rows)
left_taken files begun [] [] [] i row rows head is h = tt
left_taken files begun [] [] (list ∷ lists) i row rows head is h = absurd h
left_taken files begun [] (flag ∷ heads) lists i row rows head is h = absurd h
left_taken files begun (reader ∷ readers) [] lists i row rows head is h = absurd h
left_taken files begun (reader ∷ readers) (flag ∷ heads) [] i row rows head is h = absurd h
left_taken files begun (reader ∷ readers) (flag ∷ heads) (list ∷ lists) zero row rows head is h =
    let here : IsLeft files reader true (row ∷ rows) = subst (λ (l : List Row). IsLeft files reader true l) is (subst (λ (b : Bool). IsLeft files reader b list) head h.0) in
    (here.1, λ e. absurd cc, others readers heads lists h.2)
  where
    others : (readers : List ReaderView) (heads : List Bool) (lists : List (List Row)) → AreLeft files begun readers heads lists → AreLeft files false readers heads lists
    others [] [] [] h = tt
    others [] [] (rows ∷ lists) h = h
    others [] (head ∷ heads) lists h = h
    others (reader ∷ readers) [] lists h = h
    others (reader ∷ readers) (head ∷ heads) [] h = h
    others (reader ∷ readers) (head ∷ heads) (rows ∷ lists) h = (h.0, λ e. absurd cc, others readers heads lists h.2)
left_taken files begun (reader ∷ readers) (flag ∷ heads) (list ∷ lists) (suc i) row rows head is h =
    (h.0, λ e. absurd cc, left_taken files begun readers heads lists i row rows head is h.2)

-- the rows of a reader that stands at one
pub record Standing (reader : ReaderView) (list : List Row) : Type 0 where
  pub rows : List Row
  pub are : list ≡ row_at reader ∷ rows

standing : (files : ℕ → Option Files) (reader : ReaderView) (list : List Row) → IsLeft files reader true list → Standing reader list
standing files reader [] h = absurd h
standing files reader (row ∷ rows) h =
    record { rows = rows; are = ap (λ (r : Row). r ∷ rows) (sym (row_at-is reader row h.0)) }

pub standing_at : (files : ℕ → Option Files) (begun : Bool) (readers : List ReaderView) (heads : List Bool) (lists : List (List Row)) (i : ℕ) (reader : ReaderView) → i < length readers → reader ≡ get_or readers i reader → has_head heads i ≡ true
    → AreLeft files begun readers heads lists → Standing reader (get_or lists i [])
standing_at files begun readers heads lists i reader lt is head h =
    standing files reader (get_or lists i []) (subst (λ (b : Bool). IsLeft files reader b (get_or lists i [])) head (left_at files readers heads lists begun i reader lt is h))
