-- A list of owners as a shelf: the disk at a place, and the list with another disk there.
-- This project's own.
use Rattle.std.specs.Prelude.{◌≡◌, ℕ, zero, suc, ◌<◌, ◌^◌, ◌-◌, min, List, [], ◌∷◌, length, Option, Some, None, slice_get, slice_set, vec_len}
use Rattle.std.proofs.Common.{refl, ap, ◌∙◌, arith}
use Rattle.std.proofs.lemmas.Option.{none-some}
use Rattle.std.specs.Global.{Vec}
use Rattle.std.specs.Option.{option_map, option_map_or}
use Rattle.std.specs.Vec.{with_item}

-- the disk of the owner at a place
abbrev pub disk_at : {P D : Type 0} → (P → D) → Vec P → ℕ → Option D
disk_at own owners i = option_map own (slice_get owners.items i)

-- the owners, of whom the one at a place has another disk
abbrev pub with_disk_at : {P D : Type 0} → (P → D → P) → Vec P → ℕ → D → Vec P
with_disk_at with_own owners i disk =
    option_map_or (λ owner. with_item owners i (with_own owner disk)) (slice_get owners.items i) owners

-- the item at a place is the one that was set there
get_set_same : {X : Type 0} (xs : List X) (i : ℕ) (x y : X) → slice_get xs i ≡ Some x → slice_get (slice_set xs i y) i ≡ Some y
get_set_same [] i x y e = absurd (none-some x e)
get_set_same (z ∷ xs) zero x y e = refl
get_set_same (z ∷ xs) (suc i) x y e = get_set_same xs i x y e

-- the item at each other place is as before
get_set_other : {X : Type 0} (xs : List X) (i j : ℕ) (y : X) → (j ≡ i → ⊥) → slice_get (slice_set xs i y) j ≡ slice_get xs j
get_set_other [] i j y apart = refl
get_set_other (z ∷ xs) zero zero y apart = absurd (apart refl)
get_set_other (z ∷ xs) zero (suc j) y apart = refl
get_set_other (z ∷ xs) (suc i) zero y apart = refl
get_set_other (z ∷ xs) (suc i) (suc j) y apart = get_set_other xs i j y (λ e. apart (ap suc e))

-- below the length there is an item
get_within : {X : Type 0} (xs : List X) (i : ℕ) → i < length xs → (x : X) × (slice_get xs i ≡ Some x)
get_within [] i lt = absurd (omega arith)
get_within (x ∷ xs) zero lt = (x, refl)
get_within (x ∷ xs) (suc i) lt = get_within xs i (omega arith)

-- there are as many owners once one has another disk, by whether that one is there
len_by : {P D : Type 0} (with_own : P → D → P) (owners : Vec P) (i : ℕ) (disk : D) (o : Option P) → vec_len (option_map_or (λ owner. with_item owners i (with_own owner disk)) o owners) ≡ vec_len owners
len_by with_own owners i disk None = refl
len_by with_own owners i disk (Some owner) = refl

-- a change of a disk changes no count
pub same_len : {P D : Type 0} (with_own : P → D → P) (owners : Vec P) (i : ℕ) (disk : D) → min (vec_len (with_disk_at with_own owners i disk)) (2 ^ 32 - 1) ≡ min (vec_len owners) (2 ^ 32 - 1)
same_len with_own owners i disk = ap (λ n. min n (2 ^ 32 - 1)) (len_by with_own owners i disk (slice_get owners.items i))

-- the disk that was changed is the one that is there
pub disk_changed : {P D : Type 0} (own : P → D) (with_own : P → D → P) (put : (owner : P) (disk : D) → own (with_own owner disk) ≡ disk) (owners : Vec P) (i j : ℕ) (disk : D) → i < min (vec_len owners) (2 ^ 32 - 1) → j ≡ i → disk_at own (with_disk_at with_own owners i disk) j ≡ Some disk
disk_changed own with_own put owners i j disk within same =
    let found = get_within owners.items i (omega (arith, owners.ok.0)) in
    ap (disk_at own (with_disk_at with_own owners i disk)) same
    ∙ ap (λ o. disk_at own (option_map_or (λ owner. with_item owners i (with_own owner disk)) o owners) i) found.1
    ∙ ap (option_map own) (get_set_same owners.items i found.0 (with_own found.0 disk) found.1)
    ∙ ap Some (put found.0 disk)

-- each other disk is as before, by whether the owner that changes is there
others_by : {P D : Type 0} (own : P → D) (with_own : P → D → P) (owners : Vec P) (i j : ℕ) (disk : D) (o : Option P) → (j ≡ i → ⊥) → disk_at own (option_map_or (λ owner. with_item owners i (with_own owner disk)) o owners) j ≡ disk_at own owners j
others_by own with_own owners i j disk None apart = refl
others_by own with_own owners i j disk (Some owner) apart = ap (option_map own) (get_set_other owners.items i j (with_own owner disk) apart)

-- each other disk is as before
pub disk_others : {P D : Type 0} (own : P → D) (with_own : P → D → P) (owners : Vec P) (i j : ℕ) (disk : D) → (j ≡ i → ⊥) → disk_at own (with_disk_at with_own owners i disk) j ≡ disk_at own owners j
disk_others own with_own owners i j disk apart = others_by own with_own owners i j disk (slice_get owners.items i) apart
