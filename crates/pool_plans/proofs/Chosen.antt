-- The victims, and their sum, as a choice finds them in the list of a history's residents.
use Rattle.std.proofs.Common.{◌≡◌, ℕ, ◌≤◌, false, not, ◌&&◌, List, [], map, length, take, unwrap_or, Option, Some, None, refl, sym, ap, ◌∙◌, arith}
use Rattle.std.specs.Prelude.{nat_eq, ◌==◌, if◌then◌else◌}
use Rattle.std.specs.Option.{option_map}
use Rattle.std.proofs.lemmas.Bool.{cond-false}
use Rattle.std.proofs.lemmas.List.{length-append, length-map, take_at}
use Rattle.std.proofs.lemmas.List.Sums.{sum_by-take-le}
use Rattle.pool_ledger.specs.History.{History}
use Rattle.pool_ledger.specs.Blocks.{Resident, evictable as evictable_by, front_reaching, is_excepted, is_pinned, residents, sizes, stored, victims}
use Rattle.pool_ledger.proofs.Fronts.{front_within, sizes-filter-le}
use Rattle.eviction.specs.Victims.{evictable, is_evictable, sizes as bytes_of}
use Rattle.eviction.specs.declared.candidate.Candidate.{Candidate}
use Rattle.pool_plans.specs.Listed.{listed, seen_in}
use Rattle.pool_plans.proofs.Mapped.{filter_mapped, front_first, front_mapped, sum_mapped}

-- the blocks that give this need
abbrev pub chosen : History → ℕ → Option ℕ → List Resident
chosen history need except = if need == 0 then [] else unwrap_or (victims history need except) []

-- they are so many, with so many bytes, and the first that may go
pub record IsSum (history : History) (need : ℕ) (except : Option ℕ) (count bytes : ℕ) : Type 0 where
  pub count_is : count ≡ length (chosen history need except)
  pub bytes_is : bytes ≡ sizes (chosen history need except)
  pub first : take count (evictable_by history except) ≡ chosen history need except
  pub few : count ≤ length (evictable_by history except)
  pub in_stored : bytes ≤ stored history

-- the bytes of the list's first blocks are among the stored ones
pub first_in_stored : (history : History) (list : List Candidate) (n : ℕ) → list ≡ listed history → bytes_of (take n list) ≤ stored history
first_in_stored history list n is =
    omega (
      arith,
      sum_by-take-le (λ (block : Candidate). block.size) list n,
      ap bytes_of is,
      sum_mapped (seen_in history) (λ (block : Candidate). block.size) (residents history),
    )

module _ (history : History) (list : List Candidate) (is : list ≡ listed history) (except : Option ℕ) where
  -- a choice lets the same blocks go as the history
  pub both_let_go : evictable except list ≡ map (seen_in history) (evictable_by history except)
  both_let_go = ap (evictable except) is ∙ filter_mapped (seen_in history) (is_evictable except) (residents history)

  module _ (need : ℕ) (some : nat_eq need 0 ≡ false) where
    -- what it finds are the victims
    front_seen : front_reaching (λ (block : Candidate). block.size) need (evictable except list) ≡ option_map (map (seen_in history)) (victims history need except)
    front_seen = ap (front_reaching (λ (block : Candidate). block.size) need) both_let_go ∙ front_mapped (seen_in history) (λ (block : Candidate). block.size) need (evictable_by history except)

    -- none are chosen where it finds none
    pub none_chosen : None ≡ front_reaching (λ (block : Candidate). block.size) need (evictable except list) → chosen history need except ≡ []
    none_chosen missing = with_front (victims history need except) (missing ∙ front_seen)
      where
        with_front : (front : Option (List Resident)) → None ≡ option_map (map (seen_in history)) front → (if need == 0 then [] else unwrap_or front []) ≡ []
        with_front None seen = cond-false (nat_eq need 0) [] [] some
        with_front (Some front) seen = absurd (cc seen)

    -- those that it finds are chosen
    pub found_chosen : (found : List Candidate) (count bytes : ℕ) → Some found ≡ front_reaching (λ (block : Candidate). block.size) need (evictable except list)
        → count ≡ length found → bytes ≡ bytes_of found → IsSum history need except count bytes
    found_chosen found count bytes there counted summed = with_front (victims history need except) refl (there ∙ front_seen)
      where
        with_front : (front : Option (List Resident)) → victims history need except ≡ front → Some found ≡ option_map (map (seen_in history)) front → IsSum history need except count bytes
        with_front None named seen = absurd (cc seen)
        with_front (Some front) named seen =
            let same : found ≡ map (seen_in history) front = cc seen in
            let chosen_are : chosen history need except ≡ front = cond-false (nat_eq need 0) [] (unwrap_or (victims history need except) []) some ∙ ap (λ (o : Option (List Resident)). unwrap_or o []) named in
            let begins = front_first (λ (block : Resident). block.size) need (evictable_by history except) front named in
            let long : length front ≡ count = sym (length-map front (seen_in history)) ∙ ap length (sym same) ∙ sym counted in
            let bytes_are : bytes ≡ sizes front = summed ∙ ap bytes_of same ∙ sum_mapped (seen_in history) (λ (block : Candidate). block.size) front in
            record {
              count_is = sym long ∙ ap length (sym chosen_are);
              bytes_is = bytes_are ∙ ap sizes (sym chosen_are);
              first = ap (take count) begins.1 ∙ take_at front begins.0 count long ∙ sym chosen_are;
              few = omega (arith, ap length begins.1, length-append front begins.0, long);
              in_stored = omega (
                arith,
                bytes_are,
                front_within (λ (block : Resident). block.size) need (evictable_by history except),
                ap (λ (o : Option (List Resident)). sizes (unwrap_or o [])) named,
                sizes-filter-le (λ (block : Resident). block.size) (λ (block : Resident). not (is_pinned history block.dataset block.part) && not (is_excepted except block.dataset)) (residents history),
              );
            }
