-- The blocks that a walk finds for a need are those that the rules choose.
use Rattle.std.proofs.Common.{◌≡◌, ℕ, ◌≤◌, false, List, [], unwrap_or, Option, Some, None, refl, sym, ap, ◌∙◌, arith}
use Rattle.std.specs.Prelude.{nat_eq}
use Rattle.std.specs.Option.{option_map}
use Rattle.std.proofs.lemmas.Bool.{cond-false, ne_eqb}
use Rattle.pool_ledger.specs.History.{History}
use Rattle.pool_ledger.specs.Blocks.{front_reaching, residents, stored, victims}
use Rattle.eviction.specs.declared.candidate.Candidate.{Candidate}
use Rattle.eviction.specs.Victims.{evictable, sizes}
use Rattle.pool_plans.specs.Listed.{listed, seen_in}
use Rattle.pool_plans.proofs.Chosen.{chosen, found_chosen, none_chosen, IsSum}
use Rattle.pool_plans.proofs.Mapped.{sum_mapped}
use Rattle.journal_replay.specs.declared.fronts.Freed.{Freed}
use Rattle.journal_replay.specs.Checks.{front_in, sum_of}

-- the bytes of the listed blocks are those that are stored
pub all_stored : (h : History) (list : List Candidate) → list ≡ listed h → sizes list ≡ stored h
all_stored h list is = ap sizes is ∙ sum_mapped (seen_in h) (λ (block : Candidate). block.size) (residents h)

module _ (h : History) (list : List Candidate) (is : list ≡ listed h) (except : Option ℕ) (need : ℕ) (some : 1 ≤ need) where
  needs : nat_eq need 0 ≡ false
  needs = ne_eqb need 0 (λ e. omega (arith, some, e))

  pub chosen_are : chosen h need except ≡ unwrap_or (victims h need except) []
  chosen_are = cond-false (nat_eq need 0) [] (unwrap_or (victims h need except) []) needs

  pub found_are : (freed : Freed) → Some freed ≡ front_in except need list → IsSum h need except freed.count freed.bytes
  found_are freed found = by (front_reaching (λ (block : Candidate). block.size) need (evictable except list)) refl found
    where
      by : (o : Option (List Candidate)) → o ≡ front_reaching (λ (block : Candidate). block.size) need (evictable except list) → Some freed ≡ option_map sum_of o → IsSum h need except freed.count freed.bytes
      by None named there = absurd (cc there)
      by (Some front) named there =
          let same : freed ≡ sum_of front = cc there in
          found_chosen h list is except need needs front freed.count freed.bytes named (ap (λ (f : Freed). f.count) same) (ap (λ (f : Freed). f.bytes) same)

  pub none_are : None ≡ front_in except need list → unwrap_or (victims h need except) [] ≡ []
  none_are found = by (front_reaching (λ (block : Candidate). block.size) need (evictable except list)) refl found
    where
      by : (o : Option (List Candidate)) → o ≡ front_reaching (λ (block : Candidate). block.size) need (evictable except list) → None ≡ option_map sum_of o → unwrap_or (victims h need except) [] ≡ []
      by None named there = sym chosen_are ∙ none_chosen h list is except need needs named
      by (Some front) named there = absurd (cc there)
