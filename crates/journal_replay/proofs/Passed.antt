-- What a walk passes over: blocks of the excepted dataset, up to the next stretch.
use Rattle.std.proofs.Common.{◌≡◌, ℕ, ◌+◌, ◌<◌, ◌≤◌, true, false, not, cond, List, [], ◌∷◌, All, length, Option, Some, refl, sym, ap, subst, ◌∙◌, inl, inr, arith}
use Rattle.std.specs.BTreeMap as tree
use Rattle.std.specs.BTreeMap.{BTreeMap}
use Rattle.std.specs.BTreeSet.{BTreeSet}
use Rattle.std.specs.Ordering.{nat_cmp}
use Rattle.std.proofs.lemmas.Bool.{and_right, cases_eq, cases_lt, cond-false}
use Rattle.std.proofs.lemmas.List.Elements.{All-head, All-tail, All-weaker}
use Rattle.eviction.specs.declared.candidate.Candidate.{Candidate}
use Rattle.eviction.specs.Victims.{evictable, is_evictable}
use Rattle.pool_ledger.specs.Blocks.{is_excepted}
use Rattle.journal_replay.specs.declared.block_name.BlockName.{BlockName}
use Rattle.journal_replay.specs.declared.placed.Placed.{Placed}
use Rattle.journal_replay.specs.Tables.{candidate_in}
use Rattle.journal_replay.specs.UseOrder.{block_by, candidates_of, entries_from, evictable_from, is_start, resident_in, AreStretches}
use Rattle.journal_replay.proofs.Known.{each_at}
use Rattle.journal_replay.proofs.EntriesFrom.{from_head, from_tail}

-- all are from the first place on
pub from_zero : (es : List (ℕ × Placed)) → entries_from 0 es ≡ es
from_zero [] = refl
from_zero (e ∷ es) = from_head 0 e es (omega arith) ∙ ap (λ (l : List (ℕ × Placed)). e ∷ l) (from_zero es)

module _ (except : Option ℕ) (pins : List (Option BlockName)) where
  abbrev seen : ℕ × Placed → Candidate
  seen e = candidate_in pins (resident_in e.1)

  -- the entry is of the excepted dataset
  abbrev IsOut : ℕ × Placed → Type 0
  IsOut e = is_excepted except e.1.name.dataset ≡ true

  stays : (e : ℕ × Placed) (cs : List Candidate) → IsOut e → evictable except (seen e ∷ cs) ≡ evictable except cs
  stays e cs out =
      cond-false (is_evictable except (seen e)) (seen e ∷ evictable except cs) (evictable except cs)
      (and_right (not (seen e).pinned) (not (is_excepted except e.1.name.dataset)) (ap not out))

  same_behind : (e : ℕ × Placed) (xs ys : List Candidate) → evictable except xs ≡ evictable except ys → evictable except (seen e ∷ xs) ≡ evictable except (seen e ∷ ys)
  same_behind e xs ys same = ap (λ (cs : List Candidate). cond (is_evictable except (seen e)) (seen e ∷ cs) cs) same

  -- where all from one place to another are of the excepted dataset
  pub passed : (from to : ℕ) → from ≤ to → (es : List (ℕ × Placed)) → All (λ e. from ≤ e.0 → e.0 < to → IsOut e) es → evictable_from except pins from es ≡ evictable_from except pins to es
  passed from to order [] out = refl
  passed from to order (e ∷ es) out =
      let more = passed from to order es (All-tail (λ e. from ≤ e.0 → e.0 < to → IsOut e) e es out) in
      let here = All-head (λ e. from ≤ e.0 → e.0 < to → IsOut e) e es out in
      elim (cases_lt e.0 from) [
        | inl below ↦
            ap (λ (l : List (ℕ × Placed)). evictable except (candidates_of pins l)) (from_tail from e es below) ∙ more
            ∙ sym (ap (λ (l : List (ℕ × Placed)). evictable except (candidates_of pins l)) (from_tail to e es (omega (arith, below, order))))
        | inr there ↦
            ap (λ (l : List (ℕ × Placed)). evictable except (candidates_of pins l)) (from_head from e es there)
            ∙ elim (cases_lt e.0 to) [
              | inl before ↦
                  stays e (candidates_of pins (entries_from from es)) (here there before) ∙ more
                  ∙ sym (ap (λ (l : List (ℕ × Placed)). evictable except (candidates_of pins l)) (from_tail to e es before))
              | inr behind ↦
                  same_behind e (candidates_of pins (entries_from from es)) (candidates_of pins (entries_from to es)) more
                  ∙ sym (ap (λ (l : List (ℕ × Placed)). evictable except (candidates_of pins l)) (from_head to e es behind))
            ]
      ]

  -- where all from a place on are of the excepted dataset
  pub passed_all : (from : ℕ) (es : List (ℕ × Placed)) → All (λ e. from ≤ e.0 → IsOut e) es → evictable_from except pins from es ≡ []
  passed_all from [] out = refl
  passed_all from (e ∷ es) out =
      let more = passed_all from es (All-tail (λ e. from ≤ e.0 → IsOut e) e es out) in
      let here = All-head (λ e. from ≤ e.0 → IsOut e) e es out in
      elim (cases_lt e.0 from) [
        | inl below ↦ ap (λ (l : List (ℕ × Placed)). evictable except (candidates_of pins l)) (from_tail from e es below) ∙ more
        | inr there ↦
            ap (λ (l : List (ℕ × Placed)). evictable except (candidates_of pins l)) (from_head from e es there)
            ∙ stays e (candidates_of pins (entries_from from es)) (here there) ∙ more
      ]

-- a block of the excepted dataset is the first from a place on, and the rest of its stretch follows
module _ (except : Option ℕ) (blocks : BTreeMap ℕ Placed) (starts : BTreeSet ℕ) (ordered : tree.IsOrdered nat_cmp blocks) (stretches : AreStretches blocks starts) (from place : ℕ) (placed : Placed)
    (there : from ≤ place) (here : block_by blocks place ≡ Some placed) (least : (q : ℕ) (x : Placed) → block_by blocks q ≡ Some x → from ≤ q → place ≤ q)
    (out : is_excepted except placed.name.dataset ≡ true) where
  in_stretch : (e : ℕ × Placed) → block_by blocks e.0 ≡ Some e.1 → from ≤ e.0 → ((start : ℕ) → place < start → start ≤ e.0 → is_start starts start ≡ false) → is_excepted except e.1.name.dataset ≡ true
  in_stretch e at_e later none = elim (cases_eq place e.0) [
    | inl same ↦
        let one : Some placed ≡ Some e.1 = sym here ∙ ap (block_by blocks) same ∙ at_e in
        let alike : placed ≡ e.1 = cc one in
        subst (λ (x : Placed). is_excepted except x.name.dataset ≡ true) alike out
    | inr other ↦
        let order = least e.0 e.1 at_e later in
        subst (λ (d : ℕ). is_excepted except d ≡ true) (stretches place e.0 placed e.1 here at_e (omega (arith, order, other)) none) out
  ]

  -- up to the next start
  pub passed_stretch : (pins : List (Option BlockName)) (start : ℕ) → place + 1 ≤ start → ((q : ℕ) → place + 1 ≤ q → q < start → is_start starts q ≡ false)
      → evictable_from except pins from blocks.entries ≡ evictable_from except pins start blocks.entries
  passed_stretch pins start behind none =
      passed except pins from start (omega (arith, there, behind)) blocks.entries
      (All-weaker (λ (e : ℕ × Placed). block_by blocks e.0 ≡ Some e.1) (λ (e : ℕ × Placed). from ≤ e.0 → e.0 < start → is_excepted except e.1.name.dataset ≡ true)
      (λ e at_e later before. in_stretch e at_e later (λ q after upto. none q (omega (arith, after)) (omega (arith, upto, before)))) blocks.entries (each_at blocks ordered))

  -- to the end, where none begins
  pub passed_end : (pins : List (Option BlockName)) → ((q : ℕ) → place + 1 ≤ q → is_start starts q ≡ false) → evictable_from except pins from blocks.entries ≡ []
  passed_end pins none =
      passed_all except pins from blocks.entries
      (All-weaker (λ (e : ℕ × Placed). block_by blocks e.0 ≡ Some e.1) (λ (e : ℕ × Placed). from ≤ e.0 → is_excepted except e.1.name.dataset ≡ true)
      (λ e at_e later. in_stretch e at_e later (λ q after upto. none q (omega (arith, after)))) blocks.entries (each_at blocks ordered))

-- the next block as a choice of victims sees it
pub next_is : (except : Option ℕ) (pins : List (Option BlockName)) (left rest : List Candidate) (placed : Placed) (block : Candidate)
    → left ≡ evictable except (candidate_in pins (resident_in placed) ∷ rest) → block ≡ candidate_in pins (resident_in placed) → left ≡ evictable except (block ∷ rest)
next_is except pins left rest placed block next is = next ∙ ap (λ (b : Candidate). evictable except (b ∷ rest)) (sym is)

-- the candidates are as many as the entries
pub length-candidates_of : (pins : List (Option BlockName)) (es : List (ℕ × Placed)) → length (candidates_of pins es) ≡ length es
length-candidates_of pins [] = refl
length-candidates_of pins (e ∷ es) = omega (arith, length-candidates_of pins es)
