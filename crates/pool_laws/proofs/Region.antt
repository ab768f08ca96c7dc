-- Blocks are evicted for execution only while storage is above its region.
use Rattle.std.proofs.Common.{◌≡◌, ℕ, zero, suc, ◌-◌, ◌≤◌, ◌<◌, Option, None, List, [], ◌∷◌, ◌++◌, map, length, take, unwrap_or, refl, sym, ap, subst, arith, inl, inr}
use Rattle.std.specs.Prelude.{nat_eq}
use Rattle.std.proofs.lemmas.List.{length-append, take-append-le}
use Rattle.std.proofs.lemmas.List.Sums.{sum_by-cons}
use Rattle.std.proofs.lemmas.Bool.{cases_Bool, cond-true, cond-false}
use Rattle.pool_ledger.specs.declared.entry.Event.{Event}
use Rattle.pool_ledger.specs.declared.entry.Event.TheVariants.{Evict}
use Rattle.pool_ledger.specs.Sizes.{Sizes}
use Rattle.pool_ledger.specs.History.{History}
use Rattle.pool_ledger.specs.Blocks.{Resident, sizes, stored, evictable, victims}
use Rattle.pool_ledger.specs.Answers.{growth, evicted_for}
use Rattle.pool_ledger.specs.Legal.{Evicted, evicted_of, pending, settled, IsPermitted, AttemptIsRight}
use Rattle.pool_ledger.specs.Recorded.{IsRecorded}
use Rattle.pool_ledger.proofs.Fronts.{IsShortest, shortest}
use Rattle.pool_laws.specs.Laws.{AreEvictedAboveRegion}
use Rattle.pool_ledger.proofs.Tasks.{entry_of}
use Rattle.pool_laws.proofs.Settled.{evicted_sizes, stored_settled}
use Rattle.pool_laws.proofs.Passing.{holds}

abbrev size_of : Resident → ℕ
size_of block = block.size

shortest-for : (h : History) (need : ℕ) → IsShortest size_of need (evicted_for h need)
shortest-for h need = elim (cases_Bool (nat_eq need 0)) [
  | inl none ↦ rw (cond-true (nat_eq need 0) [] (unwrap_or (victims h need None) []) none) (λ n below. absurd (omega arith))
  | inr some ↦ rw (cond-false (nat_eq need 0) [] (unwrap_or (victims h need None) []) some) (shortest size_of need (evictable h None))
]

take-map : (n : ℕ) (xs : List Resident) → evicted_sizes (take n (map evicted_of xs)) ≡ sizes (take n xs)
take-map zero [] = refl
take-map zero (x ∷ xs) = refl
take-map (suc n) [] = refl
take-map (suc n) (x ∷ xs) = omega (arith, sum_by-cons (λ (b : Evicted). b.size) (evicted_of x) (take n (map evicted_of xs)), sum_by-cons size_of x (take n xs), take-map n xs)

length-map : (xs : List Resident) → length (map evicted_of xs) ≡ length xs
length-map [] = refl
length-map (x ∷ xs) = ap suc (length-map xs)

-- the same of the pending evictions
abbrev IsShort : ℕ → List Evicted → Type 0
IsShort need blocks = (n : ℕ) → n < length blocks → evicted_sizes (take n blocks) < need

short-front : (need : ℕ) (xs : List Evicted) (x : Evicted) → IsShort need (xs ++ x ∷ []) → IsShort need xs
short-front need xs x short n below =
    let same : take n (xs ++ x ∷ []) ≡ take n xs = take-append-le n xs (x ∷ []) (omega arith) in
    omega (arith, short n (omega (arith, length-append xs (x ∷ []))), ap evicted_sizes same)

take-all : (xs : List Evicted) (x : Evicted) → take (length xs) (xs ++ x ∷ []) ≡ xs
take-all [] x = refl
take-all (y ∷ ys) x = ap (λ zs. y ∷ zs) (take-all ys x)

above-more : (s : Sizes) (h : History) (v : ℕ) (e : Event) (need : ℕ) → IsRecorded s h → need ≤ stored (settled (entry_of v e ∷ h)) - s.region → (need ≤ stored (settled h) - s.region → IsShort need (pending h) → AreEvictedAboveRegion s h) → IsShort need (pending (entry_of v e ∷ h)) → AreEvictedAboveRegion s (entry_of v e ∷ h)
above-more s h v (Evict d p size fate) need r fits before short =
    let last : Evicted = record { dataset = d; part = p; size = size } in
    let low = short (length (pending h)) (omega (arith, length-append (pending h) (last ∷ []))) in
    (omega (arith, low, ap evicted_sizes (take-all (pending h) last), stored_settled s h r, fits), before fits (short-front need (pending h) last short))
above-more s h v _ need r fits before short = tt

above : (s : Sizes) (h : History) (need : ℕ) → IsRecorded s h → need ≤ stored (settled h) - s.region → IsShort need (pending h) → AreEvictedAboveRegion s h
above s [] need r fits short = tt
above s (entry ∷ h) need r fits short = above-more s h entry.worker entry.event need r.0 fits (above s h need r.0) short

pub legal_evicts_above_region : (s : Sizes) (h : History) → s.region ≤ s.maximum → IsPermitted s h → (task asked moved evictions : ℕ) (got : Option ℕ) → AttemptIsRight s h task asked moved evictions got → AreEvictedAboveRegion s h
legal_evicts_above_region s h region perm task asked moved evictions got right =
    let held = holds s h region perm in
    let g = settled h in
    let grown = growth s g asked in
    let short : IsShort grown.need (map evicted_of grown.evicted) = λ n below. omega (arith, take-map n grown.evicted, shortest-for g grown.need n (omega (arith, length-map grown.evicted))) in
    above s h grown.need held.recorded (omega (arith, held.before)) (subst (IsShort grown.need) (sym right.evicts.blocks_are) short)
