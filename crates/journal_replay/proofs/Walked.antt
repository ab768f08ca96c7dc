-- A walk over the blocks from the least recently used on, which ends once those that may go reach a need.
use Rattle.std.proofs.Common.{◌≡◌, ℕ, ◌+◌, ◌-◌, ◌^◌, ◌<◌, ◌≤◌, Bool, true, false, not, cond, ◌&&◌, List, [], ◌∷◌, drop, get_or, length, map, Option, Some, None, refl, sym, ap, subst, ◌∙◌, arith}
use Rattle.std.specs.Prelude.{nat_eq}
use Rattle.std.specs.List.{filter}
use Rattle.std.specs.Option.{option_map}
use Rattle.std.proofs.lemmas.Bool.{cond-true, cond-false, eq-eqb, ne_eqb}
use Rattle.std.proofs.lemmas.List.{at_drop_all, at_drop_more}
use Rattle.std.proofs.lemmas.List.Filters.{length-filter_both}
use Rattle.std.proofs.lemmas.List.Sums.{sum_by-cons}
use Rattle.pool_ledger.specs.Blocks.{front_reaching}
use Rattle.pool_ledger.proofs.Fronts.{sizes-filter-le}
use Rattle.pool_ledger.specs.Legal.{Evicted}
use Rattle.pool_ledger.specs.declared.entry.Entry.{Entry}
use Rattle.eviction.specs.declared.candidate.Candidate.{Candidate}
use Rattle.eviction.specs.Victims.{evictable, is_evictable, sizes}
use Rattle.journal_replay.specs.declared.fronts.Freed.{Freed}
use Rattle.journal_replay.specs.Checks.{front_in, go_first, is_gone, sum_of}
use Rattle.journal_replay.specs.Replays.{gone_of}

abbrev size_of : Candidate → ℕ
size_of block = block.size

-- The front, found block by block

abbrev freed : ℕ → ℕ → Freed
freed count bytes = record { count = count; bytes = bytes }

-- the front with so many blocks of so many bytes before it
abbrev with_more : ℕ → ℕ → Freed → Freed
with_more count bytes front = freed (count + front.count) (bytes + front.bytes)

-- the front once so many blocks of so many bytes go, and these are left
abbrev pub front_at : ℕ → ℕ → ℕ → List Candidate → Option Freed
front_at need count bytes left = option_map (with_more count bytes) (option_map sum_of (front_reaching size_of (need - bytes) left))

same_freed : (m n a b : ℕ) → m ≡ n → a ≡ b → freed m a ≡ freed n b
same_freed m n a b counts bytes = ap (λ (k : ℕ). freed k a) counts ∙ ap (freed n) bytes

none_before : (o : Option Freed) → option_map (with_more 0 0) o ≡ o
none_before None = refl
none_before (Some front) = ap Some (same_freed (0 + front.count) front.count (0 + front.bytes) front.bytes (omega arith) (omega arith))

one_before : (count bytes : ℕ) (x : Candidate) (o : Option (List Candidate))
    → option_map (with_more count bytes) (option_map sum_of (option_map (λ ys. x ∷ ys) o)) ≡ option_map (with_more (count + 1) (bytes + x.size)) (option_map sum_of o)
one_before count bytes x None = refl
one_before count bytes x (Some ys) =
    ap Some (same_freed (count + length (x ∷ ys)) (count + 1 + length ys) (bytes + sizes (x ∷ ys)) (bytes + x.size + sizes ys) (omega arith) (omega (arith, sum_by-cons size_of x ys)))

goes_on : (need count bytes : ℕ) (x : Candidate) (ys : List Candidate) → bytes < need → front_at need count bytes (x ∷ ys) ≡ front_at need (count + 1) (bytes + x.size) ys
goes_on need count bytes x ys low =
    let less : need - bytes - x.size ≡ need - (bytes + x.size) = omega arith in
    ap (λ (o : Option (List Candidate)). option_map (with_more count bytes) (option_map sum_of o))
    (cond-false (nat_eq (need - bytes) 0) (Some []) (option_map (λ ys. x ∷ ys) (front_reaching size_of (need - bytes - x.size) ys)) (ne_eqb (need - bytes) 0 (λ e. omega arith)))
    ∙ one_before count bytes x (front_reaching size_of (need - bytes - x.size) ys)
    ∙ ap (λ (n : ℕ). option_map (with_more (count + 1) (bytes + x.size)) (option_map sum_of (front_reaching size_of n ys))) less

empty_front : (need : ℕ) (ys : List Candidate) → need ≡ 0 → front_reaching size_of need ys ≡ Some []
empty_front need [] none = cond-true (nat_eq need 0) (Some []) None (eq-eqb need 0 none)
empty_front need (y ∷ ys) none = cond-true (nat_eq need 0) (Some []) (option_map (λ zs. y ∷ zs) (front_reaching size_of (need - y.size) ys)) (eq-eqb need 0 none)

reached : (need count bytes : ℕ) (ys : List Candidate) → need ≤ bytes → front_at need count bytes ys ≡ Some (freed count bytes)
reached need count bytes ys enough =
    ap (λ (o : Option (List Candidate)). option_map (with_more count bytes) (option_map sum_of o)) (empty_front (need - bytes) ys (omega arith))
    ∙ ap Some (same_freed (count + 0) count (bytes + 0) bytes (omega arith) (omega arith))

missed : (need count bytes : ℕ) → bytes < need → front_at need count bytes [] ≡ None
missed need count bytes low =
    ap (λ (o : Option (List Candidate)). option_map (with_more count bytes) (option_map sum_of o)) (cond-false (nat_eq (need - bytes) 0) (Some []) None (ne_eqb (need - bytes) 0 (λ e. omega arith)))

-- The walk

-- so many blocks of so many bytes go, which aren't enough, and of these more may go
pub record IsWalk (except : Option ℕ) (need : ℕ) (all left : List Candidate) (count bytes : ℕ) : Type 0 where
  pub front : front_at need count bytes left ≡ front_in except need all
  pub low : bytes < need
  pub small : bytes + sizes left ≤ 2 ^ 50
  pub few : count + length left ≤ length all

length-filter-le : (p : Candidate → Bool) (blocks : List Candidate) → length (filter p blocks) ≤ length blocks
length-filter-le p blocks = omega (arith, length-filter_both p (λ b. not (p b)) (λ b. refl) blocks)

module _ (except : Option ℕ) (need : ℕ) (all : List Candidate) where
  pub walk_begins : 1 ≤ need → sizes all ≤ 2 ^ 50 → (left : List Candidate) → left ≡ evictable except all → IsWalk except need all left 0 0
  walk_begins some small left is = subst (λ (blocks : List Candidate). IsWalk except need all blocks 0 0) (sym is) (let same : need - 0 ≡ need = omega arith in record {
    front =
        ap (λ (n : ℕ). option_map (with_more 0 0) (option_map sum_of (front_reaching size_of n (evictable except all)))) same
        ∙ none_before (front_in except need all);
    low = some;
    small = omega (arith, small, sizes-filter-le size_of (is_evictable except) all);
    few = omega (arith, length-filter-le (is_evictable except) all);
  })

  module _ (left rest : List Candidate) (block : Candidate) (count bytes : ℕ) (walk : IsWalk except need all left count bytes) (next : left ≡ evictable except (block ∷ rest)) where
    may_go : is_evictable except block ≡ true → left ≡ block ∷ evictable except rest
    may_go may = next ∙ cond-true (is_evictable except block) (block ∷ evictable except rest) (evictable except rest) may

    behind : is_evictable except block ≡ true → sizes left ≡ block.size + sizes (evictable except rest)
    behind may = ap sizes (may_go may) ∙ sum_by-cons size_of block (evictable except rest)

    goes : is_evictable except block ≡ true → front_at need count bytes left ≡ front_at need (count + 1) (bytes + block.size) (evictable except rest)
    goes may = ap (front_at need count bytes) (may_go may) ∙ goes_on need count bytes block (evictable except rest) walk.low

    pub walk_takes : is_evictable except block ≡ true → bytes + block.size < need → IsWalk except need all (evictable except rest) (count + 1) (bytes + block.size)
    walk_takes may low = record {
      front = sym (goes may) ∙ walk.front;
      low = low;
      small = omega (arith, walk.small, behind may);
      few = omega (arith, walk.few, ap (λ (blocks : List Candidate). length blocks) (may_go may));
    }

    pub walk_passes : is_evictable except block ≡ false → IsWalk except need all (evictable except rest) count bytes
    walk_passes stays =
        subst (λ (blocks : List Candidate). IsWalk except need all blocks count bytes)
        (next ∙ cond-false (is_evictable except block) (block ∷ evictable except rest) (evictable except rest) stays) walk

    pub walk_finds : is_evictable except block ≡ true → need ≤ bytes + block.size → Some (freed (count + 1) (bytes + block.size)) ≡ front_in except need all
    walk_finds may enough = sym (reached need (count + 1) (bytes + block.size) (evictable except rest) enough) ∙ sym (goes may) ∙ walk.front

    -- the bytes so far and those of this one are within the whole, and so is their number
    pub room_for_one : is_evictable except block ≡ true → (bytes + block.size ≤ 2 ^ 50) × (count + 1 ≤ length all)
    room_for_one may =
        let bytes_fit : bytes + block.size ≤ 2 ^ 50 = omega (arith, walk.small, behind may) in
        let count_fits : count + 1 ≤ length all = omega (arith, walk.few, ap (λ (blocks : List Candidate). length blocks) (may_go may)) in
        (bytes_fit, count_fits)

  pub walk_misses : (left : List Candidate) (count bytes : ℕ) → IsWalk except need all left count bytes → left ≡ [] → None ≡ front_in except need all
  walk_misses left count bytes walk none = sym (ap (front_at need count bytes) none ∙ missed need count bytes walk.low) ∙ walk.front

-- Evictions beside the blocks

-- whether the evictions are of the first of these blocks, in order
abbrev pub begin_with : List Evicted → List Candidate → Bool
begin_with [] blocks = true
begin_with (gone ∷ more) [] = false
begin_with (gone ∷ more) (block ∷ blocks) = is_gone gone block && begin_with more blocks

-- they are the first that may go where they are the first of those that may go
pub first_of_evictable : (except : Option ℕ) (gone : List Evicted) (blocks : List Candidate) → go_first except gone blocks ≡ begin_with gone (evictable except blocks)
first_of_evictable except [] blocks = refl
first_of_evictable except (x ∷ more) [] = refl
first_of_evictable except (x ∷ more) (b ∷ blocks) = by (is_evictable except b) (first_of_evictable except more blocks) (first_of_evictable except (x ∷ more) blocks)
  where
    by : (t : Bool) → go_first except more blocks ≡ begin_with more (evictable except blocks) → go_first except (x ∷ more) blocks ≡ begin_with (x ∷ more) (evictable except blocks)
        → cond t (is_gone x b && go_first except more blocks) (go_first except (x ∷ more) blocks) ≡ begin_with (x ∷ more) (cond t (b ∷ evictable except blocks) (evictable except blocks))
    by true goes stays = ap (λ t. is_gone x b && t) goes
    by false goes stays = stays

module _ (except : Option ℕ) (waiting : List Entry) (found : ℕ) (any : Entry) (below : found < length waiting) where
  next_gone : map gone_of (drop found waiting) ≡ gone_of (get_or waiting found any) ∷ map gone_of (drop (found + 1) waiting)
  next_gone = ap (map gone_of) (at_drop_more (λ (es : List Entry). es) waiting found any below)

  -- none is left to go first
  pub not_all_gone : (left : List Candidate) → left ≡ [] → begin_with (map gone_of (drop found waiting)) left ≡ false
  not_all_gone left none = ap (begin_with (map gone_of (drop found waiting))) none ∙ ap (λ (gone : List Evicted). begin_with gone []) next_gone

  module _ (left rest : List Candidate) (block : Candidate) (next : left ≡ evictable except (block ∷ rest)) where
    -- the next block may go, and is to be the next one that went
    pub next_goes : is_evictable except block ≡ true
        → begin_with (map gone_of (drop found waiting)) left ≡ (is_gone (gone_of (get_or waiting found any)) block && begin_with (map gone_of (drop (found + 1) waiting)) (evictable except rest))
    next_goes may =
        ap (begin_with (map gone_of (drop found waiting))) (next ∙ cond-true (is_evictable except block) (block ∷ evictable except rest) (evictable except rest) may)
        ∙ ap (λ (gone : List Evicted). begin_with gone (block ∷ evictable except rest)) next_gone

    -- the next block stays
    pub next_stays : is_evictable except block ≡ false → begin_with (map gone_of (drop found waiting)) left ≡ begin_with (map gone_of (drop found waiting)) (evictable except rest)
    next_stays stays =
        ap (begin_with (map gone_of (drop found waiting))) (next ∙ cond-false (is_evictable except block) (block ∷ evictable except rest) (evictable except rest) stays)

-- all are found
pub all_found : (waiting : List Entry) (found : ℕ) (left : List Candidate) → length waiting ≤ found → begin_with (map gone_of (drop found waiting)) left ≡ true
all_found waiting found left all = at_drop_all (λ (es : List Entry). begin_with (map gone_of es) left) waiting found all
