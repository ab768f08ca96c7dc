-- A worker evicts the first blocks that may go, one after another.
use Rattle.std.proofs.Common.{◌≡◌, ◌+◌, ◌≤◌, ◌<◌, ℕ, zero, suc, List, [], ◌∷◌, ◌++◌, length, take, drop, Option, refl, sym, ap, subst, ◌∙◌, arith}
use Rattle.std.proofs.lemmas.List.{take-append-drop}
use Rattle.pool_ledger.specs.History.{History}
use Rattle.pool_ledger.specs.Blocks.{Resident, evictable}
use Rattle.pool_ledger.specs.Legal.{pending}
use Rattle.pool_laws.specs.Evicting.{IsEvicting, eviction_by}
use Rattle.pool_laws.proofs.NextEntries.{whole}
use Rattle.memory_core.specs.Caches.{Cache, PoolView}
use Rattle.memory_core.specs.Evictions.{EvictsInTurn}
use Rattle.memory_core.specs.Steady.{IsAmid}

-- ---- lists

-- the element at a place is the first of those that are left, and then the last of those that went
record IsNextAt {X : Type 0} (xs : List X) (count i : ℕ) : Type 0 where
  pub item : X
  pub left : drop i (take count xs) ≡ item ∷ drop (i + 1) (take count xs)
  pub gone : take (i + 1) xs ≡ take i xs ++ item ∷ []

next_at : {X : Type 0} (xs : List X) (count i : ℕ) → i < count → count ≤ length xs → IsNextAt xs count i
next_at [] zero i below few = absurd (omega (arith, below))
next_at [] (suc n) i below few = absurd (omega (arith, few))
next_at (x ∷ xs) zero i below few = absurd (omega (arith, below))
next_at (x ∷ xs) (suc n) zero below few = record { item = x; left = refl; gone = refl }
next_at (x ∷ xs) (suc n) (suc i) below few =
    let rest = next_at xs n i (omega (arith, below)) (omega (arith, few)) in
    let more : suc i + 1 ≡ suc (i + 1) = omega arith in
    record {
      item = rest.item;
      left = rest.left ∙ sym (ap (λ k. rest.item ∷ drop k (x ∷ take n xs)) more);
      gone = ap (λ k. take k (x ∷ xs)) more ∙ ap (λ (ys : List _). x ∷ ys) rest.gone;
    }

none_left : {X : Type 0} (xs : List X) (n : ℕ) → drop n (take n xs) ≡ []
none_left [] zero = refl
none_left [] (suc n) = refl
none_left (x ∷ xs) zero = refl
none_left (x ∷ xs) (suc n) = none_left xs n

-- ---- evictions in turn

-- one block more
pub turns_more : (worker : ℕ) (gone : List Resident) (block : Resident) (before amid after : History) (had some has : Cache)
    → EvictsInTurn worker gone before had amid some → EvictsInTurn worker (block ∷ []) amid some after has → EvictsInTurn worker (gone ++ block ∷ []) before had after has
turns_more worker [] block before amid after had some has first last =
    subst (λ (h : History). EvictsInTurn worker (block ∷ []) h had after has) first.0 (subst (λ (k : Cache). EvictsInTurn worker (block ∷ []) amid k after has) first.1 last)
turns_more worker (b ∷ bs) block before amid after had some has first last =
    (first.0, first.1, first.2, turns_more worker bs block (eviction_by worker b first.0 ∷ before) amid after first.1 some has first.3 last)

-- so many of the first blocks that may go went, of those that have to
pub record IsThrough (worker : ℕ) (except : Option ℕ) (count i : ℕ) (old now : PoolView) : Type 0 where
  pub amid : IsAmid now.setup now.history now.cache
  pub evicts : EvictsInTurn worker (take i (evictable old.history except)) old.history old.cache now.history now.cache
  pub evicting : IsEvicting now.history old.history worker except (take i (evictable old.history except)) (drop i (take count (evictable old.history except)))
  pub spare : now.spare + i ≡ old.spare
  pub room : now.room ≡ old.room
  pub setup : now.setup ≡ old.setup

-- before the first none went
pub through_none : (worker : ℕ) (except : Option ℕ) (count : ℕ) (old : PoolView) → IsAmid old.setup old.history old.cache → pending old.history ≡ [] → IsThrough worker except count 0 old old
through_none worker except count old amid none = record {
  amid = amid;
  evicts = (refl, refl);
  evicting = record {
    base_is = (whole old.history none).all_settled;
    gone_is = none;
    own_turn = (whole old.history none).any_turn worker;
    behind = drop count (evictable old.history except);
    left_first = sym (take-append-drop count (evictable old.history except));
  };
  spare = omega arith;
  room = refl;
  setup = refl;
}

-- what a call is told of the next block
abbrev pub HasNext : History → ℕ → Option ℕ → Type 0
HasNext history worker except = (base : History) × (gone : List Resident) × (left : List Resident) × (block : Resident) × IsEvicting history base worker except gone (block ∷ left)

pub through_next : (worker : ℕ) (except : Option ℕ) (count i : ℕ) (old now : PoolView) → i < count → count ≤ length (evictable old.history except) → IsThrough worker except count i old now → HasNext now.history worker except
through_next worker except count i old now below few through =
    let next = next_at (evictable old.history except) count i below few in (
      old.history,
      take i (evictable old.history except),
      drop (i + 1) (take count (evictable old.history except)),
      next.item,
      subst (λ (left : List Resident). IsEvicting now.history old.history worker except (take i (evictable old.history except)) left) next.left through.evicting,
    )

-- what a call says that evicted the next block
abbrev pub Turns : ℕ → Option ℕ → PoolView → PoolView → Type 0
Turns worker except now new =
    (base : History) (gone left : List Resident) (block : Resident) → IsEvicting now.history base worker except gone (block ∷ left)
    → EvictsInTurn worker (block ∷ []) now.history now.cache new.history new.cache × IsEvicting new.history base worker except (gone ++ block ∷ []) left

-- once it went, one more did
pub through_more : (worker : ℕ) (except : Option ℕ) (count i : ℕ) (old now new : PoolView) → i < count → count ≤ length (evictable old.history except) → IsThrough worker except count i old now
    → IsAmid new.setup new.history new.cache → Turns worker except now new → new.spare + 1 ≡ now.spare → new.room ≡ now.room → new.setup ≡ now.setup → IsThrough worker except count (i + 1) old new
through_more worker except count i old now new below few through amid turns spare room setup =
    let blocks = evictable old.history except in
    let next = next_at blocks count i below few in
    let told = turns old.history (take i blocks) (drop (i + 1) (take count blocks)) next.item
    (subst (λ (left : List Resident). IsEvicting now.history old.history worker except (take i blocks) left) next.left through.evicting) in
    record {
      amid = amid;
      evicts = subst (λ (gone : List Resident). EvictsInTurn worker gone old.history old.cache new.history new.cache) (sym next.gone)
          (turns_more worker (take i blocks) next.item old.history now.history new.history old.cache now.cache new.cache through.evicts told.0);
      evicting = subst (λ (gone : List Resident). IsEvicting new.history old.history worker except gone (drop (i + 1) (take count blocks))) (sym next.gone) told.1;
      spare = omega (arith, through.spare, spare);
      room = room ∙ through.room;
      setup = setup ∙ through.setup;
    }

-- at the end all went
pub through_all : (worker : ℕ) (except : Option ℕ) (count i : ℕ) (old now : PoolView) → i ≡ count → IsThrough worker except count i old now → IsThrough worker except count count old now
through_all worker except count i old now last through = subst (λ n. IsThrough worker except count n old now) last through

pub none_left_to_go : (worker : ℕ) (except : Option ℕ) (count : ℕ) (old now : PoolView) → IsThrough worker except count count old now
    → IsEvicting now.history old.history worker except (take count (evictable old.history except)) []
none_left_to_go worker except count old now through =
    subst (λ (left : List Resident). IsEvicting now.history old.history worker except (take count (evictable old.history except)) left) (none_left (evictable old.history except) count) through.evicting
