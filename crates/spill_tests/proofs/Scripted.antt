-- What tests play: a step of a script leaves the memory set for the next one, and consumers that were begun keep entries one by one.
use Rattle.std.proofs.Common.{◌≡◌, ◌≢◌, ℕ, zero, suc, ◌+◌, ◌-◌, ◌<◌, List, [], ◌∷◌, ◌++◌, length, refl, sym, ap, subst, ◌∙◌, arith, inl, inr, Option, Some, None}
use Rattle.std.specs.Prelude.{slice_index, true}
use Rattle.aggregate.specs.declared.kind.Kind.{Kind}
use Rattle.aggregate.specs.Totals as totals
use Rattle.spill_disk.specs.Files.{Files}
use Rattle.run_file.specs.declared.run.Run.{Run}
use Rattle.task_memory.specs.declared.spills.Spills.{Spills}
use Rattle.task_memory.specs.Memories.{Lent}
use Rattle.aggregate.specs.declared.kind.Kind.TheVariants.{Order}
use Rattle.consumer_trait.specs.States.{State}
use Rattle.consumer_trait.specs.Members.{state_at}
use Rattle.task_memory.specs.Pauses.{AllSame}
use Rattle.task_memory.specs.Feeding.{OthersSame}
use Rattle.pool_ledger.specs.declared.entry.Entry.{Entry}
use Rattle.pool_ledger.specs.declared.entry.Event.TheVariants.{Begin}
use Rattle.pool_ledger.specs.History.{held}
use Rattle.pool_ledger.specs.Journal.{history_of}
use Rattle.pool_ledger.specs.Workers.{entries_of}
use Rattle.pool_laws.specs.Growing.{entry_by}
use Rattle.turn_lock.specs.Passes.{LockId, WorkerView}
use Rattle.memory_lock.specs.Crew.{IsWorker}
use Rattle.memory_lock.specs.Workers.{Adds}
use Rattle.task_pool.specs.Workers.{SeesMore, own_of}
use Rattle.task_pool.specs.Pools.{PoolState}
use Rattle.task_pool.proofs.GoingOn.{goes_on}
use Rattle.task_memory.specs.Words.{begun_scene}
use Rattle.task_memory.specs.Stacks.{IsDry, Stack}
use Rattle.task_memory.specs.Scenes.{Acquires, DrawsAlone, Drains, Feeds, FeedsOn, FreesLeasts, GivesBack, GoesOn, IsLive, Rooms, Scene, place_in}
use Rattle.task_memory.proofs.Choosing.{Found, Missing, Place, place_of}
use Rattle.task_memory.proofs.Places.{at_or_not}
use Rattle.task_memory.specs.Starting.{ArePlaces, BeginsPicked, kind_at}
use Rattle.spill_tests.specs.Scripts.{AreFour, AreOrders, ArePlacesOfFour, GoesAlong, IsFreed, IsSet}

-- after a call that keeps all kinds
pub orders_kept : (old new : List State) → AreOrders old → AllSame old new → AreOrders new
orders_kept old new orders same i within kind is =
    let before : i < length old = let consumers = same.consumers in omega arith in
    orders i before kind (sym (same.each i before).kind ∙ is)

-- after an entry that was fed
pub orders_fed : (old new : List State) (who : ℕ) → AreOrders old → OthersSame old new who → AreOrders new
orders_fed old new who orders same i within kind is =
    let before : i < length old = let consumers = same.consumers in omega arith in
    let kept : (state_at new i).kind ≡ (state_at old i).kind = elim (at_or_not i who) [
      | inl here ↦ rw here same.kind
      | inr other ↦ (same.each i before other).kind
    ] in
    orders i before kind (sym kept ∙ is)

-- two calls go along as one does
pub along_on : (a b c : Scene) → GoesAlong a b → GoesAlong b c → GoesAlong a c
along_on a b c first then = (goes_on a.pool b.pool c.pool first.0 then.0, then.1 ∙ first.1)

-- a memory that gave no room away and whose call kept what it has
pub set_acquired : (old new : Scene) (count who must wish got : ℕ) → IsSet old count → Acquires old new who must wish got → GoesOn old new → new.live ≡ true → IsSet new count
set_acquired old new count who must wish got set acquires goes live = record {
  live = record { between = acquires.between; live = live };
  consumers = ap (λ (picks : List ℕ). length picks) acquires.told.keeps.picks ∙ set.consumers;
  orders = orders_kept old.stack.states new.stack.states set.orders goes.same;
  no_room = goes.stays.roomed ∙ set.no_room;
}

pub set_fed : (old new : Scene) (count who : ℕ) (entry : totals.Entry) → IsSet old count → Feeds old new who entry → FeedsOn old new who entry → new.live ≡ true → IsSet new count
set_fed old new count who entry set feeds goes live = record {
  live = record { between = feeds.between; live = live };
  consumers = ap (λ (picks : List ℕ). length picks) feeds.fed.picks ∙ set.consumers;
  orders = orders_fed old.stack.states new.stack.states who set.orders goes.goes.others;
  no_room = goes.goes.stays.roomed ∙ set.no_room;
}

pub set_drained : (old new : Scene) (count who : ℕ) (taken : List Run) → IsSet old count → Drains old new who taken → GoesOn old new → new.live ≡ true → IsSet new count
set_drained old new count who taken set drains goes live = record {
  live = record { between = drains.between; live = live };
  consumers = ap (λ (picks : List ℕ). length picks) drains.picks ∙ set.consumers;
  orders = orders_kept old.stack.states new.stack.states set.orders goes.same;
  no_room = goes.stays.roomed ∙ set.no_room;
}

-- the first consumers have no entry in memory
abbrev pub AreDrained : Scene → ℕ → Type 0
AreDrained scene count = (j : ℕ) → j < count → (state_at scene.stack.states (place_in scene j)).entries ≡ []

no_entries : (entries : List totals.Entry) → length entries ≡ 0 → entries ≡ []
no_entries [] none = refl
no_entries (entry ∷ entries) none = absurd (omega arith)

-- one more is drained
pub drained_more : (old new : Scene) (count next : ℕ) (taken : List Run) → IsSet old count → next < count → AreDrained old next → Drains old new (place_in old next) taken → AreDrained new (next + 1)
drained_more old new count next taken set within so_far drains j below =
    let place : place_in new j ≡ place_in old j = ap (λ (picks : List ℕ). slice_index picks j) drains.picks in
    rw place (elim (at_or_not j next) [
      | inl here ↦ rw here drains.empty
      | inr other ↦
          let before : j < next = omega (arith, below, other) in
          let inside : place_in old j < length old.stack.states = set.live.between.rests.ready.picked.within j (let consumers = set.consumers in omega arith) in
          let kept = (drains.kept (place_in old j) inside).shorter in
          let none : length (state_at old.stack.states (place_in old j)).entries ≡ 0 = ap (λ (entries : List totals.Entry). length entries) (so_far j before) in
          no_entries (state_at new.stack.states (place_in old j)).entries (omega (arith, kept, none))
    ])

-- where all are, no consumer has an entry
pub all_dry : (scene : Scene) (count : ℕ) → IsSet scene count → AreDrained scene count → IsDry scene.stack.states
all_dry scene count set drained i within = dry_at (place_of scene.stack.picks i)
  where
    dry_at : Place scene.stack.picks i → (state_at scene.stack.states i).entries ≡ []
    dry_at (Found j below there) = subst (λ (n : ℕ). (state_at scene.stack.states n).entries ≡ []) there (drained j (let consumers = set.consumers in omega arith))
    dry_at (Missing apart) = set.live.between.rests.ready.picked.inert i within apart

-- once the leasts are freed
pub freed_is : (old new : Scene) (count : ℕ) → IsSet old count → IsDry old.stack.states → FreesLeasts old new → DrawsAlone old new → new.live ≡ true → IsFreed new count 0
freed_is old new count set dry frees draws live = record {
  live = record { between = frees.between; live = live };
  consumers = ap (λ (stack : Stack). length stack.picks) draws.stack ∙ set.consumers;
  dry = subst (λ (stack : Stack). IsDry stack.states) (sym draws.stack) dry;
  freed = frees.leasts;
  room = frees.roomed ∙ set.no_room;
}

pub roomed_is : (old new : Scene) (count roomed must wish got now : ℕ) → IsFreed old count roomed → Rooms old new must wish got → DrawsAlone old new → new.live ≡ true → now ≡ roomed + got → IsFreed new count now
roomed_is old new count roomed must wish got now before rooms draws live is = record {
  live = record { between = rooms.between; live = live };
  consumers = ap (λ (stack : Stack). length stack.picks) draws.stack ∙ before.consumers;
  dry = subst (λ (stack : Stack). IsDry stack.states) (sym draws.stack) before.dry;
  freed = rooms.leasts ∙ before.freed;
  room = let more = rooms.roomed in let had = before.room in omega (arith, more, had, is);
}

pub given_back_is : (old new : Scene) (count roomed bytes : ℕ) → IsFreed old count roomed → GivesBack old new bytes → DrawsAlone old new → new.live ≡ true → IsFreed new count (roomed - bytes)
given_back_is old new count roomed bytes before gives draws live = record {
  live = record { between = gives.between; live = live };
  consumers = ap (λ (stack : Stack). length stack.picks) draws.stack ∙ before.consumers;
  dry = subst (λ (stack : Stack). IsDry stack.states) (sym draws.stack) before.dry;
  freed = gives.leasts ∙ before.freed;
  room = let less = gives.roomed in let had = before.room in omega (arith, less, had);
}

-- whatever is lent to the memory, and to its account
pub set_lent : (states : List State) (pool : PoolState) (files : Option Files) (faults leasts count : ℕ) (spills : Spills) (lent : Lent) → IsLive (begun_scene states pool files faults spills leasts) → AreOrders states
    → length spills.picks.items ≡ count → IsSet (record (begun_scene states pool files faults spills leasts) { lent = lent }) count
set_lent states pool files faults leasts count spills lent live orders consumers =
    let between = live.between in
    record {
      live = record {
        between = record {
          rests = record { ready = between.rests.ready; page = between.rests.page; at_work = between.rests.at_work };
          begun = between.begun;
          holds = between.holds;
        };
        live = live.live;
      };
      consumers = consumers;
      orders = orders;
      no_room = refl;
    }

-- distinct places of four consumers that keep entries one by one are places to begin them
pub places_of : (picks : List ℕ) (kinds : List Kind) (states : List State) → ArePlacesOfFour picks kinds → AreFour states → ArePlaces picks kinds states
places_of picks kinds states places fresh = record {
  as_many = places.as_many;
  within = λ j below. rw fresh.four (places.within j below);
  distinct = places.distinct;
  serve = λ j below. rw (places.orders j) (fresh.serve (slice_index picks j) (rw fresh.four (places.within j below)));
}

-- the places 2 and 0

two_within : (j : ℕ) → j < 2 → slice_index (2 ∷ 0 ∷ []) j < 4
two_within zero within = omega arith
two_within (suc zero) within = omega arith
two_within (suc (suc n)) within = absurd (omega arith)

two_apart : (j k : ℕ) → j < k → k < 2 → slice_index (2 ∷ 0 ∷ []) j ≢ slice_index (2 ∷ 0 ∷ []) k
two_apart zero zero below within = absurd (omega arith)
two_apart zero (suc zero) below within = omega arith
two_apart zero (suc (suc k)) below within = absurd (omega arith)
two_apart (suc j) zero below within = absurd (omega arith)
two_apart (suc j) (suc zero) below within = absurd (omega arith)
two_apart (suc j) (suc (suc k)) below within = absurd (omega arith)

two_orders : (j : ℕ) → kind_at (Order ∷ Order ∷ []) j ≡ Order
two_orders zero = refl
two_orders (suc zero) = refl
two_orders (suc (suc n)) = refl

pub two_of_four : ArePlacesOfFour (2 ∷ 0 ∷ []) (Order ∷ Order ∷ [])
two_of_four = record { as_many = refl; within = two_within; distinct = two_apart; orders = two_orders }

-- all four, in their order

all_is : (j : ℕ) → j < 4 → slice_index (0 ∷ 1 ∷ 2 ∷ 3 ∷ []) j ≡ j
all_is zero within = refl
all_is (suc zero) within = refl
all_is (suc (suc zero)) within = refl
all_is (suc (suc (suc zero))) within = refl
all_is (suc (suc (suc (suc n)))) within = absurd (omega arith)

all_orders : (j : ℕ) → kind_at (Order ∷ Order ∷ Order ∷ Order ∷ []) j ≡ Order
all_orders zero = refl
all_orders (suc zero) = refl
all_orders (suc (suc zero)) = refl
all_orders (suc (suc (suc zero))) = refl
all_orders (suc (suc (suc (suc n)))) = refl

pub all_of_four : ArePlacesOfFour (0 ∷ 1 ∷ 2 ∷ 3 ∷ []) (Order ∷ Order ∷ Order ∷ Order ∷ [])
all_of_four = record {
  as_many = refl;
  within = λ j below. rw (all_is j below) below;
  distinct = λ j k below within. (let first = all_is j (omega (arith, below, within)) in let second = all_is k within in λ same. absurd (omega (arith, first, second, same, below)));
  orders = all_orders;
}

abbrev code : Option Kind → ℕ
code None = 0
code (Some kind) = 1

abbrev kind_of : Option Kind → Kind
kind_of None = Order
kind_of (Some kind) = kind

-- those that were begun there keep entries one by one
pub orders_begun : (picks : List ℕ) (kinds : List Kind) (states states' : List State) → ArePlacesOfFour picks kinds → BeginsPicked picks kinds states states' → AreOrders states'
orders_begun picks kinds states states' places begins i within kind is =
    let before : i < length states = let consumers = begins.consumers in omega arith in
    orders_at (place_of picks i) before
  where
    orders_at : Place picks i → i < length states → kind ≡ Order
    orders_at (Found j below there) before =
        let begun : (state_at states' i).kind ≡ Some (kind_at kinds j) = subst (λ (n : ℕ). (state_at states' n).kind ≡ Some (kind_at kinds j)) there (ap (λ (state : State). state.kind) (begins.begun j below)) in
        ap kind_of (sym is ∙ begun) ∙ places.orders j
    orders_at (Missing apart) before =
        let reset : (state_at states' i).kind ≡ None = ap (λ (state : State). state.kind) (begins.others i before apart) in
        let differ : 1 ≡ 0 = ap code (sym is ∙ reset) in
        absurd (omega (arith, differ))

-- a task that its worker began as the first holds nothing
pub begun_holds : (task other number : ℕ) (before after : WorkerView) → before.seen ≡ [] → Adds before after (entry_by number (Begin task) ∷ []) → held (own_of after) other ≡ 0
begun_holds task other number before after new adds =
    ap (λ (entries : List Entry). held (history_of entries) other) (adds ∙ ap (λ (seen : List Entry). entries_of before.number seen ++ (entry_by number (Begin task) ∷ [])) new)

-- a worker that has seen more is the worker of its number
pub worker_on : (lock : LockId) (count number : ℕ) (before after : WorkerView) → IsWorker lock count number before → SeesMore before after → after.base ≡ None → IsWorker lock count number after
worker_on lock count number before after was sees free = record {
  lock_is = sees.lock_is ∙ was.lock_is;
  number_is = sees.number_is ∙ was.number_is;
  speaks_is = sees.speaks_is ∙ was.speaks_is;
  last = λ is. sees.spare_is ∙ was.last is;
  others = λ is. sees.spare_is ∙ was.others is;
  free = free;
}
