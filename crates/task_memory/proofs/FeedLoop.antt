-- A feed's loop: what is known of it once bytes were got for the entry so many times.
use Rattle.std.proofs.Common.{◌≡◌, ◌≢◌, ℕ, ◌+◌, ◌<◌, ◌≤◌, List, [], length, refl, sym, ap, subst, ◌∙◌, arith, inl, inr}
use Rattle.std.proofs.lemmas.List.{get_or-set_other, length-set}
use Rattle.aggregate.specs.declared.kind.Kind.{Kind}
use Rattle.aggregate.specs.Totals.{Entry, TotalsStayEqual, cost}
use Rattle.consumer_trait.specs.States.{State, room}
use Rattle.consumer_trait.specs.Members.{OnlyAt, blank, state_at}
use Rattle.consumer_trait.specs.Calls.{Needs, Takes, charge, SameConsumer}
use Rattle.task_pool.proofs.GoingOn.{goes_none}
use Rattle.task_pool.specs.Workers.{own_entries}
use Rattle.task_memory.specs.Feeding.{HasNoRoom, LacksRoom, OthersEmptyUseNothing, OthersSame}
use Rattle.task_memory.specs.Scenes.{Acquires, AsksNothing, CanFeed, Feeds, GoesOn, GoesOnBut, Scene}
use Rattle.task_memory.specs.Stacks.{Stack, used_by}
use Rattle.task_memory.proofs.Acquired.{acquired_none}
use Rattle.task_memory.proofs.Between.{pick_within}
use Rattle.task_memory.proofs.Fed.{unchanged}
use Rattle.task_memory.proofs.FeedingOn.{acquires_from, can_feed_on, feeds_after, feeds_at_once, goes_but_after, need_is, raises_is, with_states}
use Rattle.task_memory.proofs.Places.{less_or_not}
use Rattle.task_memory.proofs.Refused.{charge_is, enough_beside, enough_whole}
use Rattle.task_memory.proofs.Sameness.{leaves_self, same_self}
use Rattle.task_memory.proofs.SecondRefusal.{few_after, lacks_after}

-- bytes were got for the entry so many times: it may be fed, and what comes of it from here on comes of the whole. Once it was
-- got for, the consumer has room beside entries, and after the second time it has room
pub record IsFeeding (old now : Scene) (place : ℕ) (entry : Entry) (count : ℕ) : Type 0 where
  pub can : CanFeed now place entry
  pub goes : GoesOn old now
  pub feeds : (new : Scene) → Feeds now new place entry → Feeds old new place entry
  pub refuses : count < 2 → (new : Stack) (asked : ℕ) → LacksRoom now.stack new entry asked
      → (1 ≤ count → OthersEmptyUseNothing now.stack.states place → asked + used_by new.states ≤ cost entry) → LacksRoom old.stack new entry asked
  pub beside : 1 ≤ count → (state_at now.stack.states place).entries ≢ [] → cost entry ≤ room (state_at now.stack.states place)
  pub whole : 2 ≤ count → cost entry ≤ room (state_at now.stack.states place)
  pub still : charge (state_at old.stack.states place).kind (state_at old.stack.states place).entries entry ≤ room (state_at old.stack.states place) → now ≡ old

pub feeding_first : (old : Scene) (place : ℕ) (entry : Entry) → CanFeed old place entry → GoesOn old old → IsFeeding old old place entry 0
feeding_first old place entry can goes = record {
  can = can;
  goes = goes;
  feeds = λ new feeds. feeds;
  refuses = λ _ new asked lacks few. lacks;
  beside = λ once. absurd (omega arith);
  whole = λ twice. absurd (omega arith);
  still = λ fits. refl;
}

-- where the consumer needs bytes, it had too little room at first too
needs_then : (old now : Scene) (place must wish count : ℕ) (entry : Entry) (state : State) → IsFeeding old now place entry count → Needs (state_at now.stack.states place) state entry must wish
    → room (state_at old.stack.states place) < charge (state_at old.stack.states place).kind (state_at old.stack.states place).entries entry
needs_then old now place must wish count entry state so_far needs =
    let before = state_at old.stack.states place in
    elim (less_or_not (room before) (charge before.kind before.entries entry)) [
      | inl short ↦ short
      | inr fits ↦
          let same = so_far.still fits in
          subst (λ (scene : Scene). room (state_at scene.stack.states place) < charge (state_at scene.stack.states place).kind (state_at scene.stack.states place).entries entry) same needs.short
    ]

-- bytes were got once more
pub feeding_more : (old now mid : Scene) (states : List State) (place must wish got count : ℕ) (entry : Entry) → ((kind : Kind) → TotalsStayEqual kind) → IsFeeding old now place entry count
    → OnlyAt now.stack.states states place → Needs (state_at now.stack.states place) (state_at states place) entry must wish
    → Acquires (with_states now states) mid place must wish got → GoesOn old mid → IsFeeding old mid place entry (count + 1)
feeding_more old now mid states place must wish got count entry laws so_far only needs acquired goes =
    let same = need_is now states place must wish entry only needs in
    let acquires : Acquires now mid place must wish got = acquires_from now mid states place must wish got same acquired in
    let raises = raises_is now mid place must wish got entry so_far.can acquires in
    record {
      can = can_feed_on now mid place must wish got entry so_far.can acquires;
      goes = goes;
      feeds = λ new feeds. so_far.feeds new (feeds_after now mid new place must wish got entry laws so_far.can acquires feeds);
      refuses = λ below new asked lacks few.
          so_far.refuses (omega arith) new asked (lacks_after now.stack mid.stack new place must asked entry raises lacks (few (omega arith))) (λ once. absurd (omega arith));
      beside = λ once. enough_beside _ _ _ entry must wish needs raises.raised;
      whole = λ twice. enough_whole _ _ _ entry must wish needs (so_far.beside (omega arith)) raises.raised;
      still = λ fits. absurd (let short = needs_then old now place must wish count entry (state_at states place) so_far needs in omega arith);
    }

-- bytes were refused
pub feeding_refused : (old now : Scene) (new : Stack) (states : List State) (place must wish asked count : ℕ) (entry : Entry) → count < 2 → IsFeeding old now place entry count
    → OnlyAt now.stack.states states place → Needs (state_at now.stack.states place) (state_at states place) entry must wish
    → HasNoRoom (record now.stack { states = states }) new must asked → LacksRoom old.stack new entry asked
feeding_refused old now new states place must wish asked count entry below so_far only needs refused =
    so_far.refuses below new asked (acquired_none now.stack states new place must wish asked entry only needs refused)
    (λ once. few_after now.stack states new place must wish asked entry (pick_within now place so_far.can.between so_far.can.pick) only needs (so_far.beside once) refused)

-- the pool is asked only where the consumer had too little room
pub feeding_asks : (old now new : Scene) (place must wish count : ℕ) (entry : Entry) (state : State) → IsFeeding old now place entry count → Needs (state_at now.stack.states place) state entry must wish
    → AsksNothing old new place entry
feeding_asks old now new place must wish count entry state so_far needs =
    λ fits. absurd (let short = needs_then old now place must wish count entry state so_far needs in omega arith)

-- a third need doesn't come
pub feeding_ends : (old now : Scene) (place must wish count : ℕ) (entry : Entry) (state : State) → 2 ≤ count → IsFeeding old now place entry count → Needs (state_at now.stack.states place) state entry must wish → ⊥
feeding_ends old now place must wish count entry state twice so_far needs =
    let before = state_at now.stack.states place in
    let fits = so_far.whole twice in
    let short = needs.short in
    elim (charge_is before.kind before.entries entry) [
      | inl nothing ↦ omega arith
      | inr whole ↦ omega arith
    ]

-- What a feed that asks for nothing more leaves

-- the entry was taken
pub feeding_taken : (old now : Scene) (states : List State) (place count : ℕ) (entry : Entry) → ((kind : Kind) → TotalsStayEqual kind) → IsFeeding old now place entry count
    → OnlyAt now.stack.states states place → Takes (state_at now.stack.states place) (state_at states place) entry → Feeds old (with_states now states) place entry
feeding_taken old now states place count entry laws so_far only takes =
    so_far.feeds (with_states now states) (feeds_at_once now states place entry laws so_far.can only takes)

others_taken : (states states' : List State) (place : ℕ) (entry : Entry) → OnlyAt states states' place → Takes (state_at states place) (state_at states' place) entry → OthersSame states states' place
others_taken states states' place entry only takes = record {
  consumers = ap (λ (list : List State). length list) only ∙ length-set states place (state_at states' place);
  each = λ i below other.
      subst (λ (state : State). SameConsumer (state_at states i) state) (sym (ap (λ (list : List State). state_at list i) only ∙ get_or-set_other states place i (state_at states' place) blank other))
      (same_self (state_at states i));
  kind = ap (λ (state : State). state.kind) takes.same;
  least = ap (λ (state : State). state.least) takes.same;
  serves = ap (λ (state : State). state.serves) takes.same;
}

pub feeding_goes : (old now : Scene) (states : List State) (place count : ℕ) (entry : Entry) → IsFeeding old now place entry count
    → OnlyAt now.stack.states states place → Takes (state_at now.stack.states place) (state_at states place) entry → place < length old.stack.states → GoesOnBut old (with_states now states) place
feeding_goes old now states place count entry so_far only takes within =
    goes_but_after old now (with_states now states) place within so_far.goes (record {
      others = others_taken now.stack.states states place entry only takes;
      disk = leaves_self _ _;
      pool = goes_none now.pool so_far.goes.pool.at_work;
      stays = record { lent = refl; leasts = refl; roomed = refl };
      deeper = record { grows = omega arith; counts = λ counted. counted };
    })

pub feeding_still : (old now : Scene) (states : List State) (place count : ℕ) (entry : Entry) → IsFeeding old now place entry count → AsksNothing old (with_states now states) place entry
feeding_still old now states place count entry so_far = λ fits. ap (λ (scene : Scene). own_entries scene.pool.worker) (so_far.still fits)

-- the consumer lacked memory, and changed nothing
pub feeding_fails : (now : Scene) (states : List State) (place : ℕ) → OnlyAt now.stack.states states place
    → state_at states place ≡ state_at now.stack.states place → with_states now states ≡ now
feeding_fails now states place only same = ap (λ (list : List State). with_states now list) (unchanged now.stack.states states place only same)
