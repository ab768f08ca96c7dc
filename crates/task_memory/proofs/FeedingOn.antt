-- Feeding, from what the consumer says and what bytes were got, over whole scenes.
use Rattle.std.proofs.Common.{◌≡◌, ℕ, ◌<◌, ◌≤◌, List, length, refl, sym, ap, subst, ◌∙◌, arith, inl, inr}
use Rattle.std.proofs.lemmas.List.Sums.{get_or-le-sum_by}
use Rattle.aggregate.specs.declared.kind.Kind.{Kind}
use Rattle.aggregate.specs.Totals.{Entry, TotalsStayEqual}
use Rattle.consumer_trait.specs.States.{State}
use Rattle.consumer_trait.specs.Members.{OnlyAt, blank, state_at}
use Rattle.consumer_trait.specs.Calls.{Needs, Takes}
use Rattle.task_pool.proofs.GoingOn.{goes_on}
use Rattle.task_memory.specs.Asking.{SpillsWhenShort}
use Rattle.task_memory.specs.Feeding.{Raises}
use Rattle.task_memory.specs.Scenes.{Acquires, CanFeed, Feeds, GoesOn, GoesOnBut, Scene, Stays}
use Rattle.task_memory.specs.Stacks.{IsPick, Stack}
use Rattle.task_memory.proofs.Acquired.{raised_entry}
use Rattle.task_memory.proofs.Between.{between_fed, pick_begun, pick_within}
use Rattle.task_memory.proofs.Fed.{fed_after, fed_taken, unchanged}
use Rattle.task_memory.proofs.Raising.{asked_is}
use Rattle.task_memory.proofs.Refused.{others_after, others_first}
use Rattle.task_memory.proofs.Sameness.{deepens_on, leaves_trans, same_trans}

-- the scene with these consumers
abbrev pub with_states : Scene → List State → Scene
with_states scene states = record scene { stack = record scene.stack { states = states } }

-- a need leaves the scene as it was
pub need_is : (old : Scene) (states : List State) (place must wish : ℕ) (entry : Entry) → OnlyAt old.stack.states states place → Needs (state_at old.stack.states place) (state_at states place) entry must wish
    → with_states old states ≡ old
need_is old states place must wish entry only needs = ap (with_states old) (unchanged old.stack.states states place only needs.same)

-- an entry that was taken at once
pub feeds_at_once : (old : Scene) (states : List State) (place : ℕ) (entry : Entry) → ((kind : Kind) → TotalsStayEqual kind) → CanFeed old place entry → OnlyAt old.stack.states states place
    → Takes (state_at old.stack.states place) (state_at states place) entry → Feeds old (with_states old states) place entry
feeds_at_once old states place entry laws can only takes =
    let between = can.between in
    let fed = fed_taken old.stack states place entry laws can.pick between.rests.ready (pick_within old place between can.pick) (pick_begun old place between can.pick) only takes in
    let after = between_fed old (with_states old states) place entry between fed (record { lent = refl; leasts = refl; roomed = refl }) between.rests.page between.rests.at_work in
    let within : place < length states = let consumers = fed.consumers in let inside = pick_within old place between can.pick in omega arith in
    let least = get_or-le-sum_by (λ (state : State). state.used) states place blank within in
    let enough = fed.takes.enough in
    let holds = after.holds in
    record {
      fed = fed;
      charged = omega (arith, least, enough, holds);
      shorts = inl refl;
      few_runs = omega arith;
      between = after;
    }

shorts_on : (a b c : Stack) → SpillsWhenShort a b → SpillsWhenShort b c → a.account.shorts ≤ b.account.shorts → b.account.shorts ≤ c.account.shorts → SpillsWhenShort a c
shorts_on a b c first then earlier later = elim first [
  | inl same ↦ elim then [
    | inl same' ↦ inl (same' ∙ same)
    | inr more ↦ inr (omega (arith, more, earlier))
  ]
  | inr more ↦ inr (omega (arith, more, later))
]

pub raises_is : (old mid : Scene) (place must wish got : ℕ) (entry : Entry) → CanFeed old place entry → Acquires old mid place must wish got → Raises old.stack mid.stack place must
raises_is old mid place must wish got entry can acquires =
    asked_is old.stack mid.stack place must got can.between.rests.ready (pick_within old place can.between can.pick) acquires.enough acquires.told

-- the entry may be fed after bytes were got for it
pub can_feed_on : (old mid : Scene) (place must wish got : ℕ) (entry : Entry) → CanFeed old place entry → Acquires old mid place must wish got → CanFeed mid place entry
can_feed_on old mid place must wish got entry can acquires =
    let raises = raises_is old mid place must wish got entry can acquires in
    record {
      between = acquires.between;
      pick = subst (λ (picks : List ℕ). IsPick picks place) (sym raises.picks) can.pick;
      formed = raised_entry _ _ must entry raises.raised can.formed;
    }

-- an entry that was taken after bytes were got
pub feeds_after : (old mid new : Scene) (place must wish got : ℕ) (entry : Entry) → ((kind : Kind) → TotalsStayEqual kind) → CanFeed old place entry → Acquires old mid place must wish got
    → Feeds mid new place entry → Feeds old new place entry
feeds_after old mid new place must wish got entry laws can acquires feeds =
    let raises = raises_is old mid place must wish got entry can acquires in
    record {
      fed = fed_after old.stack mid.stack new.stack place must entry laws (pick_within old place can.between can.pick) raises feeds.fed;
      charged = feeds.charged;
      shorts = shorts_on old.stack mid.stack new.stack acquires.shorts feeds.shorts raises.shorts feeds.fed.shorts;
      few_runs = omega (arith, acquires.few_runs, feeds.few_runs);
      between = feeds.between;
    }

pub goes_but_first : (old mid : Scene) (place : ℕ) → place < length old.stack.states → GoesOn old mid → GoesOnBut old mid place
goes_but_first old mid place within goes = record {
  others = others_first old.stack.states mid.stack.states place within goes.same;
  disk = goes.disk;
  pool = goes.pool;
  stays = goes.stays;
  deeper = goes.deeper;
}

stays_on : (a b c : Scene) → Stays a b → Stays b c → Stays a c
stays_on a b c first then = record { lent = then.lent ∙ first.lent; leasts = then.leasts ∙ first.leasts; roomed = then.roomed ∙ first.roomed }

pub goes_but_after : (old mid new : Scene) (place : ℕ) → place < length old.stack.states → GoesOn old mid → GoesOnBut mid new place → GoesOnBut old new place
goes_but_after old mid new place within first then = record {
  others = others_after old.stack.states mid.stack.states new.stack.states place within first.same then.others;
  disk = leaves_trans _ _ _ _ _ _ first.disk then.disk;
  pool = goes_on old.pool mid.pool new.pool first.pool then.pool;
  stays = stays_on old mid new first.stays then.stays;
  deeper = deepens_on old.stack mid.stack new.stack first.deeper then.deeper;
}

-- calls that may feed one consumer, in a row
pub goes_but_on : (old mid new : Scene) (place : ℕ) → GoesOnBut old mid place → GoesOnBut mid new place → GoesOnBut old new place
goes_but_on old mid new place first then = record {
  others = record {
    consumers = then.others.consumers ∙ first.others.consumers;
    each = λ i below other. same_trans (state_at old.stack.states i) (state_at mid.stack.states i) (state_at new.stack.states i) (first.others.each i below other)
        (then.others.each i (let consumers = first.others.consumers in omega arith) other);
    kind = then.others.kind ∙ first.others.kind;
    least = then.others.least ∙ first.others.least;
    serves = then.others.serves ∙ first.others.serves;
  };
  disk = leaves_trans _ _ _ _ _ _ first.disk then.disk;
  pool = goes_on old.pool mid.pool new.pool first.pool then.pool;
  stays = stays_on old mid new first.stays then.stays;
  deeper = deepens_on old.stack mid.stack new.stack first.deeper then.deeper;
}

-- what bytes were got for a need were got in the scene before it
pub acquires_from : (old mid : Scene) (states : List State) (place must wish got : ℕ) → with_states old states ≡ old → Acquires (with_states old states) mid place must wish got → Acquires old mid place must wish got
acquires_from old mid states place must wish got same acquires = subst (λ (each : Scene). Acquires each mid place must wish got) same acquires

pub goes_from : (old mid : Scene) (states : List State) → with_states old states ≡ old → GoesOn (with_states old states) mid → GoesOn old mid
goes_from old mid states same goes = subst (λ (each : Scene). GoesOn each mid) same goes
