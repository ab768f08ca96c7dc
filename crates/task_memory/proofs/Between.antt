-- A task's memory is ready for the next call.
use Rattle.std.proofs.Common.{◌≡◌, ℕ, ◌<◌, List, [], Bool, Option, length, set, sym, ap, subst, ◌∙◌, arith, inl, inr}
use Rattle.std.specs.Prelude.{IsSome, slice_index}
use Rattle.std.proofs.lemmas.List.Elements.{All-nil}
use Rattle.std.proofs.lemmas.List.{length-set, get_or-set_other}
use Rattle.aggregate.specs.declared.kind.Kind.{Kind}
use Rattle.aggregate.specs.Totals.{Entry}
use Rattle.row_page.specs.Pages.{PageView, empty_page}
use Rattle.run_file.specs.declared.run.Run.{Run}
use Rattle.consumer_trait.specs.Members.{state_at}
use Rattle.task_memory.specs.declared.ask.Ask.{Ask}
use Rattle.task_memory.specs.Asking.{Keeps}
use Rattle.task_memory.specs.Feeding.{FedTo, Raises}
use Rattle.task_memory.specs.Pauses.{AllSame}
use Rattle.task_memory.specs.RunLists.{AreTaskRuns, IsTaskRun}
use Rattle.task_memory.specs.Scenes.{Drains, GoesOn, IsBetween, Scene, Stays}
use Rattle.task_memory.specs.Stacks.{IsPick, Stack}
use Rattle.task_pool.specs.Pools.{IsAtWork}
use Rattle.task_memory.proofs.Places.{at_or_not}
use Rattle.task_memory.proofs.Taken.{none_left}

-- the task's own are among all
pub pick_within : (scene : Scene) (place : ℕ) → IsBetween scene → IsPick scene.stack.picks place → place < length scene.stack.states
pick_within scene place between pick = subst (λ (each : ℕ). each < length scene.stack.states) pick.there (between.rests.ready.picked.within pick.consumer pick.within)

-- and were begun
pub pick_begun : (scene : Scene) (place : ℕ) → IsBetween scene → IsPick scene.stack.picks place → IsSome (state_at scene.stack.states place).kind
pick_begun scene place between pick = subst (λ (each : ℕ). IsSome (state_at scene.stack.states each).kind) pick.there (between.begun pick.consumer pick.within)

begun_on : (old new : Stack) → ((j : ℕ) → j < length old.picks → slice_index old.picks j < length old.states) → new.picks ≡ old.picks → AllSame old.states new.states
    → ((j : ℕ) → j < length old.picks → IsSome (state_at old.states (slice_index old.picks j)).kind) → (j : ℕ) → j < length new.picks → IsSome (state_at new.states (slice_index new.picks j)).kind
begun_on old new within picks same begun =
    subst (λ (list : List ℕ). (j : ℕ) → j < length list → IsSome (state_at new.states (slice_index list j)).kind) (sym picks)
    (λ j below. subst (λ (kind : Option Kind). IsSome kind) (sym (same.each (slice_index old.picks j) (within j below)).kind) (begun j below))

raises_same : (old new : Stack) (place must : ℕ) → Raises old new place must → AllSame old.states new.states
raises_same old new place must raises = record {
  consumers = raises.consumers;
  each = λ i below. elim (at_or_not i place) [
    | inl here ↦ rw here raises.raised.same
    | inr other ↦ (raises.others i below other).same
  ];
}

-- after bytes were got for a consumer
pub between_told : (old new : Scene) (place must : ℕ) → IsBetween old → Raises old.stack new.stack place must → Stays old new
    → new.page ≡ empty_page → IsAtWork new.pool → IsBetween new
between_told old new place must between raises stays page at_work = record {
  rests = record { ready = raises.ready; page = page; at_work = at_work };
  begun = begun_on old.stack new.stack between.rests.ready.picked.within raises.picks (raises_same old.stack new.stack place must raises) between.begun;
  holds = omega (arith, between.holds, raises.balance, stays.leasts, stays.roomed);
}

-- after spills
pub between_kept : (old new : Scene) → IsBetween old → Keeps old.stack new.stack 0 → GoesOn old new → new.page ≡ empty_page → IsBetween new
between_kept old new between keeps goes page = record {
  rests = record { ready = keeps.ready; page = page; at_work = goes.pool.at_work };
  begun = begun_on old.stack new.stack between.rests.ready.picked.within keeps.picks goes.same between.begun;
  holds = omega (arith, between.holds, keeps.balance, goes.stays.leasts, goes.stays.roomed);
}

none_bounded : (runs : List (List Run)) (place : ℕ) → AreTaskRuns runs → AreTaskRuns (set runs place [])
none_bounded runs place bounded i = elim (at_or_not i place) [
  | inl here ↦ rw here (rw (none_left runs place) (All-nil IsTaskRun))
  | inr other ↦ rw (get_or-set_other runs place i [] [] other) (bounded i)
]

-- after a consumer was fed
pub between_fed : (old new : Scene) (place : ℕ) (entry : Entry) → IsBetween old → FedTo old.stack new.stack place entry → Stays old new
    → new.page ≡ empty_page → IsAtWork new.pool → IsBetween new
between_fed old new place entry between fed stays page at_work =
    let kinds : (i : ℕ) → i < length old.stack.states → (state_at new.stack.states i).kind ≡ (state_at old.stack.states i).kind = λ i below. elim (at_or_not i place) [
      | inl here ↦ rw here fed.takes.kind
      | inr other ↦ (fed.others i below other).same.kind
    ] in
    record {
      rests = record { ready = fed.ready; page = page; at_work = at_work };
      begun = subst (λ (list : List ℕ). (j : ℕ) → j < length list → IsSome (state_at new.stack.states (slice_index list j)).kind) (sym fed.picks)
          (λ j below. subst (λ (kind : Option Kind). IsSome kind) (sym (kinds (slice_index old.stack.picks j) (between.rests.ready.picked.within j below))) (between.begun j below));
      holds = omega (arith, between.holds, fed.balance, stays.leasts, stays.roomed);
    }

-- after the runs of a consumer were taken
pub between_taken : (mid : Scene) (runs : List (List Run)) (picks : List ℕ) (resting : List Bool) (asks : List Ask) (deepest : ℕ) (page : PageView) (place : ℕ) → IsBetween mid
    → runs ≡ set mid.stack.runs place [] → picks ≡ mid.stack.picks → page ≡ mid.page → asks ≡ mid.stack.asks → deepest ≡ mid.stack.deepest
    → IsBetween (record mid { stack = record mid.stack { runs = runs; picks = picks; resting = resting; asks = asks; deepest = deepest }; page = page })
between_taken mid runs picks resting asks deepest page place between is_runs is_picks is_page is_asks is_deepest =
    let ready = between.rests.ready in
    record {
      rests = record {
        ready = record {
          lengths = ap (λ (lists : List (List Run)). length lists) is_runs ∙ length-set mid.stack.runs place [] ∙ ready.lengths;
          bounded = subst (λ (lists : List (List Run)). AreTaskRuns lists) (sym is_runs) (none_bounded mid.stack.runs place ready.bounded);
          picked = rw is_picks ready.picked;
          begun = ready.begun;
          rests = ready.rests;
          covered = ready.covered;
          small = ready.small;
          counted = let as_many = ap (λ (list : List Ask). length list) is_asks in omega (arith, is_deepest, as_many, ready.counted);
          shallow = omega (arith, is_deepest, ready.shallow);
        };
        page = is_page ∙ between.rests.page;
        at_work = between.rests.at_work;
      };
      begun = rw is_picks between.begun;
      holds = between.holds;
    }

-- whether a call gave up is beside it
pub drains_live : (old new : Scene) (place : ℕ) (taken : List Run) (live : Bool) → Drains old new place taken → Drains old (record new { live = live }) place taken
drains_live old new place taken live drains = record {
  empty = drains.empty;
  kept = drains.kept;
  picks = drains.picks;
  bounded = drains.bounded;
  totals = drains.totals;
  new_files = drains.new_files;
  only = drains.only;
  between = record {
    rests = record { ready = drains.between.rests.ready; page = drains.between.rests.page; at_work = drains.between.rests.at_work };
    begun = drains.between.begun;
    holds = drains.between.holds;
  };
}
