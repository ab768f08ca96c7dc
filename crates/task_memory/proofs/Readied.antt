-- A task's memory is ready once its consumers are begun and their leasts are got.
use Rattle.std.proofs.Common.{◌≡◌, ◌≢◌, ◌⊎◌, inl, inr, ℕ, zero, suc, ◌+◌, ◌<◌, ◌≤◌, ◌^◌, List, [], ◌∷◌, Option, All, length, replicate, refl, sym, ap, subst, ◌∙◌, arith}
use Rattle.std.specs.Prelude.{IsSome, slice_index, sum_by}
use Rattle.std.proofs.lemmas.List.{length-replicate}
use Rattle.std.proofs.lemmas.List.Sums.{sum_by-cons}
use Rattle.aggregate.specs.declared.kind.Kind.{Kind}
use Rattle.spill_disk.specs.Files.{Files}
use Rattle.run_file.specs.declared.run.Run.{Run}
use Rattle.consumer_trait.specs.States.{State, Rest}
use Rattle.consumer_trait.specs.Members.{state_at}
use Rattle.task_pool.specs.Accounts.{Held}
use Rattle.task_memory.specs.RunLists.{runs_at, lists_of, IsTaskRun}
use Rattle.task_memory.specs.Stacks.{stack_of, IsDry, IsPick, Stack, used_by}
use Rattle.task_memory.specs.Asking.{IsReady}
use Rattle.task_memory.specs.declared.ask.Ask.{Ask}
use Rattle.task_memory.specs.declared.spills.Spills.{Spills}
use Rattle.task_memory.proofs.Places.{at_or_not}
use Rattle.task_memory.specs.Leasts.{leasts_of}
use Rattle.task_memory.specs.Starting.{ArePlaces, BeginsPicked}

-- where each uses nothing, all do
zero_used : (states : List State) → ((i : ℕ) → i < length states → (state_at states i).used ≡ 0) → used_by states ≡ 0
zero_used [] unused = refl
zero_used (state ∷ states) unused =
    let first : state.used ≡ 0 = unused 0 (omega arith) in
    let others = zero_used states (λ i below. unused (suc i) (omega arith)) in
    let sum = sum_by-cons (λ (each : State). each.used) state states in
    omega (arith, sum)

-- Places

apart_too : (pick : ℕ) (picks : List ℕ) (i : ℕ) → pick ≢ i → ((j : ℕ) → j < length picks → slice_index picks j ≢ i) → (j : ℕ) → j < length (pick ∷ picks) → slice_index (pick ∷ picks) j ≢ i
apart_too pick picks i other others zero below = other
apart_too pick picks i other others (suc j) below = others j (omega arith)

-- a place is among others or apart from all of them
among : (picks : List ℕ) (i : ℕ) → IsPick picks i ⊎ ((j : ℕ) → j < length picks → slice_index picks j ≢ i)
among [] i = inr (λ j below. absurd (omega arith))
among (pick ∷ picks) i = elim (at_or_not pick i) [
  | inl here ↦ inl (record { consumer = zero; within = omega arith; there = here })
  | inr other ↦ elim (among picks i) [
    | inl later ↦ inl (record { consumer = suc later.consumer; within = let within = later.within in omega arith; there = later.there })
    | inr others ↦ inr (apart_too pick picks i other others)
  ]
]

-- Consumers

record IsFresh (state : State) : Type 0 where
  pub entries : state.entries ≡ []
  pub stage : state.stage ≡ Rest
  pub used : state.used ≡ 0

-- each consumer is fresh, whether it was begun or not
fresh_at : (picks : List ℕ) (kinds : List Kind) (old new : List State) → BeginsPicked picks kinds old new → (i : ℕ) → i < length old → IsFresh (state_at new i)
fresh_at picks kinds old new begins i below = elim (among picks i) [
  | inl pick ↦
      let begun = begins.begun pick.consumer pick.within in
      subst (λ (k : ℕ). IsFresh (state_at new k)) pick.there (record {
        entries = ap (λ (state : State). state.entries) begun;
        stage = ap (λ (state : State). state.stage) begun;
        used = ap (λ (state : State). state.used) begun;
      })
  | inr others ↦
      let reset = begins.others i below others in
      record {
        entries = ap (λ (state : State). state.entries) reset;
        stage = ap (λ (state : State). state.stage) reset;
        used = ap (λ (state : State). state.used) reset;
      }
]

-- so none of them has an entry
pub dry_is : (picks : List ℕ) (kinds : List Kind) (old new : List State) → BeginsPicked picks kinds old new → IsDry new
dry_is picks kinds old new begins = λ i below. (fresh_at picks kinds old new begins i (let consumers = begins.consumers in omega arith)).entries

sum_same : (f g : ℕ → ℕ) (places : List ℕ) → ((j : ℕ) → j < length places → f (slice_index places j) ≡ g (slice_index places j)) → sum_by f places ≡ sum_by g places
sum_same f g [] same = refl
sum_same f g (place ∷ places) same =
    let first : f place ≡ g place = same zero (omega arith) in
    let rest : sum_by f places ≡ sum_by g places = sum_same f g places (λ j below. same (suc j) (omega arith)) in
    let before = sum_by-cons f place places in
    let after = sum_by-cons g place places in
    omega (arith, first, rest, before, after)

-- their leasts are what they were
pub leasts_kept : (picks : List ℕ) (kinds : List Kind) (old new : List State) → BeginsPicked picks kinds old new → leasts_of picks new ≡ leasts_of picks old
leasts_kept picks kinds old new begins =
    sum_same (λ i. (state_at new i).least) (λ i. (state_at old i).least) picks (λ j below. ap (λ (state : State). state.least) (begins.begun j below))

-- Runs

no_runs : (count i : ℕ) → runs_at (replicate count []) i ≡ []
no_runs zero i = refl
no_runs (suc count) zero = refl
no_runs (suc count) (suc i) = no_runs count i

none_bounded : (runs : List Run) → runs ≡ [] → All IsTaskRun runs
none_bounded [] none = λ k default below. absurd (omega arith)
none_bounded (run ∷ runs) none = absurd (let same : length (run ∷ runs) ≡ 0 = ap (λ (list : List Run). length list) none in omega arith)

-- The memory

-- what is known of the memory then
pub record IsStarted (stack : Stack) (leasts : ℕ) : Type 0 where
  pub ready : IsReady stack
  pub begun : (j : ℕ) → j < length stack.picks → IsSome (state_at stack.states (slice_index stack.picks j)).kind
  pub holds : stack.account.held ≡ leasts + used_by stack.states

pub started_between : (picks : List ℕ) (kinds : List Kind) (old new : List State) (files : Option Files) (account : Held) (spills : Spills) (leasts count : ℕ) → ArePlaces picks kinds old → BeginsPicked picks kinds old new → spills.picks.items ≡ picks → lists_of spills.runs.items ≡ replicate count [] → spills.deepest ≡ 0 → spills.asks.items ≡ [] → count ≡ length new → account.held ≡ leasts → account.held ≤ 2 ^ 50 → IsStarted (stack_of new files account spills) leasts
started_between picks kinds old new files account spills leasts count places begins are none no_depth no_asks each holds small =
    let fresh : (i : ℕ) → i < length new → IsFresh (state_at new i) = λ i below. fresh_at picks kinds old new begins i (let consumers = begins.consumers in omega arith) in
    let nothing : used_by new ≡ 0 = zero_used new (λ i below. (fresh i below).used) in
    record {
      ready = record {
        lengths = ap (λ (lists : List (List Run)). length lists) none ∙ length-replicate count [] ∙ each;
        bounded = λ i. none_bounded (runs_at (lists_of spills.runs.items) i) (ap (λ (lists : List (List Run)). runs_at lists i) none ∙ no_runs count i);
        picked = record {
          within = subst (λ (list : List ℕ). (j : ℕ) → j < length list → slice_index list j < length new) (sym are)
              (λ j below. let within = places.within j below in let consumers = begins.consumers in omega arith);
          inert = λ i below others. (fresh i below).entries;
        };
        begun = λ i below some. absurd (some (fresh i below).entries);
        rests = λ i below. (fresh i below).stage;
        covered = omega (arith, nothing);
        small = small;
        counted = let none = ap (λ (list : List Ask). length list) no_asks in omega arith;
        shallow = omega (arith, no_depth);
      };
      begun = subst (λ (list : List ℕ). (j : ℕ) → j < length list → IsSome (state_at new (slice_index list j)).kind) (sym are)
          (λ j below. subst (λ (kind : Option Kind). IsSome kind) (sym (ap (λ (state : State). state.kind) (begins.begun j below))) refl);
      holds = omega (arith, holds, nothing);
    }
