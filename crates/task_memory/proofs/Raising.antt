-- What a consumer that was told of granted bytes has more.
use Rattle.std.proofs.Common.{◌≡◌, ℕ, ◌+◌, ◌<◌, ◌≤◌, List, length, refl, sym, ap, subst, ◌∙◌, arith, Option}
use Rattle.std.specs.Prelude.{IsSome}
use Rattle.std.proofs.lemmas.List.{get_or-set_same, get_or-set_other, length-set}
use Rattle.std.proofs.lemmas.List.Sums.{sum_by-set}
use Rattle.aggregate.specs.declared.kind.Kind.{Kind}
use Rattle.aggregate.specs.Totals.{Entry, costs}
use Rattle.consumer_trait.specs.States.{State, Stage, Rest, room, progress_at, current}
use Rattle.consumer_trait.specs.Members.{blank, state_at}
use Rattle.task_memory.specs.Stacks.{Stack, ArePicks, AreBegun, used_by}
use Rattle.task_memory.specs.Serving.{KeepsOne}
use Rattle.task_memory.specs.Asking.{IsReady}
use Rattle.task_memory.specs.Feeding.{IsRaised, Raises, Tells}
use Rattle.task_memory.proofs.Places.{same_field}
use Rattle.task_memory.proofs.Keeping.{none_kept}
use Rattle.task_memory.proofs.Holding.{SameEntries, keeps_runs_same, keeps_runs_trans}

mark_room : (state : State) → state.stage ≡ Rest → (current state).mark ≡ room state
mark_room state rest = ap (λ (stage : Stage). (progress_at state stage).mark) rest

-- a consumer that was told of what was got
raised_is : (old mid new : State) (must got : ℕ) → old.stage ≡ Rest → mid.stage ≡ Rest → must ≤ got → KeepsOne old mid → new ≡ record mid { used = mid.used + got } → IsRaised old new must
raised_is old mid new must got old_rests mid_rests enough kept told =
    let entries : new.entries ≡ mid.entries = ap (λ (state : State). state.entries) told in
    let used : new.used ≡ mid.used + got = ap (λ (state : State). state.used) told in
    let spent : costs new.entries ≡ costs mid.entries = ap (λ (list : List Entry). costs list) entries in
    record {
      same = record {
        kind = ap (λ (state : State). state.kind) told ∙ kept.same.kind;
        fed = ap (λ (state : State). state.fed) told ∙ kept.same.fed;
        least = ap (λ (state : State). state.least) told ∙ kept.same.least;
        serves = ap (λ (state : State). state.serves) told ∙ kept.same.serves;
      };
      covered = λ covered. let later = kept.covered covered in omega arith;
      gained = λ covered some.
          let gained = kept.gained (λ none. some (entries ∙ none)) in
          let later = kept.covered covered in
          let before = mark_room old old_rests in
          let after = mark_room mid mid_rests in
          omega arith;
      idle = λ none. (entries ∙ none_kept old mid kept none, let idle = kept.idle none in omega arith);
    }

-- consumers of the same kinds and entries are as well picked
pub picks_same : (picks : List ℕ) (states states' : List State) → length states' ≡ length states → ((i : ℕ) → i < length states → SameEntries (state_at states i) (state_at states' i)) → ArePicks picks states → ArePicks picks states'
picks_same picks states states' consumers same picked = record {
  within = λ j below. let within = picked.within j below in omega (arith, consumers);
  inert = λ i below apart. let here : i < length states = omega (arith, consumers) in (same i here).entries ∙ picked.inert i here apart;
}

-- and begun
pub begun_same : (states states' : List State) → length states' ≡ length states → ((i : ℕ) → i < length states → SameEntries (state_at states i) (state_at states' i)) → AreBegun states → AreBegun states'
begun_same states states' consumers same begun = λ i below some.
    let here : i < length states = omega (arith, consumers) in
    subst (λ (kind : Option Kind). IsSome kind) (sym (same i here).kind) (begun i here (λ none. some ((same i here).entries ∙ none)))

-- an acquire, told
pub asked_is : (old new : Stack) (place must got : ℕ) → IsReady old → place < length old.states → must ≤ got → Tells old new place got → Raises old new place must
asked_is old new place must got ready within enough tells =
    let before = tells.before in
    let keeps = tells.keeps in
    let mid = state_at before place in
    let raised : State = record mid { used = mid.used + got } in
    let count = keeps.consumers in
    let within_before : place < length before = omega arith in
    let here : state_at new.states place ≡ raised = ap (λ (states : List State). state_at states place) tells.told ∙ get_or-set_same before place raised blank within_before in
    let consumers : length new.states ≡ length before = ap (λ (states : List State). length states) tells.told ∙ length-set before place raised in
    let sum : used_by new.states + mid.used ≡ used_by before + (mid.used + got) = ap (λ (states : List State). used_by states + mid.used) tells.told ∙ sum_by-set (λ (state : State). state.used) before place raised blank within_before in
    let same : (i : ℕ) → i < length before → SameEntries (state_at before i) (state_at new.states i) = λ i below. record {
      kind = ap (λ (states : List State). (state_at states i).kind) tells.told ∙ same_field (λ (state : State). state.kind) before place raised blank i refl;
      entries = ap (λ (states : List State). (state_at states i).entries) tells.told ∙ same_field (λ (state : State). state.entries) before place raised blank i refl;
    } in
    record {
      consumers = consumers ∙ count;
      picks = keeps.picks;
      others = λ j below other.
          let apart : state_at new.states j ≡ state_at before j = ap (λ (states : List State). state_at states j) tells.told ∙ get_or-set_other before place j raised blank other in
          rw apart (keeps.kept j below);
      raised = raised_is (state_at old.states place) mid (state_at new.states place) must got (ready.rests place within) (keeps.ready.rests place within_before) enough (keeps.kept place within) here;
      runs = keeps_runs_trans old.files new.files new.files old.states before new.states old.runs new.runs new.runs count (λ i below. (keeps.kept i below).same.kind) (λ i below. (keeps.kept i below).shorter) keeps.runs (keeps_runs_same new.files before new.states new.runs consumers same);
      shorts = keeps.shorts;
      ready = record {
        lengths = keeps.ready.lengths ∙ sym consumers;
        bounded = keeps.ready.bounded;
        picked = picks_same new.picks before new.states consumers same keeps.ready.picked;
        begun = begun_same before new.states consumers same keeps.ready.begun;
        rests = λ i below.
            let stage : (state_at new.states i).stage ≡ (state_at before i).stage = ap (λ (states : List State). (state_at states i).stage) tells.told ∙ same_field (λ (state : State). state.stage) before place raised blank i refl in
            stage ∙ keeps.ready.rests i (omega arith);
        covered = omega (arith, keeps.balance, ready.covered, sum);
        small = keeps.ready.small;
        counted = keeps.ready.counted;
        shallow = omega (arith, keeps.ready.shallow, consumers);
      };
      balance = omega (arith, keeps.balance, sum);
    }
