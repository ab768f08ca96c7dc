-- Spills that begin and end keep the stack.
use Rattle.std.proofs.Common.{◌≡◌, ◌≢◌, ℕ, ◌+◌, ◌<◌, ◌≤◌, inl, inr, List, [], ◌∷◌, ◌++◌, length, get_or, set, refl, sym, ap, ◌∙◌, arith, Bool, true, false, length-append, Option}
use Rattle.std.specs.Prelude.{max}
use Rattle.std.proofs.lemmas.List.{get_or-set_same, get_or-set_other, length-set, map-set, get_or_push, get_or_append_left, get_or-map}
use Rattle.std.proofs.Math.Seq.{map-set_same}
use Rattle.std.proofs.lemmas.List.Sums.{sum_by-set, sum_by-append, sum_by-le}
use Rattle.spill_disk.specs.Files.{Files}
use Rattle.run_file.specs.declared.run.Run.{Run}
use Rattle.consumer_trait.specs.States.{State, Stage, Rest, Spill}
use Rattle.consumer_trait.specs.Members.{blank, state_at}
use Rattle.task_memory.specs.declared.ask.Ask.{Ask}
use Rattle.task_pool.specs.Accounts.{less_by}
use Rattle.task_memory.specs.Asks.{no_ask, ask_at, held_for, pending_of}
use Rattle.task_memory.specs.Pauses.{AsksFor, EndsInOneRun}
use Rattle.task_memory.specs.Stacks.{Stack, IsStack, IsAmidSpill, IsCandidate, flag_at, is_rest, spilling, resting_of, spills_of, used_by, entries_in}
use Rattle.task_memory.specs.Serving.{KeepsRuns}
use Rattle.task_memory.proofs.Places.{last_or_before}
use Rattle.task_memory.proofs.Keeping.{kept_ask, kept_end, kept_told, kept_all, picks_kept, begun_kept}

pub none_spills : (stage : Stage) → is_rest stage ≡ true → spilling stage ≡ 0
none_spills Rest rests = refl
none_spills (Spill progress) rests = absurd (cc)

pub one_spills : (stage : Stage) → is_rest stage ≡ false → spilling stage ≡ 1
one_spills Rest spills = absurd (cc)
one_spills (Spill progress) spills = refl

-- a consumer whose flag is up rests
pub flag_rests : (states : List State) (resting : List Bool) (place : ℕ) → place < length states → resting ≡ resting_of states → flag_at resting place ≡ true → is_rest (state_at states place).stage ≡ true
flag_rests states resting place within are up = sym (get_or-map (λ (state : State). is_rest state.stage) states place blank false within) ∙ ap (λ flags. get_or flags place false) (sym are) ∙ up

-- what becomes of the sums where one consumer changed
pub record Sums (states states' : List State) (old new : State) : Type 0 where
  pub used : used_by states' + old.used ≡ used_by states + new.used
  pub spills : spills_of states' + spilling old.stage ≡ spills_of states + spilling new.stage
  pub entries : entries_in states' + length old.entries ≡ entries_in states + length new.entries

pub sums_at : (states : List State) (place : ℕ) (state : State) → place < length states → Sums states (set states place state) (state_at states place) state
sums_at states place state within = record {
  used = sum_by-set (λ (each : State). each.used) states place state blank within;
  spills = sum_by-set (λ (each : State). spilling each.stage) states place state blank within;
  entries = sum_by-set (λ (each : State). length each.entries) states place state blank within;
}

-- no more spills are in progress than there are consumers
pub spills_le : (states : List State) → spills_of states ≤ length states
spills_le states = let most = sum_by-le (λ (state : State). spilling state.stage) 1 states (λ i default within. one_at_most (get_or states i default).stage) in omega (arith, most)
  where
    one_at_most : (stage : Stage) → spilling stage ≤ 1
    one_at_most Rest = omega arith
    one_at_most (Spill progress) = omega arith

most_of : (a b most : ℕ) → a ≤ most → b ≤ most → max a b ≤ most
most_of a b most first second = grind (arith, first, second)

-- a consumer that rests has no ask
apart_from : (scene : Stack) (place : ℕ) → IsStack scene → is_rest (state_at scene.states place).stage ≡ true → (k : ℕ) → 1 ≤ k → k < length scene.asks → (ask_at scene.asks k).place ≢ place
apart_from scene place stack rests k nested below same =
    let spills : is_rest (state_at scene.states (ask_at scene.asks k).place).stage ≡ false = (stack.stands k nested below).spills in
    let rests_too : is_rest (state_at scene.states (ask_at scene.asks k).place).stage ≡ true = ap (λ each. is_rest (state_at scene.states each).stage) same ∙ rests in
    cc

-- the ask of a spill that asked
abbrev pub new_ask : ℕ → ℕ → ℕ → Ask
new_ask place bytes given = record { place = place; need = bytes; got = 0; freed = given }

-- a spill that began asks: its ask is the innermost
abbrev pub pushed : Stack → ℕ → State → ℕ → ℕ → Stack
pushed scene place state bytes given = record scene {
  states = set scene.states place state;
  resting = set scene.resting place false;
  asks = scene.asks ++ (new_ask place bytes given ∷ []);
  deepest = max scene.deepest (length scene.asks);
}

pub push_ask : (scene : Stack) (place : ℕ) (state : State) (bytes given : ℕ) → IsStack scene → place < length scene.states → IsCandidate scene.states scene.resting place → AsksFor (state_at scene.states place) state 0 bytes given → IsStack (pushed scene place state bytes given)
push_ask scene place state bytes given stack within candidate asks_for =
    let states = scene.states in
    let asks = scene.asks in
    let old = state_at states place in
    let ask = new_ask place bytes given in
    let asks' = asks ++ (ask ∷ []) in
    let states' = set states place state in
    let rests : is_rest old.stage ≡ true = flag_rests states scene.resting place within stack.rests candidate.0 in
    let spills : is_rest state.stage ≡ false = ap (λ (each : State). is_rest each.stage) asks_for.same in
    let sums = sums_at states place state within in
    let none : spilling old.stage ≡ 0 = none_spills old.stage rests in
    let one : spilling state.stage ≡ 1 = one_spills state.stage spills in
    let count : length asks' ≡ length asks + 1 = length-append asks (ask ∷ []) in
    let consumers : length states' ≡ length states = length-set states place state in
    let fits : spills_of states' ≤ length states' = spills_le states' in
    let kept = kept_all states place state within (kept_ask old state 0 bytes given candidate.1 asks_for) in
    let pend : pending_of asks' ≡ pending_of asks + given = let sum = sum_by-append held_for asks (ask ∷ []) in omega (arith, sum) in
    let earlier : (k : ℕ) → k < length asks → ask_at asks' k ≡ ask_at asks k = λ k below. get_or_append_left asks (ask ∷ []) no_ask k below in
    let last : ask_at asks' (length asks) ≡ ask = get_or_push asks ask no_ask (length asks) refl in
    let here : state_at states' place ≡ state = get_or-set_same states place state blank within in
    let others : (each : ℕ) → each ≢ place → state_at states' each ≡ state_at states each = λ each other. get_or-set_other states place each state blank other in
    let apart = apart_from scene place stack rests in
    record {
      some = omega (arith, count);
      lengths = stack.lengths ∙ sym consumers;
      bounded = stack.bounded;
      picked = picks_kept scene.picks states states' consumers kept stack.picked;
      rests = ap (λ flags. set flags place false) stack.rests ∙ ap (λ flag. set (resting_of states) place flag) (sym spills) ∙ sym (map-set (λ (each : State). is_rest each.stage) states place state);
      begun = begun_kept states states' consumers kept stack.begun;
      count = omega (arith, sums.spills, none, one, stack.count, count);
      within = λ k nested below. elim (last_or_before k (length asks) (omega (arith, count))) [
        | inl before ↦ rw (earlier k before) (let inside = stack.within k nested before in omega (arith, consumers))
        | inr is ↦ rw (is, last) (omega (arith, consumers))
      ];
      stands = λ k nested below. elim (last_or_before k (length asks) (omega (arith, count))) [
        | inl before ↦ rw (earlier k before, others (ask_at asks k).place (apart k nested before)) (stack.stands k nested before)
        | inr is ↦ rw (is, last, here) (record { spills = spills; asked = asks_for.asked; start = asks_for.start; entries = λ empty. candidate.1 (sym (ap (λ (each : State). each.entries) asks_for.same) ∙ empty) })
      ];
      apart = λ j k nested later below. elim (last_or_before k (length asks) (omega (arith, count))) [
        | inl before ↦ rw (earlier k before, earlier j (omega arith)) (stack.apart j k nested later before)
        | inr is ↦ rw (is, last, earlier j (omega arith)) (apart j nested (omega arith))
      ];
      needs = λ k below. elim (last_or_before k (length asks) (omega (arith, count))) [
        | inl before ↦ rw (earlier k before) (stack.needs k before)
        | inr is ↦ rw (is, last) asks_for.most
      ];
      covered = omega (arith, sums.used, pend, stack.covered, asks_for.freed);
      small = stack.small;
      counted = grind arith;
      shallow =
          let spills : length asks ≤ length states' = omega (arith, sums.spills, none, one, stack.count, fits, consumers) in
          let before = stack.shallow in
          most_of scene.deepest (length asks) (length states') (omega (arith, before, consumers)) spills;
    }

-- a spill that began ended, and what it freed was given back
abbrev pub ended : Stack → ℕ → State → Option Files → List (List Run) → ℕ → Stack
ended scene place state files runs given = record scene { states = set scene.states place state; files = files; account = less_by scene.account given; runs = runs }

pub end_spill : (scene : Stack) (place : ℕ) (state : State) (files : Option Files) (runs : List (List Run)) (run : Option Run) (given : ℕ) → IsStack scene → place < length scene.states → IsCandidate scene.states scene.resting place → EndsInOneRun (state_at scene.states place) state scene.files files run 0 given → KeepsRuns scene.files files scene.states (set scene.states place state) scene.runs runs → IsStack (ended scene place state files runs given)
end_spill scene place state files runs run given stack within candidate ends keeps =
    let states = scene.states in
    let old = state_at states place in
    let states' = set states place state in
    let rests : is_rest old.stage ≡ true = flag_rests states scene.resting place within stack.rests candidate.0 in
    let rests' : is_rest state.stage ≡ true = ap is_rest ends.rest in
    let sums = sums_at states place state within in
    let none : spilling old.stage ≡ 0 = none_spills old.stage rests in
    let none' : spilling state.stage ≡ 0 = none_spills state.stage rests' in
    let consumers : length states' ≡ length states = length-set states place state in
    let kept = kept_all states place state within (kept_end old state scene.files files run 0 given candidate.1 ends) in
    let others : (each : ℕ) → each ≢ place → state_at states' each ≡ state_at states each = λ each other. get_or-set_other states place each state blank other in
    let apart = apart_from scene place stack rests in
    record {
      some = stack.some;
      lengths = keeps.lengths ∙ stack.lengths ∙ sym consumers;
      bounded = keeps.bounded stack.bounded;
      picked = picks_kept scene.picks states states' consumers kept stack.picked;
      rests = stack.rests ∙ sym (map-set_same (λ (each : State). is_rest each.stage) states place state blank (rests' ∙ sym rests));
      begun = begun_kept states states' consumers kept stack.begun;
      count = omega (arith, sums.spills, none, none', stack.count);
      within = λ k nested below. let inside = stack.within k nested below in omega (arith, consumers);
      stands = λ k nested below. rw (others (ask_at scene.asks k).place (apart k nested below)) (stack.stands k nested below);
      apart = stack.apart;
      needs = stack.needs;
      covered = omega (arith, sums.used, stack.covered, ends.freed);
      small = omega (arith, stack.small);
      counted = stack.counted;
      shallow = omega (arith, stack.shallow, consumers);
    }

-- the innermost ask was answered, its consumer's spill ended, and what it freed was given back
abbrev pub popped : Stack → List Ask → ℕ → State → Option Files → List (List Run) → ℕ → Stack
popped scene asks place state files runs given = record scene { states = set scene.states place state; files = files; account = less_by scene.account given; runs = runs; resting = set scene.resting place true; asks = asks }

pub pop_ask : (scene : Stack) (asks : List Ask) (ask : Ask) (state : State) (files : Option Files) (runs : List (List Run)) (run : Option Run) (given : ℕ) → IsStack (record scene { asks = asks ++ (ask ∷ []) }) → 1 ≤ length asks → EndsInOneRun (record (state_at scene.states ask.place) { used = (state_at scene.states ask.place).used + ask.got }) state scene.files files run ask.freed given → KeepsRuns scene.files files scene.states (set scene.states ask.place state) scene.runs runs → IsStack (popped scene asks ask.place state files runs given)
pop_ask scene asks ask state files runs run given stack some ends keeps =
    let place = ask.place in
    let states = scene.states in
    let old = state_at states place in
    let all = asks ++ (ask ∷ []) in
    let states' = set states place state in
    let count : length all ≡ length asks + 1 = length-append asks (ask ∷ []) in
    let earlier : (k : ℕ) → k < length asks → ask_at all k ≡ ask_at asks k = λ k below. get_or_append_left asks (ask ∷ []) no_ask k below in
    let last : ask_at all (length asks) ≡ ask = get_or_push asks ask no_ask (length asks) refl in
    let within : place < length states = rw last at (stack.within (length asks) some (omega (arith, count))) in
    let stood : IsAmidSpill old ask.freed = rw last at (stack.stands (length asks) some (omega (arith, count))) in
    let rests' : is_rest state.stage ≡ true = ap is_rest ends.rest in
    let sums = sums_at states place state within in
    let one : spilling old.stage ≡ 1 = one_spills old.stage stood.spills in
    let none' : spilling state.stage ≡ 0 = none_spills state.stage rests' in
    let consumers : length states' ≡ length states = length-set states place state in
    let kept = kept_all states place state within (kept_told old state scene.files files run ask.got ask.freed given stood.entries stood.spills ends) in
    let pend : pending_of all ≡ pending_of asks + (ask.got + ask.freed) = let sum = sum_by-append held_for asks (ask ∷ []) in omega (arith, sum) in
    let others : (each : ℕ) → each ≢ place → state_at states' each ≡ state_at states each = λ each other. get_or-set_other states place each state blank other in
    let apart : (k : ℕ) → 1 ≤ k → k < length asks → (ask_at asks k).place ≢ place = λ k nested below. rw (earlier k below, last) at (stack.apart k (length asks) nested below (omega (arith, count))) in
    record {
      some = some;
      lengths = keeps.lengths ∙ stack.lengths ∙ sym consumers;
      bounded = keeps.bounded stack.bounded;
      picked = picks_kept scene.picks states states' consumers kept stack.picked;
      rests = ap (λ flags. set flags place true) stack.rests ∙ ap (λ flag. set (resting_of states) place flag) (sym rests') ∙ sym (map-set (λ (each : State). is_rest each.stage) states place state);
      begun = begun_kept states states' consumers kept stack.begun;
      count = omega (arith, sums.spills, one, none', stack.count, count);
      within = λ k nested below. let inside : (ask_at asks k).place < length states = rw (earlier k below) at (stack.within k nested (omega (arith, count))) in omega (arith, consumers);
      stands = λ k nested below.
          let stands : IsAmidSpill (state_at states (ask_at asks k).place) (ask_at asks k).freed = rw (earlier k below) at (stack.stands k nested (omega (arith, count))) in
          rw (others (ask_at asks k).place (apart k nested below)) stands;
      apart = λ j k nested later below. rw (earlier k below, earlier j (omega arith)) at (stack.apart j k nested later (omega (arith, count)));
      needs = λ k below. rw (earlier k below) at (stack.needs k (omega (arith, count)));
      covered = omega (arith, sums.used, stack.covered, ends.freed, pend);
      small = omega (arith, stack.small);
      counted = omega (arith, stack.counted, count);
      shallow = omega (arith, stack.shallow, consumers);
    }
