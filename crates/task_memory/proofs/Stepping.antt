-- One step of serving the asks, in each of its three forms.
use Rattle.std.proofs.Common.{◌≡◌, ℕ, ◌+◌, ◌-◌, ◌<◌, ◌≤◌, List, [], ◌∷◌, ◌++◌, length, take, set, refl, sym, ap, subst, ◌∙◌, arith, true, false, length-append, Option}
use Rattle.std.specs.Prelude.{max}
use Rattle.std.proofs.lemmas.List.{length-set, get_or_append_left, get_or_push, get_or-set_same, set-set, take_more, length-take}
use Rattle.std.proofs.Math.Seq.{take-length}
use Rattle.std.proofs.lemmas.List.Sums.{sum_by-append}
use Rattle.spill_disk.specs.Files.{Files}
use Rattle.run_file.specs.declared.run.Run.{Run}
use Rattle.consumer_trait.specs.States.{State}
use Rattle.consumer_trait.specs.Members.{blank, state_at}
use Rattle.task_memory.specs.declared.ask.Ask.{Ask}
use Rattle.task_pool.specs.Accounts.{Held}
use Rattle.task_memory.specs.Asks.{no_ask, ask_at, top_of, held_for, pending_of, Tries, Settles}
use Rattle.task_memory.specs.Pauses.{AsksFor, EndsInOneRun}
use Rattle.task_memory.specs.Stacks.{Stack, IsStack, IsAmidSpill, IsCandidate, spills_of}
use Rattle.task_memory.specs.Serving.{AsksAt, EndsAt, KeepsRuns, Steps}
use Rattle.task_memory.proofs.Holding.{SameEntries, keeps_runs_same, keeps_runs_trans}
use Rattle.task_memory.proofs.Keeping.{kept_ask, kept_end, kept_told, kept_all}
use Rattle.task_memory.proofs.Few.{tries_few, settles_few}
use Rattle.task_memory.proofs.Places.{same_field}
use Rattle.task_memory.proofs.Stacking.{sums_at, spills_le, new_ask, pushed, push_ask, ended, end_spill, popped, pop_ask}
use Rattle.task_memory.proofs.Trying.{tried_for, settled_for}

-- the entries and kinds of all stand where one consumer's do
same_entries_set : (states : List State) (place : ℕ) (state : State) → state.kind ≡ (state_at states place).kind → state.entries ≡ (state_at states place).entries → (i : ℕ) → i < length states → SameEntries (state_at states i) (state_at (set states place state) i)
same_entries_set states place state kind entries i within = record {
  kind = same_field (λ (each : State). each.kind) states place state blank i kind;
  entries = same_field (λ (each : State). each.entries) states place state blank i entries;
}

-- a spill that began asks
pub step_ask : (scene : Stack) (account : Held) (asks : List Ask) (place : ℕ) (state : State) (bytes given : ℕ) → IsStack scene → place < length scene.states → IsCandidate scene.states scene.resting place → AsksFor (state_at scene.states place) state 0 bytes given → Tries scene.account account (scene.asks ++ (new_ask place bytes given ∷ [])) asks bytes → Steps scene (record (pushed scene place state bytes given) { account = account; asks = asks })
step_ask scene account asks place state bytes given stack within candidate asks_for tries =
    let states = scene.states in
    let old = state_at states place in
    let ask = new_ask place bytes given in
    let more = scene.asks ++ (ask ∷ []) in
    let states' = set states place state in
    let count : length more ≡ length scene.asks + 1 = length-append scene.asks (ask ∷ []) in
    let consumers : length states' ≡ length states = length-set states place state in
    let top : top_of more ≡ ask = ap (λ k. ask_at more (k - 1)) count ∙ get_or_push scene.asks ask no_ask (length scene.asks + 1 - 1) (omega arith) in
    let stack' = push_ask scene place state bytes given stack within candidate asks_for in
    let tried = tried_for (pushed scene place state bytes given) account asks bytes stack' tries (rw top (omega arith)) (rw top asks_for.some) in
    let first : ask_at more 0 ≡ ask_at scene.asks 0 = get_or_append_left scene.asks (ask ∷ []) no_ask 0 (omega (arith, stack.some)) in
    let pend : pending_of more ≡ pending_of scene.asks + given = let sum = sum_by-append held_for scene.asks (ask ∷ []) in omega (arith, sum) in
    let sums = sums_at states place state within in
    let same : length state.entries ≡ length old.entries = ap (λ (each : State). length each.entries) asks_for.same in
    let fits : spills_of states' ≤ length states' = spills_le states' in
    record {
      stack = tried.stack;
      tried = tried.tried;
      moves = record {
        consumers = consumers;
        picks = refl;
        kept = kept_all states place state within (kept_ask old state 0 bytes given candidate.1 asks_for);
        runs = keeps_runs_same scene.files states states' scene.runs consumers (same_entries_set states place state (ap (λ (each : State). each.kind) asks_for.same) (ap (λ (each : State). each.entries) asks_for.same));
        shorts = tried.shorts;
        deeper = grind arith;
        balance = omega (arith, tried.balance, pend, sums.used, asks_for.freed);
        need = tried.need ∙ ap (λ (each : Ask). each.need) first;
        freed = tried.freed ∙ ap (λ (each : Ask). each.freed) first;
        still = λ zero. tried.still (ap (λ (each : Ask). each.need) first ∙ zero) ∙ ap (λ (each : Ask). each.got) first;
      };
      few = tries_few scene.account account more asks bytes (max (ask_at scene.asks 0).got (ask_at scene.asks 0).need) (omega arith) tries (rw first (grind arith)) (λ one. absurd (omega (arith, stack.some)));
      falls = omega (arith, sums.entries, same, tried.count, count, consumers, stack'.count, fits);
    }

-- a spill that began ended
pub step_end : (scene : Stack) (account : Held) (asks : List Ask) (place : ℕ) (state : State) (files : Option Files) (runs : List (List Run)) (run : Option Run) (given : ℕ) → IsStack scene → place < length scene.states → IsCandidate scene.states scene.resting place → EndsInOneRun (state_at scene.states place) state scene.files files run 0 given → KeepsRuns scene.files files scene.states (set scene.states place state) scene.runs runs → Settles scene.account account scene.asks asks given → Steps scene (record (ended scene place state files runs given) { account = account; asks = asks })
step_end scene account asks place state files runs run given stack within candidate ends keeps settles =
    let states = scene.states in
    let old = state_at states place in
    let consumers : length (set states place state) ≡ length states = length-set states place state in
    let stack' = end_spill scene place state files runs run given stack within candidate ends keeps in
    let tried = settled_for (ended scene place state files runs given) scene.account account asks given refl stack' settles in
    let sums = sums_at states place state within in
    let less = (ends.some candidate.1).1 in
    record {
      stack = tried.stack;
      tried = tried.tried;
      moves = record {
        consumers = consumers;
        picks = refl;
        kept = kept_all states place state within (kept_end old state scene.files files run 0 given candidate.1 ends);
        runs = keeps;
        shorts = tried.shorts;
        deeper = omega arith;
        balance = omega (arith, tried.balance, sums.used, ends.freed, stack.covered);
        need = tried.need;
        freed = tried.freed;
        still = tried.still;
      };
      few = settles_few scene.account account scene.asks asks given stack.some settles;
      falls = omega (arith, sums.entries, less, tried.count, consumers);
    }

-- the innermost ask was answered and its consumer's spill ended
pub step_pop : (scene : Stack) (account : Held) (front asks : List Ask) (ask : Ask) (state : State) (files : Option Files) (runs : List (List Run)) (run : Option Run) (given : ℕ) → IsStack (record scene { asks = front ++ (ask ∷ []) }) → 1 ≤ length front → EndsInOneRun (record (state_at scene.states ask.place) { used = (state_at scene.states ask.place).used + ask.got }) state scene.files files run ask.freed given → KeepsRuns scene.files files scene.states (set scene.states ask.place state) scene.runs runs → Settles scene.account account front asks given → Steps (record scene { asks = front ++ (ask ∷ []) }) (record (popped scene front ask.place state files runs given) { account = account; asks = asks })
step_pop scene account front asks ask state files runs run given stack some ends keeps settles =
    let place = ask.place in
    let states = scene.states in
    let old = state_at states place in
    let all = front ++ (ask ∷ []) in
    let count : length all ≡ length front + 1 = length-append front (ask ∷ []) in
    let last : ask_at all (length front) ≡ ask = get_or_push front ask no_ask (length front) refl in
    let within : place < length states = rw last at (stack.within (length front) some (omega (arith, count))) in
    let stood : IsAmidSpill old ask.freed = rw last at (stack.stands (length front) some (omega (arith, count))) in
    let consumers : length (set states place state) ≡ length states = length-set states place state in
    let stack' = pop_ask scene front ask state files runs run given stack some ends keeps in
    let tried = settled_for (popped scene front place state files runs given) scene.account account asks given refl stack' settles in
    let sums = sums_at states place state within in
    let pend : pending_of all ≡ pending_of front + (ask.got + ask.freed) = let sum = sum_by-append held_for front (ask ∷ []) in omega (arith, sum) in
    let first : ask_at all 0 ≡ ask_at front 0 = get_or_append_left front (ask ∷ []) no_ask 0 (omega (arith, some)) in
    let less = (ends.some stood.entries).1 in
    record {
      stack = tried.stack;
      tried = tried.tried;
      moves = record {
        consumers = consumers;
        picks = refl;
        kept = kept_all states place state within (kept_told old state scene.files files run ask.got ask.freed given stood.entries stood.spills ends);
        runs = keeps;
        shorts = tried.shorts;
        deeper = omega arith;
        balance = omega (arith, tried.balance, sums.used, ends.freed, stack.covered, pend);
        need = tried.need ∙ sym (ap (λ (each : Ask). each.need) first);
        freed = tried.freed ∙ sym (ap (λ (each : Ask). each.freed) first);
        still = λ zero. tried.still (sym (ap (λ (each : Ask). each.need) first) ∙ zero) ∙ sym (ap (λ (each : Ask). each.got) first);
      };
      few = rw first (settles_few scene.account account front asks given some settles);
      falls = omega (arith, sums.entries, less, tried.count, count, consumers);
    }

-- the same, from what the spill says of the lists

pub next_ask : (scene : Stack) (states : List State) (files : Option Files) (runs : List (List Run)) (account : Held) (asks : List Ask) (place bytes given deepest : ℕ) → deepest ≡ max scene.deepest (length scene.asks) → IsStack scene → place < length scene.states → IsCandidate scene.states scene.resting place → AsksAt scene.files files scene.states states scene.runs runs place 0 bytes given → Tries scene.account account (scene.asks ++ (new_ask place bytes given ∷ [])) asks bytes → Steps scene (record scene { states = states; files = files; account = account; runs = runs; resting = set scene.resting place false; asks = asks; deepest = deepest })
next_ask scene states files runs account asks place bytes given deepest is_deepest stack within candidate spills tries =
    let here : State = state_at states place in
    let step : Steps scene (record (pushed scene place here bytes given) { account = account; asks = asks; deepest = deepest }) =
    subst (λ (n : ℕ). Steps scene (record (pushed scene place here bytes given) { account = account; asks = asks; deepest = n })) (sym is_deepest)
    (step_ask scene account asks place here bytes given stack within candidate spills.asks tries) in
    let After : List State → Option Files → List (List Run) → Type 0 = λ states files runs. Steps scene (record scene { states = states; files = files; account = account; runs = runs; resting = set scene.resting place false; asks = asks; deepest = deepest }) in
    subst (λ (each : List State). After each files runs) (sym spills.others)
    (subst (λ (each : Option Files). After (set scene.states place (state_at states place)) each runs) (sym spills.same_files)
    (subst (λ (each : List (List Run)). After (set scene.states place (state_at states place)) scene.files each) (sym spills.same_runs) step))

pub next_end : (scene : Stack) (states : List State) (files : Option Files) (runs : List (List Run)) (account : Held) (asks : List Ask) (place given : ℕ) (run : Option Run) → IsStack scene → place < length scene.states → IsCandidate scene.states scene.resting place → EndsAt scene.files files scene.states states scene.runs runs place 0 given run → Settles scene.account account scene.asks asks given → Steps scene (record scene { states = states; files = files; account = account; runs = runs; asks = asks })
next_end scene states files runs account asks place given run stack within candidate spills settles =
    let keeps : KeepsRuns scene.files files scene.states (set scene.states place (state_at states place)) scene.runs runs = subst (λ (each : List State). KeepsRuns scene.files files scene.states each scene.runs runs) spills.others spills.kept in
    let step = step_end scene account asks place (state_at states place) files runs run given stack within candidate spills.ends keeps settles in
    subst (λ (each : List State). Steps scene (record scene { states = each; files = files; account = account; runs = runs; asks = asks })) (sym spills.others) step

-- a list that isn't empty is what comes before its last element, and that one
last_split : (asks : List Ask) → 1 ≤ length asks → asks ≡ take (length asks - 1) asks ++ (top_of asks ∷ [])
last_split asks some =
    let last = length asks - 1 in
    let end : last + 1 ≡ length asks = omega arith in
    let within : last < length asks = omega arith in
    sym (take-length asks) ∙ ap (λ count. take count asks) (sym end) ∙ take_more asks last no_ask within

pub next_pop : (scene : Stack) (told states : List State) (files : Option Files) (runs : List (List Run)) (account : Held) (front asks : List Ask) (ask : Ask) (given : ℕ) (run : Option Run) → IsStack scene → 2 ≤ length scene.asks → top_of scene.asks ≡ ask → front ≡ take (length scene.asks - 1) scene.asks → told ≡ set scene.states ask.place (record (state_at scene.states ask.place) { used = (state_at scene.states ask.place).used + ask.got }) → EndsAt scene.files files told states scene.runs runs ask.place ask.freed given run → Settles scene.account account front asks given → Steps scene (record scene { states = states; files = files; account = account; runs = runs; resting = set scene.resting ask.place true; asks = asks })
next_pop scene told states files runs account front asks ask given run stack nested top is_front is_told spills settles =
    let place = ask.place in
    let old = state_at scene.states place in
    let raised : State = record old { used = old.used + ask.got } in
    let split : scene.asks ≡ front ++ (ask ∷ []) = last_split scene.asks (omega arith) ∙ ap (λ last. take (length scene.asks - 1) scene.asks ++ (last ∷ [])) top ∙ ap (λ list. list ++ (ask ∷ [])) (sym is_front) in
    let within : place < length scene.states = rw top at (stack.within (length scene.asks - 1) (omega arith) (omega arith)) in
    let some : 1 ≤ length front = rw is_front (omega (arith, length-take (length scene.asks - 1) scene.asks)) in
    let here : state_at told place ≡ raised = ap (λ list. state_at list place) is_told ∙ get_or-set_same scene.states place raised blank within in
    let ends : EndsInOneRun raised (state_at states place) scene.files files run ask.freed given = subst (λ (each : State). EndsInOneRun each (state_at states place) scene.files files run ask.freed given) here spills.ends in
    let after : states ≡ set scene.states place (state_at states place) = spills.others ∙ ap (λ list. set list place (state_at states place)) is_told ∙ set-set scene.states place raised (state_at states place) in
    let told_members : length told ≡ length scene.states = ap (λ (list : List State). length list) is_told ∙ length-set scene.states place raised in
    let told_same : (i : ℕ) → i < length scene.states → SameEntries (state_at scene.states i) (state_at told i) = λ i below. subst (λ (list : List State). SameEntries (state_at scene.states i) (state_at list i)) (sym is_told) (same_entries_set scene.states place raised refl refl i below) in
    let keeps_told : KeepsRuns scene.files files scene.states states scene.runs runs = keeps_runs_trans scene.files scene.files files scene.states told states scene.runs scene.runs runs told_members (λ i below. (told_same i below).kind) (λ i below. rw (told_same i below).entries (omega arith)) (keeps_runs_same scene.files scene.states told scene.runs told_members told_same) spills.kept in
    let keeps : KeepsRuns scene.files files scene.states (set scene.states place (state_at states place)) scene.runs runs = subst (λ (each : List State). KeepsRuns scene.files files scene.states each scene.runs runs) after keeps_told in
    let stack' : IsStack (record scene { asks = front ++ (ask ∷ []) }) = subst (λ (each : List Ask). IsStack (record scene { asks = each })) split stack in
    let step = step_pop scene account front asks ask (state_at states place) files runs run given stack' some ends keeps settles in
    let Between : List Ask → List State → Type 0 = λ before after. Steps (record scene { asks = before }) (record scene { states = after; files = files; account = account; runs = runs; resting = set scene.resting place true; asks = asks }) in
    subst (λ (each : List Ask). Between each states) (sym split)
    (subst (λ (each : List State). Between (front ++ (ask ∷ [])) each) (sym after) step)
