-- From the stack of one ask to what came of the ask.
use Rattle.std.proofs.Common.{◌≡◌, ℕ, suc, ◌-◌, ◌<◌, ◌≤◌, ◌^◌, List, [], ◌∷◌, length, replicate, refl, sym, ap, subst, ◌∙◌, arith, Bool, true, Option}
use Rattle.std.proofs.lemmas.List.Sums.{get_or-le-sum_by, sum_by-cons}
use Rattle.spill_disk.specs.Files.{Files}
use Rattle.run_file.specs.declared.run.Run.{Run}
use Rattle.consumer_trait.specs.States.{State, Stage, Rest, Spill}
use Rattle.consumer_trait.specs.Members.{blank, state_at}
use Rattle.task_memory.specs.declared.ask.Ask.{Ask}
use Rattle.task_memory.specs.declared.spills.Spills.{Spills}
use Rattle.task_pool.specs.Accounts.{Held, less_by}
use Rattle.task_memory.specs.Asks.{ask_at, top_of, held_for, pending_of, Tries}
use Rattle.task_memory.specs.RunLists.{lists_of}
use Rattle.task_memory.specs.Stacks.{Stack, stack_of, IsStack, IsTried, IsDry, is_rest, spilling, spills_of, resting_of}
use Rattle.task_memory.specs.Serving.{KeepsInSteps, Serves}
use Rattle.task_memory.specs.Asking.{IsReady, IsOutOfRoom, Keeps, Opens}
use Rattle.task_memory.proofs.Keeping.{kept_self}
use Rattle.task_memory.proofs.Holding.{keeps_runs_self}
use Rattle.task_memory.proofs.Serving.{moves_trans}
use Rattle.task_memory.proofs.Trying.{Tried, tried_for}

-- a scene with one ask over consumers that all rest
abbrev pub single : Stack → Ask → Stack
single scene ask = record scene { resting = replicate (length scene.states) true; asks = ask ∷ [] }

-- an ask for which nothing was got or given back yet, and which an attempt may be made for
pub record IsNewAsk (ask : Ask) : Type 0 where
  pub got : ask.got ≡ 0
  pub freed : ask.freed ≡ 0
  pub need : ask.need ≤ 2 ^ 50

-- where all rest, all flags are up
flags_up : (states : List State) → ((i : ℕ) → i < length states → (state_at states i).stage ≡ Rest) → replicate (length states) true ≡ resting_of states
flags_up [] rests = refl
flags_up (state ∷ states) rests =
    let first : is_rest state.stage ≡ true = ap is_rest (rests 0 (omega arith)) in
    let others = flags_up states (λ i below. rests (suc i) (omega arith)) in
    ap (λ flags. true ∷ flags) others ∙ ap (λ flag. flag ∷ resting_of states) (sym first)

-- and no spill is in progress
no_spills : (states : List State) → ((i : ℕ) → i < length states → (state_at states i).stage ≡ Rest) → spills_of states ≡ 0
no_spills [] rests = refl
no_spills (state ∷ states) rests =
    let first : spilling state.stage ≡ 0 = ap spilling (rests 0 (omega arith)) in
    let others = no_spills states (λ i below. rests (suc i) (omega arith)) in
    let sum = sum_by-cons (λ (each : State). spilling each.stage) state states in
    omega (arith, sum)

-- the stack of one ask
single_stack : (scene : Stack) (ask : Ask) → IsReady scene → IsNewAsk ask → IsStack (single scene ask)
single_stack scene ask ready new = record {
  some = omega arith;
  lengths = ready.lengths;
  bounded = ready.bounded;
  picked = ready.picked;
  rests = flags_up scene.states ready.rests;
  begun = ready.begun;
  count = let none = no_spills scene.states ready.rests in omega arith;
  within = λ k nested below. absurd (omega arith);
  stands = λ k nested below. absurd (omega arith);
  apart = λ j k nested later below. absurd (omega arith);
  needs = λ k below. let first : k ≡ 0 = omega arith in rw first new.need;
  covered = omega (arith, ready.covered, new.got, new.freed);
  small = ready.small;
  counted = omega arith;
  shallow = ready.shallow;
}

abbrev scene_with : List State → Option Files → Held → List ℕ → List (List Run) → List Bool → List Ask → ℕ → Stack
scene_with states files account picks runs resting asks deepest =
    record { states = states; files = files; account = account; picks = picks; runs = runs; resting = resting; asks = asks; deepest = deepest }

-- scenes are the same where their parts are
same_scene : (states : List State) (files : Option Files) (account : Held) (picks picks' : List ℕ) (runs runs' : List (List Run)) (resting resting' : List Bool) (asks asks' : List Ask) (deepest deepest' : ℕ) → picks ≡ picks' → runs ≡ runs' → resting ≡ resting' → asks ≡ asks' → deepest ≡ deepest' → scene_with states files account picks runs resting asks deepest ≡ scene_with states files account picks' runs' resting' asks' deepest'
same_scene states files account picks picks' runs runs' resting resting' asks asks' deepest deepest' same_picks same_runs same_resting same_asks same_deepest =
    rw (same_picks, same_runs, same_resting, same_asks, same_deepest) refl

-- the scene once the stack was made that of one ask
pub opened_scene : (states : List State) (files : Option Files) (account : Held) (old new : Spills) (count : ℕ) (ask : Ask) → count ≡ length states → Opens count ask old new → stack_of states files account new ≡ single (stack_of states files account old) ask
opened_scene states files account old new count ask consumers opens =
    same_scene states files account _ _ _ _ _ _ _ _ _ _
    (ap (λ (each : _). each.items) opens.picks)
    (ap (λ (each : _). lists_of each.items) opens.runs)
    (opens.flags ∙ ap (λ n. replicate n true) consumers)
    opens.asks
    opens.deepest

-- the stack stands then
pub opened_stack : (states : List State) (files : Option Files) (account : Held) (old new : Spills) (count : ℕ) (ask : Ask) → IsReady (stack_of states files account old) → IsNewAsk ask → count ≡ length states → Opens count ask old new → IsStack (stack_of states files account new)
opened_stack states files account old new count ask ready fresh consumers opens =
    subst (λ (each : Stack). IsStack each) (sym (opened_scene states files account old new count ask consumers opens)) (single_stack (stack_of states files account old) ask ready fresh)

-- what an attempt for the one ask comes to
pub record IsBegun (old new : Stack) : Type 0 where
  pub stack : IsStack new
  pub tried : IsTried new
  pub moves : KeepsInSteps old new
  pub one : length new.asks ≡ 1

begun_at : (scene : Stack) (ask : Ask) (account : Held) (asks : List Ask) → Tried (single scene ask) (record (single scene ask) { account = account; asks = asks }) → IsBegun (single scene ask) (record (single scene ask) { account = account; asks = asks })
begun_at scene ask account asks tried = record {
  stack = tried.stack;
  tried = tried.tried;
  moves = record {
    consumers = refl;
    picks = refl;
    kept = λ i within. kept_self (state_at scene.states i);
    runs = keeps_runs_self scene.files scene.states scene.runs;
    shorts = tried.shorts;
    deeper = omega arith;
    balance = omega (arith, tried.balance);
    need = tried.need;
    freed = tried.freed;
    still = tried.still;
  };
  one = tried.count;
}

pub begun_is : (states : List State) (files : Option Files) (account account' : Held) (old opened tried : Spills) (count : ℕ) (ask : Ask) (wish : ℕ)
    → IsReady (stack_of states files account old) → IsNewAsk ask → count ≡ length states → Opens count ask old opened
    → tried.picks ≡ opened.picks → tried.runs ≡ opened.runs → tried.resting ≡ opened.resting → tried.deepest ≡ opened.deepest → Tries account account' opened.asks.items tried.asks.items wish
    → ask.need ≤ wish → 1 ≤ ask.need → IsBegun (single (stack_of states files account old) ask) (stack_of states files account' tried)
begun_is states files account account' old opened tried count ask wish ready fresh consumers opens picks runs resting deepest tries enough some =
    let scene : Stack = stack_of states files account old in
    let stack = single_stack scene ask ready fresh in
    let first : Tries account account' (ask ∷ []) tried.asks.items wish = subst (λ (each : List Ask). Tries account account' each tried.asks.items wish) opens.asks tries in
    let result : Tried (single scene ask) (record (single scene ask) { account = account'; asks = tried.asks.items }) = tried_for (single scene ask) account' tried.asks.items wish stack first (omega (arith, enough, fresh.got)) some in
    let same : stack_of states files account' tried ≡ record (single scene ask) { account = account'; asks = tried.asks.items } =
    same_scene states files account' _ _ _ _ _ _ _ _ _ _
    (ap (λ (each : _). each.items) (picks ∙ opens.picks))
    (ap (λ (each : _). lists_of each.items) (runs ∙ opens.runs))
    (ap (λ (each : _). each.items) resting ∙ opens.flags ∙ ap (λ n. replicate n true) consumers)
    refl
    (deepest ∙ opens.deepest) in
    subst (λ (each : Stack). IsBegun (single scene ask) each) (sym same) (begun_at scene ask account' tried.asks.items result)

rest_is : (stage : Stage) → spilling stage ≡ 0 → stage ≡ Rest
rest_is Rest none = refl
rest_is (Spill progress) none = absurd (omega arith)

pending_single : (asks : List Ask) → length asks ≡ 1 → pending_of asks ≡ held_for (ask_at asks 0)
pending_single [] one = absurd (omega arith)
pending_single (ask ∷ []) one = omega arith
pending_single (ask ∷ (next ∷ rest)) one = absurd (omega arith)

-- what came of an ask, before what it got is given back or told
pub served_keeps : (ready served : Stack) (ask : Ask) → IsNewAsk ask → KeepsInSteps (single ready ask) served → IsStack served → length served.asks ≡ 1 → Keeps ready served (ask_at served.asks 0).got
served_keeps ready served ask fresh moves stack one =
    let pending_one = pending_single served.asks one in
    let freed : (ask_at served.asks 0).freed ≡ 0 = moves.freed ∙ fresh.freed in
    record {
      consumers = moves.consumers;
      picks = moves.picks;
      kept = moves.kept;
      runs = moves.runs;
      shorts = moves.shorts;
      ready = record {
        lengths = stack.lengths;
        bounded = stack.bounded;
        picked = stack.picked;
        begun = stack.begun;
        rests = λ i below. rest_is (state_at served.states i).stage (let least = get_or-le-sum_by (λ (state : State). spilling state.stage) served.states i blank below in omega (arith, stack.count, one));
        covered = omega (arith, stack.covered);
        small = stack.small;
        counted = stack.counted;
        shallow = stack.shallow;
      };
      balance = omega (arith, moves.balance, pending_one, freed, fresh.got, fresh.freed);
    }

-- what came of an ask: what it lacks can't be got
pub record IsAnswered (ready served : Stack) (ask : Ask) : Type 0 where
  pub stack : IsStack served
  pub tried : IsTried served
  pub moves : KeepsInSteps (single ready ask) served
  pub one : length served.asks ≡ 1
  pub dry : (ask_at served.asks 0).got < ask.need → IsDry served.states

-- the first attempt was enough
pub answered_at_once : (ready begun : Stack) (ask : Ask) → IsBegun (single ready ask) begun → ask.need ≤ (ask_at begun.asks 0).got → IsAnswered ready begun ask
answered_at_once ready begun ask is enough = record { stack = is.stack; tried = is.tried; moves = is.moves; one = is.one; dry = λ short. absurd (omega arith) }

-- or the ask was served
pub answered_later : (ready begun served : Stack) (ask : Ask) → IsBegun (single ready ask) begun → Serves begun served → IsAnswered ready served ask
answered_later ready begun served ask is serves =
    let moves = moves_trans (single ready ask) begun served is.moves serves.moves in
    record { stack = serves.stack; tried = serves.tried; moves = moves; one = serves.served.single; dry = λ short. serves.served.dry (omega (arith, moves.need)) }

-- there is no room for an ask that fell short, once what it got is given back
pub short_is_out : (ready served : Stack) (ask : Ask) (got : ℕ) → IsAnswered ready served ask → (ask_at served.asks 0).got ≡ got → got < ask.need → IsOutOfRoom (record served { account = less_by served.account got }) ask.need
short_is_out ready served ask got is same short =
    let need : (ask_at served.asks 0).need ≡ ask.need = is.moves.need in
    let top : top_of served.asks ≡ ask_at served.asks 0 = ap (λ n. ask_at served.asks (n - 1)) is.one in
    let lacks : (top_of served.asks).got < (top_of served.asks).need = rw top (omega arith) in
    let tried = is.tried lacks in
    let whole : (top_of served.asks).need ≡ (ask_at served.asks 0).need = ap (λ (each : Ask). each.need) top in
    record {
      dry = is.dry (omega arith);
      short = record { granted = tried.0.granted; got = tried.0.got; short = tried.0.short; less = omega (arith, tried.0.less, whole, need) };
      floored = let floored = tried.1 in omega arith;
    }

-- what came of an ask that fell short, once what it got is given back
pub short_keeps : (ready served : Stack) (got : ℕ) → IsReady ready → Keeps ready served got → Keeps ready (record served { account = less_by served.account got }) 0
short_keeps ready served got before keeps = record {
  consumers = keeps.consumers;
  picks = keeps.picks;
  kept = keeps.kept;
  runs = keeps.runs;
  shorts = keeps.shorts;
  ready = record {
    lengths = keeps.ready.lengths;
    bounded = keeps.ready.bounded;
    picked = keeps.ready.picked;
    begun = keeps.ready.begun;
    rests = keeps.ready.rests;
    covered = omega (arith, keeps.balance, before.covered);
    small = omega (arith, keeps.ready.small);
    counted = keeps.ready.counted;
    shallow = keeps.ready.shallow;
  };
  balance = omega (arith, keeps.balance, before.covered);
}
