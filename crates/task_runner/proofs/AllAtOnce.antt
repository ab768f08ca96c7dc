-- The workers of a pass at the same time: what each of them left and answered, as what all of them did.
use Rattle.std.proofs.Common.{◌≡◌, ◌∙◌, ℕ, zero, suc, ◌<◌, ◌+◌, List, [], ◌∷◌, Option, Some, None, Result, Ok, Err, length, get_or, refl, sym, ap, subst, inl, inr, arith}
use Rattle.std.specs.Prelude.{IfOk, slice_get, ⊤}
use Rattle.std.specs.Global.{Vec}
use Rattle.std.proofs.lemmas.List.{get_or_past}
use Rattle.pool_ledger.specs.Sizes.{Sizes}
use Rattle.spill_disk.specs.Files.{Files}
use Rattle.run_file.specs.declared.run.Run.{Run}
use Rattle.memory_core.specs.Caches.{RowsByName}
use Rattle.turn_lock.specs.Passes.{WorkerView}
use Rattle.memory_lock.specs.Workers.{IsFree, own_of}
use Rattle.consumer_trait.specs.States.{State}
use Rattle.worker_threads.specs.Places.{AtEachPlace, AtPlace}
use Rattle.task_runner.specs.AllWorkers.{Finished, Finishes, Leaves, Reached, faults_of, files_of}
use Rattle.task_runner.specs.Answers.{HasCauseAmong, NamesPost, NamesSomePost}
use Rattle.task_runner.specs.AtOnce.{AreAnswers, Ran, TellsFirstFault, TellsLowest}
use Rattle.task_runner.specs.PartAnswers.{HoldsOwn}
use Rattle.task_runner.specs.PassViews.{PassView, parts_of}
use Rattle.task_runner.specs.Workers.{DoesAll, IfSound}
use Rattle.task_runner.specs.Works.{IfNoRoom, ShowsNoRoom}
use Rattle.task_runner.specs.declared.post.Post.{Post}
use Rattle.task_runner.specs.declared.work_fault.WorkFault.{WorkFault}
use Rattle.task_runner.specs.declared.work_fault.WorkFault.TheVariants.{NoRoom, DiskFault, Damaged, NoMemory}
use Rattle.task_runner.proofs.Idle.{leaves_same}

-- ---- where nobody was called

pub reached_idle : {D C : Type 0} (state : C → State) (files : D → Option Files) (faults : D → ℕ) (workers : ℕ) (pass : PassView) (olds : List WorkerView) (posts : List (Post D C))
    → ((w : ℕ) (any : WorkerView) → w < workers → IsFree (get_or olds w any)) → Reached state files faults workers workers pass olds olds posts posts
reached_idle state files faults workers pass olds posts free = record {
  each = λ w any below. leaves_same state files faults workers w pass (get_or olds w any) (slice_get posts w) (free w any below);
  still = λ w any above. refl;
  others = λ place above. refl;
  count = refl;
}

-- ---- the same pass

pub ran_alike : {D C : Type 0} (state : C → State) (files : D → Option Files) (faults : D → ℕ) (sizes : Sizes) (count : ℕ) (given : RowsByName) (inner pass : PassView) → inner ≡ pass
    → (olds news : List WorkerView) (posts posts' : List (Post D C)) (told : List (Result (Vec (Option Run)) WorkFault))
    → AtEachPlace (Ran state files faults sizes count given inner) 0 olds news posts posts' told → AtEachPlace (Ran state files faults sizes count given pass) 0 olds news posts posts' told
ran_alike state files faults sizes count given inner pass same olds news posts posts' told ran =
    subst (λ (view : PassView). AtEachPlace (Ran state files faults sizes count given view) 0 olds news posts posts' told) same ran

-- ---- a fault that names its place

cause_named : (was now : ℕ → ℕ) (place a b : ℕ) (answer : Result (Vec (Option Run)) WorkFault) → NamesPost place answer → was place ≡ a → now place ≡ b → HasCauseAmong (λ _. a) (λ _. b) answer → HasCauseAmong was now answer
cause_named was now place a b (Ok x) names old new cause = tt
cause_named was now place a b (Err (NoRoom asked held floor)) names old new cause = tt
cause_named was now place a b (Err (DiskFault post)) names old new cause =
    let first : was post ≡ a = ap was names ∙ old in
    let then : now post ≡ b = ap now names ∙ new in
    omega (arith, first, then, cause)
cause_named was now place a b (Err (Damaged damage)) names old new cause = cause
cause_named was now place a b (Err NoMemory) names old new cause = tt

-- ---- a place of the lists

value_at : {X : Type 0} (xs : List X) (n : ℕ) (x d : X) → slice_get xs n ≡ Some x → get_or xs n d ≡ x
value_at [] n x d is = let wrong : None ≡ Some x = is in absurd cc
value_at (y ∷ xs) zero x d is = let same : Some y ≡ Some x = is in let inner : y ≡ x = cc in inner
value_at (y ∷ xs) (suc n) x d is = value_at xs n x d is

-- what holds of the worker and the post of a place holds of them in their lists
at_lists : {D C : Type 0} (P : WorkerView → WorkerView → Option (Post D C) → Option (Post D C) → Type 0) (olds news : List WorkerView) (posts posts' : List (Post D C)) (n : ℕ) (any w w' : WorkerView) (p p' : Post D C)
    → slice_get olds n ≡ Some w → slice_get news n ≡ Some w' → slice_get posts n ≡ Some p → slice_get posts' n ≡ Some p' → P w w' (Some p) (Some p')
    → P (get_or olds n any) (get_or news n any) (slice_get posts n) (slice_get posts' n)
at_lists {D = D} {C = C} P olds news posts posts' n any w w' p p' old new post post' holds =
    subst (λ (s : WorkerView). P s (get_or news n any) (slice_get posts n) (slice_get posts' n)) (sym (value_at olds n w any old))
    (subst (λ (s : WorkerView). P w s (slice_get posts n) (slice_get posts' n)) (sym (value_at news n w' any new))
    (subst (λ (o : Option (Post D C)). P w w' o (slice_get posts' n)) (sym post)
    (subst (λ (o : Option (Post D C)). P w w' (Some p) o) (sym post') holds)))

from_zero : (k : ℕ) → 0 + k ≡ k
from_zero k = omega arith

-- the call of a place, counted from 0
here : {W P A : Type 0} (R : ℕ → W → W → P → P → A → Type 0) (ws ws' : List W) (ps ps' : List P) (told : List A) → AtEachPlace R 0 ws ws' ps ps' told
    → (k : ℕ) → k < length ws → AtPlace R k (slice_get ws k) (slice_get ws' k) (slice_get ps k) (slice_get ps' k) (slice_get told k)
here R ws ws' ps ps' told all k within =
    subst (λ (j : ℕ). AtPlace R j (slice_get ws k) (slice_get ws' k) (slice_get ps k) (slice_get ps' k) (slice_get told k)) (from_zero k) (all.each k within)

module _ {D C : Type 0} (state : C → State) (files : D → Option Files) (faults : D → ℕ) (sizes : Sizes) (count : ℕ) (given : RowsByName) (pass : PassView) (olds news : List WorkerView) (posts posts' : List (Post D C))
    (told : List (Result (Vec (Option Run)) WorkFault)) (size : length olds ≡ count)
    (ran : AtEachPlace (Ran state files faults sizes count given pass) 0 olds news posts posts' told) where
  -- ---- what they left

  pub reached_at_once : Reached state files faults count count pass olds news posts posts'
  reached_at_once = record {
    each = λ w any below.
        let at = here (Ran state files faults sizes count given pass) olds news posts posts' told ran w (omega (arith, below, size)) in
        at_lists (λ before after post post'. Leaves state files faults count w pass before after post post') olds news posts posts' w any
        at.one at.one_after at.other at.other_after at.one_is at.one_left at.other_is at.other_left at.did.ran.leaves;
    still = λ w any above.
        let same = ran.same_workers in
        get_or_past news w any (omega (arith, above, size, same)) ∙ sym (get_or_past olds w any (omega (arith, above, size)));
    others = λ place above. ran.others place (omega (arith, above, size));
    count = ran.same_posts;
  }

  -- each rests
  pub rests_at_once : (w : ℕ) (any : WorkerView) → w < count → (get_or news w any).base ≡ None
  rests_at_once w any below =
      let at = here (Ran state files faults sizes count given pass) olds news posts posts' told ran w (omega (arith, below, size)) in
      ap (λ (s : WorkerView). s.base) (value_at news w at.one_after any at.one_left) ∙ at.did.rests

  -- ---- what they answered

  is_told : (k : ℕ) (one other : Result (Vec (Option Run)) WorkFault) → slice_get told k ≡ Some one → slice_get told k ≡ Some other → one ≡ other
  is_told k one other first second = let both : Some one ≡ Some other = sym first ∙ second in let same : one ≡ other = cc in same

  finishes_of : (place : ℕ) (before after : WorkerView) (post post' : Option (Post D C)) (answer : Result (Vec (Option Run)) WorkFault) (answers : Vec (Option Run)) → answer ≡ Ok answers
      → IfOk answer (λ answers. Finishes state files faults count place given pass before after post post' answers.items) → Finishes state files faults count place given pass before after post post' answers.items
  finishes_of place before after post post' answer answers is done = rw is at done

  pub finished_at_once : (all : List (List (Option Run))) → AreAnswers told all → Finished state files faults count count given pass olds news posts posts' all
  finished_at_once all are =
      let answered = ran.all_answered in
      let many = are.count in
      record {
        count = omega (arith, many, answered, size);
        each = λ w any below.
            let at = here (Ran state files faults sizes count given pass) olds news posts posts' told ran w (omega (arith, below, size)) in
            let list = are.each w (omega (arith, below, size, answered)) in
            let done = finishes_of w at.one at.one_after (Some at.other) (Some at.other_after) at.told list.0 (is_told w at.told (Ok list.0) at.told_is list.1) at.did.ran.finishes in
            subst (λ (answers : List (Option Run)). Finishes state files faults count w given pass (get_or olds w any) (get_or news w any) (slice_get posts w) (slice_get posts' w) answers) (sym list.2)
            (at_lists (λ before after post post'. Finishes state files faults count w given pass before after post post' (list.0).items) olds news posts posts' w any
            at.one at.one_after at.other at.other_after at.one_is at.one_left at.other_is at.other_left done);
      }

  -- ---- a fault of one of them

  pub sound_at_once : {T : Type 0} (result : Result T WorkFault) → TellsFirstFault told result → (rows : ℕ → List (List (List ℕ)))
      → ((w : ℕ) → w < count → HoldsOwn (files_of files (slice_get posts w)) given pass count w rows) → IfSound (λ _. ⊤) result
  sound_at_once (Ok all) tells rows holds = tt
  sound_at_once (Err (NoRoom asked held floor)) tells rows holds = tt
  sound_at_once (Err (DiskFault post)) tells rows holds = tt
  sound_at_once (Err NoMemory) tells rows holds = tt
  sound_at_once (Err (Damaged damage)) tells rows holds =
      elim tells [
        | inl none ↦ let wrong : Damaged damage ≡ NoMemory = none in absurd cc
        | inr first ↦
            let answered = ran.all_answered in
            let within = first.within in
            let at = here (Ran state files faults sizes count given pass) olds news posts posts' told ran first.place (omega (arith, within, answered)) in
            let is : at.told ≡ Err (Damaged damage) = is_told first.place at.told (Err (Damaged damage)) at.told_is first.is in
            let own = holds first.place (omega (arith, within, answered, size)) in
            let there : HoldsOwn (files at.other.disk) given pass count first.place rows = subst (λ (o : Option (Post D C)). HoldsOwn (files_of files o) given pass count first.place rows) at.other_is own in
            let never : IfSound (λ _. ⊤) at.told = at.did.ran.sound rows there in
            rw is at never
      ]

  pub room_at_once : {T : Type 0} (result : Result T WorkFault) → TellsFirstFault told result
      → IfNoRoom result (λ asked held floor. (worker task : ℕ) × (worker < count) × ((any : WorkerView) → ShowsNoRoom sizes (own_of (get_or news worker any)) task asked held floor))
  room_at_once (Ok all) tells = tt
  room_at_once (Err (DiskFault post)) tells = tt
  room_at_once (Err (Damaged damage)) tells = tt
  room_at_once (Err NoMemory) tells = tt
  room_at_once (Err (NoRoom asked held floor)) tells =
      elim tells [
        | inl none ↦ let wrong : NoRoom asked held floor ≡ NoMemory = none in absurd cc
        | inr first ↦
            let answered = ran.all_answered in
            let within = first.within in
            let at = here (Ran state files faults sizes count given pass) olds news posts posts' told ran first.place (omega (arith, within, answered)) in
            let is : at.told ≡ Err (NoRoom asked held floor) = is_told first.place at.told (Err (NoRoom asked held floor)) at.told_is first.is in
            let room : IfNoRoom at.told (λ asked held floor. (task : ℕ) × ShowsNoRoom sizes (own_of at.one_after) task asked held floor) = at.did.ran.no_room in
            let shows : (task : ℕ) × ShowsNoRoom sizes (own_of at.one_after) task asked held floor = rw is at room in (
              first.place,
              shows.0,
              omega (arith, within, answered, size),
              λ any. subst (λ (w : WorkerView). ShowsNoRoom sizes (own_of w) shows.0 asked held floor) (sym (value_at news first.place at.one_after any at.one_left)) shows.1,
            )
      ]

  names_fault : (T : Type 0) (place : ℕ) (fault : WorkFault) → place < count → NamesPost {T = Vec (Option Run)} place (Err fault) → NamesSomePost {T = T} count (Err fault)
  names_fault T place (NoRoom asked held floor) below names = tt
  names_fault T place (DiskFault post) below names = omega (arith, below, names)
  names_fault T place (Damaged damage) below names = omega (arith, below, names)
  names_fault T place NoMemory below names = tt

  pub names_at_once : {T : Type 0} (result : Result T WorkFault) → TellsFirstFault told result → NamesSomePost count result
  names_at_once (Ok all) tells = tt
  names_at_once {T = T} (Err fault) tells =
      elim tells [
        | inl none ↦ subst (λ (f : WorkFault). NamesSomePost {T = T} count (Err f)) (sym none) tt
        | inr first ↦
            let answered = ran.all_answered in
            let within = first.within in
            let at = here (Ran state files faults sizes count given pass) olds news posts posts' told ran first.place (omega (arith, within, answered)) in
            let is : at.told ≡ Err fault = is_told first.place at.told (Err fault) at.told_is first.is in
            names_fault T first.place fault (omega (arith, within, answered, size)) (subst (λ (answer : Result (Vec (Option Run)) WorkFault). NamesPost first.place answer) is at.did.names)
      ]

  cause_fault : (T : Type 0) (before now : ℕ → ℕ) (fault : WorkFault) → HasCauseAmong {T = Vec (Option Run)} before now (Err fault) → HasCauseAmong {T = T} before now (Err fault)
  cause_fault T before now (NoRoom asked held floor) cause = tt
  cause_fault T before now (DiskFault post) cause = cause
  cause_fault T before now (Damaged damage) cause = cause
  cause_fault T before now NoMemory cause = tt

  pub cause_at_once : {T : Type 0} (result : Result T WorkFault) → TellsFirstFault told result
      → HasCauseAmong (λ place. faults_of faults (slice_get posts place)) (λ place. faults_of faults (slice_get posts' place)) result
  cause_at_once (Ok all) tells = tt
  cause_at_once {T = T} (Err fault) tells =
      let before : ℕ → ℕ = λ place. faults_of faults (slice_get posts place) in
      let now : ℕ → ℕ = λ place. faults_of faults (slice_get posts' place) in
      elim tells [
        | inl none ↦ subst (λ (f : WorkFault). HasCauseAmong {T = T} before now (Err f)) (sym none) tt
        | inr first ↦
            let answered = ran.all_answered in
            let within = first.within in
            let at = here (Ran state files faults sizes count given pass) olds news posts posts' told ran first.place (omega (arith, within, answered)) in
            let is : at.told ≡ Err fault = is_told first.place at.told (Err fault) at.told_is first.is in
            let cause = cause_named before now first.place (faults at.other.disk) (faults at.other_after.disk) at.told at.did.names (ap (λ (o : Option (Post D C)). faults_of faults o) at.other_is) (ap (λ (o : Option (Post D C)). faults_of faults o) at.other_left) at.did.ran.cause in
            cause_fault T before now fault (subst (λ (answer : Result (Vec (Option Run)) WorkFault). HasCauseAmong before now answer) is cause)
      ]

  -- ---- whose it is

  pub lowest_at_once : {T : Type 0} (result : Result T WorkFault) → TellsFirstFault told result → TellsLowest pass count olds news result
  lowest_at_once (Ok all) tells = tt
  lowest_at_once {T = T} (Err fault) tells =
      elim tells [
        | inl none ↦ inl none
        | inr first ↦ inr (
            let answered = ran.all_answered in
            let within = first.within in
            let at = here (Ran state files faults sizes count given pass) olds news posts posts' told ran first.place (omega (arith, within, answered)) in
            let is : at.told ≡ Err fault = is_told first.place at.told (Err fault) at.told_is first.is in
            record {
              place = first.place;
              within = omega (arith, within, answered, size);
              names = subst (λ (answer : Result (Vec (Option Run)) WorkFault). NamesPost first.place answer) is at.did.names;
              below = λ w any lower.
                  let one = here (Ran state files faults sizes count given pass) olds news posts posts' told ran w (omega (arith, lower, within, answered)) in
                  let list = first.before w lower in
                  let done = finishes_of w one.one one.one_after (Some one.other) (Some one.other_after) one.told list.0 (is_told w one.told (Ok list.0) one.told_is list.1) one.did.ran.finishes in
                  let does : DoesAll pass.first count w (parts_of pass) one.one one.one_after = record { count = done.tasks; all = done.count; does = done.does } in
                  subst (λ (s : WorkerView). DoesAll pass.first count w (parts_of pass) s (get_or news w any)) (sym (value_at olds w one.one any one.one_is))
                  (subst (λ (s : WorkerView). DoesAll pass.first count w (parts_of pass) one.one s) (sym (value_at news w one.one_after any one.one_left)) does);
            })
      ]
