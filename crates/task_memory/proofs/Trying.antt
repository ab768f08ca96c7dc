-- An attempt for the innermost ask keeps the stack.
use Rattle.std.proofs.Common.{◌≡◌, ℕ, ◌+◌, ◌-◌, ◌<◌, ◌≤◌, List, length, set, refl, sym, ap, subst, ◌∙◌, arith, inl, inr}
use Rattle.std.proofs.lemmas.List.{get_or-set_same, get_or-set_other, length-set}
use Rattle.std.proofs.lemmas.List.Sums.{sum_by-set}
use Rattle.task_memory.specs.declared.ask.Ask.{Ask}
use Rattle.task_pool.specs.Accounts.{Held, Grants, WasShort, less_by}
use Rattle.task_memory.specs.Asks.{no_ask, ask_at, top_of, held_for, pending_of, Tries, Settles}
use Rattle.task_memory.specs.Stacks.{Stack, IsStack, IsTried}
use Rattle.task_memory.proofs.Places.{same_field, at_or_not, less_or_not}

-- what an attempt keeps of a stack
pub record Tried (old new : Stack) : Type 0 where
  pub stack : IsStack new
  pub tried : IsTried new
  pub shorts : old.account.shorts ≤ new.account.shorts
  pub balance : new.account.held + pending_of old.asks ≡ old.account.held + pending_of new.asks
  pub need : (ask_at new.asks 0).need ≡ (ask_at old.asks 0).need
  pub freed : (ask_at new.asks 0).freed ≡ (ask_at old.asks 0).freed
  pub count : length new.asks ≡ length old.asks
  pub still : (ask_at old.asks 0).need ≡ 0 → (ask_at new.asks 0).got ≡ (ask_at old.asks 0).got

-- the innermost ask got more
abbrev pub topped : List Ask → ℕ → List Ask
topped asks got = set asks (length asks - 1) (record (top_of asks) { got = (top_of asks).got + got })

tried_at : (scene : Stack) (account : Held) (want granted : ℕ) → IsStack scene → Grants scene.account account want granted → (top_of scene.asks).need ≤ want + (top_of scene.asks).got → 1 ≤ (top_of scene.asks).need → Tried scene (record scene { account = account; asks = topped scene.asks granted })
tried_at scene account want granted stack grants enough some =
    let asks = scene.asks in
    let last = length asks - 1 in
    let ask = top_of asks in
    let raised : Ask = record ask { got = ask.got + granted } in
    let asks' = set asks last raised in
    let within : last < length asks = omega (arith, stack.some) in
    let count : length asks' ≡ length asks = length-set asks last raised in
    let consumer : (k : ℕ) → (ask_at asks' k).place ≡ (ask_at asks k).place = λ k. same_field (λ (each : Ask). each.place) asks last raised no_ask k refl in
    let need : (k : ℕ) → (ask_at asks' k).need ≡ (ask_at asks k).need = λ k. same_field (λ (each : Ask). each.need) asks last raised no_ask k refl in
    let freed : (k : ℕ) → (ask_at asks' k).freed ≡ (ask_at asks k).freed = λ k. same_field (λ (each : Ask). each.freed) asks last raised no_ask k refl in
    let top : ask_at asks' last ≡ raised = get_or-set_same asks last raised no_ask within in
    let sum : pending_of asks' + held_for ask ≡ pending_of asks + held_for raised = sum_by-set held_for asks last raised no_ask within in
    record {
      stack = record {
        some = omega (arith, stack.some, count);
        lengths = stack.lengths;
        bounded = stack.bounded;
        picked = stack.picked;
        rests = stack.rests;
        begun = stack.begun;
        count = stack.count ∙ sym count;
        within = λ k nested below. rw (consumer k) (stack.within k nested (omega (arith, count)));
        stands = λ k nested below. rw (consumer k, freed k) (stack.stands k nested (omega (arith, count)));
        apart = λ j k nested later below. rw (consumer j, consumer k) (stack.apart j k nested later (omega (arith, count)));
        needs = λ k below. rw (need k) (stack.needs k (omega (arith, count)));
        covered = omega (arith, stack.covered, sum, grants.held);
        small = grants.small;
        counted = omega (arith, stack.counted, count);
        shallow = stack.shallow;
      };
      tried = subst (λ (each : Ask). each.got < each.need → WasShort account each.need × (account.floor ≤ account.held)) (sym (ap (λ n. ask_at asks' (n - 1)) count ∙ top)) (λ short. (record { granted = granted; got = grants.got; short = omega (arith, grants.asked, enough); less = omega arith }, grants.floored (omega (arith, enough))));
      shorts = grants.counts;
      balance = omega (arith, sum, grants.held);
      need = need 0;
      freed = freed 0;
      count = count;
      still = λ zero. elim (at_or_not 0 last) [
        | inl here ↦ absurd (let no_need : (top_of asks).need ≡ 0 = ap (λ k. (ask_at asks k).need) (sym here) ∙ zero in omega arith)
        | inr other ↦ ap (λ (each : Ask). each.got) (get_or-set_other asks last 0 raised no_ask other)
      ];
    }

pub tried_for : (scene : Stack) (account : Held) (asks : List Ask) (want : ℕ) → IsStack scene → Tries scene.account account scene.asks asks want → (top_of scene.asks).need ≤ want + (top_of scene.asks).got → 1 ≤ (top_of scene.asks).need → Tried scene (record scene { account = account; asks = asks })
tried_for scene account asks want stack tries enough some =
    subst (λ (each : List Ask). Tried scene (record scene { account = account; asks = each })) (sym tries.top) (tried_at scene account want tries.granted stack tries.grants enough some)

-- the same for a settlement, of a scene whose account is what it is after a spill's bytes were given back
pub settled_for : (scene : Stack) (before account : Held) (asks : List Ask) (given : ℕ) → scene.account ≡ less_by before given → IsStack scene → Settles before account scene.asks asks given → Tried scene (record scene { account = account; asks = asks })
settled_for scene before account asks given is stack settles =
    elim (less_or_not (top_of scene.asks).got (top_of scene.asks).need) [
      | inl lacks ↦
          let tries : Tries scene.account account scene.asks asks ((top_of scene.asks).need - (top_of scene.asks).got) = subst (λ (each : Held). Tries each account scene.asks asks ((top_of scene.asks).need - (top_of scene.asks).got)) (sym is) (settles.lacks lacks) in
          tried_for scene account asks ((top_of scene.asks).need - (top_of scene.asks).got) stack tries (omega arith) (omega arith)
      | inr meets ↦
          let none = settles.meets meets in
          let same : Tried scene scene = record { stack = stack; tried = λ short. absurd (omega arith); shorts = omega arith; balance = refl; need = refl; freed = refl; count = refl; still = λ _. refl } in
          subst (λ (each : List Ask). Tried scene (record scene { account = account; asks = each })) (sym none.1)
          (subst (λ (each : Held). Tried scene (record scene { account = each })) (is ∙ sym none.0) same)
    ]
