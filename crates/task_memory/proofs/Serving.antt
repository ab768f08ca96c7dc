-- The steps of serving one after another.
use Rattle.std.proofs.Common.{◌≡◌, ◌-◌, length, refl, ap, ◌∙◌, arith, true, false, None}
use Rattle.std.proofs.lemmas.List.{get_or-map}
use Rattle.std.proofs.lemmas.List.Sums.{get_or-le-sum_by}
use Rattle.consumer_trait.specs.States.{State, Stage, Rest, Spill}
use Rattle.consumer_trait.specs.Members.{blank, state_at}
use Rattle.task_memory.specs.Stacks.{Stack, IsStack, IsNextForTop, flag_at, is_rest, spilling}
use Rattle.task_memory.specs.Serving.{KeepsInSteps, IsServed}
use Rattle.task_memory.proofs.Keeping.{kept_self, keeps_one_trans}
use Rattle.task_memory.proofs.Holding.{keeps_runs_self, keeps_runs_trans}

pub moves_none : (scene : Stack) → KeepsInSteps scene scene
moves_none scene = record {
  consumers = refl;
  picks = refl;
  kept = λ i within. kept_self (state_at scene.states i);
  runs = keeps_runs_self scene.files scene.states scene.runs;
  shorts = omega arith;
  deeper = omega arith;
  balance = refl;
  need = refl;
  freed = refl;
  still = λ _. refl;
}

pub moves_trans : (a b c : Stack) → KeepsInSteps a b → KeepsInSteps b c → KeepsInSteps a c
moves_trans a b c first then = record {
  consumers = then.consumers ∙ first.consumers;
  picks = then.picks ∙ first.picks;
  kept = λ i within. keeps_one_trans (state_at a.states i) (state_at b.states i) (state_at c.states i) (first.kept i within) (then.kept i (let consumers = first.consumers in omega arith));
  runs = keeps_runs_trans a.files b.files c.files a.states b.states c.states a.runs b.runs c.runs first.consumers (λ i within. (first.kept i within).same.kind) (λ i within. (first.kept i within).shorter) first.runs then.runs;
  shorts = omega (arith, first.shorts, then.shorts);
  deeper = omega (arith, first.deeper, then.deeper);
  balance = omega (arith, first.balance, then.balance);
  need = then.need ∙ first.need;
  freed = then.freed ∙ first.freed;
  still = λ zero. then.still (first.need ∙ zero) ∙ first.still zero;
}

-- a consumer that counts as no spill rests
rests_at : (stage : Stage) → spilling stage ≡ 0 → is_rest stage ≡ true
rests_at Rest none = refl
rests_at (Spill progress) none = absurd (omega arith)

-- where one ask stands, all consumers rest, and nothing is left for it where no consumer was chosen
pub served_is : (scene : Stack) → IsStack scene → length scene.asks ≡ 1 → IsNextForTop scene.states scene.resting scene.asks None → IsServed scene
served_is scene stack one next = record {
  single = one;
  dry = λ short i within.
      let least = get_or-le-sum_by (λ (state : State). spilling state.stage) scene.states i blank within in
      let none : spilling (state_at scene.states i).stage ≡ 0 = omega (arith, stack.count) in
      let rests : flag_at scene.resting i ≡ true = ap (λ flags. flag_at flags i) stack.rests
      ∙ get_or-map (λ (state : State). is_rest state.stage) scene.states i blank false within ∙ rests_at (state_at scene.states i).stage none in
      let first : length scene.asks - 1 ≡ 0 = omega arith in
      next (rw first short) i within rests;
}
