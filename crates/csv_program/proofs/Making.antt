-- Consumers that are made one after another: those that group, and then those that order.
use Rattle.std.proofs.Common.{◌≡◌, ℕ, ◌+◌, ◌≤◌, ◌<◌, List, [], ◌∷◌, ◌++◌, true, length, length-append, refl, arith, inl, inr}
use Rattle.std.proofs.Math.ListN.{get_or-append}
use Rattle.std.proofs.Math.Seq.{get_or-append_seam}
use Rattle.std.proofs.lemmas.Bool.{cases_lt}
use Rattle.aggregate.specs.declared.agg_list.Agg.{Agg}
use Rattle.aggregate.specs.declared.kind.Kind.TheVariants.{Group, Order}
use Rattle.consumer_trait.specs.States.{State}
use Rattle.consumer_trait.specs.Members.{blank, state_at}
use Rattle.task_runner.specs.Consumers.{HasConsumers}
use Rattle.csv_program.specs.Made.{AreMadeConsumers}

-- an earlier one, and the new one

earlier : (states : List State) (state : State) (i : ℕ) → i < length states → state_at (states ++ state ∷ []) i ≡ state_at states i
earlier states state i within = get_or-append states (state ∷ []) blank i within

newest : (states : List State) (state : State) (i : ℕ) → i ≡ length states → state_at (states ++ state ∷ []) i ≡ state
newest states state i last = rw last (get_or-append_seam states state [] blank)

-- none is made
pub made_none : AreMadeConsumers [] 0
made_none = record {
  count = refl;
  group = λ i aggs below. absurd (omega (arith, below));
  order = λ i below. absurd (omega (arith, below));
}

-- one more that groups
pub made_group : (states : List State) (state : State) (made : ℕ) → AreMadeConsumers states made → made < 8
    → ((aggs : List Agg) → state.serves (Group aggs) ≡ true) → AreMadeConsumers (states ++ state ∷ []) (made + 1)
made_group states state made are few serves = record {
  count = omega (arith, are.count, length-append states (state ∷ []));
  group = λ i aggs below first. elim (cases_lt i made) [
    | inl before ↦ rw (earlier states state i (omega (arith, are.count))) (are.group i aggs before first)
    | inr last ↦ rw (newest states state i (omega (arith, are.count))) (serves aggs)
  ];
  order = λ i below second. absurd (omega (arith, below, second, few));
}

-- one more that orders
pub made_order : (states : List State) (state : State) (made more : ℕ) → AreMadeConsumers states made → 8 ≤ made → more ≡ made + 1
    → state.serves Order ≡ true → AreMadeConsumers (states ++ state ∷ []) more
made_order states state made more are many next serves = record {
  count = omega (arith, are.count, length-append states (state ∷ []), next);
  group = λ i aggs below first. rw (earlier states state i (omega (arith, are.count, many, first))) (are.group i aggs (omega (arith, many, first)) first);
  order = λ i below second. elim (cases_lt i made) [
    | inl before ↦ rw (earlier states state i (omega (arith, are.count))) (are.order i before second)
    | inr last ↦ rw (newest states state i (omega (arith, are.count, next))) serves
  ];
}

-- all are made
pub made_all : (states : List State) → AreMadeConsumers states 16 → HasConsumers states
made_all states are = record {
  count = are.count;
  group = λ i aggs first. are.group i aggs (omega arith) first;
  order = λ i second below. are.order i below second;
}
