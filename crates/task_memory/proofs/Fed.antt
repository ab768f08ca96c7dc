-- Feeding, from what the consumer and the acquires say.
use Rattle.std.proofs.Common.{◌≡◌, ◌≢◌, ℕ, ◌+◌, ◌-◌, ◌<◌, ◌^◌, min, List, [], ◌∷◌, ◌++◌, length, set, refl, sym, ap, subst, ◌∙◌, arith, append_assoc, Option, inl, inr}
use Rattle.std.specs.Prelude.{IsSome}
use Rattle.std.proofs.lemmas.List.{get_or-set_other, length-set, set-get_or}
use Rattle.std.proofs.lemmas.List.Sums.{sum_by-set}
use Rattle.aggregate.specs.declared.kind.Kind.{Kind}
use Rattle.aggregate.specs.Totals.{Entry, TotalsStayEqual}
use Rattle.consumer_trait.specs.States.{State, total_by}
use Rattle.consumer_trait.specs.Members.{blank, state_at, OnlyAt}
use Rattle.consumer_trait.specs.Calls.{Takes}
use Rattle.task_memory.specs.RunLists.{spilled_at, gathered}
use Rattle.task_memory.specs.Stacks.{Stack, ArePicks, AreBegun, IsPick, used_by}
use Rattle.task_memory.specs.Asking.{IsReady}
use Rattle.task_memory.specs.Feeding.{FeedsTotals, FedTo, Raises}
use Rattle.task_memory.proofs.Places.{at_or_not, same_field}
use Rattle.task_memory.proofs.Sameness.{files_self, files_trans}
use Rattle.task_memory.proofs.Keeping.{kept_self, keeps_one_trans}
use Rattle.task_memory.proofs.Holding.{grow_self, grow_trans, added_none, added_trans, only_none, only_trans, still_unbegun}
use Rattle.task_memory.proofs.LongerTotals.{behind_by, with_last_by, total_not_none}

taken_picks : (picks : List ℕ) (states states' : List State) (place : ℕ) → IsPick picks place → length states' ≡ length states → ((j : ℕ) → j ≢ place → state_at states' j ≡ state_at states j) → ArePicks picks states → ArePicks picks states'
taken_picks picks states states' place pick consumers others picked = record {
  within = λ j below. let within = picked.within j below in omega (arith, consumers);
  inert = λ i below apart. elim (at_or_not i place) [
    | inl here ↦ absurd (apart pick.consumer pick.within (pick.there ∙ sym here))
    | inr other ↦ ap (λ (state : State). state.entries) (others i other) ∙ picked.inert i (omega (arith, consumers)) apart
  ];
}

taken_begun : (states states' : List State) (place : ℕ) → IsSome (state_at states' place).kind → length states' ≡ length states → ((j : ℕ) → j ≢ place → state_at states' j ≡ state_at states j) → AreBegun states → AreBegun states'
taken_begun states states' place kind consumers others begun = λ i below some. elim (at_or_not i place) [
  | inl here ↦ rw here kind
  | inr other ↦
      subst (λ (state : State). IsSome state.kind) (sym (others i other))
      (begun i (omega (arith, consumers)) (λ none. some (ap (λ (state : State). state.entries) (others i other) ∙ none)))
]

-- the total of what the consumer was fed, with the entry
taken_total : ((kind : Kind) → TotalsStayEqual kind) → (old new : State) (spilled : List Entry) (entry : Entry) → new.kind ≡ old.kind → total_by old.kind new.entries ≡ total_by old.kind (old.entries ++ (entry ∷ [])) → total_by new.kind (spilled ++ new.entries) ≡ total_by old.kind ((spilled ++ old.entries) ++ (entry ∷ []))
taken_total laws old new spilled entry kind same =
    ap (λ (each : Option Kind). total_by each (spilled ++ new.entries)) kind
    ∙ behind_by laws old.kind spilled new.entries (old.entries ++ (entry ∷ [])) same
    ∙ ap (λ (list : List Entry). total_by old.kind list) (sym (append_assoc spilled old.entries (entry ∷ [])))

-- an entry that was taken at once
pub fed_taken : (old : Stack) (states : List State) (place : ℕ) (entry : Entry) → ((kind : Kind) → TotalsStayEqual kind) → IsPick old.picks place → IsReady old → place < length old.states → IsSome (state_at old.states place).kind → OnlyAt old.states states place → Takes (state_at old.states place) (state_at states place) entry → FedTo old (record old { states = states }) place entry
fed_taken old states place entry laws pick ready within begun only takes =
    let before = state_at old.states place in
    let after = state_at states place in
    let kind : after.kind ≡ before.kind = ap (λ (state : State). state.kind) takes.same in
    let stage : after.stage ≡ before.stage = ap (λ (state : State). state.stage) takes.same in
    let used : after.used ≡ before.used = ap (λ (state : State). state.used) takes.same in
    let consumers : length states ≡ length old.states = ap (λ (list : List State). length list) only ∙ length-set old.states place after in
    let others : (j : ℕ) → j ≢ place → state_at states j ≡ state_at old.states j = λ j other. ap (λ (list : List State). state_at list j) only ∙ get_or-set_other old.states place j after blank other in
    let sum : used_by states + before.used ≡ used_by old.states + after.used = ap (λ (list : List State). used_by list + before.used) only ∙ sum_by-set (λ (state : State). state.used) old.states place after blank within in
    let kinds : (i : ℕ) → (state_at states i).kind ≡ (state_at old.states i).kind = λ i. ap (λ (list : List State). (state_at list i).kind) only ∙ same_field (λ (state : State). state.kind) old.states place after blank i kind in
    let stages : (i : ℕ) → (state_at states i).stage ≡ (state_at old.states i).stage = λ i. ap (λ (list : List State). (state_at list i).stage) only ∙ same_field (λ (state : State). state.stage) old.states place after blank i stage in
    record {
      consumers = consumers;
      picks = refl;
      others = λ j below other. rw (others j other) (kept_self (state_at old.states j));
      takes = record {
        kind = kind;
        least = ap (λ (state : State). state.least) takes.same;
        serves = ap (λ (state : State). state.serves) takes.same;
        fed = ap (λ (state : State). state.fed) takes.same;
        enough = takes.enough;
        some = total_not_none before.kind after.entries before.entries entry takes.total;
      };
      lengths = refl;
      grow = grow_self old.runs;
      totals = λ spilled hold. (
        spilled,
        record {
          shown = hold.shown;
          lists = hold.lists ∙ sym consumers;
          lengths = hold.lengths ∙ sym consumers;
          each = λ i below. rw (kinds i) (hold.each i (omega (arith, consumers)));
          apart = hold.apart;
        },
        (λ i below other. rw (others i other) refl),
        taken_total laws before after (spilled_at spilled place) entry kind takes.total,
      );
      stay = files_self old.files;
      added = added_none old.files old.runs;
      shorts = omega arith;
      ready = record {
        lengths = ready.lengths ∙ sym consumers;
        bounded = ready.bounded;
        picked = taken_picks old.picks old.states states place pick consumers others ready.picked;
        begun = taken_begun old.states states place (subst (λ (each : Option Kind). IsSome each) (sym kind) begun) consumers others ready.begun;
        rests = λ i below. stages i ∙ ready.rests i (omega (arith, consumers));
        covered = omega (arith, ready.covered, sum, used);
        small = ready.small;
        counted = ready.counted;
        shallow = omega (arith, ready.shallow, consumers);
      };
      balance = omega (arith, sum, used);
      only = only_none old.files old.runs old.runs;
      unbegun = λ i none. refl;
    }

-- totals through an acquire and a feed after it
after_totals : (old mid new : Stack) (place must : ℕ) (entry : Entry) → ((kind : Kind) → TotalsStayEqual kind) → place < length old.states → Raises old mid place must → FedTo mid new place entry → FeedsTotals old new place entry
after_totals old mid new place must entry laws within raises fed = λ spilled hold.
    let first = raises.runs.totals spilled hold in
    let then = fed.totals first.0 first.1 in
    let kind = raises.raised.same.kind in
    let before = state_at old.states place in
    let after = state_at mid.states place in
    let earlier : total_by before.kind (gathered mid.states first.0 place) ≡ total_by before.kind (gathered old.states spilled place) =
    subst (λ (each : Option Kind). total_by each (gathered mid.states first.0 place) ≡ total_by before.kind (gathered old.states spilled place)) kind (first.2 place within) in (
      then.0,
      then.1,
      (λ i below other. then.2 i (let consumers = raises.consumers in omega arith) other ∙ first.2 i below),
      then.3
          ∙ ap (λ (each : Option Kind). total_by each (gathered mid.states first.0 place ++ (entry ∷ []))) kind
          ∙ with_last_by laws before.kind (gathered mid.states first.0 place) (gathered old.states spilled place) entry earlier,
    )

-- an entry that was taken after an acquire
pub fed_after : (old mid new : Stack) (place must : ℕ) (entry : Entry) → ((kind : Kind) → TotalsStayEqual kind) → place < length old.states → Raises old mid place must → FedTo mid new place entry → FedTo old new place entry
fed_after old mid new place must entry laws within raises fed =
    let same = raises.raised.same in
    let consumers = raises.consumers in
    let kinds : (i : ℕ) → i < length old.states → (state_at mid.states i).kind ≡ (state_at old.states i).kind = λ i below. elim (at_or_not i place) [
      | inl here ↦ rw here same.kind
      | inr other ↦ (raises.others i below other).same.kind
    ] in
    record {
      consumers = fed.consumers ∙ consumers;
      picks = fed.picks ∙ raises.picks;
      others = λ j below other. keeps_one_trans (state_at old.states j) (state_at mid.states j) (state_at new.states j) (raises.others j below other) (fed.others j (omega arith) other);
      takes = record {
        kind = fed.takes.kind ∙ same.kind;
        least = fed.takes.least ∙ same.least;
        serves = fed.takes.serves ∙ same.serves;
        fed = fed.takes.fed ∙ ap (λ (n : ℕ). min (n + 1) (2 ^ 64 - 1)) same.fed;
        enough = fed.takes.enough;
        some = fed.takes.some;
      };
      lengths = fed.lengths ∙ raises.runs.lengths;
      grow = grow_trans old.runs mid.runs new.runs raises.runs.grow fed.grow;
      totals = after_totals old mid new place must entry laws within raises fed;
      stay = files_trans old.files mid.files new.files raises.runs.stay fed.stay;
      added = added_trans old.files mid.files old.runs mid.runs new.runs raises.runs.stay fed.grow raises.runs.added fed.added;
      shorts = omega (arith, raises.shorts, fed.shorts);
      ready = fed.ready;
      balance = omega (arith, raises.balance, fed.balance);
      only = only_trans old.files mid.files new.files old.runs mid.runs new.runs raises.runs.stay raises.runs.grow fed.grow raises.runs.only fed.only;
      unbegun = λ i none. fed.unbegun i (still_unbegun old.states mid.states consumers kinds i none) ∙ raises.runs.unbegun i none;
    }

-- a need changes nothing
pub unchanged : (states states' : List State) (place : ℕ) → OnlyAt states states' place → state_at states' place ≡ state_at states place → states' ≡ states
unchanged states states' place only same = only ∙ ap (λ (state : State). set states place state) same ∙ set-get_or states place blank
