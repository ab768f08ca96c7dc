-- A spill of one of a list of consumers, seen in the lists of their states and runs.
use Rattle.std.proofs.Common.{◌≡◌, ◌≢◌, inl, inr, ℕ, ◌+◌, ◌<◌, ◌≤◌, List, [], ◌∷◌, ◌++◌, Option, Some, None, length, map, get_or, set, refl, sym, ap, subst, ◌∙◌, arith, append_assoc, append-nil, length-append}
use Rattle.std.specs.Prelude.{IsSome, is_some}
use Rattle.std.proofs.lemmas.Bool.{false≢true}
use Rattle.std.proofs.lemmas.List.Sums.{sum_by-set}
use Rattle.std.proofs.lemmas.List.{map-set, get_or-map, length-map, length-set, get_or-set_same, get_or-set_other}
use Rattle.aggregate.specs.declared.kind.Kind.{Kind}
use Rattle.aggregate.specs.Totals.{Entry}
use Rattle.spill_disk.specs.Files.{Files}
use Rattle.run_file.specs.declared.run.Run.{Run}
use Rattle.consumer_trait.specs.States.{State, total_by}
use Rattle.consumer_trait.specs.Members.{blank, state_at}
use Rattle.task_memory.specs.declared.spill.Pause.{Pause}
use Rattle.task_memory.specs.declared.spill.Pause.TheVariants.{Asks, Ended}
use Rattle.task_memory.specs.Disks.{KeepsFiles}
use Rattle.task_memory.specs.Ending.{runs_after}
use Rattle.task_memory.specs.Pauses.{Spilled, Pauses}
use Rattle.task_memory.specs.RunLists.{runs_at, runs_in, spilled_at, gathered_total, IsRunOf}
use Rattle.task_memory.specs.Serving.{KeepsRuns, SpillsAt}
use Rattle.task_memory.specs.Writing.{OnlyAdds, WritesRun}
use Rattle.task_memory.proofs.Midways.{total-append}
use Rattle.task_memory.proofs.Places.{at_or_not}
use Rattle.task_memory.proofs.Holding.{prefix_self, added_none, only_none}
use Rattle.task_memory.proofs.AddingRuns.{with_run, bounded_more, grow_more, added_more, only_more}
use Rattle.task_memory.proofs.HeldRuns.{hold_same, hold_more}

-- no entry of one consumer is lost
one_total : (old new : State) (front written : List Entry) → Spilled old new written → total_by new.kind ((front ++ written) ++ new.entries) ≡ total_by old.kind (front ++ old.entries)
one_total old new front written h =
    ap (λ (kind : Option Kind). total_by kind ((front ++ written) ++ new.entries)) h.same.kind
    ∙ ap (total_by old.kind) (append_assoc front written new.entries)
    ∙ total-append old.kind front (written ++ new.entries) old.entries h.total

-- nor of any, where what the one wrote stands behind what it spilled before
all_totals : (states : List State) (i : ℕ) (state : State) (spilled spilled' : List (List Entry)) (written : List Entry) → i < length states → Spilled (state_at states i) state written → spilled_at spilled' i ≡ spilled_at spilled i ++ written → ((j : ℕ) → j ≢ i → spilled_at spilled' j ≡ spilled_at spilled j) → (j : ℕ) → gathered_total (set states i state) spilled' j ≡ gathered_total states spilled j
all_totals states i state spilled spilled' written within h here others j = elim (at_or_not j i) [
  | inl e ↦ rw (e, get_or-set_same states i state blank within, here) (one_total (state_at states i) state (spilled_at spilled i) written h)
  | inr ne ↦ rw (get_or-set_other states i j state blank ne, others j ne) refl
]

keeps_same : (before after : Option Files) (states : List State) (i : ℕ) (state : State) (runs : List (List Run)) (written : List Entry) → i < length states → Spilled (state_at states i) state written → KeepsFiles before after → written ≡ [] → after ≡ before → KeepsRuns before after states (set states i state) runs runs
keeps_same before after states i state runs written within h kept none same = record {
  lengths = refl;
  bounded = λ all. all;
  grow = λ j. prefix_self (runs_at runs j);
  totals = λ spilled hold. (
    spilled,
    hold_same before after states i state runs spilled h.same.kind kept hold,
    λ j lt. all_totals states i state spilled spilled written within h (sym (append-nil (spilled_at spilled i)) ∙ ap (λ (w : List Entry). spilled_at spilled i ++ w) (sym none)) (λ k ne. refl) j,
  );
  stay = kept;
  added = added_none before runs;
  only = subst (λ (files : Option Files). OnlyAdds before files runs runs) (sym same) (only_none before runs runs);
  unbegun = λ j none. refl;
  idle = λ j none. refl;
}

-- a consumer that was begun isn't one that wasn't
begun_or_not : (kind : Option Kind) → IsSome kind → kind ≡ None → ⊥
begun_or_not kind begun none = false≢true (sym (ap is_some none) ∙ begun)

keeps_more : (before after : Option Files) (states : List State) (i : ℕ) (state : State) (runs : List (List Run)) (run : Run) (written : List Entry) → i < length states → (state_at states i).entries ≢ [] → IsSome (state_at states i).kind → length runs ≡ length states → Spilled (state_at states i) state written → KeepsFiles before after → WritesRun before after (state_at states i).kind (Some run) written → KeepsRuns before after states (set states i state) runs (with_run runs i run)
keeps_more before after states i state runs run written within some begun lists h kept wrote =
    let in_runs : i < length runs = omega arith in
    record {
      lengths = length-set runs i (runs_at runs i ++ run ∷ []);
      bounded = bounded_more runs i run in_runs wrote.0;
      grow = grow_more runs i run in_runs;
      totals = λ spilled hold.
          let in_spilled : i < length spilled = let lengths = hold.lengths in omega arith in
          let one : IsRunOf after state.kind run written = subst (λ (kind : Option Kind). IsRunOf after kind run written) (sym h.same.kind) (wrote.2 hold.shown) in (
            set spilled i (spilled_at spilled i ++ written),
            hold_more before after states i state runs spilled run written within h.same.kind kept wrote.1 one hold,
            λ j lt. all_totals states i state spilled (set spilled i (spilled_at spilled i ++ written)) written within h (get_or-set_same spilled i (spilled_at spilled i ++ written) [] in_spilled) (λ k ne. get_or-set_other spilled i k (spilled_at spilled i ++ written) [] ne) j,
          );
      stay = kept;
      added = added_more before runs i run in_runs wrote.1;
      only = only_more before after runs i run in_runs wrote.3;
      unbegun = λ j none. get_or-set_other runs i j (runs_at runs i ++ run ∷ []) [] (λ here. begun_or_not (state_at states i).kind begun (subst (λ (place : ℕ). (state_at states place).kind ≡ None) here none));
      idle = λ j none. get_or-set_other runs i j (runs_at runs i ++ run ∷ []) [] (λ here. some (subst (λ (place : ℕ). (state_at states place).entries ≡ []) here none));
    }

keeps_runs : (before after : Option Files) (states : List State) (i : ℕ) (state : State) (runs : List (List Run)) (given : ℕ) (run : Option Run) (written : List Entry) → i < length states → (state_at states i).entries ≢ [] → IsSome (state_at states i).kind → length runs ≡ length states → Spilled (state_at states i) state written → KeepsFiles before after → WritesRun before after (state_at states i).kind run written → KeepsRuns before after states (set states i state) runs (runs_after runs i (Ended given run))
keeps_runs before after states i state runs given None written within some begun lists h kept wrote = keeps_same before after states i state runs written within h kept wrote.0 wrote.1
keeps_runs before after states i state runs given (Some run) written within some begun lists h kept wrote = keeps_more before after states i state runs run written within some begun lists h kept wrote

-- a spill that ended adds one run at most
one_more : (runs : List (List Run)) (i freed : ℕ) (run : Option Run) → i < length runs → runs_in (runs_after runs i (Ended freed run)) ≤ runs_in runs + 1
one_more runs i freed None within = omega arith
one_more runs i freed (Some run) within =
    let longer : List Run = runs_at runs i ++ run ∷ [] in
    let count : length longer ≡ length (runs_at runs i) + 1 = length-append (runs_at runs i) (run ∷ []) in
    let sum : runs_in (set runs i longer) + length (runs_at runs i) ≡ runs_in runs + length longer = sum_by-set length runs i longer [] within in
    omega (arith, sum, count)

-- in a list of states
spills_in : (before after : Option Files) (states : List State) (i : ℕ) (state : State) (runs : List (List Run)) (given : ℕ) (pause : Pause) → i < length states → (state_at states i).entries ≢ [] → IsSome (state_at states i).kind → length runs ≡ length states → KeepsFiles before after → Pauses (state_at states i) state before after given pause → SpillsAt before after states (set states i state) runs (runs_after runs i pause) i given pause
spills_in before after states i state runs given (Asks bytes freed) within some begun lists kept h =
    let it : state_at (set states i state) i ≡ state = get_or-set_same states i state blank within in
    record {
      asks = rw it h.0;
      others = ap (set states i) (sym it);
      same_files = h.1;
      same_runs = refl;
    }
spills_in before after states i state runs given (Ended freed run) within some begun lists kept h =
    let it : state_at (set states i state) i ≡ state = get_or-set_same states i state blank within in
    record {
      ends = rw it h;
      others = ap (set states i) (sym it);
      kept = keeps_runs before after states i state runs freed run h.written within some begun lists h.spilled kept h.wrote;
      one = one_more runs i freed run (omega (arith, lists));
    }

-- in a list of consumers
pub spills_at_is : {A : Type 0} (state_of : A → State) (consumers : List A) (i : ℕ) (old new : A) (before after : Option Files) (runs : List (List Run)) (given : ℕ) (pause : Pause) → i < length consumers → (state_at (map state_of consumers) i).entries ≢ [] → IsSome (state_at (map state_of consumers) i).kind → length runs ≡ length consumers → KeepsFiles before after → Pauses (state_of (get_or consumers i old)) (state_of new) before after given pause → SpillsAt before after (map state_of consumers) (map state_of (set consumers i new)) runs (runs_after runs i pause) i given pause
spills_at_is state_of consumers i old new before after runs given pause within some begun lists kept h =
    let same_length = length-map consumers state_of in
    rw (map-set state_of consumers i new) (spills_in before after (map state_of consumers) i (state_of new) runs given pause (omega arith) some begun (lists ∙ sym same_length) kept (rw (get_or-map state_of consumers i old blank within) h))
