-- Each task is begun at most once, and ended at most once, after its begin; no worker has an ended task open.
use Rattle.std.proofs.Common.{◌≡◌, ◌≢◌, ℕ, ◌+◌, ◌≤◌, ◌<◌, Bool, true, false, cond, ◌||◌, Some, [], ◌∷◌, refl, ap, subst, ◌∙◌, arith, inl, inr}
use Rattle.std.specs.Prelude.{nat_eq}
use Rattle.std.proofs.lemmas.Bool.{cases_eq, eq-eqb, ne_eqb, cond-true, cond-false}
use Rattle.std.proofs.lemmas.Bool.Decides.{nat_tests}
use Rattle.pool_ledger.specs.declared.entry.Event.{Event}
use Rattle.pool_ledger.specs.declared.entry.Event.TheVariants.{Begin, Attempt, Release, End}
use Rattle.pool_ledger.specs.Sizes.{Sizes}
use Rattle.pool_ledger.specs.History.{History, was_begun, open_task, begins, ends}
use Rattle.pool_ledger.specs.Recorded.{CanCome, IsRecorded}
use Rattle.pool_ledger.proofs.Tasks.{entry_of, open_was_begun, opened_once}

-- the count of begins is 1 where the task was begun, else 0
begun_count-at : (task t n : ℕ) (old : Bool) → n ≡ cond old 1 0 → (task ≡ t → old ≡ false) → n + cond (nat_eq task t) 1 0 ≡ cond (nat_eq task t || old) 1 0
begun_count-at task t n old is new = elim (cases_eq task t) [
  | inl same ↦ rw (eq-eqb task t same) (omega (arith, is, cond-false {A = ℕ} old 1 0 (new same)))
  | inr other ↦ rw (ne_eqb task t other) (omega (arith, is))
]

begun_count-more : (s : Sizes) (h : History) (v : ℕ) (e : Event) → CanCome s h v e → (t : ℕ) → begins h t ≡ cond (was_begun h t) 1 0 → begins (entry_of v e ∷ h) t ≡ cond (was_begun (entry_of v e ∷ h) t) 1 0
begun_count-more s h v (Begin task) can t before = begun_count-at task t (begins h t) (was_begun h t) before (λ same. subst (λ u. was_begun h u ≡ false) same can.new)
begun_count-more s h v _ can t before = omega (arith, before)

pub begun_count : (s : Sizes) (h : History) → IsRecorded s h → (t : ℕ) → begins h t ≡ cond (was_begun h t) 1 0
begun_count s [] r t = refl
begun_count s (entry ∷ h) r t = begun_count-more s h entry.worker entry.event r.1.event_fits t (begun_count s h r.0 t)

one_or_none : (b : Bool) → cond b 1 0 ≤ 1
one_or_none true = omega arith
one_or_none false = omega arith

pub begun_once : (s : Sizes) (h : History) → IsRecorded s h → (t : ℕ) → begins h t ≤ 1
begun_once s h r t = omega (arith, begun_count s h r t, one_or_none (was_begun h t))

-- what is known of a task's ends
pub record EndsFit (h : History) (t : ℕ) : Type 0 where
  pub within : ends h t ≤ begins h t
  pub open_unended : (w : ℕ) → open_task h w ≡ Some t → ends h t ≡ 0

ends_fit-more : (s : Sizes) (h : History) (v : ℕ) (e : Event) → IsRecorded s h → CanCome s h v e → (t : ℕ) → EndsFit h t → EndsFit (entry_of v e ∷ h) t
ends_fit-more s h v (Begin task) r can t before = record {
  within = omega (arith, before.within);
  open_unended = λ w now. elim (cases_eq task t) [
    | inl same ↦
        let new : was_begun h t ≡ false = subst (λ u. was_begun h u ≡ false) same can.new in
        omega (arith, before.within, begun_count s h r t, cond-false {A = ℕ} (was_begun h t) 1 0 new)
    | inr other ↦
        let old : open_task h w ≡ Some t = grind (arith, nat_tests, now, other) in
        omega (arith, before.open_unended w old)
  ];
}
ends_fit-more s h v (End task freed) r can t before = elim (cases_eq task t) [
  | inl same ↦
      let now : open_task h v ≡ Some t = can.open_now ∙ ap Some same in
      let mark : cond {A = ℕ} (nat_eq task t) 1 0 ≡ 1 = cond-true {A = ℕ} (nat_eq task t) 1 0 (eq-eqb task t same) in
      record {
        within = omega (arith, mark, before.open_unended v now, begun_count s h r t, cond-true {A = ℕ} (was_begun h t) 1 0 (open_was_begun s h r v t now));
        open_unended = λ w later.
            elim (cases_eq v w) [
              | inl here ↦ grind (arith, nat_tests, later, here)
              | inr there ↦
                  let old : open_task h w ≡ Some t = grind (arith, nat_tests, later, there) in
                  absurd (there (opened_once s h r v w t now old))
            ];
      }
  | inr other ↦
      let mark : cond {A = ℕ} (nat_eq task t) 1 0 ≡ 0 = cond-false {A = ℕ} (nat_eq task t) 1 0 (ne_eqb task t other) in
      record {
        within = omega (arith, mark, before.within);
        open_unended = λ w later.
            let old : open_task h w ≡ Some t = grind (arith, nat_tests, later) in
            omega (arith, mark, before.open_unended w old);
      }
]
ends_fit-more s h v (Attempt task asked moved evictions got) r can t before = record {
  within = omega (arith, before.within);
  open_unended = λ w later. let old : open_task h w ≡ Some t = grind (arith, nat_tests, later) in omega (arith, before.open_unended w old);
}
ends_fit-more s h v (Release task freed) r can t before = record {
  within = omega (arith, before.within);
  open_unended = λ w later. let old : open_task h w ≡ Some t = grind (arith, nat_tests, later) in omega (arith, before.open_unended w old);
}
ends_fit-more s h v _ r can t before = record {
  within = omega (arith, before.within);
  open_unended = λ w later. let old : open_task h w ≡ Some t = grind (arith, nat_tests, later) in omega (arith, before.open_unended w old);
}

pub ends_fit : (s : Sizes) (h : History) → IsRecorded s h → (t : ℕ) → EndsFit h t
ends_fit s [] r t = record { within = omega arith; open_unended = λ w now. refl }
ends_fit s (entry ∷ h) r t = ends_fit-more s h entry.worker entry.event r.0 r.1.event_fits t (ends_fit s h r.0 t)

-- no worker has an ended task open
pub ended_is_closed : (s : Sizes) (h : History) → IsRecorded s h → (t : ℕ) → 0 < ends h t → (w : ℕ) → open_task h w ≢ Some t
ended_is_closed s h r t ended w now = absurd (omega (arith, ended, (ends_fit s h r t).open_unended w now))
