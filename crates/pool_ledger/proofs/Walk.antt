-- One task's bytes and its activity, entry by entry over a journal.
use Rattle.std.proofs.Common.{◌≡◌, ℕ, ◌+◌, ◌-◌, ◌≤◌, ◌<◌, ◌^◌, cond, inl, inr, List, ◌∷◌, get_or, length, sym, ap, subst, ◌∙◌, arith}
use Rattle.std.specs.Prelude.{reverse, nat_eq}
use Rattle.std.proofs.lemmas.Bool.{cases_eq, cond-true, cond-false, eq-eqb, ne_eqb}
use Rattle.pool_ledger.specs.declared.entry.Entry.{Entry}
use Rattle.pool_ledger.specs.declared.entry.Event.{Event}
use Rattle.pool_ledger.specs.declared.entry.Event.TheVariants.{Attempt, Release, End}
use Rattle.pool_ledger.specs.Sizes.{Sizes, IsInRange}
use Rattle.pool_ledger.specs.History.{History, granted_by, freed_by, held, is_active, active_after, maximum}
use Rattle.pool_ledger.specs.Journal.{after}
use Rattle.pool_ledger.specs.Recorded.{CanCome, IsRecorded}
use Rattle.pool_ledger.proofs.Tasks.{entry_of, freed_fits}
use Rattle.pool_ledger.proofs.Bounds.{held_within, exec_within, maximum_within}
use Rattle.pool_ledger.proofs.Prefixes.{recorded_after, after-more}

-- what an event does to what a task holds
held-more : (s : Sizes) (h : History) (entry : Entry) → IsRecorded s h → (t : ℕ) → held (entry ∷ h) t ≡ held h t + granted_by t entry.event - freed_by t entry.event
held-more s h entry r t = omega (arith, freed_fits s h r t)

of_task : (holds : ℕ → ℕ) (task t freed : ℕ) → freed ≤ holds task → cond (nat_eq task t) freed 0 ≤ holds t
of_task holds task t freed fits = elim (cases_eq task t) [
  | inl same ↦ rw (cond-true {A = ℕ} (nat_eq task t) freed 0 (eq-eqb task t same)) (subst (λ v. freed ≤ holds v) same fits)
  | inr other ↦ rw (cond-false {A = ℕ} (nat_eq task t) freed 0 (ne_eqb task t other)) (omega arith)
]

frees_fit-more : (s : Sizes) (h : History) (v : ℕ) (e : Event) → CanCome s h v e → (t : ℕ) → freed_by t e ≤ held h t
frees_fit-more s h v (Release task freed) can t = of_task (held h) task t freed can.holds
frees_fit-more s h v (End task freed) can t = of_task (held h) task t freed can.holds
frees_fit-more s h v _ can t = omega arith

grants_fit-more : (s : Sizes) (h : History) (v : ℕ) (e : Event) (t : ℕ) → held h t ≤ maximum s h → held (entry_of v e ∷ h) t ≤ maximum s (entry_of v e ∷ h) → held (entry_of v e ∷ h) t ≡ held h t + granted_by t e - freed_by t e → held h t + granted_by t e ≤ maximum s h
grants_fit-more s h v (Attempt task asked moved evictions got) t before now is = omega (arith, now, is)
grants_fit-more s h v _ t before now is = omega (arith, before)

-- at each place of a journal: what one task has then, and after the entry there
module _ (s : Sizes) (n : ℕ) (journal : List Entry) (any : Entry) (t : ℕ) (below : n < length journal) (h : History) (whole : reverse journal ≡ h) (recorded : IsRecorded s h) (range : IsInRange s.maximum s.region s.workers) where
  all : IsRecorded s (reverse journal)
  all = subst (IsRecorded s) (sym whole) recorded

  next : IsRecorded s (get_or journal n any ∷ after n journal)
  next = subst (IsRecorded s) (after-more n journal any below) (recorded_after s (n + 1) journal all)

  pub frees_fit : freed_by t (get_or journal n any).event ≤ held (after n journal) t
  frees_fit = frees_fit-more s (after n journal) (get_or journal n any).worker (get_or journal n any).event next.1.event_fits t

  pub grants_fit : held (after n journal) t + granted_by t (get_or journal n any).event < 2 ^ 64
  grants_fit =
      let g = after n journal in
      let e = get_or journal n any in
      let before : held g t ≤ maximum s g = omega (arith, held_within s g next.0 t, exec_within s g next.0) in
      let now : held (e ∷ g) t ≤ maximum s (e ∷ g) = omega (arith, held_within s (e ∷ g) next t, exec_within s (e ∷ g) next) in
      omega (arith, grants_fit-more s g e.worker e.event t before now (held-more s g e next.0 t), maximum_within s g range.maximum_small next.0)

  pub held_at : held (after (n + 1) journal) t ≡ held (after n journal) t + granted_by t (get_or journal n any).event - freed_by t (get_or journal n any).event
  held_at = ap (λ g. held g t) (after-more n journal any below) ∙ held-more s (after n journal) (get_or journal n any) next.0 t

  pub active_at : (x : ℕ) → x ≡ held (after (n + 1) journal) t → active_after t (get_or journal n any).event (is_active (after n journal) t) x ≡ is_active (after (n + 1) journal) t
  active_at x is =
      let e = get_or journal n any in
      let g = after n journal in
      ap (active_after t e.event (is_active g t)) (is ∙ ap (λ k. held k t) (after-more n journal any below)) ∙ ap (λ k. is_active k t) (sym (after-more n journal any below))
