-- No more tasks are active than there are workers.
use Rattle.std.proofs.Common.{◌≡◌, ◌≢◌, ℕ, suc, zero, ◌+◌, ◌≤◌, ◌<◌, Bool, true, false, cond, Option, Some, None, List, [], ◌∷◌, sum_by, refl, sym, ap, ◌∙◌, arith}
use Rattle.std.specs.List.{list_any}
use Rattle.std.specs.Prelude.{nat_eq}
use Rattle.std.proofs.lemmas.List.Sums.{sum_by-cons}
use Rattle.std.proofs.lemmas.Bool.{eq-eqb, cond-false}
use Rattle.std.proofs.lemmas.Bool.Decides.{nat_tests}
use Rattle.pool_ledger.specs.declared.entry.Entry.{Entry}
use Rattle.pool_ledger.specs.declared.entry.Event.{Event}
use Rattle.pool_ledger.specs.declared.entry.Event.TheVariants.{Begin, Attempt, Release, End, Evict, Admit, Refused, Pin, Unpin, Remove, Grow}
use Rattle.pool_ledger.specs.Sizes.{Sizes}
use Rattle.pool_ledger.specs.History.{History, is_active, active, begun, open_task, task_after}
use Rattle.pool_ledger.specs.Recorded.{CanCome, IsRecorded}
use Rattle.pool_ledger.proofs.Sums.{IsDistinct, sum_by-change}
use Rattle.pool_ledger.proofs.Tasks.{entry_of, untouched, active-Begin, active-Attempt, active-Release, active-same, held-Release, is_active-Attempt, is_active-Release}
use Rattle.pool_ledger.proofs.Seats.{StaysSame, other_task}
use Rattle.pool_laws.proofs.Ends.{FreesAll, EndsFreeAll}

-- the numbers below n
abbrev pub below : ℕ → List ℕ
below zero = []
below (suc n) = n ∷ below n

below_absent : (n x : ℕ) → n ≤ x → list_any (λ y. nat_eq y x) (below n) ≡ false
below_absent zero x le = refl
below_absent (suc n) x le = grind (arith, nat_tests, below_absent n x)

pub below_present : (n x : ℕ) → x < n → list_any (λ y. nat_eq y x) (below n) ≡ true
below_present zero x lt = absurd (omega arith)
below_present (suc n) x lt = grind (arith, nat_tests, below_present n x)

pub below_distinct : (n : ℕ) → IsDistinct (below n)
below_distinct zero = tt
below_distinct (suc n) = (below_absent n n (omega arith), below_distinct n)

-- 1 for a worker whose task is active
task_mark : History → Option ℕ → ℕ
task_mark h None = 0
task_mark h (Some t) = cond (is_active h t) 1 0

worker_mark : History → ℕ → ℕ
worker_mark h w = task_mark h (open_task h w)

mark_small : (b : Bool) → cond b 1 0 ≤ 1
mark_small true = omega arith
mark_small false = omega arith

task_mark_small : (h : History) (o : Option ℕ) → task_mark h o ≤ 1
unfolding task_mark
task_mark_small h None = omega arith
task_mark_small h (Some t) = mark_small (is_active h t)

marks_small : (h : History) (n : ℕ) → sum_by (worker_mark h) (below n) ≤ n
unfolding worker_mark
marks_small h zero = omega arith
marks_small h (suc n) = omega (arith, sum_by-cons (worker_mark h) n (below n), marks_small h n, task_mark_small h (open_task h n))

task_mark-same : (h : History) (e : Entry) (o : Option ℕ) → ((u : ℕ) → o ≡ Some u → StaysSame h e u) → task_mark (e ∷ h) o ≡ task_mark h o
unfolding task_mark
task_mark-same h e None same = refl
task_mark-same h e (Some u) same = ap (λ b. cond b 1 0) (same u refl).active_same

worker_mark-other : (s : Sizes) (h : History) (v : ℕ) (e : Event) → IsRecorded s h → CanCome s h v e → (w : ℕ) → w ≢ v → worker_mark (entry_of v e ∷ h) w ≡ worker_mark h w
unfolding worker_mark
worker_mark-other s h v e r can w n =
    let skip : open_task (entry_of v e ∷ h) w ≡ open_task h w = grind (arith, nat_tests, n) in
    ap (task_mark (entry_of v e ∷ h)) skip ∙ task_mark-same h (entry_of v e) (open_task h w) (λ u now. other_task s h v e r can w u n now)

-- what an event of a worker changes
marks-more : (s : Sizes) (h : History) (v : ℕ) (e : Event) → IsRecorded s h → v < s.workers → CanCome s h v e → sum_by (worker_mark (entry_of v e ∷ h)) (below s.workers) + worker_mark h v ≡ sum_by (worker_mark h) (below s.workers) + worker_mark (entry_of v e ∷ h) v
marks-more s h v e r known can = sum_by-change (worker_mark h) (worker_mark (entry_of v e ∷ h)) v (below s.workers) (below_distinct s.workers) (below_present s.workers v known) (worker_mark-other s h v e r can)

mark_open : (h : History) (w t : ℕ) → open_task h w ≡ Some t → worker_mark h w ≡ cond (is_active h t) 1 0
unfolding worker_mark task_mark
mark_open h w t now = ap (task_mark h) now

mark_free : (h : History) (w : ℕ) → open_task h w ≡ None → worker_mark h w ≡ 0
unfolding worker_mark task_mark
mark_free h w now = ap (task_mark h) now

own_task : (h : History) (v : ℕ) (e : Event) → open_task (entry_of v e ∷ h) v ≡ task_after e (open_task h v)
own_task h v e = rw (eq-eqb v v refl) refl

mark_each : (h : History) (e : Entry) (o : Option ℕ) → ((u : ℕ) → is_active (e ∷ h) u ≡ is_active h u) → task_mark (e ∷ h) o ≡ task_mark h o
unfolding task_mark
mark_each h e None each = refl
mark_each h e (Some u) each = ap (λ b. cond b 1 0) (each u)

-- an event that changes no task
active_stays : (s : Sizes) (h : History) (v : ℕ) (e : Event) → IsRecorded s h → v < s.workers → CanCome s h v e → begun (entry_of v e ∷ h) ≡ begun h → ((u : ℕ) → is_active (entry_of v e ∷ h) u ≡ is_active h u) → task_after e (open_task h v) ≡ open_task h v → active h ≡ sum_by (worker_mark h) (below s.workers) → active (entry_of v e ∷ h) ≡ sum_by (worker_mark (entry_of v e ∷ h)) (below s.workers)
unfolding worker_mark task_mark
active_stays s h v e r known can same each own before =
    let marks : worker_mark (entry_of v e ∷ h) v ≡ worker_mark h v = ap (task_mark (entry_of v e ∷ h)) (own_task h v e ∙ own) ∙ mark_each h (entry_of v e) (open_task h v) each in
    omega (arith, before, marks, marks-more s h v e r known can, active-same h (entry_of v e) same each)

active_is-more : (s : Sizes) (h : History) (v : ℕ) (e : Event) → IsRecorded s h → v < s.workers → CanCome s h v e → FreesAll h e → active h ≡ sum_by (worker_mark h) (below s.workers) → active (entry_of v e ∷ h) ≡ sum_by (worker_mark (entry_of v e ∷ h)) (below s.workers)
active_is-more s h v (Begin task) r known can all before =
    let new = mark_open (entry_of v (Begin task) ∷ h) v task (own_task h v (Begin task)) in
    let zero_mark : ◌≡◌ {A = ℕ} (cond (is_active h task) 1 0) 0 = cond-false (is_active h task) 1 0 (untouched s h r task can.new).idle in
    omega (arith, before, active-Begin s h r v task can.new, marks-more s h v (Begin task) r known can, mark_free h v can.free, new, zero_mark)
active_is-more s h v (Attempt task asked moved evictions got) r known can all before =
    let e = Attempt task asked moved evictions got in
    let new = mark_open (entry_of v e ∷ h) v task (own_task h v e ∙ can.open_now) in
    grind (arith, before, active-Attempt s h r v task asked moved evictions got can.open_now, marks-more s h v e r known can, mark_open h v task can.open_now, new, is_active-Attempt h v task asked moved evictions got)
active_is-more s h v (Release task freed) r known can all before =
    let e = Release task freed in
    let new = mark_open (entry_of v e ∷ h) v task (own_task h v e ∙ can.open_now) in
    grind (arith, nat_tests, before, active-Release s h r v task freed can.open_now can.holds, marks-more s h v e r known can, mark_open h v task can.open_now, new, is_active-Release h v task freed, held-Release h v task freed, can.holds)
active_is-more s h v (End task freed) r known can all before =
    let e = End task freed in
    let new = mark_free (entry_of v e ∷ h) v (own_task h v e) in
    grind (arith, nat_tests, before, active-Release s h r v task freed can.open_now can.holds, marks-more s h v e r known can, mark_open h v task can.open_now, new, all)
active_is-more s h v (Evict dataset part size fate) r known can all before = active_stays s h v (Evict dataset part size fate) r known can refl (λ u. refl) refl before
active_is-more s h v (Admit dataset part size level borrowed evictions) r known can all before = active_stays s h v (Admit dataset part size level borrowed evictions) r known can refl (λ u. refl) refl before
active_is-more s h v (Refused dataset part size borrowed evictions) r known can all before = active_stays s h v (Refused dataset part size borrowed evictions) r known can refl (λ u. refl) refl before
active_is-more s h v (Pin dataset part copy) r known can all before = active_stays s h v (Pin dataset part copy) r known can refl (λ u. refl) refl before
active_is-more s h v (Unpin dataset part) r known can all before = active_stays s h v (Unpin dataset part) r known can refl (λ u. refl) refl before
active_is-more s h v (Remove dataset part size) r known can all before = active_stays s h v (Remove dataset part size) r known can refl (λ u. refl) refl before
active_is-more s h v (Grow bytes) r known can all before = active_stays s h v (Grow bytes) r known can refl (λ u. refl) refl before

no_marks : (n : ℕ) → sum_by (worker_mark []) (below n) ≡ 0
unfolding worker_mark task_mark
no_marks zero = refl
no_marks (suc n) = omega (arith, sum_by-cons (worker_mark []) n (below n), no_marks n)

active_is : (s : Sizes) (h : History) → IsRecorded s h → EndsFreeAll h → active h ≡ sum_by (worker_mark h) (below s.workers)
active_is s [] r ends = sym (no_marks s.workers)
active_is s (entry ∷ h) r ends = active_is-more s h entry.worker entry.event r.0 r.1.worker_known r.1.event_fits ends.1 (active_is s h r.0 ends.0)

pub active_few : (s : Sizes) (h : History) → IsRecorded s h → EndsFreeAll h → active h ≤ s.workers
active_few s h r ends = omega (arith, active_is s h r ends, marks_small h s.workers)
