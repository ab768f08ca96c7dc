-- What the workers owe: the ends of their tasks and the unpins of their pins.
use Rattle.std.proofs.Common.{◌≡◌, ◌≢◌, ◌≤◌, ◌<◌, ◌+◌, ◌*◌, ◌∷◌, [], ℕ, zero, suc, Option, Some, None, refl, ap, inl, inr, arith}
use Rattle.std.proofs.lemmas.Bool.{cases_eq, eq-eqb, ne_eqb}
use Rattle.pool_ledger.specs.declared.entry.Event.{Event}
use Rattle.pool_ledger.specs.History.{History, open_task, task_after}
use Rattle.pool_ledger.specs.Blocks.{Name, pin_after, worker_pin}
use Rattle.pool_laws.specs.Growing.{entry_by}
use Rattle.memory_core.specs.Steady.{end_owed, owed, unpin_owed}

-- what one worker owes, from its task and its pin
abbrev pub owes : Option ℕ → Option Name → ℕ
owes task pin = end_owed task + unpin_owed pin

others_stay : (history : History) (worker other : ℕ) (event : Event) → worker ≢ other
    → owes (open_task (entry_by worker event ∷ history) other) (worker_pin (entry_by worker event ∷ history) other) ≡ owes (open_task history other) (worker_pin history other)
others_stay history worker other event apart = rw (ne_eqb worker other apart) refl

own_changes : (history : History) (worker other : ℕ) (event : Event) → worker ≡ other
    → owes (open_task (entry_by worker event ∷ history) other) (worker_pin (entry_by worker event ∷ history) other)
    ≡ owes (task_after event (open_task history other)) (pin_after event (worker_pin history other))
own_changes history worker other event same = rw (eq-eqb worker other same) refl

owed-others : (workers : ℕ) (history : History) (worker : ℕ) (event : Event) → workers ≤ worker → owed workers (entry_by worker event ∷ history) ≡ owed workers history
owed-others zero history worker event above = refl
owed-others (suc n) history worker event above =
    omega (arith, owed-others n history worker event (omega arith), others_stay history worker n event (λ same. omega arith))

-- a worker's event changes what that worker owes, and nothing else
pub owed-own : (workers : ℕ) (history : History) (worker : ℕ) (event : Event) → worker < workers
    → owed workers (entry_by worker event ∷ history) + owes (open_task history worker) (worker_pin history worker)
    ≡ owed workers history + owes (task_after event (open_task history worker)) (pin_after event (worker_pin history worker))
owed-own zero history worker event below = absurd (omega arith)
owed-own (suc n) history worker event below = elim (cases_eq worker n) [
  | inl last ↦
      let here = own_changes history worker n event last in
      let was = ap (λ (w : ℕ). owes (open_task history w) (worker_pin history w)) last in
      let now = ap (λ (w : ℕ). owes (task_after event (open_task history w)) (pin_after event (worker_pin history w))) last in
      omega (arith, owed-others n history worker event (omega arith), here, was, now)
  | inr apart ↦
      omega (arith, owed-own n history worker event (omega arith), others_stay history worker n event apart)
]

pub owes_nothing : (workers : ℕ) → owed workers [] ≡ 0
owes_nothing zero = refl
owes_nothing (suc n) = omega (arith, owes_nothing n)

two_at_most : (task : Option ℕ) (pin : Option Name) → owes task pin ≤ 2
two_at_most None None = omega arith
two_at_most None (Some name) = omega arith
two_at_most (Some task) None = omega arith
two_at_most (Some task) (Some name) = omega arith

pub owes_few : (workers : ℕ) (history : History) → owed workers history ≤ 2 * workers
owes_few zero history = omega arith
owes_few (suc n) history = omega (arith, owes_few n history, two_at_most (open_task history n) (worker_pin history n))

-- an event that leaves the worker's task and its pin leaves what all owe
pub owed_same : (workers : ℕ) (history : History) (worker : ℕ) (event : Event) → worker < workers
    → task_after event (open_task history worker) ≡ open_task history worker → pin_after event (worker_pin history worker) ≡ worker_pin history worker
    → owed workers (entry_by worker event ∷ history) ≡ owed workers history
owed_same workers history worker event known task pin = omega (arith, owed-own workers history worker event known, ap end_owed task, ap unpin_owed pin)
