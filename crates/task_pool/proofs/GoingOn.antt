-- No call is a way to go on, and so are two calls.
use Rattle.std.proofs.Common.{◌≡◌, ◌∙◌, arith, ℕ, List, [], ◌∷◌, ◌++◌, Option, Some, refl, sym, ap, subst, append_assoc}
use Rattle.std.proofs.lemmas.List.{append-nil}
use Rattle.std.specs.List.{AllByRecursion}
use Rattle.pool_ledger.specs.declared.entry.Entry.{Entry}
use Rattle.pool_ledger.specs.declared.entry.Event.{Event}
use Rattle.pool_ledger.specs.declared.entry.Event.TheVariants.{Admit, Attempt, Begin, End, Evict, Grow, Pin, Refused, Release, Remove, Unpin}
use Rattle.turn_lock.specs.Passes.{WorkerView}
use Rattle.task_pool.specs.Asks.{AddsAsks, FirstAsks, IsOfTask, first_asked, first_ask_of}
use Rattle.task_pool.specs.Workers.{SeesMore, own_entries}
use Rattle.task_pool.specs.Pools.{Goes, IsAtWork, PoolState}

pub all_append : (P : Entry → Type 0) (front back : List Entry) → AllByRecursion P front → AllByRecursion P back → AllByRecursion P (front ++ back)
all_append P [] back all more = more
all_append P (entry ∷ front) back all more = (all.0, all_append P front back all.1 more)

pub then_asks : (worker task : ℕ) (before amid after : List Entry) → AddsAsks worker task before amid → AddsAsks worker task amid after → AddsAsks worker task before after
then_asks worker task before amid after first last = (
  first.0 ++ last.0,
  last.1 ∙ ap (λ (es : List Entry). es ++ last.0) first.1 ∙ append_assoc before first.0 last.0,
  all_append (IsOfTask worker task) first.0 last.0 first.2 last.2,
)

pub sees_itself : (worker : WorkerView) → SeesMore worker worker
sees_itself worker = record { lock_is = refl; number_is = refl; speaks_is = refl; spare_is = refl; begins = ([], append-nil worker.seen) }

pub sees_more : (before amid after : WorkerView) → SeesMore before amid → SeesMore amid after → SeesMore before after
sees_more before amid after one two = record {
  lock_is = two.lock_is ∙ one.lock_is;
  number_is = two.number_is ∙ one.number_is;
  speaks_is = two.speaks_is ∙ one.speaks_is;
  spare_is = two.spare_is ∙ one.spare_is;
  begins = (one.begins.0 ++ two.begins.0, sym (append_assoc before.seen one.begins.0 two.begins.0) ∙ ap (λ (es : List Entry). es ++ two.begins.0) one.begins.1 ∙ two.begins.1);
}

pub goes_none : (pool : PoolState) → IsAtWork pool → Goes pool pool
goes_none pool at_work = record {
  same_lock = refl;
  same_task = refl;
  lent = refl;
  at_work = at_work;
  floor = refl;
  peak = omega arith;
  sees = sees_itself pool.worker;
  keeps_task = refl;
  keeps_pin = refl;
  adds = ([], sym (append-nil (own_entries pool.worker)), tt);
}

pub goes_on : (a b c : PoolState) → Goes a b → Goes b c → Goes a c
goes_on a b c first then =
    let adds : AddsAsks a.worker.number a.task (own_entries b.worker) (own_entries c.worker) =
    subst (λ (task : ℕ). AddsAsks a.worker.number task (own_entries b.worker) (own_entries c.worker)) first.same_task
    (subst (λ (number : ℕ). AddsAsks number b.task (own_entries b.worker) (own_entries c.worker)) first.sees.number_is then.adds) in
    record {
      same_lock = then.same_lock ∙ first.same_lock;
      same_task = then.same_task ∙ first.same_task;
      lent = then.lent ∙ first.lent;
      at_work = then.at_work;
      floor = then.floor ∙ first.floor;
      peak = let one = first.peak in let two = then.peak in omega (arith, one, two);
      sees = sees_more a.worker b.worker c.worker first.sees then.sees;
      keeps_task = then.keeps_task ∙ first.keeps_task;
      keeps_pin = then.keeps_pin ∙ first.keeps_pin;
      adds = then_asks a.worker.number a.task (own_entries a.worker) (own_entries b.worker) (own_entries c.worker) first.adds adds;
    }

-- entries behind others don't change which attempt is the first
first_more : (event : Event) (asked : ℕ) (one two : Option ℕ) → (one ≡ Some asked → two ≡ Some asked) → first_ask_of event one ≡ Some asked → first_ask_of event two ≡ Some asked
first_more (Attempt task n moved evictions got) asked one two so is = is
first_more (Begin task) asked one two so is = so is
first_more (Release task n) asked one two so is = so is
first_more (End task n) asked one two so is = so is
first_more (Evict dataset part size fate) asked one two so is = so is
first_more (Admit dataset part size level borrowed evictions) asked one two so is = so is
first_more (Refused dataset part size borrowed evictions) asked one two so is = so is
first_more (Pin dataset part read) asked one two so is = so is
first_more (Unpin dataset part) asked one two so is = so is
first_more (Remove dataset part size) asked one two so is = so is
first_more (Grow bytes) asked one two so is = so is

stays_first : (added more : List Entry) (asked : ℕ) → first_asked added ≡ Some asked → first_asked (added ++ more) ≡ Some asked
stays_first [] more asked is = grind (arith, is)
stays_first (entry ∷ added) more asked is = first_more entry.event asked (first_asked added) (first_asked (added ++ more)) (stays_first added more asked) is

pub asks_on : (asked : ℕ) (first then last : PoolState) → FirstAsks asked first.worker then.worker → Goes then last → FirstAsks asked first.worker last.worker
asks_on asked first then last asks goes = (
  asks.0 ++ goes.adds.0,
  goes.adds.1 ∙ ap (λ (es : List Entry). es ++ goes.adds.0) asks.1 ∙ append_assoc (own_entries first.worker) asks.0 goes.adds.0,
  stays_first asks.0 goes.adds.0 asked asks.2,
)
