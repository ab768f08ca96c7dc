-- Blocks that no later pass needs are removed behind the pass's final task.
use Rattle.std.proofs.Common.{◌≡◌, ◌∙◌, ℕ, ◌+◌, ◌*◌, ◌≤◌, ◌%◌, Bool, false, List, [], Option, Some, get_or, sym, ap, subst, inl, inr, arith}
use Rattle.std.specs.Prelude.{Contains, nat_lt, slice_index_or, if◌then◌else◌}
use Rattle.std.proofs.lemmas.Bool.{cases_lt}
use Rattle.std.proofs.lemmas.Bool.Decides.{nat_tests}
use mathlib.Core.List.{IsPrefix}
use Rattle.pool_ledger.specs.History.{end_of, ends, total}
use Rattle.pool_ledger.specs.Journal.{history_of}
use Rattle.pool_ledger.specs.declared.entry.Entry.{Entry}
use Rattle.turn_lock.proofs.Prefixes.{prefix_trans}
use Rattle.turn_lock.specs.Passes.{LockId, WorkerView}
use Rattle.memory_lock.specs.Crew.{AreWorkers, HasAll}
use Rattle.memory_lock.specs.Workers.{SeesMore, own_entries, own_of}
use Rattle.job_plan.specs.Plans.{removed_in}
use Rattle.job_plan.specs.declared.query_plan.Plan.{Plan}
use Rattle.job_ending.specs.Tasks.{worker_at}
use Rattle.csv_program.specs.Cached.{GoesBehind, IsGoneBehind}
use Rattle.csv_program.specs.Doing.{EachBegins, EachDoes, OwnsPass, SawGone}
use Rattle.csv_program.proofs.Journals.{own_least, total_append, total_reverse}

-- ---- what was gone was so in all that is seen later

gone_later : (task dataset : ℕ) (seen later : List Entry) → IsPrefix seen later → IsGoneBehind task dataset seen → IsGoneBehind task dataset later
gone_later task dataset seen later more was = record {
  moment = was.moment;
  begins = prefix_trans was.moment seen later was.begins more;
  ended = was.ended;
  gone = was.gone;
}

pub goes_later : (plan : Plan) (partitions passes : ℕ) (seen later : List Entry) → IsPrefix seen later → GoesBehind plan partitions passes seen → GoesBehind plan partitions passes later
goes_later plan partitions passes seen later more goes pass dataset below within =
    gone_later (partitions + pass * (partitions + 1)) dataset seen later more (goes pass dataset below within)

-- the journal begins with all that the first worker has seen
pub journal_goes : (plan : Plan) (partitions passes count : ℕ) (lock : LockId) (workers : List WorkerView) (any : WorkerView) (journal : List Entry) → 1 ≤ count → AreWorkers lock count workers → HasAll workers journal
    → GoesBehind plan partitions passes (get_or workers 0 any).seen → GoesBehind plan partitions passes journal
journal_goes plan partitions passes count lock workers any journal some are all goes =
    let size = are.0 in
    goes_later plan partitions passes (get_or workers 0 any).seen journal (all 0 any (omega (arith, some, size))).begins goes

-- ---- the final task of a pass

-- it is the first worker's
last_worker : (count partitions : ℕ) → worker_at count partitions partitions ≡ 0
last_worker count partitions =
    let none : nat_lt partitions partitions ≡ false = grind (arith, nat_tests) in
    ap (λ (b : Bool). if b then partitions % count else 0) none

-- which has begun and ended it, where it has done its tasks below a limit behind it
pub final_ended : (owner : ℕ → Option ℕ) (count partitions first : ℕ) (workers : List WorkerView) (any : WorkerView) → 1 ≤ count → OwnsPass owner count partitions first
    → EachDoes owner count (first + partitions + 1) workers → EachBegins owner count (first + partitions + 1) workers → 1 ≤ ends (own_of (get_or workers 0 any)) (partitions + first)
final_ended owner count partitions first workers any some owns does begun =
    let owned : owner (partitions + first) ≡ Some 0 = owns partitions (omega arith) ∙ ap Some (last_worker count partitions) in
    let began = begun 0 any (omega (arith, some)) (partitions + first) (omega arith) owned in
    let ended = (does 0 any (omega (arith, some))).ended (partitions + first) in
    omega (arith, began, ended)

-- what a worker has ended it sees
ended_seen : (task : ℕ) (before moment : WorkerView) → SeesMore before moment → 1 ≤ ends (own_of before) task → 1 ≤ ends (history_of moment.seen) task
ended_seen task before moment since ended =
    let own = total_reverse (end_of task) (own_entries before) in
    let all = total_reverse (end_of task) moment.seen in
    let part = own_least (end_of task) before.number before.seen in
    let both = total_append (end_of task) before.seen since.begins.0 in
    let is = ap (total (end_of task)) since.begins.1 in
    omega (arith, own, all, part, both, is, ended)

-- ---- one pass more

pub goes_more : (plan : Plan) (partitions number first : ℕ) (datasets : List ℕ) (old mid new : WorkerView) → datasets ≡ slice_index_or (removed_in plan) number [] → first ≡ number * (partitions + 1)
    → SeesMore old mid → SeesMore mid new → 1 ≤ ends (own_of mid) (partitions + first) → ((dataset : ℕ) → Contains datasets dataset → SawGone dataset mid new)
    → GoesBehind plan partitions number old.seen → GoesBehind plan partitions (number + 1) new.seen
goes_more plan partitions number first datasets old mid new are is worked cleared ended saw goes pass dataset below within = elim (cases_lt pass number) [
  | inl low ↦ gone_later (partitions + pass * (partitions + 1)) dataset old.seen new.seen (prefix_trans old.seen mid.seen new.seen worked.begins cleared.begins) (goes pass dataset low within)
  | inr high ↦
      let here : number ≡ pass = omega (arith, high, below) in
      let among : Contains datasets dataset =
      subst (λ (ds : List ℕ). Contains ds dataset) (sym are) (subst (λ (n : ℕ). Contains (slice_index_or (removed_in plan) n []) dataset) (sym here) within) in
      let was = saw dataset among in
      subst (λ (n : ℕ). IsGoneBehind (partitions + n * (partitions + 1)) dataset new.seen) here
      (subst (λ (t : ℕ). IsGoneBehind (partitions + t) dataset new.seen) is
      (record { moment = was.moment.seen; begins = was.until.begins; ended = ended_seen (partitions + first) mid was.moment was.since ended; gone = was.gone }))
]
