-- A state goes on legally with each event of a worker, and what its workers owe.
use Rattle.std.proofs.Common.{◌≡◌, ◌≤◌, ◌<◌, ◌+◌, ◌∷◌, ◌++◌, [], ℕ, List, min, true, false, refl, sym, ap, subst, ◌∙◌, arith}
use Rattle.std.proofs.lemmas.List.{append-nil, append_assoc}
use Rattle.std.proofs.lemmas.List.Elements.{All-append, All-cons, All-nil}
use Rattle.std.proofs.lemmas.Grind.{reverse_onto}
use Rattle.pool_ledger.specs.declared.entry.Entry.{Entry}
use Rattle.pool_ledger.specs.declared.entry.Event.{Event}
use Rattle.pool_ledger.specs.declared.entry.Event.TheVariants.{Begin, Release, End, Evict, Pin, Unpin, Remove, Grow}
use Rattle.pool_ledger.specs.Sizes.{Sizes}
use Rattle.pool_ledger.specs.History.{History, held, open_task, task_after}
use Rattle.pool_ledger.specs.Blocks.{Resident, pin_after, worker_pin}
use Rattle.pool_ledger.specs.Answers.{admission, growth}
use Rattle.pool_ledger.specs.Journal.{journal_of}
use Rattle.pool_ledger.specs.Legal.{IsLegal, pending}
use Rattle.pool_ledger.specs.Workers.{Continues}
use Rattle.pool_laws.specs.Growing.{Grows, entry_by}
use Rattle.pool_laws.specs.Evicting.{EvictsOneByOne, eviction_by, evicting_attempt_by}
use Rattle.block_store.specs.Stores.{HeldBlock, without}
use Rattle.memory_core.specs.Caches.{Cache}
use Rattle.memory_core.specs.Changes.{RemovesInTurn}
use Rattle.memory_core.specs.Evictions.{EvictsInTurn, admission_by, refusal_by}
use Rattle.memory_core.specs.Steady.{GoesSteadily, IsSteady, StatesGoOn, end_owed, owed, unpin_owed}
use Rattle.memory_core.proofs.Stepping.{may_read}
use Rattle.memory_core.proofs.Owing.{owed-own, owed_same, owes, owes_few, owes_nothing}
use Rattle.memory_core.proofs.Fitting.{admits_fits, clears_fits, evicts_fits, hit_given, pins_fits, read_given, reads_fits, unpins_fits}

-- ---- the journal goes on with the worker's own entries

pub goes_on_nothing : (worker : ℕ) (history : History) → Continues worker (journal_of history) (journal_of history)
goes_on_nothing worker history = ([], append-nil (journal_of history), All-nil (λ (e : Entry). e.worker ≡ worker))

-- what goes on from an entry of the worker goes on from before it
pub goes_on_more : (worker : ℕ) (entry : Entry) (before after : History) → entry.worker ≡ worker
    → Continues worker (journal_of (entry ∷ before)) (journal_of after) → Continues worker (journal_of before) (journal_of after)
goes_on_more worker entry before after own more = (
  entry ∷ more.0,
  sym (append_assoc (journal_of before) (entry ∷ []) more.0) ∙ ap (λ (j : List Entry). j ++ more.0) (sym (reverse_onto before entry [])) ∙ more.1,
  All-cons (λ (e : Entry). e.worker ≡ worker) entry more.0 own more.2,
)

goes_on_alone : (worker : ℕ) (event : Event) (history : History) → Continues worker (journal_of history) (journal_of (entry_by worker event ∷ history))
goes_on_alone worker event history =
    goes_on_more worker (entry_by worker event) history (entry_by worker event ∷ history) refl (goes_on_nothing worker (entry_by worker event ∷ history))

-- one more, behind what went on
goes_on_last : (worker : ℕ) (event : Event) (before amid : History) → Continues worker (journal_of before) (journal_of amid)
    → Continues worker (journal_of before) (journal_of (entry_by worker event ∷ amid))
goes_on_last worker event before amid more = (
  more.0 ++ entry_by worker event ∷ [],
  sym (append_assoc (journal_of before) more.0 (entry_by worker event ∷ [])) ∙ ap (λ (j : List Entry). j ++ entry_by worker event ∷ []) more.1 ∙ sym (reverse_onto amid (entry_by worker event) []),
  All-append (λ (e : Entry). e.worker ≡ worker) more.0 (entry_by worker event ∷ []) more.2 (All-cons (λ (e : Entry). e.worker ≡ worker) (entry_by worker event) [] refl (All-nil (λ (e : Entry). e.worker ≡ worker))),
)

-- ---- evictions and removals

evicts_own : (worker : ℕ) (blocks : List Resident) (before after : History) (had has : Cache) → EvictsInTurn worker blocks before had after has
    → Continues worker (journal_of before) (journal_of after)
evicts_own worker [] before after had has gone = subst (λ (h : History). Continues worker (journal_of before) (journal_of h)) (sym gone.0) (goes_on_nothing worker before)
evicts_own worker (block ∷ blocks) before after had has gone =
    goes_on_more worker (eviction_by worker block gone.0) before after refl (evicts_own worker blocks (eviction_by worker block gone.0 ∷ before) after gone.1 has gone.3)

evicts_owed : (workers worker : ℕ) (blocks : List Resident) (before after : History) (had has : Cache) → worker < workers → EvictsInTurn worker blocks before had after has
    → owed workers after ≡ owed workers before
evicts_owed workers worker [] before after had has known gone = ap (owed workers) gone.0
evicts_owed workers worker (block ∷ blocks) before after had has known gone =
    evicts_owed workers worker blocks (eviction_by worker block gone.0 ∷ before) after gone.1 has known gone.3
    ∙ owed_same workers before worker (Evict block.dataset block.part block.size gone.0) known refl refl

removes_own : (worker dataset from end : ℕ) (gone : List Resident) (before after : History) (had has : List HeldBlock) → RemovesInTurn worker dataset from end gone before had after has
    → Continues worker (journal_of before) (journal_of after)
removes_own worker dataset from end [] before after had has gone = subst (λ (h : History). Continues worker (journal_of before) (journal_of h)) (sym gone.1) (goes_on_nothing worker before)
removes_own worker dataset from end (block ∷ blocks) before after had has gone =
    goes_on_more worker (entry_by worker (Remove dataset block.part block.size)) before after refl
    (removes_own worker dataset (block.part + 1) end blocks (entry_by worker (Remove dataset block.part block.size) ∷ before) after (without dataset block.part had) has gone.2)

removes_owed : (workers worker dataset from end : ℕ) (gone : List Resident) (before after : History) (had has : List HeldBlock) → worker < workers → RemovesInTurn worker dataset from end gone before had after has
    → owed workers after ≡ owed workers before
removes_owed workers worker dataset from end [] before after had has known gone = ap (owed workers) gone.1
removes_owed workers worker dataset from end (block ∷ blocks) before after had has known gone =
    removes_owed workers worker dataset (block.part + 1) end blocks (entry_by worker (Remove dataset block.part block.size) ∷ before) after (without dataset block.part had) has known gone.2
    ∙ owed_same workers before worker (Remove dataset block.part block.size) known refl refl

removes_whole : (worker dataset from end : ℕ) (gone : List Resident) (before after : History) (had has : List HeldBlock) → pending before ≡ [] → RemovesInTurn worker dataset from end gone before had after has
    → pending after ≡ []
removes_whole worker dataset from end [] before after had has whole gone = ap pending gone.1 ∙ whole
removes_whole worker dataset from end (block ∷ blocks) before after had has whole gone =
    removes_whole worker dataset (block.part + 1) end blocks (entry_by worker (Remove dataset block.part block.size) ∷ before) after (without dataset block.part had) has refl gone.2

-- ---- what may come

-- an event that is no eviction
goes : (setup : Sizes) (history : History) (worker : ℕ) (event : Event) (was now : ℕ) → worker < setup.workers → pending (entry_by worker event ∷ history) ≡ []
    → owes (open_task history worker) (worker_pin history worker) + now ≡ owes (task_after event (open_task history worker)) (pin_after event (worker_pin history worker)) + was
    → GoesSteadily setup history (entry_by worker event ∷ history) worker was now
goes setup history worker event was now known whole same = record {
  whole = whole;
  owed_is = omega (arith, owed-own setup.workers history worker event known, same);
  own = goes_on_alone worker event history;
}

-- the same behind evictions
goes_behind : (setup : Sizes) (base amid : History) (had has : Cache) (worker : ℕ) (blocks : List Resident) (event : Event) → worker < setup.workers
    → pending (entry_by worker event ∷ amid) ≡ [] → EvictsInTurn worker blocks base had amid has
    → task_after event (open_task amid worker) ≡ open_task amid worker → pin_after event (worker_pin amid worker) ≡ worker_pin amid worker
    → GoesSteadily setup base (entry_by worker event ∷ amid) worker 0 0
goes_behind setup base amid had has worker blocks event known whole gone task pin = record {
  whole = whole;
  owed_is = omega (arith, owed_same setup.workers amid worker event known task pin, evicts_owed setup.workers worker blocks base amid had has known gone);
  own = goes_on_last worker event base amid (evicts_own worker blocks base amid had has gone);
}

legal_of : (setup : Sizes) (history : History) (cache : Cache) → IsSteady setup history cache → IsLegal setup history
legal_of setup history cache steady = record { permitted = steady.amid.permitted; whole = steady.whole }

module _ (grow : (setup : Sizes) (history : History) → IsLegal setup history → Grows setup history)
    (evict : (setup : Sizes) → setup.region ≤ setup.maximum → EvictsOneByOne setup) where
  pub go_on : StatesGoOn
  go_on = record {
    legal = legal_of;
    owes_nothing = owes_nothing;
    owes_few = owes_few;
    begins = λ setup history cache worker task steady known free fresh. (
      (grow setup history (legal_of setup history cache steady)).begins worker task known free fresh,
      goes setup history worker (Begin task) 0 1 known refl (omega (arith, ap end_owed free)),
    );
    releases = λ setup history cache worker task bytes steady known its. (
      (grow setup history (legal_of setup history cache steady)).releases worker task (min bytes (held history task)) known its (omega arith),
      goes setup history worker (Release task (min bytes (held history task))) 0 0 known refl refl,
    );
    ends = λ setup history cache worker task steady known its. (
      (grow setup history (legal_of setup history cache steady)).ends worker task known its,
      goes setup history worker (End task (held history task)) 1 0 known refl (omega (arith, ap end_owed its)),
    );
    grows = λ setup history cache worker bytes steady known can. (
      (grow setup history (legal_of setup history cache steady)).grows worker bytes known can,
      goes setup history worker (Grow bytes) 0 0 known refl refl,
    );
    pins = λ setup history worker dataset part known free.
        goes setup history worker (Pin dataset part false) 0 1 known refl (omega (arith, ap unpin_owed free));
    reads = λ setup history cache worker dataset part steady known absent free copied. (
      may_read setup history worker dataset part known steady.whole absent free (steady.amid.in_step.copies dataset part copied),
      goes setup history worker (Pin dataset part true) 0 0 known refl refl,
    );
    unpins = λ setup history worker dataset part name known its.
        goes setup history worker (Unpin dataset part) 1 0 known refl (omega (arith, ap unpin_owed its));
    attempts = λ setup base amid had has worker task asked steady known its some few gone evicting. (
      (evict setup steady.amid.range.region_fits).attempts amid base worker task asked evicting known its some few,
      goes_behind setup base amid had has worker (growth setup base asked).evicted (evicting_attempt_by setup base worker task asked).event known refl gone refl refl,
    );
    admits = λ setup base amid had has worker dataset part size level steady known absent admitted gone evicting. (
      (evict setup steady.amid.range.region_fits).admissions.admits amid base worker dataset part size level evicting known absent admitted,
      goes_behind setup base amid had has worker (admission setup base dataset size).evicted (admission_by setup base worker dataset part size level).event known refl gone refl refl,
    );
    refuses = λ setup base amid had has worker dataset part size steady known absent refused gone evicting. (
      (evict setup steady.amid.range.region_fits).admissions.refuses amid base worker dataset part size evicting known absent refused,
      goes_behind setup base amid had has worker (admission setup base dataset size).evicted (refusal_by setup base worker dataset part size).event known refl gone refl refl,
    );
    removes = λ setup before after had has worker dataset from end gone known whole removes. record {
      whole = removes_whole worker dataset from end gone before after had has whole removes;
      owed_is = omega (arith, removes_owed setup.workers worker dataset from end gone before after had has known removes);
      own = removes_own worker dataset from end gone before after had has removes;
    };
    evicts = evicts_fits;
    clears = clears_fits;
    admits_rows = admits_fits;
    pins_rows = pins_fits;
    unpins_rows = unpins_fits;
    hits_rows = hit_given;
    copies_rows = read_given;
    reads_alone = reads_fits;
  }
