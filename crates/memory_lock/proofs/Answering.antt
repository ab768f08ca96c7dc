-- What the calls on a locked state keep, and what they add to a worker's own entries.
use Rattle.std.proofs.Common.{◌≡◌, ◌∙◌, ◌∷◌, ◌++◌, [], ℕ, Option, refl, sym, ap, subst}
use Rattle.std.specs.Prelude.{IfOk, OnOk, OnErr, Result, Ok, Err, length}
use Rattle.pool_ledger.specs.declared.entry.Event.TheVariants.{Attempt, Admit, Refused as RefusedEvent}
use Rattle.pool_ledger.specs.Sizes.{Sizes}
use Rattle.pool_ledger.specs.History.{History}
use Rattle.pool_ledger.specs.Blocks.{is_resident}
use Rattle.pool_ledger.specs.Answers.{admission, answer, growth}
use Rattle.pool_ledger.specs.Journal.{journal_of}
use Rattle.pool_ledger.specs.Legal.{IsLegal}
use Rattle.pool_ledger.specs.Workers.{entries_of}
use Rattle.pool_laws.specs.Growing.{entry_by}
use Rattle.pool_laws.specs.Owners.{AreOwned}
use Rattle.block_store.specs.declared.block.Block.{Block}
use Rattle.memory_core.specs.declared.admission.Admission.{Admission as Answer}
use Rattle.memory_core.specs.declared.admission.Admission.TheVariants.{Admitted, Refused, Resident as AlreadyResident}
use Rattle.memory_core.specs.declared.attempted.Attempted.{Attempted}
use Rattle.memory_core.specs.declared.pinned.Pinned.{Pinned}
use Rattle.memory_core.specs.declared.pinned.Pinned.TheVariants.{Hit, OnDisk as ReadBack, Miss}
use Rattle.memory_core.specs.Attempts.{granted_in}
use Rattle.memory_core.specs.Caches.{AreGiven, Cache, FitsRows, Memory, RowsByName}
use Rattle.memory_core.specs.Changes.{Attempts, Clears, HandsGiven, HasPinnedAlone, IsAnswered, StillFits, StillFitsWith}
use Rattle.memory_lock.specs.Fitting.{FitsBasis}
use Rattle.memory_lock.specs.Workers.{AddsAttempt, AdmissionGrows, HandsRows, RemovalGrows}
use Rattle.memory_lock.proofs.Evicted.{evicted_of, evicted_then, evicts_owned, removed_of, removes_owned}

-- ---- what a state keeps

pub fits_on : (sizes : Sizes) (owner : ℕ → Option ℕ) (given : RowsByName) (before after : Memory) → FitsBasis sizes owner given before → after.setup ≡ before.setup → IsLegal after.setup after.history
    → (AreOwned owner before.history → AreOwned owner after.history) → (FitsRows given before.cache → FitsRows given after.cache) → FitsBasis sizes owner given after
fits_on sizes owner given before after fits setup legal owned rows =
    let sized : after.setup ≡ sizes = setup ∙ fits.setup_is in record {
      setup_is = sized;
      legal = subst (λ (s : Sizes). IsLegal s after.history) sized legal;
      owned = owned fits.owned;
      rows = rows fits.rows;
    }

module _ {E : Type 0} where
  pub attempt_fits : (result : Result Attempted E) (sizes : Sizes) (owner : ℕ → Option ℕ) (given : RowsByName) (worker task asked : ℕ) (before after : Memory) → FitsBasis sizes owner given before
      → after.setup ≡ before.setup → IsLegal after.setup after.history → OnOk result (Attempts worker task asked before after) → OnErr result (after ≡ before) → StillFits before.cache after.cache
      → FitsBasis sizes owner given after
  attempt_fits (Ok got) sizes owner given worker task asked before after fits setup legal ok err still =
      fits_on sizes owner given before after fits setup legal
      (λ owned. subst (AreOwned owner) (sym ok.2) (evicts_owned owner worker (growth before.setup before.history asked).evicted before.history ok.0 before.cache after.cache ok.1 owned, tt))
      (still given)
  attempt_fits (Err e) sizes owner given worker task asked before after fits setup legal ok err still = subst (FitsBasis sizes owner given) (sym err) fits

  pub admit_fits : (result : Result Answer E) (sizes : Sizes) (owner : ℕ → Option ℕ) (given : RowsByName) (worker : ℕ) (block : Block) (size : ℕ) (before after : Memory) → FitsBasis sizes owner given before
      → AreGiven given block.dataset block.part block.page.rows
      → after.setup ≡ before.setup → IsLegal after.setup after.history → IfOk result (λ answer. IsAnswered answer worker block size before after) → OnErr result (after ≡ before)
      → StillFitsWith block before.cache after.cache → FitsBasis sizes owner given after
  admit_fits (Ok Admitted) sizes owner given worker block size before after fits are setup legal ok err still =
      fits_on sizes owner given before after fits setup legal
      (λ owned. subst (AreOwned owner) (sym ok.2.3) (evicts_owned owner worker (admission before.setup before.history block.dataset size).evicted before.history ok.2.0 before.cache ok.2.1 ok.2.2 owned, tt))
      (still given are)
  admit_fits (Ok Refused) sizes owner given worker block size before after fits are setup legal ok err still =
      fits_on sizes owner given before after fits setup legal
      (λ owned. subst (AreOwned owner) (sym ok.2.2) (evicts_owned owner worker (admission before.setup before.history block.dataset size).evicted before.history ok.2.0 before.cache after.cache ok.2.1 owned, tt))
      (still given are)
  admit_fits (Ok AlreadyResident) sizes owner given worker block size before after fits are setup legal ok err still = subst (FitsBasis sizes owner given) (sym ok.1) fits
  admit_fits (Err e) sizes owner given worker block size before after fits are setup legal ok err still = subst (FitsBasis sizes owner given) (sym err) fits

  pub remove_fits : {T : Type 0} (result : Result T E) (sizes : Sizes) (owner : ℕ → Option ℕ) (given : RowsByName) (worker dataset : ℕ) (before after : Memory) → FitsBasis sizes owner given before
      → after.setup ≡ before.setup → IsLegal after.setup after.history → OnOk result (Clears worker dataset before after) → OnErr result (after ≡ before) → StillFits before.cache after.cache
      → FitsBasis sizes owner given after
  remove_fits (Ok done) sizes owner given worker dataset before after fits setup legal ok err still =
      fits_on sizes owner given before after fits setup legal
      (removes_owned owner worker dataset 0 ok.end ok.gone before.history after.history before.cache.blocks after.cache.blocks ok.removes)
      (still given)
  remove_fits (Err e) sizes owner given worker dataset before after fits setup legal ok err still = subst (FitsBasis sizes owner given) (sym err) fits

  -- ---- what they add

  pub attempted : (result : Result Attempted E) (before after : Memory) (worker task asked : ℕ) → OnOk result (Attempts worker task asked before after)
      → IfOk result (λ got. granted_in got ≡ answer before.setup before.history task asked)
      → IfOk result (λ got. AddsAttempt worker task asked (granted_in got) (entries_of worker (journal_of before.history)) (entries_of worker (journal_of after.history)))
  attempted (Ok got) before after worker task asked is answers =
      let grown = growth before.setup before.history asked in
      let gone = evicted_of worker grown.evicted before.history is.0 before.cache after.cache is.1 in
      let had = entries_of worker (journal_of before.history) in (
        gone.evicted,
        grown.moved,
        gone.are,
        ap (λ (h : History). entries_of worker (journal_of h)) is.2
            ∙ evicted_then worker grown.evicted before.history is.0 (λ n. entry_by worker (Attempt task asked grown.moved n (answer before.setup before.history task asked))) (λ n. refl) gone
            ∙ ap (λ (o : Option ℕ). had ++ (gone.evicted ++ entry_by worker (Attempt task asked grown.moved (length gone.evicted) o) ∷ [])) (sym answers),
      )
  attempted (Err e) before after worker task asked is answers = tt

  pub admitted : (result : Result Answer E) (worker : ℕ) (block : Block) (size : ℕ) (before after : Memory) → IfOk result (λ answer. IsAnswered answer worker block size before after)
      → IfOk result (λ answer. AdmissionGrows answer block size worker (entries_of worker (journal_of before.history)) (entries_of worker (journal_of after.history)) after.history)
  admitted (Ok Admitted) worker block size before after is =
      let plan = admission before.setup before.history block.dataset size in
      let gone = evicted_of worker plan.evicted before.history is.2.0 before.cache is.2.1 is.2.2 in (
        gone.evicted,
        plan.borrowed,
        gone.are,
        ap (λ (h : History). entries_of worker (journal_of h)) is.2.3
            ∙ evicted_then worker plan.evicted before.history is.2.0 (λ n. entry_by worker (Admit block.dataset block.part size block.level plan.borrowed n)) (λ n. refl) gone,
      )
  admitted (Ok Refused) worker block size before after is =
      let plan = admission before.setup before.history block.dataset size in
      let gone = evicted_of worker plan.evicted before.history is.2.0 before.cache after.cache is.2.1 in (
        gone.evicted,
        plan.borrowed,
        gone.are,
        ap (λ (h : History). entries_of worker (journal_of h)) is.2.2
            ∙ evicted_then worker plan.evicted before.history is.2.0 (λ n. entry_by worker (RefusedEvent block.dataset block.part size plan.borrowed n)) (λ n. refl) gone,
      )
  admitted (Ok AlreadyResident) worker block size before after is =
      (ap (λ (m : Memory). entries_of worker (journal_of m.history)) is.1, ap (λ (m : Memory). is_resident m.history block.dataset block.part) is.1 ∙ is.0)
  admitted (Err e) worker block size before after is = tt

  pub removed : {T : Type 0} (result : Result T E) (worker dataset : ℕ) (before after : Memory) → OnOk result (Clears worker dataset before after) → OnOk result (HasPinnedAlone dataset after.history)
      → OnOk result (RemovalGrows dataset worker (entries_of worker (journal_of before.history)) (entries_of worker (journal_of after.history)) after.history)
  removed (Ok done) worker dataset before after is left =
      let went = removed_of worker dataset 0 is.end is.gone before.history after.history before.cache.blocks after.cache.blocks is.removes in
      (went.gone, went.are, went.adds, left)
  removed (Err e) worker dataset before after is left = tt

  -- what a pin hands out has the rows that the state's basis gives
  pub hands : (result : Result Pinned E) (given : RowsByName) (dataset part : ℕ) (had : Cache) → FitsRows given had → IfOk result (λ pinned. HandsGiven pinned dataset part had)
      → IfOk result (λ pinned. HandsRows given pinned dataset part)
  hands (Ok (Hit block)) given dataset part had fits handed = handed given fits
  hands (Ok (ReadBack block)) given dataset part had fits handed = handed given fits
  hands (Ok Miss) given dataset part had fits handed = tt
  hands (Err e) given dataset part had fits handed = tt
