-- What a call added stands at the end of all that its worker has then seen.
-- This project's own.
use Rattle.std.specs.Prelude.{ℕ, ◌≡◌, Option, List, ◌++◌}
use Rattle.pool_ledger.specs.declared.entry.Entry.{Entry}
use Rattle.pool_ledger.specs.Sizes.{Sizes}
use Rattle.pool_ledger.specs.Answers.{answer}
use Rattle.pool_ledger.specs.Journal.{history_of}
use Rattle.pool_ledger.specs.Legal.{IsLegal}
use Rattle.block_store.specs.declared.block.Block.{Block}
use Rattle.memory_core.specs.declared.admission.Admission.{Admission as Answer}
use Rattle.memory_core.specs.declared.pinned.Pinned.{Pinned}
use Rattle.turn_lock.specs.Passes.{WorkerView}
use Rattle.memory_lock.specs.Workers.{Adds, AddsAttempt, AdmissionGrows, PinGrows}

-- the journal ends with these entries
abbrev pub EndsWith : List Entry → List Entry → Type 0
EndsWith seen added = (base : List Entry) × (seen ≡ base ++ added)

-- it ends with an attempt of the worker's task for so many bytes with this answer, right behind the attempt's evictions
abbrev pub EndsWithAttempt : ℕ → ℕ → ℕ → Option ℕ → List Entry → Type 0
EndsWithAttempt worker task asked got seen = (base : List Entry) × AddsAttempt worker task asked got base seen

-- it ends with what the worker's pin adds
abbrev pub EndsWithPin : Pinned → ℕ → ℕ → ℕ → List Entry → Type 0
EndsWithPin pinned worker dataset part seen = (base : List Entry) × PinGrows pinned worker dataset part base seen (history_of seen)

-- it ends with what the worker's admission of a block of this size adds
abbrev pub EndsWithAdmission : Answer → Block → ℕ → ℕ → List Entry → Type 0
EndsWithAdmission answer block size worker seen = (base : List Entry) × AdmissionGrows answer block size worker base seen (history_of seen)

-- it ends with all that was added to the worker's own entries
abbrev pub EndsWithAdded : WorkerView → WorkerView → Type 0
EndsWithAdded before after = (added : List Entry) × Adds before after added × EndsWith after.seen added

-- the answer is the one that the rules give to a legal journal, which went on with the attempt's evictions and the attempt
pub record IsLastAnswer (sizes : Sizes) (worker task asked : ℕ) (got : Option ℕ) (seen : List Entry) : Type 0 where
  pub base : List Entry
  pub adds : AddsAttempt worker task asked got base seen
  pub legal : IsLegal sizes (history_of base)
  pub answers : got ≡ answer sizes (history_of base) task asked
