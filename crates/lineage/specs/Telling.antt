-- What the entries that a worker has seen tell of the block that was looked for.
-- This project's own.
use Rattle.std.specs.Prelude.{ℕ, ◌≡◌, ◌⊎◌, true, false, Bool, is_some, IfSome, IsSome, List, ◌∷◌, ◌++◌, Option, Some, None, ⊤}
use Rattle.std.specs.List.{find}
use Rattle.pool_ledger.specs.declared.entry.Entry.{Entry}
use Rattle.pool_ledger.specs.declared.entry.Event.TheVariants.{Admit, Pin, Refused}
use Rattle.pool_ledger.specs.declared.entry.Level.{Level}
use Rattle.pool_ledger.specs.Blocks.{is_resident}
use Rattle.pool_ledger.specs.Journal.{history_of}
use Rattle.pool_laws.specs.Growing.{entry_by}
use Rattle.row_filter.specs.declared.chain.Chain.{Chain}
use Rattle.row_filter.specs.Chains.{level_at, links_of}
use Rattle.row_filter.specs.Lines.{line}
use Rattle.turn_lock.specs.Passes.{WorkerView}
use Rattle.lineage.specs.declared.rows.Rows.{Rows}
use Rattle.lineage.specs.declared.rows.Rows.TheVariants.{Own, Pinned}
use Rattle.lineage.specs.LineageViews.{name_for}

-- the entry is an admission of the block, whoever made it, or its refusal to this worker
abbrev pub IsKeepOf : ℕ → ℕ → ℕ → Entry → Type 0
IsKeepOf worker dataset part entry =
    ((any size : ℕ) × (level : Level) × (borrowed evictions : ℕ) × (entry ≡ entry_by any (Admit dataset part size level borrowed evictions)))
    ⊎ ((size borrowed evictions : ℕ) × (entry ≡ entry_by worker (Refused dataset part size borrowed evictions)))

-- the entry is a pin of the block by this worker, also of its copy
abbrev pub IsPinOf : ℕ → ℕ → ℕ → Entry → Type 0
IsPinOf worker dataset part entry = (copy : Bool) × (entry ≡ entry_by worker (Pin dataset part copy))

-- behind what the worker had seen stands an entry of which this holds
pub record Gains (P : Entry → Type 0) (before after : WorkerView) : Type 0 where
  pub amid : List Entry
  pub entry : Entry
  pub behind : List Entry
  pub gained : after.seen ≡ before.seen ++ (amid ++ entry ∷ behind)
  pub holds : P entry

-- one that tells of the block: its pin, its admission or its refusal
abbrev pub ToldOf : ℕ → ℕ → WorkerView → WorkerView → Type 0
ToldOf dataset part before after = Gains (λ entry. IsPinOf before.number dataset part entry ⊎ IsKeepOf before.number dataset part entry) before after

-- one that keeps the block, or refuses it
abbrev pub KeptOf : ℕ → ℕ → WorkerView → WorkerView → Type 0
KeptOf dataset part before after = Gains (IsKeepOf before.number dataset part) before after

-- the block isn't in memory by what the worker has seen
abbrev pub IsAbsent : ℕ → ℕ → WorkerView → Type 0
IsAbsent dataset part worker = is_resident (history_of worker.seen) dataset part ≡ false

-- the block is in memory by what the worker has seen
abbrev pub IsThere : ℕ → ℕ → WorkerView → Type 0
IsThere dataset part worker = is_resident (history_of worker.seen) dataset part ≡ true

-- the nearest kept dataset on the way from this one to the input, if there is one
abbrev pub nearest : Chain → ℕ → Option ℕ
nearest chain dataset = find (λ d. is_some (level_at chain d)) (line (links_of chain) dataset)

-- such an entry stands there for the block of the nearest kept dataset
abbrev pub TellsNearest : Chain → ℕ → ℕ → WorkerView → WorkerView → Type 0
TellsNearest chain dataset part before after = IfSome (nearest chain dataset) (λ kept. ToldOf (name_for chain kept) part before after)

-- what looking for a kept dataset's block shows: an entry, or that the block isn't in memory
abbrev pub TellsLook : Chain → ℕ → ℕ → WorkerView → WorkerView → Option Rows → Type 0
TellsLook chain dataset part before after (Some rows) = ToldOf (name_for chain dataset) part before after
TellsLook chain dataset part before after None =
    IsSome (level_at chain dataset) → ToldOf (name_for chain dataset) part before after ⊎ IsAbsent (name_for chain dataset) part after

-- what keeping a block shows: it was admitted or refused, or is in memory
abbrev pub TellsKeep : ℕ → ℕ → WorkerView → WorkerView → Type 0
TellsKeep dataset part before after = KeptOf dataset part before after ⊎ IsThere dataset part after

-- the same of a kept dataset's block
abbrev pub TellsMade : Chain → ℕ → ℕ → WorkerView → WorkerView → Type 0
TellsMade chain dataset part before after = IsSome (level_at chain dataset) → TellsKeep (name_for chain dataset) part before after

-- the same of rows of a kept dataset that no pin keeps
abbrev pub TellsOwn : Chain → ℕ → ℕ → WorkerView → WorkerView → Rows → Type 0
TellsOwn chain dataset part before after (Pinned block) = ⊤
TellsOwn chain dataset part before after (Own block) = TellsMade chain dataset part before after
