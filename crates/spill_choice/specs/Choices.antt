-- The consumer that is chosen to spill, by its number; uses are bytes.
-- After Spark: TaskMemoryManager. The candidates and the ties are this project's own.
use Rattle.std.specs.Prelude.{◌≡◌, ℕ, ◌<◌, ◌≤◌, ◌⊎◌, Bool, true, false, List, Option, Some, None, length, slice_index, slice_index_or}

-- the consumer of this number is a candidate
abbrev pub IsCandidate : List Bool → ℕ → Type 0
IsCandidate candidates number = slice_index_or candidates number false ≡ true

-- it is the choice among the candidates below a number: the least use that is at least the remainder, where there is
-- one, else the greatest use, and of equal uses the higher number
pub record IsChosenBelow (end : ℕ) (uses : List ℕ) (candidates : List Bool) (remainder number : ℕ) : Type 0 where
  pub within : number < end
  pub candidate : IsCandidate candidates number
  pub least : (other : ℕ) → other < end → IsCandidate candidates other → remainder ≤ slice_index uses other
      → (remainder ≤ slice_index uses number) × (slice_index uses number ≤ slice_index uses other) × (slice_index uses other ≡ slice_index uses number → other ≤ number)
  pub greatest : (other : ℕ) → other < end → IsCandidate candidates other → slice_index uses number < remainder
      → (slice_index uses other ≤ slice_index uses number) × (slice_index uses other ≡ slice_index uses number → other ≤ number)

-- it is the choice among all candidates
abbrev pub IsChosen : List ℕ → List Bool → ℕ → ℕ → Type 0
IsChosen uses candidates remainder number = IsChosenBelow (length uses) uses candidates remainder number

-- no consumer below a number is a candidate
abbrev pub HasNoCandidateBelow : ℕ → List Bool → Type 0
HasNoCandidateBelow end candidates = (number : ℕ) → number < end → IsCandidate candidates number → ⊥

-- no consumer is a candidate
abbrev pub HasNoCandidate : List Bool → Type 0
HasNoCandidate candidates = HasNoCandidateBelow (length candidates) candidates

-- the choice among the candidates below a number, if there is one
abbrev pub IsChoiceBelow : ℕ → List ℕ → List Bool → ℕ → Option ℕ → Type 0
IsChoiceBelow end uses candidates remainder None = HasNoCandidateBelow end candidates
IsChoiceBelow end uses candidates remainder (Some number) = IsChosenBelow end uses candidates remainder number

-- a later use is chosen rather than an earlier one
abbrev pub Improves : ℕ → ℕ → ℕ → Type 0
Improves later earlier remainder =
    ((remainder ≤ earlier) × (remainder ≤ later) × (later ≤ earlier)) ⊎ ((earlier < remainder) × (earlier ≤ later))
