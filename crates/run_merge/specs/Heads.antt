-- The rows that readers stand at, and what is true of readers that are read side by side.
-- This project's own.
use Rattle.std.specs.Prelude.{◌≡◌, ℕ, ◌<◌, ◌≤◌, Bool, true, false, List, [], Option, Some, None, length, slice_index_or, slice_index, slice_get, sum_by}
use Rattle.std.specs.Option.{option_map_or}
use Rattle.std.specs.Ordering.{is_gt}
use Rattle.std.specs.declared.cmp.Ordering.TheVariants.{Less}
use Rattle.aggregate.specs.declared.kind.Kind.{Kind}
use Rattle.aggregate.specs.Fronts.{front_of}
use Rattle.aggregate.specs.Totals.{key_cmp}
use Rattle.row_form.specs.declared.form.Form.TheVariants.{Entries}
use Rattle.run_file.specs.Readers.{ReaderView, form_of}
use Rattle.run_file.specs.Reading.{row_at}
use Rattle.run_file.specs.AtEntries.{IsAtEntry, entry_at}

-- a fact of each of these readers and its place
abbrev pub EachReader : List ReaderView → (ℕ → ReaderView → Type 0) → Type 0
EachReader readers P = (k : ℕ) (reader : ReaderView) → k < length readers → reader ≡ slice_index_or readers k reader → P k reader

-- the reader with this number stands at a row
abbrev pub has_head : List Bool → ℕ → Bool
has_head heads k = slice_index_or heads k false

-- each reader with a head stands at an entry
abbrev pub AreAtEntries : Kind → List ReaderView → List Bool → Type 0
AreAtEntries kind readers heads = EachReader readers (λ k reader. has_head heads k ≡ true → ∥ IsAtEntry kind reader ∥₁)

-- each is read for this kind
abbrev pub AreOfKind : Kind → List ReaderView → Type 0
AreOfKind kind readers = EachReader readers (λ k reader. ∥ form_of reader ≡ Entries kind ∥₁)

-- the front of the key at which it stands; and that this key is bytes
abbrev pub HasFront : ReaderView → ℕ → Type 0
HasFront reader front = (front ≡ front_of (entry_at reader).key) × ((k : ℕ) → slice_index (entry_at reader).key k < 256)

-- beside each reader that stands at a row is the front of its key
abbrev pub AreFronts : List ReaderView → List Bool → List ℕ → Type 0
AreFronts readers heads fronts = EachReader readers (λ k reader. has_head heads k ≡ true → HasFront reader (slice_index fronts k))

-- where the row of a reader is lent, this one stands at an entry
abbrev pub IsLent : Kind → List ReaderView → Option ℕ → Type 0
IsLent kind readers given =
    (place : ℕ) → given ≡ Some place
    → (place < length readers) × ((reader : ReaderView) → reader ≡ slice_index_or readers place reader → ∥ IsAtEntry kind reader ∥₁)

-- the row that is lent: that of a reader, or else one that was put together
abbrev pub row_lent : List ReaderView → Option ℕ → List (List ℕ) → List (List ℕ)
row_lent readers None row = row
row_lent readers (Some place) row = option_map_or row_at (slice_get readers place) []

-- of the readers that stand at a row this one has the least key, and is the first of those with this key
pub record IsFirst (readers : List ReaderView) (heads : List Bool) (place : ℕ) : Type 0 where
  pub within : place < length readers
  pub stands : has_head heads place ≡ true
  pub before : (first : ReaderView) → first ≡ slice_index_or readers place first →
      EachReader readers (λ k reader. k < place → has_head heads k ≡ true → key_cmp (entry_at first).key (entry_at reader).key ≡ Less)
  pub behind : (first : ReaderView) → first ≡ slice_index_or readers place first →
      EachReader readers (λ k reader. place ≤ k → has_head heads k ≡ true → is_gt (key_cmp (entry_at first).key (entry_at reader).key) ≡ false)

-- 1 for a reader that stands at a row that was not given yet
abbrev pub one_if : Bool → ℕ
one_if true = 1
one_if false = 0

-- no reader that stood at no row stands at one now, and none came or went
pub record OnlyFalls (before after : List Bool) : Type 0 where
  pub count : length after ≡ length before
  pub falls : (k : ℕ) → has_head after k ≡ true → has_head before k ≡ true
  pub sum : sum_by one_if after ≤ sum_by one_if before
