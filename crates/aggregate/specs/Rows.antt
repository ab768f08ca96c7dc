-- Entries as rows of two fields, and entries that ascend by key.
-- This project's own.
use Rattle.std.specs.Prelude.{◌≡◌, ℕ, false, List, [], ◌∷◌, Option, Some, map, AllPairs}
use Rattle.std.specs.Ordering.{is_gt}
use Rattle.std.specs.declared.cmp.Ordering.TheVariants.{Less}
use Rattle.aggregate.specs.declared.kind.Kind.{Kind}
use Rattle.aggregate.specs.declared.kind.Kind.TheVariants.{Group}
use Rattle.aggregate.specs.Totals.{Entry, key_cmp, total}

-- the entry that a row is
abbrev pub entry_of : List (List ℕ) → Entry
entry_of (key ∷ (value ∷ rest)) = record { key = key; value = value }
entry_of _ = record { key = []; value = [] }

-- the entries that a page's rows are
abbrev pub entries_of : List (List (List ℕ)) → List Entry
entries_of rows = map entry_of rows

-- an earlier entry's key isn't above that of a later one; in a group it is below it
abbrev pub StandsBefore : Option Kind → Entry → Entry → Type 0
StandsBefore (Some (Group aggs)) earlier later = key_cmp earlier.key later.key ≡ Less
StandsBefore kind earlier later = is_gt (key_cmp earlier.key later.key) ≡ false

-- the keys never fall, and in a group each stands once: such entries are their own total
abbrev pub Ascends : Option Kind → List Entry → Type 0
Ascends kind entries = AllPairs (StandsBefore kind) entries

-- what a list of entries comes to ascends, and entries that ascend come to themselves
pub record TotalsAscend (kind : Kind) : Type 0 where
  pub ascends : (entries : List Entry) → Ascends (Some kind) (total kind entries)
  pub alone : (entries : List Entry) → Ascends (Some kind) entries → total kind entries ≡ entries
