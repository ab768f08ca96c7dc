-- Which columns, keys and aggregates a landed row has fields for, and whether a header field is a name.
-- This project's own.
use Rattle.std.specs.Prelude.{ℕ, ◌+◌, ◌<◌, All, Bool, false, List, IfSome, Option, None, Some, length}
use Rattle.std.specs.Str.{bytes_eq}
use Rattle.job_text.specs.declared.job.KeyItem.{KeyItem}
use Rattle.job_text.specs.declared.job.Part.{Part}
use Rattle.job_text.specs.declared.job.Shape.{Shape}
use Rattle.job_text.specs.declared.job.Shape.TheVariants.{Group, Order}

-- the row has a field for this kept column
abbrev pub HasColumn : List (List ℕ) → ℕ → Type 0
HasColumn row k = k + 1 < length row

-- it has one for the column of a key
abbrev pub IsItemOf : List (List ℕ) → KeyItem → Type 0
IsItemOf row item = HasColumn row item.column

-- it has one for the column of an aggregate, if this has a column
abbrev pub IsPartOf : List (List ℕ) → Part → Type 0
IsPartOf row part = IfSome part.column (HasColumn row)

-- it has one for each column of a shape
abbrev pub HasColumnsOf : List (List ℕ) → Shape → Type 0
HasColumnsOf row (Group columns parts) = All (HasColumn row) columns × All (IsPartOf row) parts
HasColumnsOf row (Order keys columns) = All (IsItemOf row) keys × All (HasColumn row) columns

-- whether a header field, where there is one, is this name
abbrev pub is_named : List ℕ → Option (List ℕ) → Bool
is_named name None = false
is_named name (Some field) = bytes_eq field name
