-- Reading the fields of a line, as functions on lists of bytes: the value of the first field, and what follows it.
-- This project's own.
use Rattle.std.specs.Prelude.{ℕ, if◌then◌else◌, ◌^◌, ◌&&◌, Bool, true, false, not, nat_eq, nat_lt, List, [], ◌∷◌, Option, Some, None, decimal, codes, take, drop, cond}
use Rattle.std.specs.List.{prefix_len}
use Rattle.std.specs.Str.{bytes_eq}
use Rattle.std.specs.Str.Parse.{digits_value}
use Rattle.pool_ledger.specs.declared.entry.Fate.{Fate}
use Rattle.pool_ledger.specs.declared.entry.Fate.TheVariants.{Disk, Gone, NoMemory}
use Rattle.pool_ledger.specs.declared.entry.Level.{Level}
use Rattle.pool_ledger.specs.declared.entry.Level.TheVariants.{Memory, Disk as OnDisk}

-- steps are read from the left
infixl 10 ◌>>=◌
-- what a step gives after one that may give nothing
abbrev pub ◌>>=◌ : {A B : Type 0} → Option A → (A → Option B) → Option B
None >>= f = None
(Some x) >>= f = f x

-- whether the byte is no comma
abbrev pub is_no_comma : ℕ → Bool
is_no_comma b = not (nat_eq b 44)

-- the bytes before the first comma, and those from it on
unfoldable pub split : List ℕ → List ℕ × List ℕ
split bytes = (take (prefix_len is_no_comma bytes) bytes, drop (prefix_len is_no_comma bytes) bytes)

-- the field behind the comma that the bytes begin with, and what follows it
unfoldable pub field_at : List ℕ → Option (List ℕ × List ℕ)
field_at [] = None
field_at (b ∷ bytes) = cond (nat_eq b 44) (Some (split bytes)) None

-- the number of 64 bits whose decimal the bytes are
unfoldable pub whole : List ℕ → Option ℕ
whole bytes =
    cond (nat_lt (digits_value 10 bytes) (2 ^ 64) && bytes_eq bytes (decimal (digits_value 10 bytes)))
    (Some (digits_value 10 bytes)) None

-- a number of 64 bits
unfoldable pub long_at : List ℕ → Option (ℕ × List ℕ)
long_at bytes = do
  found ← field_at bytes
  n ← whole found.0
  Some (n, found.1)

-- a number of 32 bits
unfoldable pub short_at : List ℕ → Option (ℕ × List ℕ)
short_at bytes = do
  found ← long_at bytes
  cond (nat_lt found.0 (2 ^ 32)) (Some found) None

-- what an attempt was granted
unfoldable pub got_of : List ℕ → Option (Option ℕ)
got_of text = if bytes_eq text (codes "wait") then Some None else (whole text >>= λ n. Some (Some n))

-- the same as a field
unfoldable pub got_at : List ℕ → Option (Option ℕ × List ℕ)
got_at bytes = do
  found ← field_at bytes
  got ← got_of found.0
  Some (got, found.1)

-- what became of an evicted block
unfoldable pub fate_of : List ℕ → Option Fate
fate_of text =
    if bytes_eq text (codes "disk") then Some Disk
    else if bytes_eq text (codes "gone") then Some Gone
    else if bytes_eq text (codes "nomem") then Some NoMemory
    else None

-- the same as a field
unfoldable pub fate_at : List ℕ → Option (Fate × List ℕ)
fate_at bytes = do
  found ← field_at bytes
  fate ← fate_of found.0
  Some (fate, found.1)

-- where a block goes when it is evicted
unfoldable pub level_of : List ℕ → Option Level
level_of text =
    if bytes_eq text (codes "memory") then Some Memory
    else if bytes_eq text (codes "disk") then Some OnDisk
    else None

-- the same as a field
unfoldable pub level_at : List ℕ → Option (Level × List ℕ)
level_at bytes = do
  found ← field_at bytes
  level ← level_of found.0
  Some (level, found.1)

-- whether a pin read a copy
unfoldable pub form_of : List ℕ → Option Bool
form_of text =
    if bytes_eq text (codes "copy") then Some true
    else if bytes_eq text (codes "resident") then Some false
    else None

-- the same as a field
unfoldable pub form_at : List ℕ → Option (Bool × List ℕ)
form_at bytes = do
  found ← field_at bytes
  form ← form_of found.0
  Some (form, found.1)

-- the value, if nothing is left
unfoldable pub ended : {A : Type 0} → A → List ℕ → Option A
ended x [] = Some x
ended x (b ∷ bytes) = None
