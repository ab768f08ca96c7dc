-- How reserved words and signs are written.
-- This project's own.
use Rattle.std.specs.Prelude.{ℕ, List, [], ◌∷◌, codes}
use Rattle.job_text.specs.declared.mark.Mark.{Mark}
use Rattle.job_text.specs.declared.mark.Mark.TheVariants as marks

-- the bytes that a mark is written with
abbrev pub mark_text : Mark → List ℕ
mark_text marks.Let = codes "let"
mark_text marks.Where = codes "where"
mark_text marks.Keep = codes "keep"
mark_text marks.Memory = codes "memory"
mark_text marks.Disk = codes "disk"
mark_text marks.Group = codes "group"
mark_text marks.Order = codes "order"
mark_text marks.Count = codes "count"
mark_text marks.Sum = codes "sum"
mark_text marks.Min = codes "min"
mark_text marks.Max = codes "max"
mark_text marks.From = codes "from"
mark_text marks.Number = codes "number"
mark_text marks.Down = codes "down"
mark_text marks.And = codes "and"
mark_text marks.Or = codes "or"
mark_text marks.Not = codes "not"
mark_text marks.Input = codes "input"
mark_text marks.Comma = codes ","
mark_text marks.Colon = codes ":"
mark_text marks.Semicolon = codes ";"
mark_text marks.Open = codes "("
mark_text marks.Close = codes ")"
mark_text marks.Equal = codes "="
mark_text marks.NotEqual = codes "!="
mark_text marks.Less = codes "<"
mark_text marks.AtMost = codes "<="
mark_text marks.Greater = codes ">"
mark_text marks.AtLeast = codes ">="

-- the words among them
abbrev pub reserved : List Mark
reserved = marks.Let ∷ marks.Where ∷ marks.Keep ∷ marks.Memory ∷ marks.Disk ∷ marks.Group ∷ marks.Order ∷ marks.Count ∷ marks.Sum ∷ marks.Min ∷ marks.Max ∷ marks.From ∷ marks.Number ∷ marks.Down ∷ marks.And ∷ marks.Or ∷ marks.Not ∷ marks.Input ∷ []

-- the signs: a longer one stands before each that begins it
abbrev pub signs : List Mark
signs = marks.NotEqual ∷ marks.AtMost ∷ marks.AtLeast ∷ marks.Less ∷ marks.Greater ∷ marks.Equal ∷ marks.Comma ∷ marks.Colon ∷ marks.Semicolon ∷ marks.Open ∷ marks.Close ∷ []
