-- The input of a trial: a heading and rows that are made from a number.
-- The step is that of Knuth's MMIX generator; the rows are this project's own.
use Rattle.std.specs.Prelude.{ℕ, zero, suc, ◌+◌, ◌*◌, ◌/◌, ◌%◌, ◌^◌, ◌++◌, List, [], ◌∷◌, codes, map, ℤ, pos, ◌-ℤ◌}
use Rattle.std.specs.Fmt.{decimal, signed_decimal}
use Rattle.std.specs.List.{flat_map, range_with_len}
use Rattle.job_plan.specs.Columns.{Fields}

-- the number that comes after another one, of 64 bits
abbrev pub number_after : ℕ → ℕ
number_after number = (number * 6364136223846793005 + 1442695040888963407) % 2 ^ 64

-- the number of each row; that of row 0, the heading, is 1
unfoldable pub number_of_row : ℕ → ℕ
number_of_row zero = 1
number_of_row (suc row) = number_after (number_of_row row)

-- the key that a number makes: one of a thousand
abbrev pub key_of : ℕ → List ℕ
key_of number = codes "k" ++ decimal (number / 2 ^ 33 % 1000)

-- the price that it makes: from 1,000 below zero to 1,000 above
abbrev pub price_of : ℕ → ℤ
price_of number = pos (number / 2 ^ 40 % 2001) -ℤ pos 1000

-- the numbers of so many rows, from row 1 on
abbrev pub numbers_of : ℕ → List ℕ
numbers_of rows = map number_of_row (range_with_len 1 rows)

-- ---- the input

-- the first record of the input: the names of its two columns
abbrev pub heading : Fields
heading = codes "key" ∷ codes "price" ∷ []

-- a row: its key, and its price as a decimal
abbrev pub row_of : ℕ → Fields
row_of number = key_of number ∷ signed_decimal (price_of number) ∷ []

-- so many rows
abbrev pub trial_rows : ℕ → List Fields
trial_rows rows = map row_of (numbers_of rows)

-- a row as a line of text
abbrev pub line_of : ℕ → List ℕ
line_of number = key_of number ++ codes "," ++ signed_decimal (price_of number) ++ codes "\n"

-- the text of the heading and of so many rows
abbrev pub trial_text : ℕ → List ℕ
trial_text rows = codes "key,price\n" ++ flat_map line_of (numbers_of rows)
