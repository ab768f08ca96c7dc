-- The options of the programs, with their ranges and defaults.
-- This project's own; the pool's sizes are those of Spark's memory manager, in thousandths where Spark has fractions.
use Rattle.std.specs.Prelude.{ℕ, ◌≤◌, List, [], ◌∷◌, Option, codes}
use Rattle.words.specs.Reading.{Text}
use Rattle.words.specs.Numbers.{NumberOption, number_of, number_option}

-- how many threads work
abbrev pub workers_option : NumberOption
workers_option = number_option (codes "workers") 1 16 4

-- the heap, in bytes: to 2^40, else 1 GiB
abbrev pub heap_option : NumberOption
heap_option = number_option (codes "heap") 1 1099511627776 1073741824

-- what of the heap isn't the pools', in bytes: to 2^40, else 300 MiB
abbrev pub reserved_option : NumberOption
reserved_option = number_option (codes "reserved") 0 1099511627776 314572800

-- the part of the rest that both pools have, in thousandths
abbrev pub fraction_option : NumberOption
fraction_option = number_option (codes "fraction") 1 1000 600

-- the part of the pools that execution can't evict, in thousandths
abbrev pub storage_option : NumberOption
storage_option = number_option (codes "storage") 0 1000 500

-- how many rows a partition has at most
abbrev pub part_rows_option : NumberOption
part_rows_option = number_option (codes "part-rows") 1 1000000 10000

-- how many rows an input has at most
abbrev pub max_rows_option : NumberOption
max_rows_option = number_option (codes "max-rows") 1 10000000 10000000

-- the options of a run over an input, or over one that is made
abbrev pub work_options : List NumberOption
work_options =
    workers_option ∷ heap_option ∷ reserved_option ∷ fraction_option ∷ storage_option ∷ part_rows_option ∷ []

-- what they say
pub record WorkReading : Type 0 where
  pub workers : ℕ
  pub heap : ℕ
  pub reserved : ℕ
  pub fraction : ℕ
  pub storage : ℕ
  pub part_rows : ℕ

-- each is in its range
pub record AreInRange (reading : WorkReading) : Type 0 where
  pub some_worker : 1 ≤ reading.workers
  pub few_workers : reading.workers ≤ 16
  pub some_heap : 1 ≤ reading.heap
  pub heap : reading.heap ≤ 1099511627776
  pub reserved : reading.reserved ≤ 1099511627776
  pub some_fraction : 1 ≤ reading.fraction
  pub fraction : reading.fraction ≤ 1000
  pub storage : reading.storage ≤ 1000
  pub some_row : 1 ≤ reading.part_rows
  pub few_rows : reading.part_rows ≤ 1000000

-- what they say, by what is given
abbrev pub work_values : (Text → Option Text) → WorkReading
work_values look = record {
  workers = number_of look workers_option;
  heap = number_of look heap_option;
  reserved = number_of look reserved_option;
  fraction = number_of look fraction_option;
  storage = number_of look storage_option;
  part_rows = number_of look part_rows_option;
}
