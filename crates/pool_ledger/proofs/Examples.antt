-- Worked examples of setups, and the words that the other worked examples are written in.
use Rattle.std.proofs.Common.{◌≡◌, ℕ, false, true, Option, refl}
use Rattle.pool_ledger.specs.declared.entry.Entry.{Entry}
use Rattle.pool_ledger.specs.declared.entry.Event.TheVariants.{Begin, Attempt, Release, End, Evict, Admit, Refused, Pin, Unpin, Remove}
use Rattle.pool_ledger.specs.declared.entry.Fate.{Fate}
use Rattle.pool_ledger.specs.declared.entry.Level.{Level}
use Rattle.pool_ledger.specs.Sizes.{Sizes, sizes_of, floor_of, block_limit_of, smallest_heap}
use Rattle.pool_ledger.specs.Blocks.{Resident}

-- a heap of 1 GiB with a reserve of 300 MiB, six tenths for the pool, half of it for storage, four workers
abbrev gibibyte : Sizes
gibibyte = sizes_of 1073741824 314572800 600 500 4

gibibyte_sizes : gibibyte ≡ record { maximum = 455501414; region = 227750707; workers = 4 }
gibibyte_sizes = refl

gibibyte_floor : floor_of gibibyte ≡ 28468838
gibibyte_floor = refl

gibibyte_limit : block_limit_of gibibyte ≡ 56937676
gibibyte_limit = refl

-- the smallest heap for that reserve, and its sizes
smallest : smallest_heap 314572800 ≡ 471859200
smallest = refl

smallest_sizes : sizes_of 471859200 314572800 600 500 1 ≡ record { maximum = 94371840; region = 47185920; workers = 1 }
smallest_sizes = refl

-- a pool of 600 bytes with a region of 300, for two workers and for one
abbrev pub two_workers : Sizes
two_workers = sizes_of 600 0 1000 500 2

abbrev pub one_worker : Sizes
one_worker = sizes_of 600 0 1000 500 1

-- Entries; those of blocks are worker 0's

abbrev pub begin : ℕ → ℕ → Entry
begin worker task = record { worker = worker; event = Begin task }

abbrev pub attempt : ℕ → ℕ → ℕ → ℕ → ℕ → Option ℕ → Entry
attempt worker task asked moved evictions got = record { worker = worker; event = Attempt task asked moved evictions got }

abbrev pub release : ℕ → ℕ → ℕ → Entry
release worker task freed = record { worker = worker; event = Release task freed }

abbrev pub end : ℕ → ℕ → ℕ → Entry
end worker task freed = record { worker = worker; event = End task freed }

abbrev pub evict : ℕ → ℕ → ℕ → Fate → Entry
evict dataset part size fate = record { worker = 0; event = Evict dataset part size fate }

abbrev pub admit : ℕ → ℕ → ℕ → Level → ℕ → ℕ → Entry
admit dataset part size level borrowed evictions = record { worker = 0; event = Admit dataset part size level borrowed evictions }

abbrev pub refuse : ℕ → ℕ → ℕ → ℕ → ℕ → Entry
refuse dataset part size borrowed evictions = record { worker = 0; event = Refused dataset part size borrowed evictions }

abbrev pub pin : ℕ → ℕ → Entry
pin dataset part = record { worker = 0; event = Pin dataset part false }

abbrev pub read_copy : ℕ → ℕ → Entry
read_copy dataset part = record { worker = 0; event = Pin dataset part true }

abbrev pub unpin : ℕ → ℕ → Entry
unpin dataset part = record { worker = 0; event = Unpin dataset part }

abbrev pub remove : ℕ → ℕ → ℕ → Entry
remove dataset part size = record { worker = 0; event = Remove dataset part size }

abbrev pub block : ℕ → ℕ → ℕ → Level → Resident
block dataset part size level = record { dataset = dataset; part = part; size = size; level = level }
