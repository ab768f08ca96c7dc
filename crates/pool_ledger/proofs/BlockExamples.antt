-- Worked examples of blocks: the definitions give these victims and answers.
use Rattle.std.proofs.Common.{◌≡◌, true, false, Some, None, [], ◌∷◌, refl, lit<, lit≤}
use Rattle.pool_ledger.specs.declared.entry.Fate.TheVariants.{Gone, Disk}
use Rattle.pool_ledger.specs.declared.entry.Level.TheVariants.{Memory, Disk as OnDisk}
use Rattle.pool_ledger.specs.History.{History, execution_pool, storage_pool, total}
use Rattle.pool_ledger.specs.Blocks.{residents, stored, is_resident, worker_pin, leaves_copy}
use Rattle.pool_ledger.specs.Answers.{growth, answer, admission, moment, least_share, greatest_share}
use Rattle.pool_ledger.specs.Legal.{IsLegal}
use Rattle.pool_ledger.proofs.Examples.{one_worker, begin, attempt, end, evict, admit, refuse, pin, read_copy, unpin, remove, block}

-- Two blocks of two datasets; the second borrows from execution

first_fits : admission one_worker [] 1 250 ≡ record { admitted = true; borrowed = 0; evicted = [] }
first_fits = refl

second_borrows : admission one_worker (admit 1 0 250 Memory 0 0 ∷ []) 2 200 ≡ record { admitted = true; borrowed = 150; evicted = [] }
second_borrows = refl

abbrev two_blocks : History
two_blocks = begin 0 0 ∷ admit 2 0 200 Memory 150 0 ∷ admit 1 0 250 Memory 0 0 ∷ []

-- an ask evicts the block that was used least recently, and the whole of it moves
least_recent_goes : growth one_worker two_blocks 300 ≡ record { unused = 0; need = 150; evicted = block 1 0 250 Memory ∷ []; moved = 250 }
least_recent_goes = refl

evicting_ask_is_granted : answer one_worker two_blocks 0 300 ≡ Some 300
evicting_ask_is_granted = refl

abbrev pub first_evicted : History
first_evicted = attempt 0 0 300 250 1 (Some 300) ∷ evict 1 0 250 Gone ∷ two_blocks

-- storage then stands below its region of 300
below_region : (storage_pool one_worker first_evicted ≡ 200) × (execution_pool one_worker first_evicted ≡ 400) × (stored first_evicted ≡ 200)
below_region = (refl, refl, refl)

-- the whole journal is legal, its eviction included: the permissions aren't empty
pub eviction_is_legal : IsLegal one_worker first_evicted
eviction_is_legal = record {
  permitted = (
    (
      (
        (
          (
            tt,
            record { worker_known = lit< tt; own_turn = refl; event = record { absent = refl; answers = refl; borrows = refl; evicts = record { blocks_are = refl; number = refl } } },
          ),
          record { worker_known = lit< tt; own_turn = refl; event = record { absent = refl; answers = refl; borrows = refl; evicts = record { blocks_are = refl; number = refl } } },
        ),
        record { worker_known = lit< tt; own_turn = refl; event = (refl, refl, refl) },
      ),
      record { worker_known = lit< tt; own_turn = refl; event = (block 1 0 250 Memory, record { resident = refl; size_is = refl; unpinned = refl }, tt) },
    ),
    record { worker_known = lit< tt; own_turn = refl; event = (refl, record { asked_some = lit≤ tt; asked_small = lit≤ tt; evicts = record { blocks_are = refl; number = refl }; moves = refl; answers = refl }) },
  );
  whole = refl;
}

-- a pinned block stays, and the next one goes
abbrev first_pinned : History
first_pinned = pin 1 0 ∷ two_blocks

pinned_stays : growth one_worker first_pinned 300 ≡ record { unused = 0; need = 150; evicted = block 2 0 200 Memory ∷ []; moved = 200 }
pinned_stays = refl

pinned_ask_is_granted : ((moment one_worker first_pinned 0 300).pool ≡ 350) × (answer one_worker first_pinned 0 300 ≡ Some 300)
pinned_ask_is_granted = (refl, refl)

-- A block that finds no room

abbrev one_pinned : History
one_pinned = pin 1 0 ∷ admit 1 0 250 Memory 0 0 ∷ attempt 0 0 100 0 0 (Some 100) ∷ begin 0 0 ∷ []

small_ask_moves_nothing : answer one_worker (begin 0 0 ∷ []) 0 100 ≡ Some 100
small_ask_moves_nothing = refl

-- it borrows all that execution has free, evicts nothing, and is refused
no_room_is_refused : admission one_worker one_pinned 2 300 ≡ record { admitted = false; borrowed = 200; evicted = [] }
no_room_is_refused = refl

abbrev after_refusal : History
after_refusal = refuse 2 0 300 200 0 ∷ one_pinned

refusal_keeps_what_was_borrowed : (storage_pool one_worker after_refusal ≡ 500) × (execution_pool one_worker after_refusal ≡ 100)
refusal_keeps_what_was_borrowed = (refl, refl)

-- a block past the limit of 300 is refused with nothing borrowed
past_limit_is_refused_at_once : admission one_worker after_refusal 2 301 ≡ record { admitted = false; borrowed = 0; evicted = [] }
past_limit_is_refused_at_once = refl

-- a block that is in memory isn't admitted again: the answer is that it is resident, and no entry is made
resident_again : (is_resident after_refusal 1 0 ≡ true) × (is_resident after_refusal 2 0 ≡ false)
resident_again = (refl, refl)

-- Uses, copies and removals

-- before its first admission a block is neither in memory nor on the store disk: a pin of it is a miss
missed_before_admission : (is_resident [] 1 0 ≡ false) × (total (leaves_copy 1 0) [] ≡ 0)
missed_before_admission = (refl, refl)

abbrev first_used_last : History
first_used_last = begin 0 0 ∷ unpin 1 0 ∷ pin 1 0 ∷ admit 2 0 200 Memory 150 0 ∷ admit 1 0 250 OnDisk 0 0 ∷ []

-- a pin hits, and makes its block the one used last
pin_is_a_use : (is_resident first_used_last 1 0 ≡ true) × (residents first_used_last ≡ block 2 0 200 Memory ∷ block 1 0 250 OnDisk ∷ []) × (worker_pin first_used_last 0 ≡ None)
pin_is_a_use = (refl, refl, refl)

unused_block_goes : growth one_worker first_used_last 300 ≡ record { unused = 0; need = 150; evicted = block 2 0 200 Memory ∷ []; moved = 200 }
unused_block_goes = refl

unused_ask_is_granted : answer one_worker first_used_last 0 300 ≡ Some 300
unused_ask_is_granted = refl

abbrev second_evicted : History
second_evicted = attempt 0 0 300 200 1 (Some 300) ∷ evict 2 0 200 Gone ∷ first_used_last

-- a lone task is granted up to what storage doesn't keep
lone_task_shares : (least_share (moment one_worker second_evicted 0 100) ≡ 175) × (greatest_share (moment one_worker second_evicted 0 100) ≡ 350)
lone_task_shares = (refl, refl)

short_grant : ((growth one_worker second_evicted 100).moved ≡ 0) × (answer one_worker second_evicted 0 100 ≡ Some 50)
short_grant = (refl, refl)

abbrev second_task : History
second_task = begin 0 1 ∷ end 0 0 350 ∷ attempt 0 0 100 0 0 (Some 50) ∷ second_evicted

next_task_gets_the_same : ((growth one_worker second_task 600).moved ≡ 0) × (answer one_worker second_task 1 600 ≡ Some 350)
next_task_gets_the_same = (refl, refl)

-- a removed block is gone: a pin of it is a miss, since no eviction left a copy
abbrev first_removed : History
first_removed = remove 1 0 250 ∷ end 0 1 350 ∷ attempt 0 1 600 0 0 (Some 350) ∷ second_task

missed_after_removal : (is_resident first_removed 1 0 ≡ false) × (total (leaves_copy 1 0) first_removed ≡ 0) × (stored first_removed ≡ 0)
missed_after_removal = (refl, refl, refl)

-- the block of level disk was used before the other: it goes, and leaves a copy that a pin reads
abbrev first_used_first : History
first_used_first = begin 0 0 ∷ admit 2 0 200 Memory 150 0 ∷ unpin 1 0 ∷ pin 1 0 ∷ admit 1 0 250 OnDisk 0 0 ∷ []

disk_block_goes : (growth one_worker first_used_first 300).evicted ≡ block 1 0 250 OnDisk ∷ []
disk_block_goes = refl

abbrev copied : History
copied = attempt 0 0 300 250 1 (Some 300) ∷ evict 1 0 250 Disk ∷ first_used_first

copy_is_read : (is_resident copied 1 0 ≡ false) × (total (leaves_copy 1 0) copied ≡ 1) × (worker_pin (read_copy 1 0 ∷ copied) 0 ≡ None)
copy_is_read = (refl, refl, refl)
