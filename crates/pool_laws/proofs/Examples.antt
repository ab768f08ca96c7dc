-- A worked journal, in which an ask evicts a block: it is safe, and its one grant has these numbers. And one that ends
-- amid evictions: each entry may follow, and it is by no groups.
use Rattle.std.proofs.Common.{◌≡◌, List, [], ◌∷◌, refl, lit<, lit≤}
use Rattle.pool_ledger.specs.declared.entry.Entry.{Entry}
use Rattle.pool_ledger.specs.declared.entry.Fate.TheVariants.{Gone}
use Rattle.pool_ledger.specs.declared.entry.Level.TheVariants.{Memory}
use Rattle.pool_ledger.specs.History.{History}
use Rattle.pool_ledger.specs.Journal.{journal_of}
use Rattle.pool_ledger.specs.Answers.{greatest_share, least_share}
use Rattle.pool_ledger.specs.Legal.{IsPermitted}
use Rattle.pool_ledger.specs.Groups.{IsLegalByGroups}
use Rattle.pool_ledger.proofs.Examples.{one_worker, admit, block, evict}
use Rattle.pool_ledger.proofs.BlockExamples.{first_evicted, eviction_is_legal}
use Rattle.pool_laws.specs.SafeJournal.{Grant, IsGrantOf, moment_of, held_after, IsSafeJournal}
use Rattle.pool_laws.proofs.EntriesOfGroups.{legal_of_groups}
use Rattle.pool_laws.proofs.Safe.{legal_is_safe}

abbrev evicting_journal : List Entry
evicting_journal = journal_of first_evicted

evicting_journal_is_safe : IsSafeJournal one_worker evicting_journal
evicting_journal_is_safe = legal_is_safe one_worker evicting_journal (lit≤ tt) eviction_is_legal

-- the fifth entry grants the task the 300 bytes that it asks
abbrev whole_grant : Grant
whole_grant = record { place = 4; task = 0; asked = 300; granted = 300 }

grant_is_there : IsGrantOf evicting_journal whole_grant
grant_is_there = record { worker = 0; moved = 250; evictions = 1; there = refl }

-- the limit of 400 is all the task's, the least share is half of the pool of 400, and the task then holds 300
grant_numbers : (greatest_share (moment_of one_worker evicting_journal whole_grant) ≡ 400) × (least_share (moment_of one_worker evicting_journal whole_grant) ≡ 200) × (held_after evicting_journal whole_grant ≡ 300)
grant_numbers = (refl, refl, refl)

-- a journal that ends with an eviction
abbrev amid_evictions : History
amid_evictions = evict 1 0 250 Gone ∷ admit 1 0 250 Memory 0 0 ∷ []

amid_evictions_is_permitted : IsPermitted one_worker amid_evictions
amid_evictions_is_permitted = (
  (
    tt,
    record { worker_known = lit< tt; own_turn = refl; event = record { absent = refl; answers = refl; borrows = refl; evicts = record { blocks_are = refl; number = refl } } },
  ),
  record { worker_known = lit< tt; own_turn = refl; event = (block 1 0 250 Memory, record { resident = refl; size_is = refl; unpinned = refl }, tt) },
)

amid_evictions_is_by_no_groups : IsLegalByGroups one_worker amid_evictions → ⊥
amid_evictions_is_by_no_groups by = cc (legal_of_groups one_worker amid_evictions (lit≤ tt) by).whole
