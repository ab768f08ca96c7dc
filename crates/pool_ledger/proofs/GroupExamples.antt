-- A worked example of groups: the journal of an ask that evicts a block.
use Rattle.std.proofs.Common.{Some, List, [], ◌∷◌, refl, lit<, lit≤}
use Rattle.pool_ledger.specs.declared.entry.Event.{Event}
use Rattle.pool_ledger.specs.declared.entry.Event.TheVariants.{Begin, Attempt, Admit}
use Rattle.pool_ledger.specs.declared.entry.Fate.TheVariants.{Gone as Lost}
use Rattle.pool_ledger.specs.declared.entry.Level.TheVariants.{Memory}
use Rattle.pool_ledger.specs.Groups.{Gone, Group, AreGroups, IsLegalByGroups}
use Rattle.pool_ledger.proofs.Examples.{one_worker}
use Rattle.pool_ledger.proofs.BlockExamples.{first_evicted}

-- an event of the worker, and the blocks that went for it
abbrev group : List Gone → Event → Group
group gone event = record { worker = 0; gone = gone; event = event }

-- the newest first: the ask with the block that goes for it, the begin of its task, and two admissions
abbrev first_groups : List Group
first_groups =
    group (record { dataset = 1; part = 0; size = 250; fate = Lost } ∷ []) (Attempt 0 300 250 1 (Some 300))
    ∷ group [] (Begin 0) ∷ group [] (Admit 2 0 200 Memory 150 0) ∷ group [] (Admit 1 0 250 Memory 0 0) ∷ []

groups_are_legal : AreGroups one_worker first_groups
groups_are_legal = (
  (
    ((tt, lit< tt, (refl, refl, refl, tt, refl)), lit< tt, (refl, refl, refl, tt, refl)),
    lit< tt,
    (refl, refl, refl),
  ),
  lit< tt,
  (refl, record { asked_some = lit≤ tt; asked_small = lit≤ tt; moves = refl; answers = refl; went = (refl, refl, refl, tt, tt); number = refl }),
)

eviction_is_legal_by_groups : IsLegalByGroups one_worker first_evicted
eviction_is_legal_by_groups = (first_groups, refl, groups_are_legal)
