-- Legality by groups against legality entry by entry.
-- This project's own.
use Rattle.pool_ledger.specs.Sizes.{Sizes}
use Rattle.pool_ledger.specs.History.{History}
use Rattle.pool_ledger.specs.Legal.{IsLegal}
use Rattle.pool_ledger.specs.Groups.{IsLegalByGroups}

-- a history is legal by groups exactly where it is legal entry by entry
pub record GroupsAreLegal (setup : Sizes) (history : History) : Type 0 where
  pub entries : IsLegalByGroups setup history → IsLegal setup history
  pub groups : IsLegal setup history → IsLegalByGroups setup history
