-- What is permitted was permitted after each of a journal's entries, and so was the entry at each place.
use Rattle.std.proofs.Common.{◌≡◌, ℕ, ◌+◌, Some, List, [], ◌∷◌, ◌++◌, drop, subst}
use Rattle.std.specs.Prelude.{reverse, slice_get}
use Rattle.pool_ledger.specs.declared.entry.Entry.{Entry}
use Rattle.pool_ledger.specs.Sizes.{Sizes}
use Rattle.pool_ledger.specs.History.{History}
use Rattle.pool_ledger.specs.Journal.{history_of, after}
use Rattle.pool_ledger.specs.Legal.{IsPermitted}
use Rattle.pool_ledger.proofs.Prefixes.{whole-after, after-at}

permitted_before : (s : Sizes) (newer before : History) → IsPermitted s (newer ++ before) → IsPermitted s before
permitted_before s [] before perm = perm
permitted_before s (entry ∷ newer) before perm = permitted_before s newer before perm.0

pub permitted_after : (s : Sizes) (journal : List Entry) → IsPermitted s (history_of journal) → (n : ℕ) → IsPermitted s (after n journal)
permitted_after s journal perm n = permitted_before s (reverse (drop n journal)) (after n journal) (subst (IsPermitted s) (whole-after n journal) perm)

-- the entry at a place follows what came before it
pub permitted_at : (s : Sizes) (journal : List Entry) → IsPermitted s (history_of journal) → (n : ℕ) (entry : Entry) → slice_get journal n ≡ Some entry → IsPermitted s (entry ∷ after n journal)
permitted_at s journal perm n entry there = subst (IsPermitted s) (after-at n journal entry there) (permitted_after s journal perm (n + 1))
