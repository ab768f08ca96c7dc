-- The history after each place of a journal: what was recorded is recorded there.
use Rattle.std.proofs.Common.{◌≡◌, ℕ, ◌+◌, ◌<◌, Some, List, [], ◌∷◌, ◌++◌, get_or, length, take, drop, sym, ap, subst, ◌∙◌}
use Rattle.std.specs.Prelude.{reverse, slice_get}
use Rattle.std.proofs.lemmas.List.{take_more, take-append-drop, reverse-append}
use Rattle.std.proofs.lemmas.Option.{slice_get_within, get_or_from_slice_get}
use Rattle.pool_ledger.specs.declared.entry.Entry.{Entry}
use Rattle.pool_ledger.specs.Sizes.{Sizes}
use Rattle.pool_ledger.specs.History.{History}
use Rattle.pool_ledger.specs.Recorded.{IsRecorded}
use Rattle.pool_ledger.specs.Journal.{after}

-- the whole history ends in the one after n entries
pub whole-after : (n : ℕ) (journal : List Entry) → reverse journal ≡ reverse (drop n journal) ++ after n journal
whole-after n journal = ap reverse (sym (take-append-drop n journal)) ∙ reverse-append (take n journal) (drop n journal)

pub recorded_before : (s : Sizes) (newer before : History) → IsRecorded s (newer ++ before) → IsRecorded s before
recorded_before s [] before r = r
recorded_before s (entry ∷ newer) before r = recorded_before s newer before r.0

pub recorded_after : (s : Sizes) (n : ℕ) (journal : List Entry) → IsRecorded s (reverse journal) → IsRecorded s (after n journal)
recorded_after s n journal r = recorded_before s (reverse (drop n journal)) (after n journal) (subst (IsRecorded s) (whole-after n journal) r)

-- one entry more
pub after-more : (n : ℕ) (journal : List Entry) (any : Entry) → n < length journal → after (n + 1) journal ≡ get_or journal n any ∷ after n journal
after-more n journal any below = ap reverse (take_more journal n any below) ∙ reverse-append (take n journal) (get_or journal n any ∷ [])

pub after-at : (n : ℕ) (journal : List Entry) (entry : Entry) → slice_get journal n ≡ Some entry → after (n + 1) journal ≡ entry ∷ after n journal
after-at n journal entry there =
    after-more n journal entry (slice_get_within journal n entry there) ∙ ap (λ e. e ∷ after n journal) (get_or_from_slice_get journal n entry entry there)
