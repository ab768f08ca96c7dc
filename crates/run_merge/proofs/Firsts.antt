-- The reader whose row is given first, of those that stand at one.
use Rattle.std.proofs.Common.{◌≡◌, ℕ, ◌<◌, Bool, true, false, List, length, get_or, sym, ap, subst, ◌∙◌, inl, inr}
use Rattle.std.specs.Ordering.{is_gt}
use Rattle.std.proofs.lemmas.Bool.{cases_lt}
use Rattle.std.proofs.lemmas.List.{get_or_default}
use Rattle.aggregate.specs.Totals.{key_cmp}
use Rattle.run_file.specs.Readers.{ReaderView}
use Rattle.run_file.specs.AtEntries.{entry_at}
use Rattle.run_merge.specs.Heads.{has_head, IsFirst}
use Rattle.run_merge.proofs.KeyOrders.{less_not_gt, upto_itself}

-- what is read twice at one place is one reader
pub read_again : (readers : List ReaderView) (i k : ℕ) (a b : ReaderView) → k < length readers → k ≡ i → a ≡ get_or readers i a → b ≡ get_or readers k b → b ≡ a
read_again readers i k a b lt same a-is b-is =
    b-is ∙ get_or_default readers k b a lt ∙ ap (λ (n : ℕ). get_or readers n a) same ∙ sym a-is

-- its key isn't above itself
pub at_itself : (readers : List ReaderView) (i k : ℕ) (a b : ReaderView) → k < length readers → k ≡ i → a ≡ get_or readers i a → b ≡ get_or readers k b → is_gt (key_cmp (entry_at a).key (entry_at b).key) ≡ false
at_itself readers i k a b lt same a-is b-is =
    subst (λ (r : ReaderView). is_gt (key_cmp (entry_at a).key (entry_at r).key) ≡ false) (sym (read_again readers i k a b lt same a-is b-is)) (upto_itself (entry_at a).key)

-- no reader that stands at a row has a key below that of the first
pub not_below : (readers : List ReaderView) (heads : List Bool) (place : ℕ) (first : ReaderView) → first ≡ get_or readers place first → IsFirst readers heads place → (k : ℕ) (reader : ReaderView) → k < length readers → reader ≡ get_or readers k reader → has_head heads k ≡ true
    → is_gt (key_cmp (entry_at first).key (entry_at reader).key) ≡ false
not_below readers heads place first first-is h k reader lt is head =
    elim (cases_lt k place) [
      | inl below ↦ less_not_gt (key_cmp (entry_at first).key (entry_at reader).key) (h.before first first-is k reader lt is below head)
      | inr from ↦ h.behind first first-is k reader lt is from head
    ]
