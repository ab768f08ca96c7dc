-- The open files by their places: what a write to the one at a place changes of the look-ups by number.
use Rattle.std.proofs.Common.{◌≡◌, ◌≢◌, ℕ, cond, nat_eq, List, [], ◌∷◌, Some, Result, Ok, Err, sym, ap, subst, ◌∙◌, inl, inr, ne_eqb}
use Rattle.std.specs.Prelude.{OnOk, slice_get}
use Rattle.std.specs.Option.{option_map, option_map_or}
use Rattle.std.specs.Cmp.{nat_eq_equiv}
use Rattle.std.specs.Map.{lookup_key}
use Rattle.std.proofs.lemmas.Bool.Decides.{eqb_tells}
use Rattle.std.proofs.lemmas.Option.{none-some, same_Some, slice_get-map}
use Rattle.indexmap.specs.IndexMap.{IndexMap, IsUnique, get, values, with_value_at}
use Rattle.indexmap.proofs.CallerLemmas.{updates-with_value_at}
use Rattle.spill_disk.specs.Ahead.{Covers}
use Rattle.spill_disk.specs.Folder.{GivesAgain, IsAhead, IsOpenAt, collected_in}
use Rattle.spill_disk.specs.declared.opened.Opened.{Opened}

-- the key that is found is the number that was looked for
pub key_found : {X : Type 0} (number : ℕ) (entries : List (ℕ × X)) (key : ℕ) → lookup_key (nat_eq number) entries ≡ Some key → key ≡ number
key_found number [] key found = absurd (none-some key found)
key_found number (e ∷ entries) key found = elim (eqb_tells number e.0) [
  | inl same ↦ sym (same_Some e.0 key (sym (ap (λ b. cond b (Some e.0) (lookup_key (nat_eq number) entries)) same.0) ∙ found)) ∙ sym same.1
  | inr differs ↦ key_found number entries key (sym (ap (λ b. cond b (Some e.0) (lookup_key (nat_eq number) entries)) differs.0) ∙ found)
]

-- the file at the place is the one that was written
pub found_after : {F S : Type 0} (kept : IndexMap ℕ (Opened F) S) (number at : ℕ) (written : Opened F) → IsUnique nat_eq kept → IsOpenAt kept number at → get nat_eq (with_value_at kept at written) number ≡ Some written
found_after kept number at written unique here = (updates-with_value_at kept at written nat_eq_equiv unique number here.opened here.entry).1

-- and each other one stays
pub others_after : {F S : Type 0} (kept : IndexMap ℕ (Opened F) S) (number at : ℕ) (written : Opened F) → IsUnique nat_eq kept → IsOpenAt kept number at
    → (other : ℕ) → other ≢ number → get nat_eq (with_value_at kept at written) other ≡ get nat_eq kept other
others_after kept number at written unique here other apart =
    (updates-with_value_at kept at written nat_eq_equiv unique number here.opened here.entry).2 other (ne_eqb number other (λ same. apart (sym same)))

-- the file that is lent is the one that was found
pub was_open : {F S : Type 0} (kept : IndexMap ℕ (Opened F) S) (number at : ℕ) (lent : Opened F) → IsOpenAt kept number at → Some lent ≡ slice_get (values kept) at → get nat_eq kept number ≡ Some lent
was_open kept number at lent here value =
    here.found ∙ sym (value ∙ slice_get-map (λ e. e.1) kept.entries at ∙ ap (option_map (λ e. e.1)) here.entry)

-- nothing is collected for a file for which nothing is
pub collected_after : {F S : Type 0} (kept : IndexMap ℕ (Opened F) S) (number : ℕ) (opened : Opened F) → get nat_eq kept number ≡ Some opened → opened.collected.items ≡ [] → collected_in kept number ≡ []
collected_after kept number opened found none = rw found none

pub none_collected : {F S : Type 0} (kept : IndexMap ℕ (Opened F) S) (number : ℕ) (opened : Opened F) → get nat_eq kept number ≡ Some opened → collected_in kept number ≡ [] → opened.collected.items ≡ []
none_collected kept number opened found none = subst (λ o. option_map_or (λ opened. opened.collected.items) o [] ≡ []) found none

-- what is ahead of a file is ahead of the one that was found
pub covers_found : {F S : Type 0} (kept : IndexMap ℕ (Opened F) S) (number place count : ℕ) (opened : Opened F) → get nat_eq kept number ≡ Some opened → IsAhead (get nat_eq kept number) place count
    → Covers opened.ahead_at opened.ahead.items place count
covers_found kept number place count opened found ahead = subst (λ o. IsAhead o place count) found ahead

-- what was ahead still is
pub given_again : {F S : Type 0} (before after : IndexMap ℕ (Opened F) S) (number place count : ℕ) (was is : Opened F) → get nat_eq before number ≡ Some was → get nat_eq after number ≡ Some is
    → (Covers was.ahead_at was.ahead.items place count → is.ahead_at ≡ was.ahead_at) → (Covers was.ahead_at was.ahead.items place count → is.ahead.items ≡ was.ahead.items)
    → GivesAgain (get nat_eq before number) (get nat_eq after number) place count
given_again before after number place count was is found_before found_after again_at again =
    rw (found_before, found_after) (λ covers. (again_at covers, again covers))

pub on_ok : {T E X : Type 0} (r : Result T E) → X → OnOk r X
on_ok (Ok t) x = x
on_ok (Err e) x = tt
