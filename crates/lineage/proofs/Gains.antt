-- A block that comes into memory was admitted.
use Rattle.std.proofs.Common.{◌≡◌, ◌∙◌, ℕ, Bool, true, false, ◌==◌, List, [], ◌∷◌, ◌++◌, refl, sym, ap, subst, append_assoc, append-nil, inl, inr}
use Rattle.std.specs.List.{filter, list_any}
use Rattle.std.proofs.lemmas.Bool.{and_parts, both_ways, cases_Bool, eqb-true, or_from, or_parts}
use Rattle.std.proofs.lemmas.List.{reverse-append}
use Rattle.std.proofs.lemmas.List.Folds.{list_any-append}
use Rattle.pool_ledger.specs.declared.entry.Entry.{Entry}
use Rattle.pool_ledger.specs.declared.entry.Event.{Event}
use Rattle.pool_ledger.specs.declared.entry.Event.TheVariants.{Admit, Attempt, Begin, End, Evict, Grow, Pin, Refused, Release, Remove, Unpin}
use Rattle.pool_ledger.specs.declared.entry.Level.{Level}
use Rattle.pool_ledger.specs.Blocks.{Resident, is_block, is_resident, only, residents, residents_after, without}
use Rattle.pool_ledger.specs.History.{History}
use Rattle.pool_ledger.specs.Journal.{history_of}

-- the event is an admission of the block
abbrev pub Admits : ℕ → ℕ → Event → Type 0
Admits dataset part event = (size : ℕ) × (level : Level) × (borrowed evictions : ℕ) × (event ≡ Admit dataset part size level borrowed evictions)

none_left : {X : Type 0} (p q : X → Bool) (xs : List X) → list_any p xs ≡ false → list_any p (filter q xs) ≡ false
none_left p q [] none = refl
none_left p q (x ∷ xs) none =
    let parts = or_parts (p x) (list_any p xs) none in
    elim (cases_Bool (q x)) [
      | inl kept ↦ rw kept (or_from (p x) (list_any p (filter q xs)) parts.0 (none_left p q xs parts.1))
      | inr lost ↦ rw lost (none_left p q xs parts.1)
    ]

module _ (dataset part : ℕ) (blocks : List Resident) (none : list_any (is_block dataset part) blocks ≡ false) where
  admitted : (d p size : ℕ) (level : Level) (borrowed evictions : ℕ)
      → list_any (is_block dataset part) (residents_after (Admit d p size level borrowed evictions) blocks) ≡ true
      → Admits dataset part (Admit d p size level borrowed evictions)
  admitted d p size level borrowed evictions some =
      let block : Resident = record { dataset = d; part = p; size = size; level = level } in
      elim (cases_Bool (is_block dataset part block)) [
        | inl same ↦
            let both = and_parts (d == dataset) (p == part) same in
            let one : d ≡ dataset = eqb-true d dataset both.0 in
            let two : p ≡ part = eqb-true p part both.1 in
            (size, level, borrowed, evictions, rw (one, two) refl)
        | inr other ↦
            let last : list_any (is_block dataset part) (block ∷ []) ≡ false = or_from (is_block dataset part block) false other refl in
            let whole : list_any (is_block dataset part) (blocks ++ block ∷ []) ≡ false =
            list_any-append (is_block dataset part) blocks (block ∷ []) ∙ or_from (list_any (is_block dataset part) blocks) (list_any (is_block dataset part) (block ∷ [])) none last in
            absurd (both_ways (list_any (is_block dataset part) (blocks ++ block ∷ [])) whole some)
      ]

  moved : (d p : ℕ) → list_any (is_block dataset part) (without d p blocks ++ only d p blocks) ≡ false
  moved d p =
      list_any-append (is_block dataset part) (without d p blocks) (only d p blocks)
      ∙ or_from (list_any (is_block dataset part) (without d p blocks)) (list_any (is_block dataset part) (only d p blocks))
      (none_left (is_block dataset part) _ blocks none) (none_left (is_block dataset part) _ blocks none)

  -- a block that is there after an event and wasn't before it was admitted by it
  gains : (event : Event) → list_any (is_block dataset part) (residents_after event blocks) ≡ true → Admits dataset part event
  gains (Admit d p size level borrowed evictions) some = admitted d p size level borrowed evictions some
  gains (Evict d p size fate) some = absurd (both_ways _ (none_left (is_block dataset part) _ blocks none) some)
  gains (Remove d p size) some = absurd (both_ways _ (none_left (is_block dataset part) _ blocks none) some)
  gains (Pin d p true) some = absurd (both_ways _ none some)
  gains (Pin d p false) some = absurd (both_ways _ (moved d p) some)
  gains (Begin task) some = absurd (both_ways _ none some)
  gains (Attempt task asked amount evictions got) some = absurd (both_ways _ none some)
  gains (Release task freed) some = absurd (both_ways _ none some)
  gains (End task freed) some = absurd (both_ways _ none some)
  gains (Refused d p size borrowed evictions) some = absurd (both_ways _ none some)
  gains (Unpin d p) some = absurd (both_ways _ none some)
  gains (Grow bytes) some = absurd (both_ways _ none some)

-- among these entries stands an admission of the block
pub record HasAdmission (dataset part : ℕ) (entries : List Entry) : Type 0 where
  pub amid : List Entry
  pub entry : Entry
  pub behind : List Entry
  pub are : entries ≡ amid ++ entry ∷ behind
  pub admits : Admits dataset part entry.event

newest : (seen : List Entry) (entry : Entry) → history_of (seen ++ entry ∷ []) ≡ entry ∷ history_of seen
newest seen entry = reverse-append seen (entry ∷ [])

-- a block that is in memory, and wasn't before these entries, was admitted among them
pub admitted_amid : (dataset part : ℕ) (seen more : List Entry) → is_resident (history_of seen) dataset part ≡ false
    → is_resident (history_of (seen ++ more)) dataset part ≡ true → HasAdmission dataset part more
admitted_amid dataset part seen [] none some =
    absurd (both_ways (is_resident (history_of seen) dataset part) none (subst (λ (es : List Entry). is_resident (history_of es) dataset part ≡ true) (append-nil seen) some))
admitted_amid dataset part seen (entry ∷ more) none some =
    let first : is_resident (history_of (seen ++ entry ∷ [])) dataset part ≡ list_any (is_block dataset part) (residents_after entry.event (residents (history_of seen))) =
    ap (λ (h : History). is_resident h dataset part) (newest seen entry) in
    elim (cases_Bool (is_resident (history_of (seen ++ entry ∷ [])) dataset part)) [
      | inl there ↦ record {
        amid = [];
        entry = entry;
        behind = more;
        are = refl;
        admits = gains dataset part (residents (history_of seen)) none entry.event (sym first ∙ there);
      }
      | inr absent ↦
          let rest = admitted_amid dataset part (seen ++ entry ∷ []) more absent
          (subst (λ (es : List Entry). is_resident (history_of es) dataset part ≡ true) (sym (append_assoc seen (entry ∷ []) more)) some) in
          record {
            amid = entry ∷ rest.amid;
            entry = rest.entry;
            behind = rest.behind;
            are = ap (λ (es : List Entry). entry ∷ es) rest.are;
            admits = rest.admits;
          }
    ]
