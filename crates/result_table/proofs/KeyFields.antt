-- The fields that a key spells, taken from it one after the other.
use Rattle.std.proofs.Common.{◌≡◌, ◌<◌, ◌≤◌, ◌+◌, ◌++◌, ℕ, suc, List, [], ◌∷◌, Some, length, drop, sym, ap, ◌∙◌, refl, arith, append_assoc, length-append, length-drop}
use Rattle.std.specs.List.{flat_map}
use Rattle.std.proofs.lemmas.Grind.{flat_map-append}
use Rattle.std.proofs.lemmas.List.{append-nil, drop-drop, drop_all, drop_at}
use Rattle.aggregate.specs.Spelling.{BeginsWithNone, SpellingsAreApart, TakesField, spelled, unspelled}
use Rattle.job_plan.specs.Columns.{Fields}
use Rattle.job_plan.specs.Telling.{key_fields}
use Rattle.result_table.specs.Told.{IsSpelling}

-- these fields were taken, so many of them, and the key is read up to a place
pub record Taken (key : List ℕ) (at count : ℕ) (fields : Fields) : Type 0 where
  pub within : at ≤ length key
  pub several : length fields ≡ count
  pub spells : key ≡ flat_map spelled fields ++ drop at key
  pub first : (n : ℕ) → key_fields (count + n) key ≡ fields ++ key_fields n (drop at key)

zero_plus : (n : ℕ) → 0 + n ≡ n
zero_plus n = omega arith

pub taken_none : (key : List ℕ) → Taken key 0 0 []
taken_none key = record { within = omega arith; several = refl; spells = refl; first = λ n. ap (λ (m : ℕ). key_fields m key) (zero_plus n) }

-- the fields from a place on begin with the one that is read there
next_field : (key : List ℕ) (at size n : ℕ) (field : List ℕ) → unspelled (drop at key) ≡ Some (field, size)
    → key_fields (n + 1) (drop at key) ≡ field ∷ key_fields n (drop (at + size) key)
unfolding key_fields
next_field key at size n field read =
    let one : n + 1 ≡ suc n = omega arith in
    rw (one, read) (ap (λ (k : List ℕ). field ∷ key_fields n k) (drop-drop size at key))

pub taken_next : (key : List ℕ) (at count size : ℕ) (fields : Fields) (new : List ℕ) → Taken key at count fields → TakesField (drop at key) [] new size
    → Taken key (at + size) (count + 1) (fields ++ new ∷ [])
taken_next key at count size fields new h t =
    let is : new ≡ t.field = t.appended in
    let behind : drop (at + size) key ≡ t.rest =
    sym (drop-drop size at key) ∙ ap (drop size) t.key_is ∙ drop_at (spelled t.field) t.rest size (sym t.length_is) in
    let long : length (drop at key) ≡ length (spelled t.field) + length t.rest = ap length t.key_is ∙ length-append (spelled t.field) t.rest in
    let front : flat_map spelled (fields ++ t.field ∷ []) ≡ flat_map spelled fields ++ spelled t.field =
    flat_map-append spelled fields (t.field ∷ []) ∙ ap (λ (b : List ℕ). flat_map spelled fields ++ b) (append-nil (spelled t.field)) in
    rw is (record {
      within = omega (arith, length-drop at key, long, t.length_is, h.within);
      several = length-append fields (t.field ∷ []) ∙ omega (arith, h.several);
      spells = h.spells ∙ ap (λ (b : List ℕ). flat_map spelled fields ++ b) (t.key_is ∙ ap (λ (b : List ℕ). spelled t.field ++ b) (sym behind))
          ∙ sym (append_assoc (flat_map spelled fields) (spelled t.field) (drop (at + size) key))
          ∙ ap (λ (b : List ℕ). b ++ drop (at + size) key) (sym front);
      first = λ n.
          let more : count + 1 + n ≡ count + (n + 1) = omega arith in
          ap (λ (m : ℕ). key_fields m key) more ∙ h.first (n + 1)
          ∙ ap (λ (fs : Fields). fields ++ fs) (next_field key at size n t.field t.read_is)
          ∙ sym (append_assoc fields (t.field ∷ []) (key_fields n (drop (at + size) key)));
    })

-- where the key is at its end, it is the spelling of these fields, which are its first
pub taken_all : (key : List ℕ) (at count columns : ℕ) (fields : Fields) → Taken key at count fields → count ≡ columns → at ≡ length key → IsSpelling columns fields key
taken_all key at count columns fields h same end =
    (h.several ∙ same, h.spells ∙ ap (λ (b : List ℕ). flat_map spelled fields ++ b) (drop_all at key (omega (arith, end))) ∙ append-nil (flat_map spelled fields))

pub taken_are : (key : List ℕ) (at count columns : ℕ) (fields : Fields) → Taken key at count fields → count ≡ columns → fields ≡ key_fields columns key
unfolding key_fields
taken_are key at count columns fields h same =
    let none : count + 0 ≡ columns = omega (arith, same) in
    sym (ap (λ (m : ℕ). key_fields m key) (sym none) ∙ h.first 0 ∙ append-nil fields)

-- ---- keys that are the spelling of other fields
-- fields that are spelled at the front are the first ones
front_of : SpellingsAreApart → (fields others : Fields) (rest : List ℕ) → flat_map spelled fields ++ rest ≡ flat_map spelled others
    → length fields ≤ length others → (behind : Fields) × (length others ≡ length fields + length behind) × (rest ≡ flat_map spelled behind)
front_of apart [] others rest same few = (others, sym (zero_plus (length others)), same)
front_of apart (field ∷ fields) [] rest same few = absurd (omega (arith, few))
front_of apart (field ∷ fields) (other ∷ others) rest same few =
    let both = apart field other (flat_map spelled fields ++ rest) (flat_map spelled others)
    (sym (append_assoc (spelled field) (flat_map spelled fields) rest) ∙ same) in
    let found = front_of apart fields others rest both.1 (omega (arith, few)) in
    (found.0, omega (arith, found.1), found.2)

pub no_more : SpellingsAreApart → (key : List ℕ) (at count columns : ℕ) (fields : Fields) → Taken key at count fields → count < columns
    → BeginsWithNone (drop at key) → (others : Fields) → IsSpelling columns others key → ⊥
no_more apart key at count columns fields h few none others spelling =
    let found = front_of apart fields others (drop at key) (sym h.spells ∙ spelling.1) (omega (arith, h.several, spelling.0)) in
    by_behind found.0 found.1 found.2
  where
    by_behind : (behind : Fields) → length others ≡ length fields + length behind → drop at key ≡ flat_map spelled behind → ⊥
    by_behind [] long same = absurd (omega (arith, long, few, h.several, spelling.0))
    by_behind (field ∷ behind) long same = none field (flat_map spelled behind) same

pub too_long : SpellingsAreApart → (key : List ℕ) (at count columns : ℕ) (fields : Fields) → Taken key at count fields → count ≡ columns
    → (at ≡ length key → ⊥) → (others : Fields) → IsSpelling columns others key → ⊥
too_long apart key at count columns fields h even more others spelling =
    let found = front_of apart fields others (drop at key) (sym h.spells ∙ spelling.1) (omega (arith, h.several, spelling.0, even)) in
    by_behind found.0 found.1 found.2
  where
    by_behind : (behind : Fields) → length others ≡ length fields + length behind → drop at key ≡ flat_map spelled behind → ⊥
    by_behind [] long same = more (omega (arith, h.within, length-drop at key, ap length same))
    by_behind (field ∷ behind) long same = absurd (omega (arith, long, h.several, spelling.0, even))
