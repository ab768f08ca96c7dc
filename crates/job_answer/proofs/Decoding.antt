-- What a group's entry tells is the group.
use Rattle.std.proofs.Common.{◌≡◌, ◌*◌, ◌∙◌, ◌++◌, ℕ, Bool, List, [], ◌∷◌, Option, Some, None, map, length, drop, refl, sym, ap, inl, inr, ℤ, All}
use Rattle.std.specs.Prelude.{option_map}
use Rattle.std.specs.List.{AllByRecursion, find, flat_map, list_any}
use Rattle.std.proofs.lemmas.Bool.{cases_Bool}
use Rattle.std.proofs.lemmas.List.{drop_at}
use Rattle.std.proofs.lemmas.List.Elements.{All-from_recursion}
use Rattle.aggregate.specs.Partial.{slot_bytes}
use Rattle.aggregate.specs.PartialLaws.{PartialsAreLong, PartialsComeBack}
use Rattle.aggregate.specs.Spelling.{SpellingsAreReadBack, spelled}
use Rattle.aggregate.specs.Totals.{Entry}
use Rattle.aggregate.specs.Values.{FitsPartial}
use Rattle.job_text.specs.declared.job.Part.{Part}
use Rattle.job_text.specs.declared.job.Shape.TheVariants.{Group}
use Rattle.job_plan.specs.Columns.{Fields}
use Rattle.job_plan.specs.Telling.{IsGroupEntry, IsTold, field_before, is_wide, key_fields, leaves_i64, row_of, told_field, value_partials}
use Rattle.job_answer.proofs.Values.{bytes_of, length-bytes_of, partials-read}

-- the entry of a group, and the values that are told of it
abbrev pub group_entry : Fields × List (Option ℤ) → Entry
group_entry group = record { key = flat_map spelled group.0; value = bytes_of group.1 }

-- one of these is a number that leaves `i64`
abbrev pub leaves : Fields × List (Option ℤ) → Bool
leaves group = list_any leaves_i64 group.1

-- a group of so many fields, of which so many values are told
pub record IsGroup (columns parts : ℕ) (group : Fields × List (Option ℤ)) : Type 0 where
  pub several : length group.0 ≡ columns
  pub counted : length group.1 ≡ parts
  pub fits : AllByRecursion FitsPartial group.1

module _ (read : SpellingsAreReadBack) (long : PartialsAreLong) (back : PartialsComeBack) where
  fields-read : (fields : Fields) → key_fields (length fields) (flat_map spelled fields) ≡ fields
  unfolding key_fields
  fields-read [] = refl
  fields-read (f ∷ fs) =
      let key = spelled f ++ flat_map spelled fs in
      let later : key_fields (length fs) (drop (length (spelled f)) key) ≡ fs = ap (key_fields (length fs)) (drop_at (spelled f) (flat_map spelled fs) (length (spelled f)) refl) ∙ fields-read fs in
      ap (λ (o : Option (List ℕ × ℕ)). field_before o (λ size. key_fields (length fs) (drop size key))) (read f (flat_map spelled fs))
      ∙ ap (λ (rest : Fields). f ∷ rest) later

  fields-told : (columns : ℕ) (fields : Fields) → length fields ≡ columns → key_fields columns (flat_map spelled fields) ≡ fields
  fields-told columns fields h = ap (λ (n : ℕ). key_fields n (flat_map spelled fields)) (sym h) ∙ fields-read fields

  partials-told : (parts : ℕ) (partials : List (Option ℤ)) → length partials ≡ parts → AllByRecursion FitsPartial partials → value_partials parts (bytes_of partials) ≡ partials
  partials-told parts partials h fits = ap (λ (n : ℕ). value_partials n (bytes_of partials)) (sym h) ∙ partials-read long back partials fits

  wide-told : (parts columns : ℕ) (group : Fields × List (Option ℤ)) → IsGroup columns parts group → is_wide parts (group_entry group) ≡ leaves group
  wide-told parts columns group is = ap (list_any leaves_i64) (partials-told parts group.1 is.counted is.fits)

  pub rows-told : (columns : List ℕ) (parts : List Part) (groups : List (Fields × List (Option ℤ))) → AllByRecursion (IsGroup (length columns) (length parts)) groups
      → map (row_of (Group columns parts)) (map group_entry groups) ≡ map (λ group. group.0 ++ map told_field group.1) groups
  rows-told columns parts [] all = refl
  rows-told columns parts (group ∷ groups) all =
      rw (fields-told (length columns) group.0 all.0.several, partials-told (length parts) group.1 all.0.counted all.0.fits, rows-told columns parts groups all.1) refl

  pub first-wide : (columns parts : ℕ) (groups : List (Fields × List (Option ℤ))) → AllByRecursion (IsGroup columns parts) groups
      → option_map (λ entry. entry.key) (find (is_wide parts) (map group_entry groups)) ≡ option_map (λ group. flat_map spelled group.0) (find leaves groups)
  first-wide columns parts [] all = refl
  first-wide columns parts (group ∷ groups) all =
      let more = first-wide columns parts groups all.1 in
      let same = wide-told parts columns group all.0 in
      elim (cases_Bool (leaves group)) [
        | inl here ↦ rw (same, here) refl
        | inr past ↦ rw (same, past) more
      ]

  told-each : (columns : List ℕ) (parts : List Part) (groups : List (Fields × List (Option ℤ))) → AllByRecursion (IsGroup (length columns) (length parts)) groups
      → option_map (λ group. flat_map spelled group.0) (find leaves groups) ≡ None → AllByRecursion (IsTold (Group columns parts)) (map group_entry groups)
  told-each columns parts [] all none = tt
  told-each columns parts (group ∷ groups) all none = elim (cases_Bool (leaves group)) [
    | inl here ↦ let some : Some (flat_map spelled group.0) ≡ None = rw here at none in cc
    | inr past ↦
        let entry : IsGroupEntry (length columns) (length parts) (group_entry group) = record {
          fields = group.0;
          several = all.0.several;
          key = refl;
          value = length-bytes_of long back group.1 ∙ ap (λ (n : ℕ). slot_bytes * n) all.0.counted;
          narrow = wide-told (length parts) (length columns) group all.0 ∙ past;
        } in
        (entry, told-each columns parts groups all.1 (rw past at none))
  ]

  pub all-told : (columns : List ℕ) (parts : List Part) (groups : List (Fields × List (Option ℤ))) → AllByRecursion (IsGroup (length columns) (length parts)) groups
      → option_map (λ group. flat_map spelled group.0) (find leaves groups) ≡ None → All (IsTold (Group columns parts)) (map group_entry groups)
  all-told columns parts groups all none = All-from_recursion (IsTold (Group columns parts)) (map group_entry groups) (told-each columns parts groups all none)
