-- The joint value of a group's rows, partial value by partial value.
use Rattle.std.proofs.Common.{◌≡◌, ◌+◌, ◌*◌, ◌∙◌, ◌++◌, ℕ, List, [], ◌∷◌, map, length, Option, refl, sym, ap, arith, append_assoc, ℤ}
use Rattle.std.specs.List.{AllByRecursion, flat_map, range_with_len}
use Rattle.std.proofs.lemmas.List.{drop_at, length-append, take_at}
use Rattle.aggregate.specs.declared.agg_list.Agg.{Agg}
use Rattle.aggregate.specs.Partial.{combined, joined, partial_at, partial_in, partial_of, slot_bytes}
use Rattle.aggregate.specs.PartialLaws.{PartialsAreLong, PartialsComeBack}
use Rattle.aggregate.specs.Values.{FitsPartial}
use Rattle.aggregate.proofs.CombinedLaws.{joined-fits}
use Rattle.aggregate.proofs.Present.{joint}
use Rattle.job_text.specs.declared.job.Part.{Part}
use Rattle.job_plan.specs.Telling.{value_partials}

-- values, combined from the right
abbrev pub joint_value : List Agg → List ℕ → List (List ℕ) → List ℕ
joint_value aggs a [] = a
joint_value aggs a (b ∷ bs) = combined aggs a (joint_value aggs b bs)

-- the value that has these partial values
abbrev pub bytes_of : List (Option ℤ) → List ℕ
bytes_of partials = flat_map partial_of partials

module _ {R : Type 0} (value_in : Part → R → Option ℤ) (fits : (part : Part) (row : R) → FitsPartial (value_in part row)) where
  pub joint-fits : (agg : Agg) (part : Part) (row : R) (rows : List R) → FitsPartial (joint agg (value_in part row) (map (value_in part) rows))
  joint-fits agg part row [] = fits part row
  joint-fits agg part row (r ∷ rows) = joined-fits agg (value_in part row) (joint agg (value_in part r) (map (value_in part) rows)) (fits part row) (joint-fits agg part r rows)

module _ (long : PartialsAreLong) (back : PartialsComeBack) where
  partial-back : (o : Option ℤ) → FitsPartial o → partial_in (partial_of o) ≡ o
  partial-back o fits =
      let e = back o 0 [] [] fits refl in
      ap partial_in (sym (take_at (partial_of o) [] slot_bytes (long o))) ∙ e

  combined-bytes : (x y : Part → Option ℤ) (parts : List Part) → ((part : Part) → FitsPartial (x part)) → ((part : Part) → FitsPartial (y part))
      → combined (map (λ part. part.agg) parts) (bytes_of (map x parts)) (bytes_of (map y parts)) ≡ bytes_of (map (λ part. joined part.agg (x part) (y part)) parts)
  combined-bytes x y [] fits-x fits-y = refl
  combined-bytes x y (part ∷ parts) fits-x fits-y =
      let more = combined-bytes x y parts fits-x fits-y in
      rw (
        take_at (partial_of (x part)) (bytes_of (map x parts)) slot_bytes (long (x part)),
        drop_at (partial_of (x part)) (bytes_of (map x parts)) slot_bytes (long (x part)),
        take_at (partial_of (y part)) (bytes_of (map y parts)) slot_bytes (long (y part)),
        drop_at (partial_of (y part)) (bytes_of (map y parts)) slot_bytes (long (y part)),
        partial-back (x part) (fits-x part),
        partial-back (y part) (fits-y part),
        more,
      )
      refl

  pub length-bytes_of : (partials : List (Option ℤ)) → length (bytes_of partials) ≡ slot_bytes * length partials
  length-bytes_of [] = refl
  length-bytes_of (o ∷ os) =
      let more = length-bytes_of os in
      let first = long o in
      let both = length-append (partial_of o) (bytes_of os) in
      omega arith

  partials-behind : (before : List ℕ) (i : ℕ) (partials : List (Option ℤ)) → AllByRecursion FitsPartial partials → length before ≡ slot_bytes * i
      → map (λ place. partial_at place (before ++ bytes_of partials)) (range_with_len i (length partials)) ≡ partials
  partials-behind before i [] fits h = refl
  partials-behind before i (o ∷ os) fits h =
      let here : partial_at i (before ++ bytes_of (o ∷ os)) ≡ o = back o i before (bytes_of os) fits.0 h in
      let same : before ++ bytes_of (o ∷ os) ≡ (before ++ partial_of o) ++ bytes_of os = sym (append_assoc before (partial_of o) (bytes_of os)) in
      let far : length (before ++ partial_of o) ≡ slot_bytes * (i + 1) = length-append before (partial_of o) ∙ rw (h, long o) (omega arith) in
      let later : map (λ place. partial_at place (before ++ bytes_of (o ∷ os))) (range_with_len (i + 1) (length os)) ≡ os =
      ap (λ (v : List ℕ). map (λ place. partial_at place v) (range_with_len (i + 1) (length os))) same ∙ partials-behind (before ++ partial_of o) (i + 1) os fits.1 far in
      rw (here, later) refl

  -- the partial values of a value are read back
  pub partials-read : (partials : List (Option ℤ)) → AllByRecursion FitsPartial partials → value_partials (length partials) (bytes_of partials) ≡ partials
  partials-read partials fits = partials-behind [] 0 partials fits refl

  -- the joint value of rows has the joint partial values
  pub joint-bytes : {R : Type 0} (value_in : Part → R → Option ℤ) (fits : (part : Part) (row : R) → FitsPartial (value_in part row)) (parts : List Part) (row : R) (rows : List R)
      → joint_value (map (λ part. part.agg) parts) (bytes_of (map (λ part. value_in part row) parts)) (map (λ r. bytes_of (map (λ part. value_in part r) parts)) rows)
      ≡ bytes_of (map (λ part. joint part.agg (value_in part row) (map (value_in part) rows)) parts)
  joint-bytes value_in fits parts row [] = refl
  joint-bytes value_in fits parts row (r ∷ rows) =
      ap (combined (map (λ part. part.agg) parts) (bytes_of (map (λ part. value_in part row) parts))) (joint-bytes value_in fits parts r rows)
      ∙ combined-bytes (λ part. value_in part row) (λ part. joint part.agg (value_in part r) (map (value_in part) rows)) parts
      (λ part. fits part row)
      (λ part. joint-fits value_in fits part.agg part r rows)
