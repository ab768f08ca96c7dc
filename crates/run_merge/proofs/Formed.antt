-- Rows of a key and a value are well formed where their parts are as long as those of one that is.
use Rattle.std.proofs.Common.{◌≡◌, ℕ, zero, suc, ◌+◌, ◌<◌, ◌≤◌, Some, get_or, List, [], ◌∷◌, length, refl, sym, ap, subst, ◌∙◌, arith}
use Rattle.std.specs.Coded.{Coded-set, coded_bool, le_prop}
use Rattle.std.proofs.Math.Logic.{∥∥₁_elim}
use Rattle.std.proofs.lemmas.Option.{same_Some}
use Rattle.std.proofs.lemmas.List.Sums.{sum_by-cons}
use Rattle.aggregate.specs.declared.agg_list.Agg.{Agg}
use Rattle.aggregate.specs.declared.kind.Kind.{Kind}
use Rattle.aggregate.specs.declared.kind.Kind.TheVariants.{Group}
use Rattle.aggregate.specs.Rows.{entry_of}
use Rattle.aggregate.specs.Values.{are_partials}
use Rattle.row_page.specs.Spelling.{row_length}
use Rattle.row_form.specs.declared.form.Form.TheVariants.{Entries}
use Rattle.run_file.specs.Readers.{ReaderView, run_of}
use Rattle.row_form.specs.Forms.{IsValueOf, IsWellFormed}
use Rattle.run_file.specs.Reading.{row_at}
use Rattle.run_file.specs.AtEntries.{entry_at, IsAtEntry}
use Rattle.run_merge.specs.Heads.{IsLent, row_lent}
use Rattle.run_file.proofs.Standing.{two_fields, value_is}

-- the value of a group's entry is one of the group
pub value_formed : (aggs : List Agg) (reader : ReaderView) → ∥ IsAtEntry (Group aggs) reader ∥₁ → IsValueOf (Group aggs) (entry_at reader).value
value_formed aggs reader t =
    ∥∥₁_elim t (Coded-set coded_bool _ _) (λ h. ap (are_partials aggs) (sym (value_is (row_at reader) h.formed.has_form.0)) ∙ h.formed.has_form.1)

length_of_two : (key value : List ℕ) → row_length (key ∷ (value ∷ [])) ≡ 8 + length key + length value
length_of_two key value =
    omega (arith, sum_by-cons (λ (field : List ℕ). 4 + length field) key (value ∷ []), sum_by-cons (λ (field : List ℕ). 4 + length field) value [])

length_of_row : (row : List (List ℕ)) → length row ≡ 2 → row_length row ≡ 8 + length (entry_of row).key + length (entry_of row).value
length_of_row [] e = absurd cc
length_of_row (key ∷ []) e = absurd (omega (arith, e))
length_of_row (key ∷ value ∷ []) e = length_of_two key value
length_of_row (key ∷ value ∷ field ∷ rest) e = absurd (omega (arith, e))

-- a row of its key and a value of the kind that is as long is well formed too
pub formed_alike : (kind : Kind) (reader : ReaderView) (row : List (List ℕ)) (value : List ℕ) → ∥ IsAtEntry kind reader ∥₁ → IsValueOf kind value → length value ≡ length (entry_at reader).value → row ≡ (entry_at reader).key ∷ (value ∷ []) → IsWellFormed (Entries kind) (run_of reader).greatest row
formed_alike kind reader row value t formed same row-is =
    let cost : 24 + row_length (row_at reader) ≤ (run_of reader).greatest = ∥∥₁_elim t le_prop (λ h. h.formed.cost) in
    let whole : IsWellFormed (Entries kind) (run_of reader).greatest ((entry_at reader).key ∷ (value ∷ [])) =
    record {
      has_form = (refl, formed);
      cost = omega (arith, cost, same, length_of_two (entry_at reader).key value, length_of_row (row_at reader) (two_fields kind reader t));
    } in
    subst (IsWellFormed (Entries kind) (run_of reader).greatest) (sym row-is) whole

-- the first of the readers may be lent
pub lends : (kind : Kind) (readers : List ReaderView) (first : ℕ) → first < length readers → ((reader : ReaderView) → reader ≡ get_or readers first reader → ∥ IsAtEntry kind reader ∥₁) → IsLent kind readers (Some first)
lends kind readers first within at place is =
    let same : first ≡ place = same_Some first place is in
    subst (λ (n : ℕ). (n < length readers) × ((reader : ReaderView) → reader ≡ get_or readers n reader → ∥ IsAtEntry kind reader ∥₁)) same (within, at)

-- the row that is lent of a reader is the one at which it stands
pub lent_row : (readers : List ReaderView) (place : ℕ) (reader : ReaderView) (row : List (List ℕ)) → place < length readers → reader ≡ get_or readers place reader → row_lent readers (Some place) row ≡ row_at reader
lent_row [] place reader row lt is = absurd (omega arith)
lent_row (first ∷ readers) zero reader row lt is = ap row_at (sym is)
lent_row (first ∷ readers) (suc place) reader row lt is = lent_row readers place reader row (omega arith) is

pair_is : (row : List (List ℕ)) → length row ≡ 2 → row ≡ (entry_of row).key ∷ ((entry_of row).value ∷ [])
pair_is [] e = absurd cc
pair_is (key ∷ []) e = absurd (omega (arith, e))
pair_is (key ∷ value ∷ []) e = refl
pair_is (key ∷ value ∷ field ∷ rest) e = absurd (omega (arith, e))

pub own_row : (kind : Kind) (readers : List ReaderView) (place : ℕ) (reader : ReaderView) (row : List (List ℕ)) → place < length readers → reader ≡ get_or readers place reader → ∥ IsAtEntry kind reader ∥₁ → row_lent readers (Some place) row ≡ (entry_at reader).key ∷ ((entry_at reader).value ∷ [])
own_row kind readers place reader row lt is t =
    lent_row readers place reader row lt is ∙ pair_is (row_at reader) (two_fields kind reader t)
