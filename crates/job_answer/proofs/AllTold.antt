-- What the entries of rows come to can be told.
use Rattle.std.proofs.Common.{◌≡◌, zero, suc, ◌+◌, ◌*◌, ◌≤◌, ◌∙◌, ◌++◌, ℕ, List, [], ◌∷◌, Some, None, map, length, slice_index_or, refl, ap, arith, inl, inr}
use Rattle.std.specs.List.{AllByRecursion, find, flat_map, sum_by}
use Rattle.std.specs.declared.cmp.Ordering.{Ordering}
use Rattle.std.specs.declared.cmp.Ordering.TheVariants.{Less, Equal, Greater}
use Rattle.std.proofs.lemmas.Bool.{cases_Bool}
use Rattle.std.proofs.lemmas.List.{length-append, length-map}
use Rattle.std.proofs.lemmas.List.Elements.{All-from_recursion}
use Rattle.std.proofs.lemmas.List.Sums.{sum_by-cons, sum_by-le}
use Rattle.aggregate.specs.declared.agg_list.Agg.{Agg}
use Rattle.aggregate.specs.declared.kind.Kind.TheVariants as kinds
use Rattle.aggregate.specs.Partial.{combined, partial_of, slot_bytes}
use Rattle.aggregate.specs.PartialLaws.{PartialsAreLong}
use Rattle.aggregate.specs.Spelling.{spelled}
use Rattle.aggregate.specs.Totals.{Entry, group_at, insert_group, insert_order, key_cmp, order_at, total}
use Rattle.aggregate.proofs.Combining.{length-combined}
use Rattle.row_page.specs.Spelling.{row_length}
use Rattle.job_text.specs.declared.job.KeyItem.{KeyItem}
use Rattle.job_text.specs.declared.job.Part.{Part}
use Rattle.job_text.specs.declared.job.Shape.TheVariants.{Group, Order}
use Rattle.job_plan.specs.Columns.{Fields}
use Rattle.job_plan.specs.Entries.{entry_of, field, key_of, told_by, value_of}
use Rattle.job_plan.specs.Telling.{IsGroupEntry, IsOrderEntry, IsTold, is_wide}
use Rattle.job_answer.specs.OneShape.{IsShort}
use Rattle.job_answer.specs.Told.{ShortShapesAreTold}
use Rattle.job_answer.proofs.Orders.{HasEncodings}

-- ---- what each entry has, each of a total has

module _ (P : Entry → Type 0) where
  at-order : (o : Ordering) (entry first : Entry) (rest later : List Entry) → P entry → AllByRecursion P (first ∷ rest) → AllByRecursion P later
      → AllByRecursion P (order_at o entry first rest later)
  at-order Less entry first rest later is all more = (is, all)
  at-order Equal entry first rest later is all more = (is, all)
  at-order Greater entry first rest later is all more = (all.0, more)

  in-order : (entry : Entry) (entries : List Entry) → P entry → AllByRecursion P entries → AllByRecursion P (insert_order entry entries)
  in-order entry [] is all = (is, tt)
  in-order entry (first ∷ rest) is all =
      at-order (key_cmp entry.key first.key) entry first rest (insert_order entry rest) is all (in-order entry rest is all.1)

  in-orders : (entries : List Entry) → AllByRecursion P entries → AllByRecursion P (total kinds.Order entries)
  unfolding total
  in-orders [] all = tt
  in-orders (entry ∷ entries) all = in-order entry (total kinds.Order entries) all.0 (in-orders entries all.1)

  -- in groups too, where two values as one keep it
  module _ (aggs : List Agg) (joins : (entry first : Entry) → P first → P (record { key = first.key; value = combined aggs entry.value first.value })) where
    at-group : (o : Ordering) (entry first : Entry) (rest later : List Entry) → P entry → AllByRecursion P (first ∷ rest) → AllByRecursion P later
        → AllByRecursion P (group_at aggs o entry first rest later)
    at-group Less entry first rest later is all more = (is, all)
    at-group Equal entry first rest later is all more = (joins entry first all.0, all.1)
    at-group Greater entry first rest later is all more = (all.0, more)

    in-group : (entry : Entry) (entries : List Entry) → P entry → AllByRecursion P entries → AllByRecursion P (insert_group aggs entry entries)
    in-group entry [] is all = (is, tt)
    in-group entry (first ∷ rest) is all =
        at-group (key_cmp entry.key first.key) entry first rest (insert_group aggs entry rest) is all (in-group entry rest is all.1)

    in-groups : (entries : List Entry) → AllByRecursion P entries → AllByRecursion P (total (kinds.Group aggs) entries)
    unfolding total
    in-groups [] all = tt
    in-groups (entry ∷ entries) all = in-group entry (total (kinds.Group aggs) entries) all.0 (in-groups entries all.1)

-- ---- groups

-- the key spells so many fields, and the value is as long as so many partial values
record SpellsGroup (columns count : ℕ) (entry : Entry) : Type 0 where
  fields : Fields
  several : length fields ≡ columns
  key : entry.key ≡ flat_map spelled fields
  value : length entry.value ≡ slot_bytes * count

keys-spell : (row : Fields) (columns : List ℕ) → flat_map (λ k. spelled (field row k)) columns ≡ flat_map spelled (map (field row) columns)
keys-spell row [] = refl
keys-spell row (column ∷ columns) = ap (λ (t : List ℕ). spelled (field row column) ++ t) (keys-spell row columns)

values-long : PartialsAreLong → (row : Fields) (parts : List Part) → length (flat_map (λ part. partial_of (told_by row part.column)) parts) ≡ slot_bytes * length parts
values-long long row [] = refl
values-long long row (part ∷ parts) =
    let first = long (told_by row part.column) in
    let more = values-long long row parts in
    let both = length-append (partial_of (told_by row part.column)) (flat_map (λ part. partial_of (told_by row part.column)) parts) in
    omega arith

row-spells : PartialsAreLong → (columns : List ℕ) (parts : List Part) (row : Fields) → SpellsGroup (length columns) (length parts) (entry_of (Group columns parts) row)
unfolding key_of value_of
row-spells long columns parts row =
    record { fields = map (field row) columns; several = length-map columns (field row); key = keys-spell row columns; value = values-long long row parts }

rows-spell : PartialsAreLong → (columns : List ℕ) (parts : List Part) (rows : List Fields)
    → AllByRecursion (SpellsGroup (length columns) (length parts)) (map (entry_of (Group columns parts)) rows)
rows-spell long columns parts [] = tt
rows-spell long columns parts (row ∷ rows) = (row-spells long columns parts row, rows-spell long columns parts rows)

joint-spells : (columns : ℕ) (parts : List Part) (entry first : Entry) → SpellsGroup columns (length parts) first
    → SpellsGroup columns (length parts) (record { key = first.key; value = combined (map (λ part. part.agg) parts) entry.value first.value })
joint-spells columns parts entry first is =
    let aggs = map (λ part. part.agg) parts in
    record {
      fields = is.fields;
      several = is.several;
      key = is.key;
      value = length-combined aggs entry.value first.value ∙ ap (λ (n : ℕ). slot_bytes * n) (length-map parts (λ part. part.agg));
    }

-- where no entry is too wide, each can be told
narrow-groups : (columns count : ℕ) (entries : List Entry) → AllByRecursion (SpellsGroup columns count) entries → find (is_wide count) entries ≡ None
    → AllByRecursion (IsGroupEntry columns count) entries
narrow-groups columns count [] all none = tt
narrow-groups columns count (entry ∷ entries) all none = elim (cases_Bool (is_wide count entry)) [
  | inl here ↦ let some : Some entry ≡ None = rw here at none in cc
  | inr past ↦
      let told : IsGroupEntry columns count entry = record { fields = all.0.fields; several = all.0.several; key = all.0.key; value = all.0.value; narrow = past } in
      (told, narrow-groups columns count entries all.1 (rw past at none))
]

-- ---- orders

field-within : (fields : Fields) (k : ℕ) → length (slice_index_or fields k []) ≤ sum_by length fields
field-within [] k = omega arith
field-within (f ∷ fields) zero = omega (arith, sum_by-cons length f fields)
field-within (f ∷ fields) (suc k) = omega (arith, sum_by-cons length f fields, field-within fields k)

field-short : (row : Fields) (k : ℕ) → IsShort row → 4 + length (field row k) ≤ 65540
field-short [] k short = omega arith
field-short (number ∷ fields) k short =
    let next : k + 1 ≡ suc k = omega arith in
    let same : field (number ∷ fields) k ≡ slice_index_or fields k [] = rw next refl in
    let within : length (field (number ∷ fields) k) ≤ sum_by length fields = rw same (field-within fields k) in
    let all : sum_by length fields ≤ 65536 = short in
    omega arith

fields-short : (row : Fields) (columns : List ℕ) → IsShort row → AllByRecursion (λ f. 4 + length f ≤ 65540) (map (field row) columns)
fields-short row [] short = tt
fields-short row (column ∷ columns) short = (field-short row column short, fields-short row columns short)

row-told : HasEncodings → (keys : List KeyItem) (columns : List ℕ) → length columns ≤ 8 → (row : Fields) → IsShort row → IsOrderEntry (length columns) (entry_of (Order keys columns) row)
unfolding value_of
row-told encodings keys columns few row short =
    let fields = map (field row) columns in
    let size : length fields ≡ length columns = length-map columns (field row) in
    let most : row_length fields ≤ length fields * 65540 =
    sum_by-le (λ f. 4 + length f) 65540 fields (All-from_recursion (λ f. 4 + length f ≤ 65540) fields (fields-short row columns short)) in
    record { fields = fields; several = size; value = encodings fields (omega arith) }

rows-told : HasEncodings → (keys : List KeyItem) (columns : List ℕ) → length columns ≤ 8 → (rows : List Fields) → AllByRecursion IsShort rows
    → AllByRecursion (IsOrderEntry (length columns)) (map (entry_of (Order keys columns)) rows)
rows-told encodings keys columns few [] short = tt
rows-told encodings keys columns few (row ∷ rows) short = (row-told encodings keys columns few row short.0, rows-told encodings keys columns few rows short.1)

-- ---- shapes

pub shapes-told : PartialsAreLong → HasEncodings → ShortShapesAreTold
shapes-told long encodings (Group columns parts) rows few short none =
    let aggs = map (λ part. part.agg) parts in
    let totals = total (kinds.Group aggs) (map (entry_of (Group columns parts)) rows) in
    let spelled-all = in-groups (SpellsGroup (length columns) (length parts)) aggs (joint-spells (length columns) parts)
    (map (entry_of (Group columns parts)) rows) (rows-spell long columns parts rows) in
    All-from_recursion (IsTold (Group columns parts)) totals (narrow-groups (length columns) (length parts) totals spelled-all none)
shapes-told long encodings (Order keys columns) rows few short none =
    let entries = map (entry_of (Order keys columns)) rows in
    All-from_recursion (IsTold (Order keys columns)) (total kinds.Order entries)
    (in-orders (IsOrderEntry (length columns)) entries (rows-told encodings keys columns few rows short))
