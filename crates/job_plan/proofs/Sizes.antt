-- How long the keys and values of landed rows are.
use Rattle.std.proofs.Common.{◌≡◌, ◌<◌, ◌≤◌, ◌+◌, ◌*◌, ◌-◌, ◌^◌, ◌∙◌, ℕ, List, [], ◌∷◌, Option, Some, None, Bool, true, false, length, map, get_or, refl, sym, ap, arith, inl, inr, true≢false, w64, ℤ, pos, ◌+ℤ◌}
use Rattle.std.specs.Prelude.{◌==◌, unsigned_abs}
use Rattle.std.specs.Int.{bytes_high_first, w128}
use Rattle.std.specs.Prelude.{All, sum_by, IfSome, is_some, not}
use Rattle.std.specs.List.{flat_map}
use Rattle.std.proofs.Props.{props}
use Rattle.std.proofs.lemmas.Bool.{cases_Bool}
use Rattle.std.proofs.lemmas.List.{drop_at, length-append, length-map, get_or-map, take_at}
use Rattle.std.proofs.lemmas.List.Concat.{length-flat_map}
use Rattle.std.proofs.lemmas.List.Folds.{flat_map-map, fold-map}
use Rattle.std.proofs.lemmas.List.Sums.{sum_by-cons}
use Rattle.aggregate.specs.Partial.{partial_of, slot_bytes}
use Rattle.aggregate.specs.Values.{ArePartials, FitsPartial, Suits}
use Rattle.aggregate.specs.declared.agg_list.Agg.{Agg}
use Rattle.aggregate.specs.declared.agg_list.Agg.TheVariants.{Count, Sum, Min, Max}
use Rattle.aggregate.specs.declared.kind.Kind.{Kind}
use Rattle.aggregate.specs.declared.kind.Kind.TheVariants as kinds
use Rattle.aggregate.proofs.Numbers.{length-partial_of}
use Rattle.aggregate.proofs.Tested.{passes}
use Rattle.row_form.proofs.Numerals.{number_fits}
use Rattle.std.specs.Int.RustNames.{FitsSigned}
use Rattle.std.proofs.lemmas.Int.{ints}
use Rattle.std.proofs.lemmas.Option.{same_Some}
use Rattle.std.proofs.lemmas.List.Elements.{All-head, All-tail}
use Rattle.aggregate.specs.Spelling.{number_spelling, spelled, spelled_byte, turned_if}
use Rattle.row_page.specs.Grammar.{ArePieces, IsPieceThen, IsRow}
use Rattle.row_page.specs.Spelling.{length_bytes, row_bytes, row_length, with_length}
use Rattle.row_form.specs.Forms.{HasForm, IsValueOf, columns_of}
use Rattle.row_form.specs.declared.form.Form.{Form}
use Rattle.row_form.specs.declared.form.Form.TheVariants.{Entries, Landed}
use Rattle.job_text.specs.Jobs.{IsAggregate, IsColumns, IsShape, is_count}
use Rattle.job_text.specs.declared.job.KeyItem.{KeyItem}
use Rattle.job_text.specs.declared.job.Part.{Part}
use Rattle.job_text.specs.declared.job.Shape.{Shape}
use Rattle.job_text.specs.declared.job.Shape.TheVariants.{Group, Order}
use Rattle.job_plan.specs.Entries.{field, field_bytes, item_bytes, number_in, key_of, kind_of, told_by, value_of}
use Rattle.job_plan.specs.Within.{HasColumnsOf, HasColumn}
use Rattle.job_plan.proofs.Picked.{fields_within, sum_doubled, sum_equal, sum_raised}

-- ---- what is spelled

spelled_byte-long : (b : ℕ) → length (spelled_byte b) ≤ 2
spelled_byte-long b = elim (cases_Bool (b == 0)) [ inl here ↦ rw here (omega arith) | inr other ↦ rw other (omega arith) ]

bytes-long : (bytes : List ℕ) → length (flat_map spelled_byte bytes) ≤ 2 * length bytes
bytes-long [] = omega arith
bytes-long (b ∷ bytes) = omega (arith, length-append (spelled_byte b) (flat_map spelled_byte bytes), spelled_byte-long b, bytes-long bytes)

spelled-long : (bytes : List ℕ) → length (spelled bytes) ≤ 2 * length bytes + 2
spelled-long bytes = omega (arith, length-append (flat_map spelled_byte bytes) (0 ∷ 0 ∷ []), bytes-long bytes)

turned-long : (down : Bool) (bytes : List ℕ) → length (turned_if down bytes) ≡ length bytes
turned-long true bytes = length-map bytes (λ b. 255 - b)
turned-long false bytes = refl

number-long : (n : ℤ) (down : Bool) → length (number_spelling n down) ≡ 8
unfolding number_spelling
number-long n down = turned-long down (bytes_high_first 8 (unsigned_abs (n +ℤ pos (2 ^ 63))))

item-long : (row : List (List ℕ)) (item : KeyItem) → length (item_bytes row item) ≤ 2 * length (field row item.column) + 8
item-long row item = elim (cases_Bool item.number) [
  | inl here ↦ rw here (omega (arith, number-long (number_in row item.column) item.down))
  | inr other ↦ rw other (omega (arith, turned-long item.down (spelled (field row item.column)), spelled-long (field row item.column)))
]

-- ---- keys

columns-long : (row : List (List ℕ)) (columns : List ℕ) → length (flat_map (λ k. spelled (field row k)) columns) ≤ 2 * sum_by (λ k. length (field row k)) columns + 8 * length columns
columns-long row columns =
    let all = sum_doubled (λ k. length (spelled (field row k))) (λ k. length (field row k)) columns (λ k. omega (arith, spelled-long (field row k))) in
    omega (arith, length-flat_map (λ k. spelled (field row k)) columns, all)

items-long : (row : List (List ℕ)) (items : List KeyItem)
    → length (flat_map (item_bytes row) items) ≤ 2 * sum_by (λ k. length (field row k)) (map (λ item. item.column) items) + 8 * length items
items-long row items =
    let all = sum_doubled (λ (item : KeyItem). length (item_bytes row item)) (λ (item : KeyItem). length (field row item.column)) items (item-long row) in
    let same = fold-map (λ (a : ℕ) (k : ℕ). a + length (field row k)) (λ (item : KeyItem). item.column) 0 items in
    omega (arith, length-flat_map (item_bytes row) items, all, same)

-- the row has a field for each of so many columns
has : (row : List (List ℕ)) (n : ℕ) (columns : List ℕ) → n < length row → IsColumns n columns → All (HasColumn row) columns
has row n columns e c = λ i d h. (let below : get_or columns i d < n = c.named i d h in omega arith)

pub key-long : (row : List (List ℕ)) (n : ℕ) (shape : Shape) → n < length row → length (get_or row 0 []) ≡ 8 → IsShape n shape
    → length (key_of shape row) ≤ 2 * field_bytes row + 72
unfolding key_of
key-long row n (Group columns parts) e eight s =
    let all = fields_within row columns s.0.distinct (has row n columns e s.0) in
    let few = s.0.short.few in
    omega (arith, columns-long row columns, all, few)
key-long row n (Order keys columns) e eight s =
    let ks = map (λ (item : KeyItem). item.column) keys in
    let all = fields_within row ks s.0.distinct (has row n ks e s.0) in
    let few = s.0.short.few in
    omega (arith, items-long row keys, all, few, length-map keys (λ (item : KeyItem). item.column), length-append (flat_map (item_bytes row) keys) (get_or row 0 []))

-- ---- values

parts-long : (row : List (List ℕ)) (parts : List Part) → length (flat_map (λ part. partial_of (told_by row part.column)) parts) ≡ slot_bytes * length parts
parts-long row parts =
    length-flat_map (λ (part : Part). partial_of (told_by row part.column)) parts
    ∙ sum_equal (λ (part : Part). length (partial_of (told_by row part.column))) slot_bytes parts (λ part. length-partial_of (told_by row part.column))

piece-long : (piece : List ℕ) → length (with_length piece) ≡ 4 + length piece
unfolding length_bytes
piece-long piece = omega arith

-- the encoding of some columns, piece by piece
pub told-columns : (row : List (List ℕ)) (columns : List ℕ) → row_bytes (map (field row) columns) ≡ flat_map (λ k. with_length (field row k)) columns
told-columns row columns = flat_map-map with_length (field row) columns

pub value-order : (row : List (List ℕ)) (keys : List KeyItem) (columns : List ℕ)
    → flat_map (λ k. with_length (field row k)) columns ≡ value_of (Order keys columns) row
unfolding value_of
value-order row keys columns = sym (told-columns row columns)

told-long : (row : List (List ℕ)) (columns : List ℕ) → length (row_bytes (map (field row) columns)) ≡ sum_by (λ k. length (field row k)) columns + 4 * length columns
told-long row columns =
    ap length (told-columns row columns) ∙ length-flat_map (λ k. with_length (field row k)) columns
    ∙ sum_raised (λ k. length (with_length (field row k))) (λ k. length (field row k)) columns (λ k. piece-long (field row k))

pub value-long : (row : List (List ℕ)) (n : ℕ) (shape : Shape) → n < length row → IsShape n shape → field_bytes row ≤ 65536 → length (value_of shape row) ≤ 65568
unfolding value_of
value-long row n (Group columns parts) e s short =
    let few = s.1.few in
    omega (arith, parts-long row parts, few)
value-long row n (Order keys columns) e s short =
    let all = fields_within row columns s.1.distinct (has row n columns e s.1) in
    let few = s.1.short.few in
    omega (arith, told-long row columns, all, few)

-- a number of 64 bits has a place in 128
wider : (z : ℤ) → FitsSigned w64 z → FitsSigned w128 z
wider z fits = record { sfits = omega (arith, ints, fits.sfits) }

told-fits : (row : List (List ℕ)) (column : Option ℕ) → FitsPartial (told_by row column)
told-fits row None n is = rw (sym (same_Some (pos 1) n is)) (record { sfits = omega (arith, ints) })
told-fits row (Some k) n is = wider n (number_fits (field row k) n is)

-- a count is never missing
told-suits : (row : List (List ℕ)) (agg : Agg) (column : Option ℕ) → is_some column ≡ not (is_count agg) → Suits agg (told_by row column)
told-suits row Count None is = tt
told-suits row Count (Some k) is = absurd (true≢false is)
told-suits row Sum column is = tt
told-suits row Min column is = tt
told-suits row Max column is = tt

parts-formed : (row : List (List ℕ)) (n : ℕ) (parts : List Part) → All (IsAggregate n) parts
    → ArePartials (map (λ (part : Part). part.agg) parts) (flat_map (λ part. partial_of (told_by row part.column)) parts)
parts-formed row n [] all = refl
parts-formed row n (part ∷ parts) all =
    let one = partial_of (told_by row part.column) in
    let rest = flat_map (λ (p : Part). partial_of (told_by row p.column)) parts in
    let long : length one ≡ slot_bytes = length-partial_of (told_by row part.column) in
    rw (take_at one rest slot_bytes long, drop_at one rest slot_bytes long) (
      (told_by row part.column, told-fits row part.column, refl, told-suits row part.agg part.column (All-head (IsAggregate n) part parts all).column),
      parts-formed row n parts (All-tail (IsAggregate n) part parts all),
    )

pub value-kind : (row : List (List ℕ)) (n : ℕ) (shape : Shape) → IsShape n shape → IsValueOf (kind_of shape) (value_of shape row)
unfolding value_of
value-kind row n (Group columns parts) s = passes (map (λ (part : Part). part.agg) parts) _ (parts-formed row n parts s.2)
value-kind row n (Order keys columns) s = tt

pub value-prop : (kind : Kind) (value : List ℕ) → IsProp (IsValueOf kind value)
value-prop (kinds.Group aggs) value = hlevel props
value-prop kinds.Order value = hlevel props

-- ---- rows

-- a landed row has a field for each column of a shape over its columns
part-has : (row : List (List ℕ)) (n : ℕ) (o : Option ℕ) → n < length row → IfSome o (λ k. k < n) → IfSome o (HasColumn row)
part-has row n None e h = tt
part-has row n (Some k) e h = omega arith

pub covers : (row : List (List ℕ)) (n : ℕ) (shape : Shape) → n < length row → IsShape n shape → HasColumnsOf row shape
covers row n (Group columns parts) e s = (has row n columns e s.0, λ i d h. part-has row n (get_or parts i d).column e (s.2 i d h).named)
covers row n (Order keys columns) e s =
    let all = has row n (map (λ (item : KeyItem). item.column) keys) e s.0 in (
      λ i d h. (let inside : i < length (map (λ (item : KeyItem). item.column) keys) = omega (arith, length-map keys (λ (item : KeyItem). item.column)) in
          let below = all i 0 inside in omega (arith, below, get_or-map (λ (item : KeyItem). item.column) keys i d 0 h)),
      has row n columns e s.1,
    )

part-prop : (row : List (List ℕ)) (o : Option ℕ) → IsProp (IfSome o (HasColumn row))
part-prop row None = hlevel props
part-prop row (Some k) = hlevel props

pub covers-prop : (row : List (List ℕ)) (shape : Shape) → IsProp (HasColumnsOf row shape)
covers-prop row (Group columns parts) = hlevel (props, part-prop)
covers-prop row (Order keys columns) = hlevel props

piece-parts : (bytes piece behind : List ℕ) → IsPieceThen bytes piece behind → length bytes ≡ 4 + length piece + length behind
piece-parts [] piece behind h = absurd h
piece-parts (a ∷ []) piece behind h = absurd h
piece-parts (a ∷ b ∷ []) piece behind h = absurd h
piece-parts (a ∷ b ∷ c ∷ []) piece behind h = absurd h
piece-parts (a ∷ b ∷ c ∷ d ∷ bytes) piece behind h = omega (arith, ap length h.1, length-append piece behind)

pieces-long : (bytes : List ℕ) (fields : List (List ℕ)) → ArePieces bytes fields → length bytes ≡ row_length fields
pieces-long bytes [] h = ap length h
pieces-long bytes (f ∷ fields) h =
    omega (arith, piece-parts bytes f h.0 h.1, pieces-long h.0 fields h.2, sum_by-cons (λ (field : List ℕ). 4 + length field) f fields)

pub row-short : (bytes : List ℕ) (fields : List (List ℕ)) → IsRow bytes fields → row_length fields < 2 ^ 32
row-short bytes fields h =
    let short = h.short in
    omega (arith, pieces-long bytes fields h.pieces, short)

-- ---- landed rows

-- a row has more fields than a shape over its columns has columns
pub landed-has : (form : Form) (row : List (List ℕ)) (shape : Shape) → HasForm form row → IsShape (columns_of form) shape
    → (columns_of form < length row) × (length (get_or row 0 []) ≡ 8)
landed-has (Landed columns numbers) row shape h s = (omega (arith, h.0), h.1)
landed-has (Entries kind) row (Group columns parts) h s = absurd (omega (arith, s.0.short.some, s.0.named 0 0 (omega (arith, s.0.short.some))))
landed-has (Entries kind) row (Order keys columns) h s = absurd (omega (arith, s.1.short.some, s.1.named 0 0 (omega (arith, s.1.short.some))))
