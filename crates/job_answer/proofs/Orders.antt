-- What the totals of a query of orders tell.
use Rattle.std.proofs.Common.{◌≡◌, ◌+◌, ◌*◌, ◌≤◌, ◌<◌, ◌^◌, ◌∙◌, ◌++◌, ℕ, List, [], ◌∷◌, All, map, length, slice_index_or, refl, sym, ap, arith, subst, unwrap_or, pos}
use Rattle.std.specs.Int.{to_be_bytes, w64}
use Rattle.std.specs.List.{AllByRecursion, flat_map, sum_by}
use Rattle.std.proofs.lemmas.List.{length-map}
use Rattle.std.proofs.lemmas.List.Elements.{All-from_recursion, recursion_from_All}
use Rattle.std.proofs.lemmas.List.Sums.{get_or-le-sum_by, sum_by-le}
use Rattle.aggregate.specs.declared.kind.Kind.TheVariants as kinds
use Rattle.aggregate.specs.Spelling.{KeysInOrder, NumbersInOrder}
use Rattle.aggregate.specs.Totals.{Entry, total}
use Rattle.row_page.specs.Grammar.{IsRow}
use Rattle.row_page.specs.Reading.{fields_of}
use Rattle.row_page.specs.Spelling.{row_bytes, row_length}
use Rattle.row_page.proofs.Shown.{fields_shown}
use Rattle.row_form.specs.Numbers.{number}
use Rattle.job_text.specs.declared.job.Job.{Job}
use Rattle.job_text.specs.declared.job.KeyItem.{KeyItem}
use Rattle.job_text.specs.declared.job.Shape.TheVariants.{Order}
use Rattle.job_plan.specs.Columns.{Fields, item_over, kept, kept_place, over_kept}
use Rattle.job_plan.specs.Entries.{entry_of, field, item_bytes, key_of, value_of}
use Rattle.job_plan.specs.Rows.{AreBytes, landed_row}
use Rattle.job_plan.specs.Telling.{IsOrderEntry, IsTold, row_of}
use Rattle.job_answer.specs.Answer.{field_of}
use Rattle.job_answer.specs.Numbered.{Numbered, landed_each}
use Rattle.job_answer.specs.OneShape.{IsShort, OrdersTell, totals_over}
use Rattle.job_answer.proofs.Classes.{all-weaker}
use Rattle.job_answer.proofs.KeptFields.{IsKept, column-kept, field-kept, field-landed}
use Rattle.job_answer.proofs.KeyItems.{Bytes, HasBytes, item_key, key_item}
use Rattle.job_answer.proofs.NumberedRows.{rise_of}
use Rattle.job_answer.proofs.RowOrder.{all-in_order, in_order, row_entry, rows-arranged, total-in_order}

-- each list of fields whose encoding fits has an encoding
abbrev pub HasEncodings : Type 0
HasEncodings = (fields : Fields) → row_length fields < 2 ^ 32 → IsRow (row_bytes fields) fields

module _ (job : Job) (header : Fields) where
  -- ---- the entry of a landed row

  abbrev IsKeptItem : KeyItem → Type 0
  IsKeptItem item = IsKept job header item.column

  item-same : (n : ℕ) (row : Fields) (item : KeyItem) → IsKeptItem item → item_bytes (landed_row (kept job.names header) n row) (item_over job header item) ≡ key_item job header row item
  item-same n row item is = ap (λ (f : List ℕ). item_key item.number item.down (unwrap_or (number f) (pos 0)) f) (field-landed job header item.column n row is)

  items-same : (n : ℕ) (row : Fields) (keys : List KeyItem) → AllByRecursion IsKeptItem keys
      → flat_map (item_bytes (landed_row (kept job.names header) n row)) (map (item_over job header) keys) ≡ flat_map (key_item job header row) keys
  items-same n row [] all = refl
  items-same n row (item ∷ items) all =
      ap (λ (t : List ℕ). t ++ flat_map (item_bytes (landed_row (kept job.names header) n row)) (map (item_over job header) items)) (item-same n row item all.0)
      ∙ ap (λ (t : List ℕ). key_item job header row item ++ t) (items-same n row items all.1)

  fields-same : (n : ℕ) (row : Fields) (columns : List ℕ) → AllByRecursion (IsKept job header) columns
      → map (field (landed_row (kept job.names header) n row)) (map (kept_place job header) columns) ≡ map (field_of job header row) columns
  fields-same n row [] all = refl
  fields-same n row (column ∷ columns) all =
      let here = field-landed job header column n row all.0 in
      rw (here, fields-same n row columns all.1) refl

  entry-same : (n : ℕ) (row : Fields) (keys : List KeyItem) (columns : List ℕ) → AllByRecursion IsKeptItem keys → AllByRecursion (IsKept job header) columns
      → entry_of (over_kept job header (Order keys columns)) (landed_row (kept job.names header) n row) ≡ row_entry job header keys columns (n, row)
  unfolding key_of value_of
  entry-same n row keys columns in-keys in-columns =
      ap (λ (k : List ℕ). let e : Entry = record { key = k ++ to_be_bytes w64 n; value = row_bytes (map (field (landed_row (kept job.names header) n row)) (map (kept_place job header) columns)) } in e)
      (items-same n row keys in-keys)
      ∙ ap (λ (fs : Fields). let e : Entry = record { key = flat_map (key_item job header row) keys ++ to_be_bytes w64 n; value = row_bytes fs } in e)
      (fields-same n row columns in-columns)

  entries-same : (input : List Numbered) (keys : List KeyItem) (columns : List ℕ) → AllByRecursion IsKeptItem keys → AllByRecursion (IsKept job header) columns
      → map (entry_of (over_kept job header (Order keys columns))) (landed_each (kept job.names header) input) ≡ map (row_entry job header keys columns) input
  entries-same [] keys columns in-keys in-columns = refl
  entries-same (r ∷ rs) keys columns in-keys in-columns =
      ap (λ (e : Entry). e ∷ map (entry_of (over_kept job header (Order keys columns))) (landed_each (kept job.names header) rs)) (entry-same r.0 r.1 keys columns in-keys in-columns)
      ∙ ap (λ (es : List Entry). row_entry job header keys columns r ∷ es) (entries-same rs keys columns in-keys in-columns)

  -- ---- the fields of rows are bytes, and short

  field-bytes : (n : ℕ) (row : Fields) (column : ℕ) → IsKept job header column → AreBytes (landed_row (kept job.names header) n row) → Bytes (field_of job header row column)
  field-bytes n row column is bytes =
      let landed = landed_row (kept job.names header) n row in
      let long : length (map (λ p. slice_index_or row p []) (kept job.names header)) ≡ length (kept job.names header) = length-map (kept job.names header) (λ p. slice_index_or row p []) in
      let inside = is.within in
      let each : All (λ b. b < 256) (field landed (kept_place job header column)) = bytes (kept_place job header column + 1) [] (omega arith) in
      subst Bytes (field-landed job header column n row is) (recursion_from_All (λ b. b < 256) (field landed (kept_place job header column)) each)

  row-bytes : (n : ℕ) (row : Fields) (keys : List KeyItem) → AllByRecursion IsKeptItem keys → AreBytes (landed_row (kept job.names header) n row) → HasBytes job header keys row
  row-bytes n row keys in-keys bytes = all-weaker IsKeptItem (λ item. Bytes (field_of job header row item.column)) (λ item is. field-bytes n row item.column is bytes) keys in-keys

  rows-bytes : (input : List Numbered) (keys : List KeyItem) → AllByRecursion IsKeptItem keys → AllByRecursion AreBytes (landed_each (kept job.names header) input)
      → AllByRecursion (λ r. HasBytes job header keys r.1) input
  rows-bytes [] keys in-keys bytes = tt
  rows-bytes (r ∷ rs) keys in-keys bytes = (row-bytes r.0 r.1 keys in-keys bytes.0, rows-bytes rs keys in-keys bytes.1)

  -- a row's field in a column is short
  abbrev IsShortAt : Fields → ℕ → Type 0
  IsShortAt row column = length (field_of job header row column) ≤ 65536

  field-short : (n : ℕ) (row : Fields) (column : ℕ) → IsKept job header column → IsShort (landed_row (kept job.names header) n row) → IsShortAt row column
  field-short n row column is short =
      let places = kept job.names header in
      let fields = map (λ (p : ℕ). slice_index_or row p []) places in
      let long : length fields ≡ length places = length-map places (λ p. slice_index_or row p []) in
      let inside = is.within in
      let part : length (slice_index_or fields (kept_place job header column) []) ≤ sum_by length fields = get_or-le-sum_by length fields (kept_place job header column) [] (omega arith) in
      let all : sum_by length fields ≤ 65536 = short in
      subst (λ (f : List ℕ). length f ≤ 65536) (field-kept job header column row is) (omega arith)

  row-short : (n : ℕ) (row : Fields) (columns : List ℕ) → AllByRecursion (IsKept job header) columns → IsShort (landed_row (kept job.names header) n row) → AllByRecursion (IsShortAt row) columns
  row-short n row columns in-columns short = all-weaker (IsKept job header) (IsShortAt row) (λ column is. field-short n row column is short) columns in-columns

  rows-short : (input : List Numbered) (columns : List ℕ) → AllByRecursion (IsKept job header) columns → AllByRecursion IsShort (landed_each (kept job.names header) input)
      → AllByRecursion (λ r. AllByRecursion (IsShortAt r.1) columns) input
  rows-short [] columns in-columns short = tt
  rows-short (r ∷ rs) columns in-columns short = (row-short r.0 r.1 columns in-columns short.0, rows-short rs columns in-columns short.1)

  -- ---- what is told of a row

  short-parts : (row : Fields) (columns : List ℕ) → AllByRecursion (IsShortAt row) columns → AllByRecursion (λ f. 4 + length f ≤ 65540) (map (field_of job header row) columns)
  short-parts row [] all = tt
  short-parts row (column ∷ columns) all = (let here = all.0 in omega arith, short-parts row columns all.1)

  row-encoded : HasEncodings → (row : Fields) (columns : List ℕ) → length columns ≤ 8 → AllByRecursion (IsShortAt row) columns
      → IsRow (row_bytes (map (field_of job header row) columns)) (map (field_of job header row) columns)
  row-encoded encodings row columns few short =
      let fields = map (field_of job header row) columns in
      let size : length fields ≡ length columns = length-map columns (field_of job header row) in
      let most : row_length fields ≤ length fields * 65540 =
      sum_by-le (λ f. 4 + length f) 65540 fields (All-from_recursion (λ f. 4 + length f ≤ 65540) fields (short-parts row columns short)) in
      encodings fields (omega arith)

  rows-told : HasEncodings → (shape_keys : List KeyItem) (shape_columns : List ℕ) (keys : List KeyItem) (columns : List ℕ) (rs : List Numbered) → length columns ≤ 8
      → AllByRecursion (λ r. AllByRecursion (IsShortAt r.1) columns) rs
      → map (row_of (Order shape_keys shape_columns)) (map (row_entry job header keys columns) rs) ≡ map (λ row. map (field_of job header row) columns) (map (λ r. r.1) rs)
  rows-told encodings shape_keys shape_columns keys columns [] few short = refl
  rows-told encodings shape_keys shape_columns keys columns (r ∷ rs) few short =
      let fields = map (field_of job header r.1) columns in
      let here : fields_of (row_bytes fields) ≡ fields = fields_shown (row_bytes fields) fields (row-encoded encodings r.1 columns few short.0).pieces in
      let later = rows-told encodings shape_keys shape_columns keys columns rs few short.1 in
      ap (λ (f : Fields). f ∷ map (row_of (Order shape_keys shape_columns)) (map (row_entry job header keys columns) rs)) here ∙ ap (λ (fs : List Fields). fields ∷ fs) later

  told-each : HasEncodings → (shape_keys : List KeyItem) (shape_columns : List ℕ) (keys : List KeyItem) (columns : List ℕ) (rs : List Numbered) → length columns ≤ 8
      → length columns ≡ length shape_columns → AllByRecursion (λ r. AllByRecursion (IsShortAt r.1) columns) rs
      → AllByRecursion (IsTold (Order shape_keys shape_columns)) (map (row_entry job header keys columns) rs)
  told-each encodings shape_keys shape_columns keys columns [] few same short = tt
  told-each encodings shape_keys shape_columns keys columns (r ∷ rs) few same short =
      let entry : IsOrderEntry (length shape_columns) (row_entry job header keys columns r) = record {
        fields = map (field_of job header r.1) columns;
        several = length-map columns (field_of job header r.1) ∙ same;
        value = row-encoded encodings r.1 columns few short.0;
      } in
      (entry, told-each encodings shape_keys shape_columns keys columns rs few same short.1)

-- ---- the query

named-items : (names : ℕ) (keys : List KeyItem) → AllByRecursion (λ column. column < names) (map (λ item. item.column) keys) → AllByRecursion (λ item. item.column < names) keys
named-items names [] all = tt
named-items names (item ∷ items) all = (all.0, named-items names items all.1)

pub orders-tell : KeysInOrder → NumbersInOrder → HasEncodings → OrdersTell
orders-tell order numbers encodings job header input keys columns found shape are bytes short =
    let named = recursion_from_All (λ column. column < length job.names) columns shape.1.named in
    let named-keys = named-items (length job.names) keys (recursion_from_All (λ column. column < length job.names) (map (λ item. item.column) keys) shape.0.named) in
    let in-columns = all-weaker (λ column. column < length job.names) (IsKept job header) (λ column within. column-kept job header column found within) columns named in
    let in-keys = all-weaker (λ item. item.column < length job.names) (λ item. IsKept job header item.column) (λ item within. column-kept job header item.column found within) keys named-keys in
    let rs = in_order job header keys input in
    let short-rows = all-in_order job header keys (λ (r : Numbered). AllByRecursion (IsShortAt job header r.1) columns) input (rows-short job header input columns in-columns short) in
    let over-keys = map (item_over job header) keys in
    let over-columns = map (kept_place job header) columns in
    let several = shape.1.short.few in
    let small = recursion_from_All (λ (r : Numbered). r.0 < 2 ^ 64) input are.small in
    let totals : totals_over job header input (Order keys columns) ≡ map (row_entry job header keys columns) rs =
    ap (total kinds.Order) (entries-same job header input keys columns in-keys in-columns)
    ∙ total-in_order job header keys order numbers columns input (rise_of input are.ascend) small (rows-bytes job header input keys in-keys bytes) in
    record {
      table = rw totals (rows-told job header encodings over-keys over-columns keys columns rs several short-rows)
          ∙ ap (map (λ row. map (field_of job header row) columns)) (rows-arranged job header keys input);
      wide = refl;
      told = λ none.
          rw totals
          (All-from_recursion (IsTold (Order over-keys over-columns)) (map (row_entry job header keys columns) rs)
          (told-each job header encodings over-keys over-columns keys columns rs several (sym (length-map columns (kept_place job header))) short-rows));
    }
