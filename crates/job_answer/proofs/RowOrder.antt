-- The entries of rows with their numbers come to those of the rows in order.
use Rattle.std.proofs.Common.{◌≡◌, ◌<◌, ◌^◌, ◌∙◌, ◌++◌, ℕ, List, [], ◌∷◌, map, refl, ap}
use Rattle.std.specs.Int.{to_be_bytes, w64}
use Rattle.std.specs.List.{AllByRecursion, flat_map}
use Rattle.std.specs.Ordering.{ordering_then}
use Rattle.std.specs.declared.cmp.Ordering.{Ordering}
use Rattle.std.specs.declared.cmp.Ordering.TheVariants.{Less, Equal, Greater}
use Rattle.row_page.specs.Spelling.{row_bytes}
use Rattle.aggregate.specs.declared.kind.Kind.TheVariants as kinds
use Rattle.aggregate.specs.Spelling.{KeysInOrder, NumbersInOrder}
use Rattle.aggregate.specs.Totals.{Entry, insert_order, key_cmp, order_at, total}
use Rattle.job_text.specs.declared.job.Job.{Job}
use Rattle.job_text.specs.declared.job.KeyItem.{KeyItem}
use Rattle.job_plan.specs.Columns.{Fields}
use Rattle.job_answer.specs.Answer.{arranged, field_of, placed, placed_by, rows_cmp}
use Rattle.job_answer.specs.Numbered.{Numbered, rows_in}
use Rattle.job_answer.proofs.KeyItems.{HasBytes, key_item, keys-order, number-order}
use Rattle.job_answer.proofs.NumberedRows.{Rise}

module _ (job : Job) (header : Fields) (keys : List KeyItem) where
  -- numbered rows in order
  abbrev pub place_at : Ordering → Numbered → Numbered → List Numbered → List Numbered → List Numbered
  place_at Less r f fs later = r ∷ (f ∷ fs)
  place_at Equal r f fs later = r ∷ (f ∷ fs)
  place_at Greater r f fs later = f ∷ later

  abbrev pub place_row : Numbered → List Numbered → List Numbered
  place_row r [] = r ∷ []
  place_row r (f ∷ fs) = place_at (rows_cmp job header keys r.1 f.1) r f fs (place_row r fs)

  abbrev pub in_order : List Numbered → List Numbered
  in_order [] = []
  in_order (r ∷ rs) = place_row r (in_order rs)

  -- ---- they are the rows in order

  rows-at : (o : Ordering) (r f : Numbered) (fs : List Numbered) → map (λ x. x.1) (place_row r fs) ≡ placed job header keys r.1 (map (λ x. x.1) fs)
      → map (λ x. x.1) (place_at o r f fs (place_row r fs)) ≡ placed_by o r.1 f.1 (map (λ x. x.1) fs) (placed job header keys r.1 (map (λ x. x.1) fs))
  rows-at Less r f fs rec = refl
  rows-at Equal r f fs rec = refl
  rows-at Greater r f fs rec = ap (λ (rows : List Fields). f.1 ∷ rows) rec

  rows-placed : (r : Numbered) (fs : List Numbered) → map (λ x. x.1) (place_row r fs) ≡ placed job header keys r.1 (map (λ x. x.1) fs)
  rows-placed r [] = refl
  rows-placed r (f ∷ fs) = rows-at (rows_cmp job header keys r.1 f.1) r f fs (rows-placed r fs)

  pub rows-arranged : (rs : List Numbered) → map (λ x. x.1) (in_order rs) ≡ arranged job header keys (rows_in rs)
  rows-arranged [] = refl
  rows-arranged (r ∷ rs) = rows-placed r (in_order rs) ∙ ap (placed job header keys r.1) (rows-arranged rs)

  -- ---- what is true of each row is true of each in order

  all-at : (P : Numbered → Type 0) (o : Ordering) (r f : Numbered) (fs later : List Numbered) → P r → AllByRecursion P (f ∷ fs) → AllByRecursion P later → AllByRecursion P (place_at o r f fs later)
  all-at P Less r f fs later first all rec = (first, all)
  all-at P Equal r f fs later first all rec = (first, all)
  all-at P Greater r f fs later first all rec = (all.0, rec)

  all-placed : (P : Numbered → Type 0) (r : Numbered) (fs : List Numbered) → P r → AllByRecursion P fs → AllByRecursion P (place_row r fs)
  all-placed P r [] first all = (first, tt)
  all-placed P r (f ∷ fs) first all = all-at P (rows_cmp job header keys r.1 f.1) r f fs (place_row r fs) first all (all-placed P r fs first all.1)

  pub all-in_order : (P : Numbered → Type 0) (rs : List Numbered) → AllByRecursion P rs → AllByRecursion P (in_order rs)
  all-in_order P [] all = tt
  all-in_order P (r ∷ rs) all = all-placed P r (in_order rs) all.0 (all-in_order P rs all.1)

  -- ---- the total of the entries

  -- the entry of a numbered row
  abbrev pub row_entry : List ℕ → Numbered → Entry
  row_entry columns r = record {
    key = flat_map (key_item job header r.1) keys ++ to_be_bytes w64 r.0;
    value = row_bytes (map (field_of job header r.1) columns);
  }

  -- a later row
  record IsLater (n : ℕ) (r : Numbered) : Type 0 where
    later : n < r.0
    small : r.0 < 2 ^ 64
    bytes : HasBytes job header keys r.1

  all-later : (n : ℕ) (rs : List Numbered) → AllByRecursion (λ r. n < r.0) rs → AllByRecursion (λ r. r.0 < 2 ^ 64) rs → AllByRecursion (λ r. HasBytes job header keys r.1) rs
      → AllByRecursion (IsLater n) rs
  all-later n [] later small bytes = tt
  all-later n (r ∷ rs) later small bytes =
      (record { later = later.0; small = small.0; bytes = bytes.0 }, all-later n rs later.1 small.1 bytes.1)

  module _ (order : KeysInOrder) (numbers : NumbersInOrder) (columns : List ℕ) where
    order-at : (o : Ordering) (r f : Numbered) (fs : List Numbered) → insert_order (row_entry columns r) (map (row_entry columns) fs) ≡ map (row_entry columns) (place_row r fs)
        → order_at (ordering_then o Less) (row_entry columns r) (row_entry columns f) (map (row_entry columns) fs) (insert_order (row_entry columns r) (map (row_entry columns) fs))
        ≡ map (row_entry columns) (place_at o r f fs (place_row r fs))
    order-at Less r f fs rec = refl
    order-at Equal r f fs rec = refl
    order-at Greater r f fs rec = ap (λ (es : List Entry). row_entry columns f ∷ es) rec

    insert-placed : (r : Numbered) (fs : List Numbered) → HasBytes job header keys r.1 → AllByRecursion (IsLater r.0) fs
        → insert_order (row_entry columns r) (map (row_entry columns) fs) ≡ map (row_entry columns) (place_row r fs)
    insert-placed r [] bytes all = refl
    insert-placed r (f ∷ fs) bytes all =
        let rows : key_cmp (row_entry columns r).key (row_entry columns f).key ≡ ordering_then (rows_cmp job header keys r.1 f.1) Less =
        keys-order order numbers job header keys r.1 f.1 (to_be_bytes w64 r.0) (to_be_bytes w64 f.0) bytes all.0.bytes
        ∙ ap (ordering_then (rows_cmp job header keys r.1 f.1)) (number-order numbers r.0 f.0 all.0.later all.0.small) in
        ap (λ (o : Ordering). order_at o (row_entry columns r) (row_entry columns f) (map (row_entry columns) fs) (insert_order (row_entry columns r) (map (row_entry columns) fs))) rows
        ∙ order-at (rows_cmp job header keys r.1 f.1) r f fs (insert-placed r fs bytes all.1)

    pub total-in_order : (rs : List Numbered) → Rise rs → AllByRecursion (λ r. r.0 < 2 ^ 64) rs → AllByRecursion (λ r. HasBytes job header keys r.1) rs
        → total kinds.Order (map (row_entry columns) rs) ≡ map (row_entry columns) (in_order rs)
    unfolding total
    total-in_order [] rise small bytes = refl
    total-in_order (r ∷ rs) rise small bytes =
        ap (insert_order (row_entry columns r)) (total-in_order rs rise.1 small.1 bytes.1)
        ∙ insert-placed r (in_order rs) bytes.0 (all-in_order (IsLater r.0) rs (all-later r.0 rs rise.0 small.1 bytes.1))
