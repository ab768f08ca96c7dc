-- Fronts of lists of rows.
use Rattle.std.proofs.Common.{◌≡◌, ℕ, ◌+◌, ◌-◌, ◌<◌, ◌≤◌, false, List, [], ◌∷◌, ◌++◌, length, get_or, take, drop, map, refl, sym, ap, subst, ◌∙◌, arith, below_more, length-append, length-drop}
use Rattle.std.specs.Prelude.{Some}
use Rattle.std.specs.List.{All}
use Rattle.std.specs.Ordering.{is_gt}
use Rattle.std.proofs.lemmas.Cmp.{nat_list_cmp_total, upto}
use Rattle.std.proofs.lemmas.List.{take_more, length-take, length-take-le, get_or-take, length-map, get_or-map, drop-map, drop-take, take-map, take-take, take-append-drop, get_or-append-add}
use Rattle.std.proofs.lemmas.List.Quantifiers.{all_pairs_push}
use Rattle.std.proofs.lemmas.List.Elements.{All-map}
use Rattle.aggregate.specs.Totals.{Entry, key_cmp}
use Rattle.aggregate.specs.declared.kind.Kind.TheVariants.{Order}
use Rattle.aggregate.specs.Rows.{Ascends, entries_of}
use Rattle.consumer_trait.specs.Calls.{IsEntryRow}
use Rattle.spill_tests.specs.declared.row.Row.{Row}
use Rattle.spill_tests.specs.Rows.{entry_of_row, entries_of_rows, fields_of_row, Puts}

abbrev NotAbove : Entry → Entry → Type 0
NotAbove earlier later = is_gt (key_cmp earlier.key later.key) ≡ false

-- one entry ascends
pub ascends_one : (es : List Entry) → Ascends (Some Order) (take 1 es)
ascends_one es = λ i j d a b. absurd (omega (arith, length-take 1 es))

-- one more row, whose key is not below the one before
pub ascends_more : (rows : List Row) (n : ℕ) (p q : Row) → 1 ≤ n → n < length rows → p ≡ get_or rows (n - 1) p → q ≡ get_or rows n q → is_gt (key_cmp p.key.items q.key.items) ≡ false → Ascends (Some Order) (take n (entries_of_rows rows)) → Ascends (Some Order) (take (n + 1) (entries_of_rows rows))
ascends_more rows n p q some below is_p is_q last h =
    let es : List Entry = entries_of_rows rows in
    let all : length es ≡ length rows = length-map rows entry_of_row in
    let len : length (take n es) ≡ n = length-take-le n es (omega (arith, all)) in
    let at_q : get_or es n (entry_of_row q) ≡ entry_of_row q = get_or-map entry_of_row rows n q (entry_of_row q) below ∙ ap entry_of_row (sym is_q) in
    let at_p : (e : Entry) → get_or (take n es) (n - 1) e ≡ entry_of_row p = λ e. get_or-take n es (n - 1) e (omega arith) ∙ get_or-map entry_of_row rows (n - 1) p e (omega arith) ∙ ap entry_of_row (sym is_p) in
    let here : (e : Entry) → NotAbove (get_or (take n es) (n - 1) e) (entry_of_row q) = λ e. subst (λ (x : Entry). NotAbove x (entry_of_row q)) (sym (at_p e)) last in
    let earlier : (k : ℕ) → k < n - 1 → (e : Entry) → NotAbove (get_or (take n es) k e) (entry_of_row q) = λ k b e.
    upto nat_list_cmp_total (get_or (take n es) k e).key p.key.items q.key.items (subst (λ (x : Entry). NotAbove (get_or (take n es) k e) x) (at_p e) (h k (n - 1) e b (omega (arith, len, some)))) last in
    let before : (k : ℕ) (e : Entry) → k < length (take n es) → NotAbove (get_or (take n es) k e) (entry_of_row q) = λ k e b.
    below_more (λ (k : ℕ). (e : Entry) → NotAbove (get_or (take n es) k e) (entry_of_row q)) (n - 1) earlier here k (omega (arith, len, some, b)) e in
    subst (λ (xs : List Entry). Ascends (Some Order) xs) (sym (take_more es n (entry_of_row q) (omega (arith, all)) ∙ ap (λ (e : Entry). take n es ++ e ∷ []) at_q))
    (all_pairs_push NotAbove (take n es) (entry_of_row q) h before)

row_formed : (row : Row) → IsEntryRow (Some Order) (fields_of_row row)
row_formed row = record { fields = refl; entry = record { key_fits = row.key_fits; value_fits = row.value_fits; width = tt } }

-- the rows on a page are entries of the kind
pub formed : (rows : List Row) → All (IsEntryRow (Some Order)) (map fields_of_row rows)
formed rows = All-map (IsEntryRow (Some Order)) fields_of_row rows (λ k d b. row_formed (get_or rows k d))

-- and they are the entries that are kept
pub entries_are : (rows : List Row) → entries_of (map fields_of_row rows) ≡ entries_of_rows rows
entries_are [] = refl
entries_are (row ∷ rows) = ap (λ (es : List Entry). entry_of_row row ∷ es) (entries_are rows)

-- what ends a list that ascends ascends
pub ascends_suffix : (before es : List Entry) → Ascends (Some Order) (before ++ es) → Ascends (Some Order) es
ascends_suffix before es h = λ i j d a b.
    let e1 = get_or-append-add before es i d in
    let e2 = get_or-append-add before es j d in
    rw (e1, e2) at (h (length before + i) (length before + j) d (omega arith) (omega (arith, length-append before es)))

-- the first of a front and the rest of it
pub front_parts : (es : List Entry) (count front : ℕ) → count ≤ front → take count es ++ take (front - count) (drop count es) ≡ take front es
front_parts es count front le =
    let whole : count + (front - count) ≡ front = omega (arith, le) in
    let behind : drop count (take front es) ≡ take (front - count) (drop count es) = subst (λ (n : ℕ). drop count (take n es) ≡ take (front - count) (drop count es)) whole (drop-take count (front - count) es) in
    ap (λ (xs : List Entry). take count es ++ xs) (sym behind) ∙ ap (λ (xs : List Entry). xs ++ drop count (take front es)) (sym (take-take count front es le)) ∙ take-append-drop count (take front es)

-- rows went from the front to a page
pub record Moved (rows later : List Row) (front count : ℕ) (page : List (List (List ℕ))) : Type 0 where
  pub all : entries_of page ++ entries_of_rows later ≡ entries_of_rows rows
  pub chosen : entries_of page ++ take (front - count) (entries_of_rows later) ≡ take front (entries_of_rows rows)
  pub count_is : length page ≡ count
  pub sizes : length page + length (entries_of_rows later) ≡ length (entries_of_rows rows)
  pub within : count + length later ≡ length rows
  pub formed : All (IsEntryRow (Some Order)) page
  pub ascends : Ascends (Some Order) (take (front - count) (entries_of_rows later))
  pub written : Ascends (Some Order) (entries_of page ++ take (front - count) (entries_of_rows later))

moved_at : (rows later : List Row) (most count front : ℕ) (page : List (List (List ℕ))) → Puts rows most count page → most ≤ front → front ≤ length rows → later ≡ drop count rows → Ascends (Some Order) (take front (entries_of_rows rows)) → Moved rows later front count page
moved_at rows later most count front page puts fits within is h =
    let es : List Entry = entries_of_rows rows in
    let on_page : entries_of page ≡ take count es = ap entries_of puts.are ∙ entries_are (take count rows) ∙ sym (take-map entry_of_row count rows) in
    let left : entries_of_rows later ≡ drop count es = ap entries_of_rows is ∙ sym (drop-map entry_of_row count rows) in
    let parts : entries_of page ++ take (front - count) (entries_of_rows later) ≡ take front es = ap (λ (xs : List Entry). xs ++ take (front - count) (entries_of_rows later)) on_page ∙ ap (λ (xs : List Entry). take count es ++ take (front - count) xs) left ∙ front_parts es count front (omega (arith, puts.most_fits, fits)) in
    let count_is : length page ≡ count = ap length puts.are ∙ length-map (take count rows) fields_of_row ∙ length-take-le count rows (omega (arith, puts.most_fits, fits, within)) in
    let later_is : length later ≡ length rows - count = ap length is ∙ length-drop count rows in
    let sum : count + length later ≡ length rows = omega (arith, later_is, puts.most_fits, fits, within) in
    let written : Ascends (Some Order) (entries_of page ++ take (front - count) (entries_of_rows later)) = subst (λ (xs : List Entry). Ascends (Some Order) xs) (sym parts) h in
    record {
      all = ap (λ (xs : List Entry). xs ++ entries_of_rows later) on_page ∙ ap (λ (xs : List Entry). take count es ++ xs) left ∙ take-append-drop count es;
      chosen = parts;
      count_is = count_is;
      sizes = omega (arith, count_is, sum, length-map later entry_of_row, length-map rows entry_of_row);
      within = sum;
      formed = subst (λ (xs : List (List (List ℕ))). All (IsEntryRow (Some Order)) xs) (sym puts.are) (formed (take count rows));
      ascends = ascends_suffix (entries_of page) (take (front - count) (entries_of_rows later)) written;
      written = written;
    }

-- the same where the front was chosen from `seen` and put from `given`, which are these rows
pub moved : (rows seen given later : List Row) (most count front : ℕ) (page : List (List (List ℕ))) → seen ≡ rows → given ≡ rows → Puts given most count page → most ≤ front → front ≤ length rows → later ≡ drop count rows → Ascends (Some Order) (take front (entries_of_rows seen)) → Moved rows later front count page
moved rows seen given later most count front page is_seen is_given puts fits within is h =
    moved_at rows later most count front page
    (subst (λ (xs : List Row). Puts xs most count page) is_given puts) fits within is
    (subst (λ (xs : List Row). Ascends (Some Order) (take front (entries_of_rows xs))) is_seen h)
