-- Rows that ascend by key, and what is left of several lists of them once a first row was taken out.
use Rattle.std.proofs.Common.{◌≡◌, ℕ, zero, suc, ◌<◌, false, List, [], ◌∷◌, ◌++◌, get_or, set, sym, ap, ◌∙◌, arith}
use Rattle.std.specs.Prelude.{Some}
use Rattle.std.specs.List.{AllByRecursion}
use Rattle.std.specs.Ordering.{is_gt}
use Rattle.std.specs.declared.cmp.Ordering.TheVariants.{Less}
use Rattle.std.proofs.lemmas.Cmp.{nat_list_cmp_total, upto}
use Rattle.std.proofs.lemmas.List.{map-append}
use Rattle.std.proofs.lemmas.List.Elements.{recursion_from_All}
use Rattle.aggregate.specs.declared.kind.Kind.{Kind}
use Rattle.aggregate.specs.declared.kind.Kind.TheVariants.{Group, Order}
use Rattle.aggregate.specs.Rows.{Ascends, StandsBefore, entries_of, entry_of}
use Rattle.aggregate.specs.Totals.{Entry, insert_entry, key_cmp, total}
use Rattle.run_merge.specs.Giving.{AllAbove, NoneBelow}
use Rattle.run_file.specs.Several.{concatenated}
use Rattle.run_merge.proofs.KeyOrders.{less_not_gt, less_upto}
use Rattle.run_merge.proofs.Inserting.{total_behind}

abbrev Row : Type 0
Row = List (List ℕ)

-- a fact of each row, and the same of each entry
pub all_entries : (P : Entry → Type 0) (rows : List Row) → AllByRecursion (λ row. P (entry_of row)) rows → AllByRecursion P (entries_of rows)
all_entries P [] all = tt
all_entries P (row ∷ rows) all = (all.0, all_entries P rows all.1)

all_rows : (P : Entry → Type 0) (rows : List Row) → AllByRecursion P (entries_of rows) → AllByRecursion (λ row. P (entry_of row)) rows
all_rows P [] all = tt
all_rows P (row ∷ rows) all = (all.0, all_rows P rows all.1)

pub all_weaker : {X : Type 0} (P Q : X → Type 0) → ((x : X) → P x → Q x) → (xs : List X) → AllByRecursion P xs → AllByRecursion Q xs
all_weaker P Q weaker [] all = tt
all_weaker P Q weaker (x ∷ xs) all = (weaker x all.0, all_weaker P Q weaker xs all.1)

-- the first row stands before the others, which ascend too
pub others_behind : (kind : Kind) (row : Row) (rows : List Row) → Ascends (Some kind) (entries_of (row ∷ rows)) → AllByRecursion (λ r. StandsBefore (Some kind) (entry_of row) (entry_of r)) rows
others_behind kind row rows ascend =
    all_rows (StandsBefore (Some kind) (entry_of row)) rows
    (recursion_from_All (StandsBefore (Some kind) (entry_of row)) (entries_of rows) (λ k d lt. ascend 0 (suc k) d (omega arith) (omega arith)))

pub others_ascend : (kind : Kind) (row : Row) (rows : List Row) → Ascends (Some kind) (entries_of (row ∷ rows)) → Ascends (Some kind) (entries_of rows)
others_ascend kind row rows ascend = λ i j d lt within. ascend (suc i) (suc j) d (omega arith) (omega arith)

not_above : (kind : Kind) (a b : Entry) → StandsBefore (Some kind) a b → is_gt (key_cmp a.key b.key) ≡ false
not_above (Group aggs) a b h = less_not_gt (key_cmp a.key b.key) h
not_above Order a b h = h

-- a key that isn't above the first is above none
pub rows_not_below : (kind : Kind) (key : List ℕ) (row : Row) (rows : List Row) → is_gt (key_cmp key (entry_of row).key) ≡ false → Ascends (Some kind) (entries_of (row ∷ rows)) → NoneBelow key (row ∷ rows)
rows_not_below kind key row rows first ascend = (
  first,
  all_weaker (λ r. StandsBefore (Some kind) (entry_of row) (entry_of r)) (λ r. is_gt (key_cmp key (entry_of r).key) ≡ false)
      (λ r h. upto nat_list_cmp_total key (entry_of row).key (entry_of r).key first (not_above kind (entry_of row) (entry_of r) h)) rows (others_behind kind row rows ascend),
)

-- a key that is below the first is below all
pub rows_above : (kind : Kind) (key : List ℕ) (row : Row) (rows : List Row) → key_cmp key (entry_of row).key ≡ Less → Ascends (Some kind) (entries_of (row ∷ rows)) → AllAbove key (row ∷ rows)
rows_above kind key row rows first ascend = (
  first,
  all_weaker (λ r. StandsBefore (Some kind) (entry_of row) (entry_of r)) (λ r. key_cmp key (entry_of r).key ≡ Less)
      (λ r h. less_upto key (entry_of row).key (entry_of r).key first (not_above kind (entry_of row) (entry_of r) h)) rows (others_behind kind row rows ascend),
)

-- the row of that number is the first of a total, where no row before it is below it
pub pulled : (kind : Kind) (lists : List (List Row)) (i : ℕ) (row : Row) (rows : List Row) → get_or lists i [] ≡ row ∷ rows → ((k : ℕ) → k < i → AllAbove (entry_of row).key (get_or lists k []))
    → total kind (entries_of (concatenated lists)) ≡ insert_entry kind (entry_of row) (total kind (entries_of (concatenated (set lists i rows))))
unfolding total
pulled kind [] i row rows is above = absurd cc
pulled kind (list ∷ lists) zero row rows is above = ap (λ (l : List Row). total kind (entries_of (l ++ concatenated lists))) is
pulled kind (list ∷ lists) (suc i) row rows is above =
    let rest = pulled kind lists i row rows is (λ k lt. above (suc k) (omega arith)) in
    let all = all_entries (λ e. key_cmp (entry_of row).key e.key ≡ Less) list (above 0 (omega arith)) in
    ap (total kind) (map-append entry_of list (concatenated lists))
    ∙ total_behind kind (entries_of list) (entries_of (concatenated lists)) (entries_of (concatenated (set lists i rows))) (entry_of row) all rest
    ∙ ap (λ es. insert_entry kind (entry_of row) (total kind es)) (sym (map-append entry_of list (concatenated (set lists i rows))))

-- a fact of the rows of each list is one of all rows
pub all_concatenated : (P : Row → Type 0) (lists : List (List Row)) → ((k : ℕ) → AllByRecursion P (get_or lists k [])) → AllByRecursion P (concatenated lists)
all_concatenated P [] each = tt
all_concatenated P (list ∷ lists) each = both list (each 0) (all_concatenated P lists (λ k. each (suc k)))
  where
    both : (rows : List Row) → AllByRecursion P rows → AllByRecursion P (concatenated lists) → AllByRecursion P (rows ++ concatenated lists)
    both [] all rest = rest
    both (row ∷ rows) all rest = (all.0, both rows all.1 rest)

-- a fact of each, with one that changed, and of one
pub all_set : {X : Type 0} (P : X → Type 0) (xs : List X) (i : ℕ) (y : X) → P y → AllByRecursion P xs → AllByRecursion P (set xs i y)
all_set P [] i y here all = tt
all_set P (x ∷ xs) zero y here all = (here, all.1)
all_set P (x ∷ xs) (suc i) y here all = (all.0, all_set P xs i y here all.1)

pub all_at : {X : Type 0} (P : X → Type 0) (xs : List X) (i : ℕ) (d : X) → P d → AllByRecursion P xs → P (get_or xs i d)
all_at P [] i d none all = none
all_at P (x ∷ xs) zero d none all = all.0
all_at P (x ∷ xs) (suc i) d none all = all_at P xs i d none all.1
