-- The entries of rows come to those of their classes.
use Rattle.std.proofs.Common.{◌≡◌, ◌∙◌, ℕ, List, [], ◌∷◌, map, length, refl, sym, ap, arith}
use Rattle.std.specs.List.{AllByRecursion, flat_map}
use Rattle.std.specs.Ordering.{ordering_then}
use Rattle.std.specs.declared.cmp.Ordering.{Ordering}
use Rattle.std.specs.declared.cmp.Ordering.TheVariants.{Less, Equal, Greater}
use Rattle.aggregate.specs.declared.agg_list.Agg.{Agg}
use Rattle.aggregate.specs.declared.kind.Kind.TheVariants.{Group}
use Rattle.aggregate.specs.Spelling.{KeysInOrder, spelled}
use Rattle.aggregate.specs.Totals.{Entry, group_at, insert_group, key_cmp, total}
use Rattle.job_plan.specs.Columns.{Fields}
use Rattle.job_answer.specs.Answer.{fields_cmp}
use Rattle.job_answer.proofs.Classes.{Class, all-groups, class_at, classes, insert_class}
use Rattle.job_answer.proofs.Values.{joint_value}

-- keys of as many fields compare as these
keys-compare : KeysInOrder → (a b : Fields) → length a ≡ length b → key_cmp (flat_map spelled a) (flat_map spelled b) ≡ fields_cmp a b
keys-compare order [] [] h = refl
keys-compare order [] (b ∷ bs) h = absurd (omega arith)
keys-compare order (a ∷ as_) [] h = absurd (omega arith)
keys-compare order (a ∷ as_) (b ∷ bs) h =
    order a b (flat_map spelled as_) (flat_map spelled bs)
    ∙ ap (λ (o : Ordering). ordering_then (key_cmp a b) o) (keys-compare order as_ bs (omega arith))

module _ (g : Fields → Fields) (v : Fields → List ℕ) (aggs : List Agg) where
  -- a row's entry, and that of a class
  abbrev pub row_entry : Fields → Entry
  row_entry row = record { key = flat_map spelled (g row); value = v row }

  abbrev pub class_entry : Class → Entry
  class_entry c = record { key = flat_map spelled c.group; value = joint_value aggs (v c.first) (map v c.rest) }

  entry-at : (row : Fields) (c : Class) (cs : List Class) (o : Ordering) → insert_group aggs (row_entry row) (map class_entry cs) ≡ map class_entry (insert_class g row cs)
      → group_at aggs o (row_entry row) (class_entry c) (map class_entry cs) (insert_group aggs (row_entry row) (map class_entry cs))
      ≡ map class_entry (class_at g o row c cs (insert_class g row cs))
  entry-at row c cs Less rec = refl
  entry-at row c cs Equal rec = refl
  entry-at row c cs Greater rec = ap (λ (es : List Entry). class_entry c ∷ es) rec

  module _ (order : KeysInOrder) (columns : ℕ) (as-many : (row : Fields) → length (g row) ≡ columns) where
    entry-insert : (row : Fields) (cs : List Class) → AllByRecursion (λ c. length c.group ≡ columns) cs
        → insert_group aggs (row_entry row) (map class_entry cs) ≡ map class_entry (insert_class g row cs)
    entry-insert row [] all = refl
    entry-insert row (c ∷ cs) all =
        let same : key_cmp (flat_map spelled (g row)) (flat_map spelled c.group) ≡ fields_cmp (g row) c.group = keys-compare order (g row) c.group (as-many row ∙ sym all.0) in
        ap (λ (o : Ordering). group_at aggs o (row_entry row) (class_entry c) (map class_entry cs) (insert_group aggs (row_entry row) (map class_entry cs))) same
        ∙ entry-at row c cs (fields_cmp (g row) c.group) (entry-insert row cs all.1)

    -- the total of the rows' entries
    pub total-classes : (rows : List Fields) → total (Group aggs) (map row_entry rows) ≡ map class_entry (classes g rows)
    unfolding total
    total-classes [] = refl
    total-classes (row ∷ rows) =
        ap (insert_group aggs (row_entry row)) (total-classes rows)
        ∙ entry-insert row (classes g rows) (all-groups g (λ fields. length fields ≡ columns) as-many rows)
