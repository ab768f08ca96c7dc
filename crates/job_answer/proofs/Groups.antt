-- What the totals of a query of groups tell.
use Rattle.std.proofs.Common.{◌≡◌, ◌+◌, ◌≤◌, ◌<◌, ◌^◌, ◌∙◌, ℕ, List, [], ◌∷◌, Option, Some, None, map, length, refl, sym, ap, arith, subst, IfSome, ℤ, pos}
use Rattle.std.specs.Prelude.{option_map}
use Rattle.std.specs.Int.{w128}
use Rattle.std.specs.Int.RustNames.{FitsSigned}
use Rattle.std.specs.List.{AllByRecursion, filter, flat_map}
use Rattle.std.specs.Ordering.{is_eq}
use Rattle.std.proofs.lemmas.Int.{ints}
use Rattle.std.proofs.lemmas.List.{length-map}
use Rattle.std.proofs.lemmas.List.Elements.{recursion_from_All}
use Rattle.std.proofs.lemmas.Option.{same_Some}
use Rattle.std.proofs.lemmas.List.Sums.{count_by-le-length, length-filter}
use Rattle.aggregate.specs.declared.agg_list.Agg.{Agg}
use Rattle.aggregate.specs.declared.kind.Kind.TheVariants as kinds
use Rattle.aggregate.specs.Partial.{partial_of}
use Rattle.aggregate.specs.PartialLaws.{PartialsAreLong, PartialsComeBack}
use Rattle.aggregate.specs.Spelling.{KeysInOrder, SpellingsAreReadBack, spelled}
use Rattle.aggregate.specs.Totals.{Entry, total}
use Rattle.aggregate.specs.Values.{FitsPartial}
use Rattle.aggregate.proofs.Present.{joint}
use Rattle.row_form.specs.Numbers.{number}
use Rattle.job_text.specs.Jobs.{IsAggregate, IsShape}
use Rattle.job_text.specs.declared.job.Job.{Job}
use Rattle.job_text.specs.declared.job.Part.{Part}
use Rattle.job_text.specs.declared.job.Shape.TheVariants.{Group}
use Rattle.job_plan.specs.Columns.{Fields, kept, kept_place, missing, over_kept, part_over}
use Rattle.job_plan.specs.Entries.{entry_of, field, key_of, told_by, value_of}
use Rattle.job_plan.specs.Rows.{landed_row}
use Rattle.job_answer.specs.Answer.{field_of, fields_cmp, group_of, groups, members, told_of, value_at}
use Rattle.job_answer.specs.Numbered.{Numbered, landed_each, rows_in as rows_of}
use Rattle.job_answer.specs.OneShape.{GroupsTell, totals_over}
use Rattle.job_answer.proofs.Aggregates.{IsSmall, joint-aggregated, small-fits, told_of_column, value-small}
use Rattle.job_answer.proofs.Classes.{Class, IsWhole, all-groups, all-whole, all-weaker, classes, entries-classes, rows_in}
use Rattle.job_answer.proofs.Decoding.{IsGroup, all-told, first-wide, group_entry, rows-told}
use Rattle.job_answer.proofs.GroupEntries.{class_entry, row_entry, total-classes}
use Rattle.job_answer.proofs.KeptFields.{IsKept, column-kept, field-landed}
use Rattle.job_answer.proofs.Values.{bytes_of, joint-bytes, joint-fits}

module _ (job : Job) (header : Fields) where
  -- what a row adds to a part
  abbrev part_value : Part → Fields → Option ℤ
  part_value part row = told_of_column (value_at job header) part.column row

  -- the value of a row
  abbrev row_value : List Part → Fields → List ℕ
  row_value parts row = bytes_of (map (λ part. part_value part row) parts)

  values-small : (row : Fields) (column : ℕ) → IsSmall (value_at job header row column)
  values-small row column = value-small (field_of job header row column)

  one-fits : FitsSigned w128 (pos 1)
  one-fits = omega (arith, ints)

  column-fits : (column : Option ℕ) (row : Fields) → FitsPartial (told_of_column (value_at job header) column row)
  column-fits None row = λ n is. subst (λ (z : ℤ). FitsSigned w128 z) (same_Some (pos 1) n is) one-fits
  column-fits (Some column) row = small-fits (value_at job header row column) (values-small row column)

  parts-fit : (part : Part) (row : Fields) → FitsPartial (part_value part row)
  parts-fit part row = column-fits part.column row

  -- ---- the entry of a landed row

  abbrev IsKeptPart : Part → Type 0
  IsKeptPart part = IfSome part.column (IsKept job header)

  keys-same : (n : ℕ) (row : Fields) (columns : List ℕ) → AllByRecursion (IsKept job header) columns
      → flat_map (λ k. spelled (field (landed_row (kept job.names header) n row) k)) (map (kept_place job header) columns)
      ≡ flat_map spelled (group_of job header columns row)
  keys-same n row [] all = refl
  keys-same n row (column ∷ columns) all =
      let here = field-landed job header column n row all.0 in
      rw (here, keys-same n row columns all.1) refl

  told-same : (n : ℕ) (row : Fields) (column : Option ℕ) → IfSome column (IsKept job header)
      → told_by (landed_row (kept job.names header) n row) (option_map (kept_place job header) column) ≡ told_of_column (value_at job header) column row
  told-same n row None is = refl
  told-same n row (Some column) is = ap number (field-landed job header column n row is)

  values-same : (n : ℕ) (row : Fields) (parts : List Part) → AllByRecursion IsKeptPart parts
      → flat_map (λ part. partial_of (told_by (landed_row (kept job.names header) n row) part.column)) (map (part_over job header) parts) ≡ row_value parts row
  values-same n row [] all = refl
  values-same n row (part ∷ parts) all =
      let here = told-same n row part.column all.0 in
      rw (here, values-same n row parts all.1) refl

  -- the aggregates of parts
  abbrev aggs_of : List Part → List Agg
  aggs_of parts = map (λ part. part.agg) parts

  entry-same : (n : ℕ) (row : Fields) (columns : List ℕ) (parts : List Part) → AllByRecursion (IsKept job header) columns → AllByRecursion IsKeptPart parts
      → entry_of (over_kept job header (Group columns parts)) (landed_row (kept job.names header) n row)
      ≡ row_entry (group_of job header columns) (row_value parts) (aggs_of parts) row
  unfolding key_of value_of
  entry-same n row columns parts in-columns in-parts = rw (keys-same n row columns in-columns, values-same n row parts in-parts) refl

  entries-same : (input : List Numbered) (columns : List ℕ) (parts : List Part) → AllByRecursion (IsKept job header) columns → AllByRecursion IsKeptPart parts
      → map (entry_of (over_kept job header (Group columns parts))) (landed_each (kept job.names header) input)
      ≡ map (row_entry (group_of job header columns) (row_value parts) (aggs_of parts)) (rows_of input)
  entries-same [] columns parts in-columns in-parts = refl
  entries-same (r ∷ rs) columns parts in-columns in-parts =
      let first = entry-same r.0 r.1 columns parts in-columns in-parts in
      let later = entries-same rs columns parts in-columns in-parts in
      ap (λ (e : Entry). e ∷ map (entry_of (over_kept job header (Group columns parts))) (landed_each (kept job.names header) rs)) first
      ∙ ap (λ (es : List Entry). row_entry (group_of job header columns) (row_value parts) (aggs_of parts) r.1 ∷ es) later

  aggs-same : (parts : List Part) → map (λ part. part.agg) (map (part_over job header) parts) ≡ aggs_of parts
  aggs-same [] = refl
  aggs-same (part ∷ parts) = ap (λ (aggs : List Agg). part.agg ∷ aggs) (aggs-same parts)

  -- ---- what is told of a class

  module _ (columns : List ℕ) (parts : List Part) (rows : List Fields) where
    -- what is told of a group, and the group with it
    abbrev pub tell : Fields → List (Option ℤ)
    tell group = map (told_of job header (members job header columns rows group)) parts

    abbrev told_group : Class → Fields × List (Option ℤ)
    told_group c = (c.group, tell c.group)

  module _ (columns : List ℕ) (parts : List Part) (rows : List Fields) (few : length rows ≤ 2 ^ 32) where
    class-few : (c : Class) → IsWhole (group_of job header columns) rows c → length c.rest + 1 ≤ 2 ^ 32
    class-few c whole =
        let test = λ (row : Fields). is_eq (fields_cmp (group_of job header columns row) c.group) in
        let size : length (rows_in c) ≡ length (filter test rows) = ap length whole in
        omega (arith, length-filter test rows, count_by-le-length test rows)

    told-part : (part : Part) (c : Class) → IsAggregate (length job.names) part → IsWhole (group_of job header columns) rows c
        → joint part.agg (part_value part c.first) (map (part_value part) c.rest) ≡ told_of job header (members job header columns rows c.group) part
    told-part part c is whole =
        joint-aggregated (value_at job header) values-small part.agg part.column c.first c.rest is.column (class-few c whole)
        ∙ ap (λ (rs : List Fields). told_of job header rs part) whole

    told-parts : (ps : List Part) (c : Class) → AllByRecursion (IsAggregate (length job.names)) ps → IsWhole (group_of job header columns) rows c
        → map (λ part. joint part.agg (part_value part c.first) (map (part_value part) c.rest)) ps ≡ map (told_of job header (members job header columns rows c.group)) ps
    told-parts [] c all whole = refl
    told-parts (part ∷ ps) c all whole = rw (told-part part c all.0 whole, told-parts ps c all.1 whole) refl

    fit-parts : (ps : List Part) (c : Class) → AllByRecursion (IsAggregate (length job.names)) ps → IsWhole (group_of job header columns) rows c
        → AllByRecursion FitsPartial (map (told_of job header (members job header columns rows c.group)) ps)
    fit-parts [] c all whole = tt
    fit-parts (part ∷ ps) c all whole =
        (subst FitsPartial (told-part part c all.0 whole) (joint-fits part_value parts-fit part.agg part c.first c.rest), fit-parts ps c all.1 whole)

    class-told : (long : PartialsAreLong) (back : PartialsComeBack) (c : Class) → AllByRecursion (IsAggregate (length job.names)) parts → IsWhole (group_of job header columns) rows c
        → class_entry (group_of job header columns) (row_value parts) (aggs_of parts) c ≡ group_entry (told_group columns parts rows c)
    class-told long back c all whole =
        ap (λ (v : List ℕ). let e : Entry = record { key = flat_map spelled c.group; value = v } in e)
        (joint-bytes long back part_value parts-fit parts c.first c.rest ∙ ap bytes_of (told-parts parts c all whole))

    classes-told : (long : PartialsAreLong) (back : PartialsComeBack) (cs : List Class) → AllByRecursion (IsAggregate (length job.names)) parts
        → AllByRecursion (IsWhole (group_of job header columns) rows) cs
        → map (class_entry (group_of job header columns) (row_value parts) (aggs_of parts)) cs ≡ map group_entry (map (told_group columns parts rows) cs)
    classes-told long back [] all whole = refl
    classes-told long back (c ∷ cs) all whole = rw (class-told long back c all whole.0, classes-told long back cs all whole.1) refl

    are-groups : (cs : List Class) → AllByRecursion (IsAggregate (length job.names)) parts → AllByRecursion (IsWhole (group_of job header columns) rows) cs
        → AllByRecursion (λ c. length c.group ≡ length columns) cs → AllByRecursion (IsGroup (length columns) (length parts)) (map (told_group columns parts rows) cs)
    are-groups [] all whole several = tt
    are-groups (c ∷ cs) all whole several =
        let first : IsGroup (length columns) (length parts) (told_group columns parts rows c) = record {
          several = several.0;
          counted = length-map parts (told_of job header (members job header columns rows c.group));
          fits = fit-parts parts c all whole.0;
        } in
        (first, are-groups cs all whole.1 several.1)

  -- ---- the query

  kept-columns : (columns : List ℕ) → missing job.names header ≡ None → AllByRecursion (λ column. column < length job.names) columns → AllByRecursion (IsKept job header) columns
  kept-columns columns found named = all-weaker (λ column. column < length job.names) (IsKept job header) (λ column within. column-kept job header column found within) columns named

  kept-part : (column : Option ℕ) → missing job.names header ≡ None → IfSome column (λ k. k < length job.names) → IfSome column (IsKept job header)
  kept-part None found named = tt
  kept-part (Some column) found named = column-kept job header column found named

  kept-parts : (parts : List Part) → missing job.names header ≡ None → AllByRecursion (IsAggregate (length job.names)) parts → AllByRecursion IsKeptPart parts
  kept-parts parts found all = all-weaker (IsAggregate (length job.names)) IsKeptPart (λ part is. kept-part part.column found is.named) parts all

  module _ (order : KeysInOrder) (long : PartialsAreLong) (back : PartialsComeBack) where
    -- the totals are the entries of the groups
    pub totals-are : (input : List Numbered) (columns : List ℕ) (parts : List Part) → missing job.names header ≡ None → IsShape (length job.names) (Group columns parts) → length (rows_of input) ≤ 2 ^ 32
        → totals_over job header input (Group columns parts) ≡ map group_entry (groups job header columns parts (rows_of input))
    totals-are input columns parts found shape few =
        let rows = rows_of input in
        let in-columns = kept-columns columns found (recursion_from_All (λ column. column < length job.names) columns shape.0.named) in
        let are-parts = recursion_from_All (IsAggregate (length job.names)) parts shape.2 in
        let g = group_of job header columns in
        ap (λ (aggs : List Agg). total (kinds.Group aggs) (map (entry_of (over_kept job header (Group columns parts))) (landed_each (kept job.names header) input))) (aggs-same parts)
        ∙ ap (total (kinds.Group (aggs_of parts))) (entries-same input columns parts in-columns (kept-parts parts found are-parts))
        ∙ total-classes g (row_value parts) (aggs_of parts) order (length columns) (λ row. length-map columns (field_of job header row)) rows
        ∙ classes-told columns parts rows few long back (classes g rows) are-parts (all-whole g rows)
        ∙ ap (map group_entry) (sym (entries-classes g (tell columns parts rows) rows))

    pub groups-are : (rows : List Fields) (columns : List ℕ) (parts : List Part) → IsShape (length job.names) (Group columns parts) → length rows ≤ 2 ^ 32
        → AllByRecursion (IsGroup (length columns) (length parts)) (groups job header columns parts rows)
    groups-are rows columns parts shape few =
        let g = group_of job header columns in
        let are-parts = recursion_from_All (IsAggregate (length job.names)) parts shape.2 in
        let several = all-groups g (λ fields. length fields ≡ length columns) (λ row. length-map columns (field_of job header row)) rows in
        subst (AllByRecursion (IsGroup (length columns) (length parts))) (sym (entries-classes g (tell columns parts rows) rows))
        (are-groups columns parts rows few (classes g rows) are-parts (all-whole g rows) several)

pub groups-tell : KeysInOrder → SpellingsAreReadBack → PartialsAreLong → PartialsComeBack → GroupsTell
groups-tell order read long back job header input columns parts found shape few =
    let rows = rows_of input in
    let size : length rows ≡ length input = length-map input (λ r. r.1) in
    let as-few : length rows ≤ 2 ^ 32 = omega arith in
    let totals = totals-are job header order long back input columns parts found shape as-few in
    let all = groups-are job header order long back rows columns parts shape as-few in
    let over-columns = map (kept_place job header) columns in
    let over-parts = map (part_over job header) parts in
    let size-columns : length over-columns ≡ length columns = length-map columns (kept_place job header) in
    let size-parts : length over-parts ≡ length parts = length-map parts (part_over job header) in
    let whole : AllByRecursion (IsGroup (length over-columns) (length over-parts)) (groups job header columns parts rows) = rw (size-columns, size-parts) all in
    record {
      table = rw totals (rows-told read long back over-columns over-parts (groups job header columns parts rows) whole);
      wide = rw totals (first-wide read long back (length over-columns) (length over-parts) (groups job header columns parts rows) whole);
      told = λ none. rw totals (all-told read long back over-columns over-parts (groups job header columns parts rows) whole none);
    }
