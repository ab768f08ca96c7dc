-- The tokens of a printed job are ones that can be read again.
use Rattle.std.proofs.Common.{◌≡◌, ℕ, zero, suc, ◌≤◌, Bool, true, false, cond, List, [], ◌∷◌, ◌++◌, length, get_or, Option, Some, None, refl, sym, ap, subst, ◌∙◌, arith}
use Rattle.std.specs.Prelude.{⊤, All, IfSome, map}
use Rattle.std.specs.List.{list_all}
use Rattle.std.proofs.lemmas.Bool.{and_parts}
use Rattle.std.proofs.lemmas.List.{length-map}
use Rattle.std.proofs.lemmas.List.Elements.{All-nil, All-cons, All-append, All-map, All-tail}
use Rattle.pool_ledger.specs.declared.entry.Level.{Level}
use Rattle.pool_ledger.specs.declared.entry.Level.TheVariants as levels
use Rattle.row_filter.specs.declared.filter.Comparison.{Comparison}
use Rattle.row_filter.specs.declared.filter.Constant.{Constant}
use Rattle.row_filter.specs.declared.filter.Constant.TheVariants as constants
use Rattle.row_filter.specs.declared.filter.Filter.{Filter, map-Filter}
use Rattle.row_filter.specs.declared.filter.Filter.TheFolds.{ind-Filter}
use Rattle.row_filter.specs.declared.filter.Filter.TheVariants.{rolls-And, rolls-Or, rolls-Not, rolls-Test}
use Rattle.row_filter.specs.declared.filter.Filter.TheViews.{roll-Filter}
use Rattle.row_filter.specs.declared.filter.Filter.TheOpen.{Filter-F}
use Rattle.row_filter.specs.declared.filter.Filter.TheOpen as layers
use Rattle.row_filter.specs.declared.filter.Filter.TheVariants as filters
use Rattle.job_text.specs.declared.mark.Mark.{Mark}
use Rattle.job_text.specs.declared.mark.Mark.TheVariants as marks
use Rattle.job_text.specs.declared.token.Token.{Token}
use Rattle.job_text.specs.declared.token.Token.TheVariants.{Fixed, Word, Quoted}
use Rattle.job_text.specs.declared.job.Dataset.{Dataset}
use Rattle.job_text.specs.declared.job.Job.{Job}
use Rattle.job_text.specs.declared.job.KeyItem.{KeyItem}
use Rattle.job_text.specs.declared.job.Part.{Part}
use Rattle.job_text.specs.declared.job.Query.{Query}
use Rattle.job_text.specs.declared.job.Shape.{Shape}
use Rattle.job_text.specs.declared.job.Shape.TheVariants as shapes
use Rattle.job_text.specs.Scan.{is_plain}
use Rattle.job_text.specs.Columns.{dataset_names}
use Rattle.job_text.specs.Grammar.{optional, separated, ended_by, keep_written}
use Rattle.job_text.specs.FilterForms.{FilterForm, form_of, is_ranged, IsFilter}
use Rattle.job_text.specs.FilterPrinting.{PrintedFilter, printed_filter, filter_tokens, test_mark, constant_token}
use Rattle.job_text.specs.Printing.{agg_column_tokens, agg_mark, key_tokens, part_tokens, place_tokens, shape_tokens}
use Rattle.job_text.specs.JobPrinting.{source_token, where_tokens, dataset_tokens, from_tokens, query_tokens, job_tokens, printed}
use Rattle.job_text.specs.Jobs.{IsJob}
use Rattle.job_text.specs.Begins.{job_of}
use Rattle.job_text.specs.Place.{IsJobText}
use Rattle.job_text.proofs.Again.{IsPrintable}
use Rattle.job_text.proofs.FilterEquations.{form-test, form-and, form-or, form-not, printed-test, printed-and, printed-or, printed-not}
use Rattle.job_text.proofs.Printed.{printed_read}
use Rattle.job_text.proofs.Reread.{text_tokens}

abbrev ArePrintable : List Token → Type 0
ArePrintable ts = All IsPrintable ts

no_tokens : ArePrintable []
no_tokens = All-nil IsPrintable

one_more : (t : Token) (ts : List Token) → IsPrintable t → ArePrintable ts → ArePrintable (t ∷ ts)
one_more t ts h g = All-cons IsPrintable t ts h g

both : (ts us : List Token) → ArePrintable ts → ArePrintable us → ArePrintable (ts ++ us)
both ts us h g = All-append IsPrintable ts us h g

all_separated : {A : Type 0} (sign : Mark) (tokens : A → List Token) (xs : List A) → All (λ x. ArePrintable (tokens x)) xs → ArePrintable (separated sign tokens xs)
all_separated sign tokens [] h = no_tokens
all_separated sign tokens (x ∷ []) h = h 0 x (omega arith)
all_separated sign tokens (x ∷ y ∷ xs) h =
    both (tokens x) (Fixed sign ∷ separated sign tokens (y ∷ xs)) (h 0 x (omega arith))
    (one_more (Fixed sign) (separated sign tokens (y ∷ xs)) tt (all_separated sign tokens (y ∷ xs) (All-tail (λ x. ArePrintable (tokens x)) x (y ∷ xs) h)))

all_ended : {A : Type 0} (sign : Mark) (tokens : A → List Token) (xs : List A) → All (λ x. ArePrintable (tokens x)) xs → ArePrintable (ended_by sign tokens xs)
all_ended sign tokens [] h = no_tokens
all_ended sign tokens (x ∷ xs) h =
    both (tokens x) (Fixed sign ∷ ended_by sign tokens xs) (h 0 x (omega arith))
    (one_more (Fixed sign) (ended_by sign tokens xs) tt (all_ended sign tokens xs (All-tail (λ x. ArePrintable (tokens x)) x xs h)))

-- ---- shapes

module _ (names : List (List ℕ)) where
  place_prints : (place : ℕ) → ArePrintable (place_tokens names place)
  place_prints place = by (is_plain (get_or names place [])) refl
    where
      by : (b : Bool) → is_plain (get_or names place []) ≡ b → ArePrintable (cond b (Word (get_or names place [])) (Quoted (get_or names place [])) ∷ [])
      by true e = one_more (Word (get_or names place [])) [] e no_tokens
      by false e = one_more (Quoted (get_or names place [])) [] tt no_tokens

  optional_prints : (there : Bool) (mark : Mark) → ArePrintable (optional there mark)
  optional_prints true mark = one_more (Fixed mark) [] tt no_tokens
  optional_prints false mark = no_tokens

  key_prints : (key : KeyItem) → ArePrintable (key_tokens names key)
  key_prints key =
      both (optional key.number marks.Number ++ place_tokens names key.column) (optional key.down marks.Down)
      (both (optional key.number marks.Number) (place_tokens names key.column) (optional_prints key.number marks.Number) (place_prints key.column)) (optional_prints key.down marks.Down)

  agg_column_prints : (column : Option ℕ) → ArePrintable (agg_column_tokens names column)
  agg_column_prints None = no_tokens
  agg_column_prints (Some place) = place_prints place

  part_prints : (part : Part) → ArePrintable (part_tokens names part)
  part_prints part = one_more (Fixed (agg_mark part.agg)) (agg_column_tokens names part.column) tt (agg_column_prints part.column)

  shape_prints : (shape : Shape) → ArePrintable (shape_tokens names shape)
  shape_prints (shapes.Group columns parts) =
      let front = separated marks.Comma (place_tokens names) columns in
      let back = separated marks.Comma (part_tokens names) parts in
      one_more (Fixed marks.Group) (front ++ Fixed marks.Colon ∷ back) tt (both front (Fixed marks.Colon ∷ back) (all_separated marks.Comma (place_tokens names) columns (λ k d lt. place_prints (get_or columns k d)))
      (one_more (Fixed marks.Colon) back tt (all_separated marks.Comma (part_tokens names) parts (λ k d lt. part_prints (get_or parts k d)))))
  shape_prints (shapes.Order keys columns) =
      let front = separated marks.Comma (key_tokens names) keys in
      let back = separated marks.Comma (place_tokens names) columns in
      one_more (Fixed marks.Order) (front ++ Fixed marks.Colon ∷ back) tt (both front (Fixed marks.Colon ∷ back) (all_separated marks.Comma (key_tokens names) keys (λ k d lt. key_prints (get_or keys k d)))
      (one_more (Fixed marks.Colon) back tt (all_separated marks.Comma (place_tokens names) columns (λ k d lt. place_prints (get_or columns k d)))))

  -- ---- filters

  abbrev Prints : Filter → Type 0
  Prints f = (form_of f).ranged ≡ true → ArePrintable (printed_filter names f).plain × ArePrintable (printed_filter names f).unit

  abbrev EachPrints : List Filter → Type 0
  EachPrints [] = ⊤
  EachPrints (f ∷ fs) = Prints f × EachPrints fs

  constant_prints : (constant : Constant) → is_ranged constant ≡ true → IsPrintable (constant_token constant)
  constant_prints (constants.Number number) h = h
  constant_prints (constants.Text text) h = tt

  test_prints : (column : ℕ) (test : Comparison) (constant : Constant) → Prints (filters.Test column test constant)
  test_prints column test constant h =
      let fits : is_ranged constant ≡ true = ap (λ (k : FilterForm). k.ranged) (sym (form-test column test constant)) ∙ h in
      let ts : List Token = Fixed (test_mark test) ∷ constant_token constant ∷ [] in
      let all = both (place_tokens names column) ts (place_prints column) (one_more (Fixed (test_mark test)) (constant_token constant ∷ []) tt (one_more (constant_token constant) [] (constant_prints constant fits) no_tokens)) in
      subst (λ (p : PrintedFilter). ArePrintable p.plain × ArePrintable p.unit) (sym (printed-test names column test constant)) (all, all)

  units_print : (fs : List Filter) → EachPrints fs → list_all (λ k. k.ranged) (map form_of fs) ≡ true → All (λ p. ArePrintable p.unit) (map (printed_filter names) fs)
  units_print [] each h = All-nil (λ p. ArePrintable p.unit)
  units_print (f ∷ fs) each h =
      let parts = and_parts (form_of f).ranged (list_all (λ k. k.ranged) (map form_of fs)) h in
      All-cons (λ p. ArePrintable p.unit) (printed_filter names f) (map (printed_filter names) fs) (each.0 parts.0).1 (units_print fs each.1 parts.1)

  parts_print : (fs : List Filter) → EachPrints fs → list_all (λ k. k.ranged) (map form_of fs) ≡ true → All (λ p. ArePrintable p.plain) (map (printed_filter names) fs)
  parts_print [] each h = All-nil (λ p. ArePrintable p.plain)
  parts_print (f ∷ fs) each h =
      let parts = and_parts (form_of f).ranged (list_all (λ k. k.ranged) (map form_of fs)) h in
      All-cons (λ p. ArePrintable p.plain) (printed_filter names f) (map (printed_filter names) fs) (each.0 parts.0).0 (parts_print fs each.1 parts.1)

  enclosed_prints : (ts : List Token) → ArePrintable ts → ArePrintable (Fixed marks.Open ∷ ts ++ Fixed marks.Close ∷ [])
  enclosed_prints ts h = one_more (Fixed marks.Open) (ts ++ Fixed marks.Close ∷ []) tt (both ts (Fixed marks.Close ∷ []) h (one_more (Fixed marks.Close) [] tt no_tokens))

  and_prints : (fs : List Filter) → EachPrints fs → Prints (filters.And fs)
  and_prints fs each h =
      let ranged : list_all (λ k. k.ranged) (map form_of fs) ≡ true = ap (λ (k : FilterForm). k.ranged) (sym (form-and fs)) ∙ h in
      let ts = separated marks.And (λ p. p.unit) (map (printed_filter names) fs) in
      let all = all_separated marks.And (λ p. p.unit) (map (printed_filter names) fs) (units_print fs each ranged) in
      subst (λ (p : PrintedFilter). ArePrintable p.plain × ArePrintable p.unit) (sym (printed-and names fs)) (all, enclosed_prints ts all)

  or_prints : (fs : List Filter) → EachPrints fs → Prints (filters.Or fs)
  or_prints fs each h =
      let ranged : list_all (λ k. k.ranged) (map form_of fs) ≡ true = ap (λ (k : FilterForm). k.ranged) (sym (form-or fs)) ∙ h in
      let ts = separated marks.Or (λ p. p.plain) (map (printed_filter names) fs) in
      let all = all_separated marks.Or (λ p. p.plain) (map (printed_filter names) fs) (parts_print fs each ranged) in
      subst (λ (p : PrintedFilter). ArePrintable p.plain × ArePrintable p.unit) (sym (printed-or names fs)) (all, enclosed_prints ts all)

  not_prints : (f : Filter) → Prints f → Prints (filters.Not f)
  not_prints f again h =
      let ranged : (form_of f).ranged ≡ true = ap (λ (k : FilterForm). k.ranged) (sym (form-not f)) ∙ h in
      let all = one_more (Fixed marks.Not) (printed_filter names f).unit tt (again ranged).1 in
      subst (λ (p : PrintedFilter). ArePrintable p.plain × ArePrintable p.unit) (sym (printed-not names f)) (all, all)

  each_of : (es : List ((f : Filter) × Prints f)) → EachPrints (map (λ e. e.0) es)
  each_of [] = tt
  each_of (e ∷ es) = (e.1, each_of es)

  layer_prints : (y : Filter-F ((f : Filter) × Prints f)) → Prints (roll-Filter (map-Filter ((f : Filter) × Prints f) Filter (λ e. e.0) y))
  layer_prints (layers.Test column test constant) = subst Prints (sym (rolls-Test column test constant)) (test_prints column test constant)
  layer_prints (layers.And es) = subst Prints (sym (rolls-And (map (λ e. e.0) es))) (and_prints (map (λ e. e.0) es) (each_of es))
  layer_prints (layers.Or es) = subst Prints (sym (rolls-Or (map (λ e. e.0) es))) (or_prints (map (λ e. e.0) es) (each_of es))
  layer_prints (layers.Not e) = subst Prints (sym (rolls-Not e.0)) (not_prints e.0 e.1)

  filter_prints : (f : Filter) → Prints f
  filter_prints = ind-Filter Prints (λ x y is. subst (λ (z : Filter-F Filter). Prints (roll-Filter z)) is (layer_prints y))

  where_prints : (filter : Option Filter) → IfSome filter (IsFilter (length names)) → ArePrintable (where_tokens names filter)
  where_prints None h = no_tokens
  where_prints (Some filter) h = one_more (Fixed marks.Where) (filter_tokens names filter) tt (filter_prints filter h.ranged).0

  keep_prints : (level : Option Level) → ArePrintable (keep_written level)
  keep_prints None = no_tokens
  keep_prints (Some levels.Memory) = one_more (Fixed marks.Keep) (Fixed marks.Memory ∷ []) tt (one_more (Fixed marks.Memory) [] tt no_tokens)
  keep_prints (Some levels.Disk) = one_more (Fixed marks.Keep) (Fixed marks.Disk ∷ []) tt (one_more (Fixed marks.Disk) [] tt no_tokens)

  -- ---- datasets and queries

  module _ (all : List (List ℕ)) (plain : All (λ name. is_plain name ≡ true) all) where
    source_prints : (number : ℕ) → number ≤ length all → IsPrintable (source_token all number)
    source_prints zero le = tt
    source_prints (suc place) le = plain place [] (omega (arith, le))

    dataset_prints : (dataset : Dataset) → is_plain dataset.name ≡ true → dataset.parent ≤ length all → IfSome dataset.filter (IsFilter (length names)) → ArePrintable (dataset_tokens names all dataset)
    dataset_prints dataset h le f =
        let back = where_tokens names dataset.filter ++ keep_written dataset.level in
        one_more (Fixed marks.Let) (Word dataset.name ∷ Fixed marks.Equal ∷ source_token all dataset.parent ∷ back) tt
        (one_more (Word dataset.name) (Fixed marks.Equal ∷ source_token all dataset.parent ∷ back) h
        (one_more (Fixed marks.Equal) (source_token all dataset.parent ∷ back) tt
        (one_more (source_token all dataset.parent) back (source_prints dataset.parent le) (both (where_tokens names dataset.filter) (keep_written dataset.level) (where_prints dataset.filter f) (keep_prints dataset.level)))))

    from_prints : (number : ℕ) → number ≤ length all → ArePrintable (from_tokens all number)
    from_prints zero le = no_tokens
    from_prints (suc place) le = one_more (Fixed marks.From) (source_token all (suc place) ∷ []) tt (one_more (source_token all (suc place)) [] (source_prints (suc place) le) no_tokens)

    query_prints : (query : Query) → query.dataset ≤ length all → ArePrintable (query_tokens names all query)
    query_prints query le = both (shape_tokens names query.shape) (from_tokens all query.dataset) (shape_prints query.shape) (from_prints query.dataset le)

job_prints : (job : Job) → IsJob job → ArePrintable (job_tokens job)
job_prints job h =
    let all = dataset_names job.datasets in
    let long : length all ≡ length job.datasets = length-map job.datasets (λ dataset. dataset.name) in
    let plain : All (λ name. is_plain name ≡ true) all = All-map (λ name. is_plain name ≡ true) (λ dataset. dataset.name) job.datasets h.datasets.plain in
    both (ended_by marks.Semicolon (dataset_tokens job.names all) job.datasets) (separated marks.Semicolon (query_tokens job.names all) job.queries)
    (all_ended marks.Semicolon (dataset_tokens job.names all) job.datasets (λ k d lt. dataset_prints job.names all plain (get_or job.datasets k d) (h.datasets.plain k d lt) (omega (arith, h.datasets.earlier k d lt, lt, long)) (h.datasets.filters k d lt)))
    (all_separated marks.Semicolon (query_tokens job.names all) job.queries (λ k d lt. query_prints job.names all plain (get_or job.queries k d) (omega (arith, (h.queries k d lt).dataset, long))))

-- ---- the printed text

pub printed_again : (job : Job) → IsJob job → length (printed job) ≤ 16384 → IsJobText (printed job) job
unfolding printed
printed_again job h le =
    let has = text_tokens (job_tokens job) (job_prints job h) 0 in
    record { short = le; whole = has.whole; is = ap job_of has.tokens ∙ printed_read job h }
