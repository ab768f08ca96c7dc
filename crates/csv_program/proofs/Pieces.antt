-- Tables one behind the other, piece by piece, and the first total that is too wide.
use Rattle.std.proofs.Common.{◌≡◌, ◌∙◌, ◌+◌, ◌++◌, ◌-◌, ◌<◌, ◌∷◌, [], ℕ, zero, suc, List, Option, Some, None, length, map, append-nil, refl, sym, ap, arith}
use Rattle.std.specs.Prelude.{option_map}
use Rattle.std.specs.List.{flat_map, range_with_len}
use Rattle.std.specs.Option.{option_or}
use Rattle.std.proofs.lemmas.Grind.{flat_map-append}
use Rattle.aggregate.specs.Totals.{Entry}
use Rattle.job_answer.specs.Laws.{wide_total}
use Rattle.job_answer.specs.Output.{tables_text}
use Rattle.job_plan.specs.Plans.{kept_at, kept_in}
use Rattle.job_plan.specs.declared.query_plan.Plan.{Plan}
use Rattle.result_table.specs.Results.{table_of}
use Rattle.job_ending.specs.Endings.{tables_of, wide_among, wide_of}
use Rattle.csv_program.specs.Tables.{gap_before, piece_of}

-- ---- pieces

-- the pieces of these queries
abbrev pub pieces_in : Plan → (ℕ → List Entry) → List ℕ → List ℕ
pieces_in plan totals queries = flat_map (λ query. piece_of plan query (totals query)) queries

range_more : (a n : ℕ) → range_with_len a (suc n) ≡ range_with_len a n ++ (a + n) ∷ []
range_more a zero = let same : a ≡ a + 0 = omega arith in ap (λ (k : ℕ). k ∷ []) same
range_more a (suc n) =
    let same : (a + 1) + n ≡ a + suc n = omega arith in
    ap (λ (rest : List ℕ). a ∷ rest) (range_more (a + 1) n ∙ ap (λ (k : ℕ). range_with_len (a + 1) n ++ k ∷ []) same)

range_split : (a n k : ℕ) → range_with_len a (n + k) ≡ range_with_len a n ++ range_with_len (a + n) k
range_split a zero k = let same : a ≡ a + 0 = omega arith in let none : 0 + k ≡ k = omega arith in ap (range_with_len a) none ∙ ap (λ (b : ℕ). range_with_len b k) same
range_split a (suc n) k =
    let more : suc n + k ≡ suc (n + k) = omega arith in
    let same : (a + 1) + n ≡ a + suc n = omega arith in
    ap (range_with_len a) more ∙ ap (λ (rest : List ℕ). a ∷ rest) (range_split (a + 1) n k ∙ ap (λ (b : ℕ). range_with_len (a + 1) n ++ range_with_len b k) same)

-- one query more is one piece more
pub pieces_more : (plan : Plan) (totals : ℕ → List Entry) (n : ℕ) → pieces_in plan totals (range_with_len 0 (suc n)) ≡ pieces_in plan totals (range_with_len 0 n) ++ piece_of plan n (totals n)
pieces_more plan totals n =
    let piece : ℕ → List ℕ = λ query. piece_of plan query (totals query) in
    let here : 0 + n ≡ n = omega arith in
    ap (flat_map piece) (range_more 0 n) ∙ ap (λ (k : ℕ). flat_map piece (range_with_len 0 n ++ k ∷ [])) here
    ∙ flat_map-append piece (range_with_len 0 n) (n ∷ []) ∙ ap (λ (last : List ℕ). flat_map piece (range_with_len 0 n) ++ last) (append-nil (piece n))

joined_tables : (table : ℕ → List ℕ) (a n : ℕ) → flat_map (λ query. gap_before query ++ table query) (range_with_len (suc a) n) ≡ flat_map (λ query. 10 ∷ table query) (range_with_len (suc a) n)
joined_tables table a zero = refl
joined_tables table a (suc n) =
    let next : suc a + 1 ≡ suc (suc a) = omega arith in
    let rest : flat_map (λ query. gap_before query ++ table query) (range_with_len (suc a + 1) n) ≡ flat_map (λ query. 10 ∷ table query) (range_with_len (suc a + 1) n) =
    ap (λ (b : ℕ). flat_map (λ query. gap_before query ++ table query) (range_with_len b n)) next ∙ joined_tables table (suc a) n
    ∙ ap (λ (b : ℕ). flat_map (λ query. 10 ∷ table query) (range_with_len b n)) (sym next) in
    ap (λ (more : List ℕ). (10 ∷ table (suc a)) ++ more) rest

joined_from : (table : ℕ → List ℕ) (first : List ℕ) (queries : List ℕ) → tables_text (first ∷ map table queries) ≡ first ++ flat_map (λ query. 10 ∷ table query) queries
joined_from table first [] = sym (append-nil first)
joined_from table first (query ∷ queries) = ap (λ (rest : List ℕ). first ++ 10 ∷ rest) (joined_from table (table query) queries)

pieces_joined : (table : ℕ → List ℕ) (n : ℕ) → flat_map (λ query. gap_before query ++ table query) (range_with_len 0 n) ≡ tables_text (map table (range_with_len 0 n))
pieces_joined table zero = refl
pieces_joined table (suc n) =
    let one : 0 + 1 ≡ suc 0 = omega arith in
    ap (λ (rest : List ℕ). table 0 ++ rest)
    (ap (λ (b : ℕ). flat_map (λ query. gap_before query ++ table query) (range_with_len b n)) one ∙ joined_tables table 0 n ∙ ap (λ (b : ℕ). flat_map (λ query. 10 ∷ table query) (range_with_len b n)) (sym one))
    ∙ sym (joined_from table (table 0) (range_with_len (0 + 1) n))

-- all pieces are the tables with a line feed between two
pub pieces_all : (plan : Plan) (totals : ℕ → List Entry) → pieces_in plan totals (range_with_len 0 (length (kept_in plan))) ≡ tables_of plan totals
pieces_all plan totals = pieces_joined (λ query. table_of plan query (totals query)) (length (kept_in plan))

-- the pieces before a query, its own, and the rest
pub pieces_split : (plan : Plan) (totals : ℕ → List Entry) (query count : ℕ) → query < count
    → (rest : List ℕ) × (pieces_in plan totals (range_with_len 0 count) ≡ (pieces_in plan totals (range_with_len 0 query) ++ piece_of plan query (totals query)) ++ rest)
pieces_split plan totals query count below =
    let piece : ℕ → List ℕ = λ query. piece_of plan query (totals query) in
    let left = count - suc query in
    let whole : count ≡ suc query + left = omega (arith, below) in
    let behind : List ℕ = range_with_len (0 + suc query) left in (
      flat_map piece behind,
      ap (λ (n : ℕ). flat_map piece (range_with_len 0 n)) whole ∙ ap (flat_map piece) (range_split 0 (suc query) left)
          ∙ flat_map-append piece (range_with_len 0 (suc query)) behind ∙ ap (λ (front : List ℕ). front ++ flat_map piece behind) (pieces_more plan totals query),
    )

-- ---- the first total that is too wide

abbrev wide_at : Plan → (ℕ → List Entry) → ℕ → Option (ℕ × List ℕ)
wide_at plan totals query = option_map (λ entry. (query, entry.key)) (wide_total (kept_at plan query) (totals query))

among_append : (plan : Plan) (totals : ℕ → List Entry) (xs ys : List ℕ) → wide_among plan totals (xs ++ ys) ≡ option_or (wide_among plan totals xs) (wide_among plan totals ys)
among_append plan totals [] ys = refl
among_append plan totals (x ∷ xs) ys = by_first (wide_at plan totals x) (wide_among plan totals (xs ++ ys)) (wide_among plan totals xs) (wide_among plan totals ys) (among_append plan totals xs ys)
  where
    by_first : {T : Type 0} (first all front behind : Option T) → all ≡ option_or front behind → option_or first all ≡ option_or (option_or first front) behind
    by_first None all front behind same = same
    by_first (Some wide) all front behind same = refl

-- none of these queries has one
pub none_among : (plan : Plan) (totals : ℕ → List Entry) (n : ℕ) → ((query : ℕ) → query < n → wide_total (kept_at plan query) (totals query) ≡ None) → wide_among plan totals (range_with_len 0 n) ≡ None
none_among plan totals zero none = refl
none_among plan totals (suc n) none =
    let here : 0 + n ≡ n = omega arith in
    ap (wide_among plan totals) (range_more 0 n) ∙ ap (λ (k : ℕ). wide_among plan totals (range_with_len 0 n ++ k ∷ [])) here ∙ among_append plan totals (range_with_len 0 n) (n ∷ [])
    ∙ ap (λ (found : Option (ℕ × List ℕ)). option_or found (wide_among plan totals (n ∷ []))) (none_among plan totals n (λ query below. none query (omega (arith, below))))
    ∙ ap (λ (found : Option Entry). option_or (option_map (λ entry. (n, entry.key)) found) None) (none n (omega arith))

-- those before it have none, and it has one
pub first_among : (plan : Plan) (totals : ℕ → List Entry) (query : ℕ) (entry : Entry) → query < length (kept_in plan) → ((before : ℕ) → before < query → wide_total (kept_at plan before) (totals before) ≡ None)
    → wide_total (kept_at plan query) (totals query) ≡ Some entry → wide_of plan totals ≡ Some (query, entry.key)
first_among plan totals query entry within none found =
    let count = length (kept_in plan) in
    let left = count - suc query in
    let whole : count ≡ query + suc left = omega (arith, within) in
    let behind : List ℕ = range_with_len ((0 + query) + 1) left in
    let here : 0 + query ≡ query = omega arith in
    ap (λ (n : ℕ). wide_among plan totals (range_with_len 0 n)) whole ∙ ap (wide_among plan totals) (range_split 0 query (suc left))
    ∙ among_append plan totals (range_with_len 0 query) ((0 + query) ∷ behind)
    ∙ ap (λ (before : Option (ℕ × List ℕ)). option_or before (wide_among plan totals ((0 + query) ∷ behind))) (none_among plan totals query none)
    ∙ ap (λ (q : ℕ). option_or (wide_at plan totals q) (wide_among plan totals behind)) here
    ∙ ap (λ (total : Option Entry). option_or (option_map (λ entry. (query, entry.key)) total) (wide_among plan totals behind)) found

-- where none of all has one, each has none
pub each_narrow : (plan : Plan) (totals : ℕ → List Entry) → wide_of plan totals ≡ None → (query : ℕ) → query < length (kept_in plan) → wide_total (kept_at plan query) (totals query) ≡ None
each_narrow plan totals none query within =
    let count = length (kept_in plan) in
    let left = count - suc query in
    let whole : count ≡ query + suc left = omega (arith, within) in
    let behind : List ℕ = range_with_len ((0 + query) + 1) left in
    let here : 0 + query ≡ query = omega arith in
    let split : option_or (wide_among plan totals (range_with_len 0 query)) (option_or (wide_at plan totals query) (wide_among plan totals behind)) ≡ None =
    ap (λ (q : ℕ). option_or (wide_among plan totals (range_with_len 0 query)) (option_or (wide_at plan totals q) (wide_among plan totals behind))) (sym here)
    ∙ sym (among_append plan totals (range_with_len 0 query) ((0 + query) ∷ behind)) ∙ sym (ap (wide_among plan totals) (range_split 0 query (suc left)))
    ∙ sym (ap (λ (n : ℕ). wide_among plan totals (range_with_len 0 n)) whole) ∙ none in
    no_key (wide_total (kept_at plan query) (totals query)) (left_none (wide_at plan totals query) (wide_among plan totals behind) (right_none (wide_among plan totals (range_with_len 0 query)) (option_or (wide_at plan totals query) (wide_among plan totals behind)) split))
  where
    right_none : {T : Type 0} (first second : Option T) → option_or first second ≡ None → second ≡ None
    right_none None second same = same
    right_none (Some x) second same = absurd (let no : Some x ≡ None = same in cc no)

    left_none : {T : Type 0} (first second : Option T) → option_or first second ≡ None → first ≡ None
    left_none None second same = refl
    left_none (Some x) second same = absurd (let no : Some x ≡ None = same in cc no)

    no_key : (total : Option Entry) → option_map {U = ℕ × List ℕ} (λ entry. (query, entry.key)) total ≡ None → total ≡ None
    no_key None same = refl
    no_key (Some entry) same = absurd (let wide : ℕ × List ℕ = (query, entry.key) in let no : Some wide ≡ None = same in cc no)
