-- What csv reads of tables that it wrote, one behind the other.
use Rattle.std.proofs.Common.{◌≡◌, ℕ, zero, suc, ◌+◌, ◌-◌, ◌≤◌, ◌∙◌, List, [], ◌∷◌, ◌++◌, codes, length, map, refl, sym, ap, arith, append_assoc, length-append}
use Rattle.std.specs.Prelude.{⊤, cond}
use Rattle.std.specs.List.{AllByRecursion, flat_map}
use Rattle.std.proofs.lemmas.List.{append-nil}
use Rattle.csv.specs.Reading.{default_config, records, records_from, strip_bom}
use Rattle.csv.specs.Machine.{next_record}
use Rattle.csv.specs.Writing.{default_writer, fields_text, is_blank, read_back, row_body, row_text}
use Rattle.csv.specs.declared.parser.State.TheVariants as st
use Rattle.csv.proofs.RoundTrip.{read-write}
use Rattle.job_plan.specs.Columns.{Fields}
use Rattle.job_answer.specs.Output.{tables_text, text_of}
use Rattle.trial_input.proofs.Decimals.{IsPlain}

-- a record of csv has a field
abbrev pub HasFields : Fields → Type 0
HasFields [] = ⊥
HasFields (field ∷ fields) = ⊤

same_back : (row : Fields) → HasFields row → read_back row ≡ row
same_back [] has = absurd has
same_back (field ∷ fields) has = refl

-- so many records at most, from a text's start
abbrev reads : ℕ → List ℕ → List Fields
reads most text = records_from default_config most st.StartRecord text

row_read : (most : ℕ) (row : Fields) (tail : List ℕ) → HasFields row → reads (suc most) (row_text default_writer row ++ tail) ≡ row ∷ reads most tail
unfolding records_from
row_read most row tail has = rw (read-write row tail) (ap (λ (r : Fields). r ∷ reads most tail) (same_back row has))

rows_read : (rows : List Fields) (most left : ℕ) (tail : List ℕ) → most ≡ length rows + left → AllByRecursion HasFields rows
    → reads most (text_of rows ++ tail) ≡ rows ++ reads left tail
rows_read [] most left tail e all = ap (λ (n : ℕ). reads n tail) (omega (arith, e))
rows_read (row ∷ rows) most left tail e all =
    let more : most ≡ suc (length rows + left) = omega (arith, e) in
    ap (λ (n : ℕ). reads n (text_of (row ∷ rows) ++ tail)) more
    ∙ ap (reads (suc (length rows + left))) (append_assoc (row_text default_writer row) (text_of rows) tail)
    ∙ row_read (length rows + left) row (text_of rows ++ tail) all.0
    ∙ ap (λ (rest : List Fields). row ∷ rest) (rows_read rows (length rows + left) left tail refl all.1)

none_read : (most : ℕ) → reads most [] ≡ []
unfolding records_from next_record
none_read zero = refl
none_read (suc most) = refl

-- an empty line is no record
line_skipped : (most : ℕ) (tail : List ℕ) → reads most (10 ∷ tail) ≡ reads most tail
unfolding records_from next_record
line_skipped zero tail = refl
line_skipped (suc most) tail = refl

-- the records of tables
abbrev pub all_rows : List (List Fields) → List Fields
all_rows tables = flat_map (λ table. table) tables

-- the text of tables
abbrev pub text_of_tables : List (List Fields) → List ℕ
text_of_tables tables = tables_text (map text_of tables)

tables_reads : (tables : List (List Fields)) (most left : ℕ) → most ≡ length (all_rows tables) + left → AllByRecursion (AllByRecursion HasFields) tables
    → reads most (text_of_tables tables) ≡ all_rows tables
tables_reads [] most left e all = none_read most
tables_reads (table ∷ []) most left e all =
    let enough : most ≡ length table + left = omega (arith, e, length-append table []) in
    ap (reads most) (sym (append-nil (text_of table)))
    ∙ rows_read table most left [] enough all.0
    ∙ ap (λ (rest : List Fields). table ++ rest) (none_read left)
tables_reads (table ∷ next ∷ tables) most left e all =
    let others = next ∷ tables in
    let enough : most ≡ length table + (length (all_rows others) + left) = omega (arith, e, length-append table (all_rows others)) in
    rows_read table most (length (all_rows others) + left) (10 ∷ text_of_tables others) enough all.0
    ∙ ap (λ (rest : List Fields). table ++ rest) (line_skipped (length (all_rows others) + left) (text_of_tables others)
    ∙ tables_reads (next ∷ tables) (length (all_rows others) + left) left refl all.1)

-- ---- a text has as many bytes as records

line_long : (front middle : List ℕ) → 1 ≤ length (front ++ (middle ++ (10 ∷ [])))
line_long front middle = omega (arith, length-append front (middle ++ (10 ∷ [])), length-append middle (10 ∷ []))

row_long : (row : Fields) → 1 ≤ length (row_text default_writer row)
row_long row = line_long (row_body default_writer row) (cond (is_blank default_writer row) (34 ∷ 34 ∷ []) [])

rows_long : (rows : List Fields) → length rows ≤ length (text_of rows)
rows_long [] = omega arith
rows_long (row ∷ rows) = omega (arith, row_long row, rows_long rows, length-append (row_text default_writer row) (text_of rows))

tables_long : (tables : List (List Fields)) → length (all_rows tables) ≤ length (text_of_tables tables)
tables_long [] = omega arith
tables_long (table ∷ []) = omega (arith, rows_long table, length-append table [])
tables_long (table ∷ next ∷ tables) =
    let others = next ∷ tables in
    omega (arith, rows_long table, tables_long (next ∷ tables), length-append table (all_rows others), length-append (text_of table) (10 ∷ text_of_tables others))

-- the tables' text is read as their records
pub tables_read : (tables : List (List Fields)) → AllByRecursion (AllByRecursion HasFields) tables
    → records default_config (text_of_tables tables) ≡ all_rows tables
tables_read tables all =
    let text = text_of_tables tables in
    let long = tables_long tables in
    tables_reads tables (length text + 1) (length text + 1 - length (all_rows tables)) (omega arith) all

-- ---- a text that begins with a letter has no byte order mark

pub no_mark : (rest : List ℕ) → strip_bom (107 ∷ rest) ≡ 107 ∷ rest
unfolding strip_bom
no_mark [] = refl
no_mark (b ∷ []) = refl
no_mark (b ∷ c ∷ rest) = refl

-- ---- a row of two fields as a line

pub two_fields : (a b : List ℕ) → IsPlain a → IsPlain b → row_text default_writer (a ∷ b ∷ []) ≡ a ++ codes "," ++ b ++ codes "\n"
unfolding fields_text is_blank
two_fields a b plain also = rw (plain, also) (simp (append_assoc, append-nil))
