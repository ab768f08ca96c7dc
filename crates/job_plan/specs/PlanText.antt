-- How a plan is printed.
-- This project's own.
use Rattle.std.specs.Prelude.{ℕ, zero, suc, List, [], ◌∷◌, ◌++◌, codes, length, map, slice_index_or}
use Rattle.std.specs.Fmt.{decimal}
use Rattle.std.specs.List.{flat_map, range_with_len}
use Rattle.job_text.specs.Printing.{column_token, token_text}
use Rattle.job_plan.specs.declared.query_plan.Plan.{Plan}
use Rattle.job_plan.specs.Plans.{column_names_in, dataset_names_in, passes_in, queries_in, removed_in}

-- these texts, with a comma between two of them
abbrev pub comma_joined : List (List ℕ) → List ℕ
comma_joined [] = []
comma_joined (text ∷ more) = text ++ flat_map (λ next. 44 ∷ next) more

-- the comma before an item of a list, which the first one hasn't
abbrev pub comma_before : ℕ → List ℕ
comma_before zero = []
comma_before (suc place) = 44 ∷ []

-- a column, as a printed job spells it
abbrev pub column_text : List ℕ → List ℕ
column_text name = token_text (column_token name)

-- the name of a dataset; 0 is the input
abbrev pub dataset_text : List (List ℕ) → ℕ → List ℕ
dataset_text names zero = codes "input"
dataset_text names (suc before) = slice_index_or names before []

-- that a dataset's blocks are removed after a pass
abbrev pub removal_line : List (List ℕ) → ℕ → ℕ → List ℕ
removal_line names pass dataset =
    codes "remove " ++ dataset_text names dataset ++ codes " after " ++ decimal pass ++ 10 ∷ []

-- a pass: its dataset and its queries
abbrev pub pass_line : List (List ℕ) → ℕ → ℕ → List ℕ → List ℕ
pass_line names pass dataset queries =
    codes "pass " ++ decimal pass ++ 32 ∷ dataset_text names dataset
    ++ codes " queries " ++ comma_joined (map decimal queries) ++ 10 ∷ []

-- the kept columns
abbrev pub columns_line : List (List ℕ) → List ℕ
columns_line columns = codes "columns " ++ comma_joined (map column_text columns) ++ 10 ∷ []

-- a plan's pass, and what is removed after it
abbrev pub pass_text : Plan → ℕ → List ℕ
pass_text plan pass =
    pass_line (dataset_names_in plan) pass (slice_index_or (passes_in plan) pass 0) (slice_index_or (queries_in plan) pass [])
    ++ flat_map (removal_line (dataset_names_in plan) pass) (slice_index_or (removed_in plan) pass [])

-- a plan's text
abbrev pub plan_text : Plan → List ℕ
plan_text plan =
    columns_line (column_names_in plan) ++ flat_map (pass_text plan) (range_with_len 0 (length (passes_in plan)))
