-- The three lines that a trial prints, by the plain answers of its job over its rows.
-- This project's own.
use Rattle.std.specs.Prelude.{ℕ, List, [], ◌∷◌, ◌++◌, Option, None, codes, length, map, slice_index_or, unwrap_or, ℤ, pos, ◌+ℤ◌}
use Rattle.std.specs.Fmt.{decimal, signed_decimal}
use Rattle.std.specs.List.{fold}
use Rattle.job_plan.specs.Columns.{Fields}
use Rattle.job_answer.specs.Answer.{groups}
use Rattle.job_answer.specs.Derived.{derived}
use Rattle.job_answer.specs.Output.{answer_rows, output}
use Rattle.aggregate.specs.declared.agg_list.Agg.TheVariants.{Sum}
use Rattle.trial_input.specs.FixedJob.{counts, key, keys_query, of_price, trial_job}
use Rattle.trial_input.specs.Generator.{heading, trial_rows}

-- how many rows the last query's answer has: one for each key
abbrev pub group_count : ℕ → ℕ
group_count rows = length (answer_rows trial_job heading (trial_rows rows) keys_query)

-- the groups of the first query, each with its count and its sum
abbrev pub summed_groups : ℕ → List (Fields × List (Option ℤ))
summed_groups rows =
    groups trial_job heading (key ∷ []) (counts ∷ of_price Sum ∷ []) (derived trial_job heading 1 (trial_rows rows))

-- the count of such a group, which is never missing
abbrev pub count_of : Fields × List (Option ℤ) → ℤ
count_of group = unwrap_or (slice_index_or group.1 0 None) (pos 0)

-- what the counts of these groups come to
abbrev pub counted : ℕ → ℤ
counted rows = fold ◌+ℤ◌ (pos 0) (map count_of (summed_groups rows))

-- three lines with these numbers
abbrev pub lines_with : ℕ → ℕ → ℤ → List ℕ
lines_with rows group_count counted =
    codes "rows " ++ decimal rows ++ codes "\ngroups " ++ decimal group_count
    ++ codes "\ncounted " ++ signed_decimal counted ++ codes "\n"

-- the lines of a trial of so many rows
abbrev pub trial_lines : ℕ → List ℕ
trial_lines rows = lines_with rows (group_count rows) (counted rows)

-- the tables that a run of the job prints for so many rows
abbrev pub trial_output : ℕ → List ℕ
trial_output rows = output trial_job heading (trial_rows rows)
