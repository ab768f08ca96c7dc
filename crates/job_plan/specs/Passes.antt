-- The passes of a job: all queries over one dataset are one pass.
-- This project's own.
use Rattle.std.specs.Prelude.{ℕ, zero, suc, ◌+◌, ◌==◌, ◌&&◌, not, is_some, option_and_then, Bool, false, List, length, map, take, drop, slice_get, slice_index_or}
use Rattle.std.specs.List.{filter, list_any, range_with_len}
use Rattle.row_filter.specs.declared.chain.Link.{Link}
use Rattle.row_filter.specs.Lines.{derives}

-- no query before this one goes over its dataset; the datasets are those of the queries, in query order
abbrev pub is_first : List ℕ → ℕ → Bool
is_first datasets query = not (list_any (λ d. d == slice_index_or datasets query 0) (take query datasets))

-- the datasets of the passes, in the order of their first query
abbrev pub pass_datasets : List ℕ → List ℕ
pass_datasets datasets =
    map (λ q. slice_index_or datasets q 0) (filter (is_first datasets) (range_with_len 0 (length datasets)))

-- the queries over a dataset, in query order
abbrev pub queries_over : List ℕ → ℕ → List ℕ
queries_over datasets dataset = filter (λ q. slice_index_or datasets q 0 == dataset) (range_with_len 0 (length datasets))

-- whether a dataset has a level; the input has none
abbrev pub has_level : List Link → ℕ → Bool
has_level links zero = false
has_level links (suc before) = is_some (option_and_then (λ link. link.level) (slice_get links before))

-- a pass is the last whose dataset is this one or derives from it
abbrev pub is_last_use : List Link → List ℕ → ℕ → ℕ → Bool
is_last_use links passes dataset pass =
    derives links (slice_index_or passes pass 0) dataset && not (list_any (λ d. derives links d dataset) (drop (pass + 1) passes))

-- the kept datasets whose blocks are removed after a pass, ascending
abbrev pub removed_after : List Link → List ℕ → ℕ → List ℕ
removed_after links passes pass =
    filter (λ d. has_level links d && is_last_use links passes d pass) (range_with_len 1 (length links))
