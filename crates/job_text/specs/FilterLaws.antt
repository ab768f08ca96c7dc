-- What holds of filters in the language: reading, the grammar and printing are of one mind.
-- This project's own.
use Rattle.std.specs.Prelude.{◌≡◌, ℕ, ◌<◌, ◌≤◌, List, [], ◌++◌, length, map, slice_index_or, Some, All, IsSome}
use Rattle.row_filter.specs.declared.filter.Filter.{Filter}
use Rattle.job_text.specs.declared.token.Token.{Token}
use Rattle.job_text.specs.declared.filter_state.FilterState.{FilterState}
use Rattle.job_text.specs.Scan.{IsSpelled}
use Rattle.job_text.specs.Columns.{place_of, with_names}
use Rattle.job_text.specs.Jobs.{IsDistinct}
use Rattle.job_text.specs.FilterStep.{filter_start, filter_steps, filter_at}
use Rattle.job_text.specs.FilterGrammar.{IsWrittenFilter}
use Rattle.job_text.specs.FilterForms.{filter_places, IsFilter}
use Rattle.job_text.specs.FilterPrinting.{filter_tokens}

-- what is written is read, where all names are those before it, its own and later ones
abbrev pub FiltersAreRead : Type 0
FiltersAreRead =
    (names used later : List (List ℕ)) (ts : List Token) (filter : Filter)
    → IsWrittenFilter (with_names (with_names names used) later) ts used filter
    → (last : FilterState) × (filter_steps names filter_start ts ≡ Some (with_names names used, last))
    × (filter_at last ≡ Some filter)

-- what is read is written, with the names that it adds
abbrev pub FiltersAreWritten : Type 0
FiltersAreWritten =
    (names final later : List (List ℕ)) (ts : List Token) (last : FilterState) (filter : Filter)
    → filter_steps names filter_start ts ≡ Some (final, last) → filter_at last ≡ Some filter
    → (used : List (List ℕ)) × (with_names names used ≡ final) × IsWrittenFilter (with_names final later) ts used filter

-- what is written with tokens of a text is a filter, whose columns are the names that it uses
abbrev pub ReadFiltersAreFilters : Type 0
ReadFiltersAreFilters =
    (all used : List (List ℕ)) (ts : List Token) (filter : Filter)
    → IsWrittenFilter all ts used filter → All IsSpelled ts → All (λ name. place_of all name < length all) used
    → IsFilter (length all) filter × (map (λ p. slice_index_or all p []) (filter_places filter) ≡ used)

-- behind tokens that are read some others of a text go on to a whole filter
abbrev pub FiltersGoOn : Type 0
FiltersGoOn =
    (names later : List (List ℕ)) (ts : List Token) (s : FilterState)
    → filter_steps names filter_start ts ≡ Some (later, s)
    → (rest : List Token) × All IsSpelled rest × (final : List (List ℕ)) × (last : FilterState)
    × (filter_steps names filter_start (ts ++ rest) ≡ Some (final, last)) × IsSome (filter_at last)

-- the printed tokens of a filter are written as it, where the names are distinct and short
abbrev pub PrintedFiltersAreWritten : Type 0
PrintedFiltersAreWritten =
    (all : List (List ℕ)) (filter : Filter)
    → IsDistinct all → All (λ name. length name ≤ 1024) all → IsFilter (length all) filter
    → IsWrittenFilter all (filter_tokens all filter) (map (λ p. slice_index_or all p []) (filter_places filter)) filter
